-- The layout words stand before the marks.
use Rattle.std.proofs.Common.{ap, arith}
use Rattle.page_space.specs.Extents.{layouts_start}
use Rattle.page_space.proofs.Starts.{marks_start_is}
use Rattle.shared_table.specs.Owned.{Own}
use Rattle.shared_table.proofs.own_words.OwnWords.put_layout.Goals as goal

pub put-requires : goal.put-requires
put-requires c =
    omega (
      arith,
      marks_start_is c.args.self.now.space,
      ap (λ (own : Own). layouts_start own.space) c.self.view_is,
      c.layout_at-at.ensures.at,
      c.requires,
    )
