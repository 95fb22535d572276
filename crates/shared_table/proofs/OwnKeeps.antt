-- What the fields of own words come to in what they show.
use Rattle.std.proofs.Common.{◌≡◌, length, subst}
use Rattle.page_space.specs.Extents.{marks_start}
use Rattle.shared_table.specs.declared.own_words.OwnWords.TheInside.{Inside}
use Rattle.shared_table.specs.Owned.{Own}
use Rattle.shared_table.specs.OwnKept.{own_of, IsKept}

-- the numbers that own words keep, in terms of what they show
pub record KeepsNumbers (inside : Inside) (own : Own) : Type 0 where
  pub counted : length own.words ≡ marks_start own.space
  pub heap_count : inside.heap_count ≡ marks_start own.space

-- own words keep them
pub keeps_numbers : (inside : Inside) (own : Own) → own_of inside ≡ own → IsKept inside → KeepsNumbers inside own
keeps_numbers inside own same kept =
    subst (KeepsNumbers inside) same (record { counted = kept.counted; heap_count = kept.heap_count })
