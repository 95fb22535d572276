use Rattle.std.proofs.Common.{◌≡◌, ◌+◌, ◌*◌, ◌<◌, length, max, get_or, arith}
use Rattle.page_space.specs.Sizes.{page_words}
use Rattle.remembered_set.proofs.Shown.{least_shown, none_shown, clear_part}
use Rattle.remembered_set.specs.Bits.{flags_of}
use Rattle.remembered_set.proofs.Bounds.{bound_is, bits_few}
use Rattle.remembered_set.proofs.Pages.{read_there, clear_page}
use Rattle.remembered_set.proofs.Remembered.next_in_page.Goals as goal

pub returns-then-index-eq0 : goal.returns-then-index-eq0
returns-then-index-eq0 c =
    let start = page_words * c.args.page in
    let flags = flags_of c.self.inside.bits.items in
    let inside : c.args.page < length c.self.inside.counts.items =
    omega (arith, c.requires, bound_is c.self.inside c.args.self.now c.self.view_is c.self.invariant) in
    let none : get_or c.self.inside.counts.items c.args.page 0 ≡ 0 =
    read_there c.self.inside.counts.items c.args.page 0 0 inside (rw c.if-index-eq0.true at c.index.ensures) in
    let clear = clear_page flags c.self.inside.counts.items c.args.page c.self.invariant.counted inside none in
    rw (← c.self.view_is) (none_shown flags (max c.args.from start) (start + page_words)
    (clear_part flags start (start + page_words) (max c.args.from start) (start + page_words)
    (omega arith) (omega arith) clear))

pub returns : goal.returns
returns c =
    let start = page_words * c.args.page in
    let flags = flags_of c.self.inside.bits.items in
    let low : c.max.result ≡ max c.args.from start = omega arith in
    let high : c.args.page * page_words + page_words ≡ start + page_words = omega arith in
    rw (← c.self.view_is) (least_shown flags (max c.args.from start) (start + page_words) c.first_set.result
    (rw (c.deref.ensures.value, low, high) at c.first_set.ensures))

pub index-requires : goal.index-requires
index-requires c =
    omega (arith, c.requires, bound_is c.self.inside c.args.self.now c.self.view_is c.self.invariant)

pub first_set-requires-clause-few : goal.first_set-requires-clause-few
first_set-requires-clause-few c =
    rw c.deref.ensures.value
    (bits_few c.self.inside.bits.items c.self.inside.counts.items c.self.invariant.pages
    c.self.invariant.recorded.within)

pub first_set-requires-clause-within : goal.first_set-requires-clause-within
first_set-requires-clause-within c =
    let bound = bound_is c.self.inside c.args.self.now c.self.view_is c.self.invariant in
    rw c.deref.ensures.value (omega (arith, c.requires, bound, c.self.invariant.pages))
