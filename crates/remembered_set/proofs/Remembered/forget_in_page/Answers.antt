use Rattle.std.proofs.Common.{◌≡◌, ◌+◌, ◌*◌, ◌<◌, ◌≤◌, length, min, max, get_or, arith, subst}
use Rattle.std.proofs.lemmas.List.{with_items_is, length-set}
use Rattle.page_space.specs.Sizes.{page_words, pages_most}
use Rattle.remembered_set.specs.Bits.{flags_of}
use Rattle.remembered_set.specs.Recorded.{IsRecorded}
use Rattle.remembered_set.proofs.Slots.{is_recorded}
use Rattle.remembered_set.proofs.Shown.{has_forgotten, has_forgotten_again, clear_part}
use Rattle.remembered_set.proofs.Words.{length-flags_of}
use Rattle.remembered_set.proofs.Bounds.{bound_is, bits_few}
use Rattle.remembered_set.proofs.Pages.{read_there, clear_page, counted_clear, cleared_within}
use Rattle.remembered_set.proofs.Remembered.forget_in_page.Goals as goal

pub returns-then-index-eq0-clause-forgotten : goal.returns-then-index-eq0-clause-forgotten
returns-then-index-eq0-clause-forgotten c =
    let start = page_words * c.args.page in
    let flags = flags_of c.self.inside.bits.items in
    let inside : c.args.page < length c.self.inside.counts.items =
    omega (arith, c.requires, bound_is c.self.inside c.args.self.now c.self.view_is c.self.invariant) in
    let none : get_or c.self.inside.counts.items c.args.page 0 ≡ 0 =
    read_there c.self.inside.counts.items c.args.page 0 0 inside (rw c.if-index-eq0.true at c.index.ensures) in
    let clear = clear_page flags c.self.inside.counts.items c.args.page c.self.invariant.counted inside none in
    rw (← c.self.view_is) (has_forgotten_again flags (max c.args.from start) (min c.args.to (start + page_words))
    (clear_part flags start (start + page_words) (max c.args.from start) (min c.args.to (start + page_words))
    (omega arith) (omega arith) clear))

pub returns-then-index-eq0-clause-own : goal.returns-then-index-eq0-clause-own
returns-then-index-eq0-clause-own c = subst IsRecorded c.self.view_is c.self.invariant.recorded

pub overflow_sub-index_mut : goal.overflow_sub-index_mut
overflow_sub-index_mut c =
    let inside : c.args.page < length c.self.inside.counts.items =
    omega (arith, c.requires, bound_is c.self.inside c.args.self.now c.self.view_is c.self.invariant) in
    let read : get_or c.self.inside.counts.items c.args.page 0 ≡ c.index_mut.result.now =
    read_there c.self.inside.counts.items c.args.page c.index_mut.result.now 0 inside c.index_mut.ensures.value in
    rw (← read) (cleared_within (flags_of c.self.inside.bits.items) (flags_of c.clear-count.new.bits)
    c.self.inside.counts.items c.args.page
    c.max.result c.min.result c.clear-count.result (omega arith) (omega arith) inside
    (rw c.deref_mut.ensures.value at c.clear-count.ensures.counted) c.self.invariant.counted)

pub invariant_of-self : goal.invariant_of-self
invariant_of-self c =
    let inside : c.args.page < length c.self.inside.counts.items =
    omega (arith, c.requires, bound_is c.self.inside c.args.self.now c.self.view_is c.self.invariant) in
    let read : get_or c.self.inside.counts.items c.args.page 0 ≡ c.index_mut.result.now =
    read_there c.self.inside.counts.items c.args.page c.index_mut.result.now 0 inside c.index_mut.ensures.value in
    let now = c.clear-count.new.bits in
    let many : length now ≡ length c.self.inside.bits.items =
    rw c.deref_mut.ensures.value at c.clear-count.ensures.as_many in
    let items = with_items_is c.self.inside.bits now (omega arith) in
    let as_many : length (flags_of now) ≡ length (flags_of c.self.inside.bits.items) =
    omega (arith, many, length-flags_of now, length-flags_of c.self.inside.bits.items) in
    record {
      recorded = rw items (is_recorded (flags_of now) (omega (arith, as_many, c.self.invariant.recorded.within)));
      bound = rw items (omega (arith, as_many, c.self.invariant.bound));
      pages = rw (items, length-set) (omega (arith, many, c.self.invariant.pages));
      counted = rw (items, ← read)
          (counted_clear (flags_of c.self.inside.bits.items) (flags_of now) c.self.inside.counts.items c.args.page
          c.max.result c.min.result c.clear-count.result (omega arith) (omega arith) inside
          (rw c.deref_mut.ensures.value at c.clear-count.ensures.cleared)
          (rw c.deref_mut.ensures.value at c.clear-count.ensures.counted) c.self.invariant.counted);
    }

pub returns-clause-forgotten : goal.returns-clause-forgotten
returns-clause-forgotten c =
    let start = page_words * c.args.page in
    let low : c.max.result ≡ max c.args.from start = omega arith in
    let high : c.min.result ≡ min c.args.to (start + page_words) = omega arith in
    let now = c.clear-count.new.bits in
    let many : length now ≡ length c.self.inside.bits.items =
    rw c.deref_mut.ensures.value at c.clear-count.ensures.as_many in
    rw (← c.self.view_is, with_items_is c.self.inside.bits now (omega arith))
    (has_forgotten (flags_of c.self.inside.bits.items) (flags_of now) (max c.args.from start)
    (min c.args.to (start + page_words))
    (rw (c.deref_mut.ensures.value, low, high) at c.clear-count.ensures.cleared))

pub returns-clause-own : goal.returns-clause-own
returns-clause-own c =
    let now = c.clear-count.new.bits in
    let many : length now ≡ length c.self.inside.bits.items =
    rw c.deref_mut.ensures.value at c.clear-count.ensures.as_many in
    let within : length (flags_of now) ≤ page_words * pages_most =
    omega (
      arith,
      many,
      length-flags_of now,
      length-flags_of c.self.inside.bits.items,
      c.self.invariant.recorded.within,
    ) in
    rw (with_items_is c.self.inside.bits now (omega arith)) (is_recorded (flags_of now) within)

pub index-requires : goal.index-requires
index-requires c =
    omega (arith, c.requires, bound_is c.self.inside c.args.self.now c.self.view_is c.self.invariant)

pub clear-count-requires-clause-few : goal.clear-count-requires-clause-few
clear-count-requires-clause-few c =
    rw c.deref_mut.ensures.value
    (bits_few c.self.inside.bits.items c.self.inside.counts.items c.self.invariant.pages
    c.self.invariant.recorded.within)

pub clear-count-requires-clause-within : goal.clear-count-requires-clause-within
clear-count-requires-clause-within c =
    let bound = bound_is c.self.inside c.args.self.now c.self.view_is c.self.invariant in
    rw c.deref_mut.ensures.value (omega (arith, c.requires, bound, c.self.invariant.pages))

pub index_mut-requires : goal.index_mut-requires
index_mut-requires c =
    omega (arith, c.requires, bound_is c.self.inside c.args.self.now c.self.view_is c.self.invariant)
