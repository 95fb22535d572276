use Rattle.std.proofs.Common.{◌≡◌, ◌*◌, ◌/◌, ◌<◌, ◌≤◌, get_or, set, length, true, false, arith, ap, subst, sym, ◌∙◌}
use Rattle.std.proofs.lemmas.Bool.{false≢true}
use Rattle.std.proofs.lemmas.List.{with_items_is, length-set}
use Rattle.page_space.specs.Sizes.{page_words, pages_most}
use Rattle.remembered_set.specs.Bits.{flags_of}
use Rattle.remembered_set.specs.Recorded.{Recorded, IsRecorded}
use Rattle.remembered_set.specs.Model.{shown}
use Rattle.remembered_set.proofs.Slots.{is_recorded}
use Rattle.remembered_set.proofs.Ascending.{is_noted}
use Rattle.remembered_set.proofs.Shown.{has_noted}
use Rattle.remembered_set.proofs.Words.{length-flags_of}
use Rattle.remembered_set.proofs.Pages.{read_there, count_within, counted_note}
use Rattle.remembered_set.proofs.Bounds.{flags_long, bound_is, as_many_words, counted_again, not_false}
use Rattle.remembered_set.proofs.Remembered.note.Goals as goal
use Rattle.remembered_set.proofs.Remembered.note.Goals.{Then-note, Else-note}

pub note-requires : goal.note-requires
note-requires c =
    omega (
      arith,
      c.deref_mut.ensures.len,
      c.requires,
      bound_is c.self.inside c.args.self.now c.self.view_is c.self.invariant,
      c.self.invariant.pages,
    )

pub index_mut-requires : goal.index_mut-requires
index_mut-requires c = omega (arith, c.requires, bound_is c.self.inside c.args.self.now c.self.view_is c.self.invariant)

pub overflow_add-index_mut : goal.overflow_add-index_mut
overflow_add-index_mut c =
    let page = c.args.slot / page_words in
    let flags = flags_of c.self.inside.bits.items in
    let below : page < length c.self.inside.counts.items =
    omega (arith, c.requires, bound_is c.self.inside c.args.self.now c.self.view_is c.self.invariant) in
    let few : get_or c.self.inside.counts.items page 0 ≤ page_words =
    count_within flags c.self.inside.counts.items page c.self.invariant.counted below in
    let read : get_or c.self.inside.counts.items page 0 ≡ c.index_mut.result.now =
    read_there c.self.inside.counts.items page c.index_mut.result.now 0 below c.index_mut.ensures.value in
    omega arith

pub invariant_of-self : goal.invariant_of-self
invariant_of-self c =
    let page = c.args.slot / page_words in
    let bits = c.self.inside.bits.items in
    let flags = flags_of bits in
    let bound = bound_is c.self.inside c.args.self.now c.self.view_is c.self.invariant in
    let all_flags : length flags ≡ page_words * length c.self.inside.counts.items =
    flags_long bits c.self.inside.counts.items c.self.invariant.pages in
    let below : c.args.slot < length flags = omega (arith, c.requires, bound, all_flags) in
    let inside : page < length c.self.inside.counts.items = omega (arith, c.requires, bound) in
    let is : flags_of c.note.new.bits ≡ set flags c.args.slot true =
    rw c.deref_mut.ensures.value at c.note.ensures.is_set in
    let long : length c.note.new.bits ≡ length bits = as_many_words bits c.note.new.bits c.args.slot true is in
    let items = with_items_is c.self.inside.bits c.note.new.bits (omega arith) in
    let was : get_or flags c.args.slot false ≡ false =
    rw c.deref_mut.ensures.value at (c.note.ensures.was_clear.0 c.if-note.true) in
    let read : get_or c.self.inside.counts.items page 0 ≡ c.index_mut.result.now =
    read_there c.self.inside.counts.items page c.index_mut.result.now 0 inside c.index_mut.ensures.value in
    let as_many : length (flags_of c.note.new.bits) ≡ length flags =
    omega (arith, long, length-flags_of c.note.new.bits, length-flags_of bits) in
    record {
      recorded = rw items
          (is_recorded (flags_of c.note.new.bits) (omega (arith, as_many, c.self.invariant.recorded.within)));
      bound = rw items (omega (arith, as_many, c.self.invariant.bound));
      pages = rw (items, length-set) (omega (arith, long, c.self.invariant.pages));
      counted = rw (items, is, ← read) (counted_note flags c.self.inside.counts.items c.args.slot page
          (omega arith) (omega arith) below inside was c.self.invariant.counted);
    }

pub invariant_of-self-else-note : goal.invariant_of-self-else-note
invariant_of-self-else-note c =
    let bits = c.self.inside.bits.items in
    let flags = flags_of bits in
    let bound = bound_is c.self.inside c.args.self.now c.self.view_is c.self.invariant in
    let all_flags : length flags ≡ page_words * length c.self.inside.counts.items =
    flags_long bits c.self.inside.counts.items c.self.invariant.pages in
    let below : c.args.slot < length flags = omega (arith, c.requires, bound, all_flags) in
    let is : flags_of c.note.new.bits ≡ set flags c.args.slot true =
    rw c.deref_mut.ensures.value at c.note.ensures.is_set in
    let long : length c.note.new.bits ≡ length bits = as_many_words bits c.note.new.bits c.args.slot true is in
    let items = with_items_is c.self.inside.bits c.note.new.bits (omega arith) in
    let read : get_or (flags_of c.deref_mut.result.now) c.args.slot false ≡ true =
    not_false (get_or (flags_of c.deref_mut.result.now) c.args.slot false)
    (λ clear. false≢true (sym c.if-note.false ∙ c.note.ensures.was_clear.1 clear)) in
    let was : get_or flags c.args.slot false ≡ true = rw c.deref_mut.ensures.value at read in
    let as_many : length (flags_of c.note.new.bits) ≡ length flags =
    omega (arith, long, length-flags_of c.note.new.bits, length-flags_of bits) in
    record {
      recorded = rw items
          (is_recorded (flags_of c.note.new.bits) (omega (arith, as_many, c.self.invariant.recorded.within)));
      bound = rw items (omega (arith, as_many, c.self.invariant.bound));
      pages = rw items (omega (arith, long, c.self.invariant.pages));
      counted = rw (items, is) (counted_again flags c.self.inside.counts.items c.args.slot was below
          c.self.invariant.counted);
    }

pub returns-then-note-clause-recorded : goal.returns-then-note-clause-recorded
returns-then-note-clause-recorded c =
    let bits = c.self.inside.bits.items in
    let bound = bound_is c.self.inside c.args.self.now c.self.view_is c.self.invariant in
    let all_flags = flags_long bits c.self.inside.counts.items c.self.invariant.pages in
    let is : flags_of c.note.new.bits ≡ set (flags_of bits) c.args.slot true =
    rw c.deref_mut.ensures.value at c.note.ensures.is_set in
    let long : length c.note.new.bits ≡ length bits = as_many_words bits c.note.new.bits c.args.slot true is in
    let items = with_items_is c.self.inside.bits c.note.new.bits (omega arith) in
    rw (items, is, ← c.self.view_is)
    (has_noted (flags_of bits) c.args.slot (omega (arith, c.requires, bound, all_flags)))

pub returns-then-note-clause-value : goal.returns-then-note-clause-value
returns-then-note-clause-value c =
    let bits = c.self.inside.bits.items in
    let now = c.note.new.bits in
    let was : IsRecorded c.args.self.now = subst IsRecorded c.self.view_is c.self.invariant.recorded in
    let is : flags_of now ≡ set (flags_of bits) c.args.slot true =
    rw c.deref_mut.ensures.value at c.note.ensures.is_set in
    let long : length now ≡ length bits = as_many_words bits now c.args.slot true is in
    let items = with_items_is c.self.inside.bits now (omega arith) in
    let as_many : length (flags_of now) ≡ length (flags_of bits) =
    omega (arith, long, length-flags_of now, length-flags_of bits) in
    let within : length (flags_of now) ≤ page_words * pages_most =
    omega (arith, as_many, c.self.invariant.recorded.within) in
    rw items (is_noted c.args.self.now (shown (flags_of now)) c.args.slot was (is_recorded (flags_of now) within)
    (as_many ∙ ap (λ (recorded : Recorded). recorded.bound) c.self.view_is)
    (rw items at (returns-then-note-clause-recorded c)))

pub returns-else-note-clause-recorded : goal.returns-else-note-clause-recorded
returns-else-note-clause-recorded c =
    let bits = c.self.inside.bits.items in
    let bound = bound_is c.self.inside c.args.self.now c.self.view_is c.self.invariant in
    let all_flags = flags_long bits c.self.inside.counts.items c.self.invariant.pages in
    let is : flags_of c.note.new.bits ≡ set (flags_of bits) c.args.slot true =
    rw c.deref_mut.ensures.value at c.note.ensures.is_set in
    let long : length c.note.new.bits ≡ length bits = as_many_words bits c.note.new.bits c.args.slot true is in
    let items = with_items_is c.self.inside.bits c.note.new.bits (omega arith) in
    rw (items, is, ← c.self.view_is)
    (has_noted (flags_of bits) c.args.slot (omega (arith, c.requires, bound, all_flags)))

pub returns-else-note-clause-value : goal.returns-else-note-clause-value
returns-else-note-clause-value c =
    let bits = c.self.inside.bits.items in
    let now = c.note.new.bits in
    let was : IsRecorded c.args.self.now = subst IsRecorded c.self.view_is c.self.invariant.recorded in
    let is : flags_of now ≡ set (flags_of bits) c.args.slot true =
    rw c.deref_mut.ensures.value at c.note.ensures.is_set in
    let long : length now ≡ length bits = as_many_words bits now c.args.slot true is in
    let items = with_items_is c.self.inside.bits now (omega arith) in
    let as_many : length (flags_of now) ≡ length (flags_of bits) =
    omega (arith, long, length-flags_of now, length-flags_of bits) in
    let within : length (flags_of now) ≤ page_words * pages_most =
    omega (arith, as_many, c.self.invariant.recorded.within) in
    rw items (is_noted c.args.self.now (shown (flags_of now)) c.args.slot was (is_recorded (flags_of now) within)
    (as_many ∙ ap (λ (recorded : Recorded). recorded.bound) c.self.view_is)
    (rw items at (returns-else-note-clause-recorded c)))
