use Rattle.std.proofs.Common.{◌≡◌, ◌+◌, ◌*◌, ◌/◌, ◌<◌, ◌≤◌, List, Bool, length, get_or, set, true, false, arith, subst}
use Rattle.std.proofs.Common.{sym}
use Rattle.std.proofs.Common.{refl, ◌∙◌}
use Rattle.std.proofs.lemmas.List.{with_items_is, length-set}
use Rattle.page_space.specs.Sizes.{page_words, pages_most}
use Rattle.remembered_set.specs.Bits.{flags_of}
use Rattle.remembered_set.specs.Flags.{AreClear}
use Rattle.remembered_set.specs.Model.{shown}
use Rattle.remembered_set.specs.Recorded.{Recorded, forgotten}
use Rattle.remembered_set.proofs.Ascending.{is_forgotten}
use Rattle.remembered_set.proofs.Bounds.{bound_is, as_many_words, flags_long}
use Rattle.remembered_set.proofs.Clears.{clears_one, counts_one}
use Rattle.remembered_set.proofs.Pages.{read_there, cleared_within, counted_clear}
use Rattle.remembered_set.proofs.Shown.{has_forgotten, has_forgotten_again}
use Rattle.remembered_set.proofs.Slots.{is_recorded}
use Rattle.remembered_set.proofs.Words.{length-flags_of}
use Rattle.remembered_set.proofs.Remembered.forget.Goals as goal

pub is_set-requires : goal.is_set-requires
is_set-requires c =
    omega (
      arith,
      c.deref.ensures.len,
      c.requires,
      bound_is c.self.inside c.args.self.now c.self.view_is c.self.invariant,
      c.self.invariant.pages,
    )

pub unset-requires : goal.unset-requires
unset-requires c =
    omega (
      arith,
      c.deref_mut.ensures.len,
      c.requires,
      bound_is c.self.inside c.args.self.now c.self.view_is c.self.invariant,
      c.self.invariant.pages,
    )

pub index_mut-requires : goal.index_mut-requires
index_mut-requires c = omega (arith, c.requires, bound_is c.self.inside c.args.self.now c.self.view_is c.self.invariant)

pub overflow_sub-index_mut : goal.overflow_sub-index_mut
overflow_sub-index_mut c =
    let page = c.args.slot / page_words in
    let flags : List Bool = flags_of c.self.inside.bits.items in
    let counts = c.self.inside.counts.items in
    let bound = bound_is c.self.inside c.args.self.now c.self.view_is c.self.invariant in
    let all_flags = flags_long c.self.inside.bits.items counts c.self.invariant.pages in
    let below : c.args.slot < length flags = omega (arith, c.requires, bound, all_flags) in
    let inside : page < length counts = omega (arith, c.requires, bound) in
    let is = rw c.deref.ensures.value at c.is_set.ensures in
    let was : get_or flags c.args.slot false ≡ true = sym is ∙ c.if-is_set.true in
    let read : get_or counts page 0 ≡ c.index_mut.result.now =
    read_there counts page c.index_mut.result.now 0 inside c.index_mut.ensures.value in
    rw (← read) (cleared_within flags (set flags c.args.slot false) counts page c.args.slot (c.args.slot + 1) 1
    (omega arith) (omega arith) inside (counts_one flags c.args.slot below was) c.self.invariant.counted)

pub invariant_of-self : goal.invariant_of-self
invariant_of-self c =
    let page = c.args.slot / page_words in
    let bits = c.self.inside.bits.items in
    let flags : List Bool = flags_of bits in
    let counts = c.self.inside.counts.items in
    let now = c.unset.new.bits in
    let bound = bound_is c.self.inside c.args.self.now c.self.view_is c.self.invariant in
    let all_flags = flags_long bits counts c.self.invariant.pages in
    let below : c.args.slot < length flags = omega (arith, c.requires, bound, all_flags) in
    let inside : page < length counts = omega (arith, c.requires, bound) in
    let is = rw c.deref.ensures.value at c.is_set.ensures in
    let was : get_or flags c.args.slot false ≡ true = sym is ∙ c.if-is_set.true in
    let cleared : flags_of now ≡ set flags c.args.slot false = rw c.deref_mut.ensures.value at c.unset.ensures in
    let long : length now ≡ length bits = as_many_words bits now c.args.slot false cleared in
    let items = with_items_is c.self.inside.bits now (omega arith) in
    let read : get_or counts page 0 ≡ c.index_mut.result.now =
    read_there counts page c.index_mut.result.now 0 inside c.index_mut.ensures.value in
    let as_many : length (flags_of now) ≡ length flags =
    omega (arith, long, length-flags_of now, length-flags_of bits) in
    record {
      recorded = rw items (is_recorded (flags_of now) (omega (arith, as_many, c.self.invariant.recorded.within)));
      bound = rw items (omega (arith, as_many, c.self.invariant.bound));
      pages = rw (items, length-set) (omega (arith, long, c.self.invariant.pages));
      counted = rw (items, cleared, ← read) (counted_clear flags (set flags c.args.slot false) counts page c.args.slot
          (c.args.slot + 1) 1 (omega arith) (omega arith) inside (clears_one flags c.args.slot below)
          (counts_one flags c.args.slot below was) c.self.invariant.counted);
    }

pub returns-then-is_set : goal.returns-then-is_set
returns-then-is_set c =
    let slot = c.args.slot in
    let bits = c.self.inside.bits.items in
    let flags : List Bool = flags_of bits in
    let now = c.unset.new.bits in
    let bound = bound_is c.self.inside c.args.self.now c.self.view_is c.self.invariant in
    let all_flags = flags_long bits c.self.inside.counts.items c.self.invariant.pages in
    let below : slot < length flags = omega (arith, c.requires, bound, all_flags) in
    let cleared : flags_of now ≡ set flags slot false = rw c.deref_mut.ensures.value at c.unset.ensures in
    let long : length now ≡ length bits = as_many_words bits now slot false cleared in
    let items = with_items_is c.self.inside.bits now (omega arith) in
    let as_many : length (flags_of now) ≡ length flags =
    omega (arith, long, length-flags_of now, length-flags_of bits) in
    let within : length (flags_of now) ≤ page_words * pages_most =
    omega (arith, as_many, c.self.invariant.recorded.within) in
    rw items (subst (λ (one : Recorded). shown (flags_of now) ≡ forgotten one slot (slot + 1)) c.self.view_is
    (is_forgotten (shown flags) (shown (flags_of now)) slot (slot + 1) c.self.invariant.recorded
    (is_recorded (flags_of now) within) as_many
    (has_forgotten flags (flags_of now) slot (slot + 1) (rw cleared (clears_one flags slot below)))))

pub returns-else-is_set : goal.returns-else-is_set
returns-else-is_set c =
    let slot = c.args.slot in
    let flags : List Bool = flags_of c.self.inside.bits.items in
    let is = rw c.deref.ensures.value at c.is_set.ensures in
    let clear : get_or flags slot false ≡ false = sym is ∙ c.if-is_set.false in
    let all : AreClear flags slot (slot + 1) = λ place between.
    let begins = between.begins in
    let ends = between.ends in
    let same : place ≡ slot = omega arith in
    rw same clear in
    let own = c.self.invariant.recorded in
    subst (λ (one : Recorded). one ≡ forgotten one slot (slot + 1)) c.self.view_is
    (is_forgotten (shown flags) (shown flags) slot (slot + 1) own own refl
    (has_forgotten_again flags slot (slot + 1) all))
