-- One shade after another.
use Rattle.std.proofs.Common.{◌≡◌, inl, inr, length, ℕ, ◌+◌, ◌<◌, List, [], ◌∷◌, ◌++◌, Some, append_assoc}
use Rattle.std.proofs.Common.{refl, sym, ap, subst, ◌∙◌, arith}
use Rattle.std.proofs.lemmas.Bool.{cases_eq}
use Rattle.std.proofs.lemmas.List.{get_or_default}
use Rattle.core_parts.specs.declared.note.Note.{Note}
use Rattle.core_parts.specs.declared.note.Note.TheVariants.{Loaded}
use Rattle.mark_laws.specs.Types.{SnapSlot}
use Rattle.mark_world.specs.Pages.{OfTarget, target}
use Rattle.mark_laws.proofs.Slots.{some_from, some_at}
use Rattle.shared_table.specs.declared.overview.Counts.{Counts}
use Rattle.shared_table.specs.Seats.{Helping}
use Rattle.marker.specs.Turns.{AddsNoTurn, AddsVisit, turns}
use Rattle.marker.specs.Shading.{IsShaded, MayShade, Shades, word_of}
use Rattle.marker.proofs.ShadeOne.{no_turn}

-- the turns of two lists of notes
pub turns_join : (xs ys : List Note) → turns (xs ++ ys) ≡ turns xs + turns ys
turns_join [] ys = omega arith
turns_join (x ∷ xs) ys = let more = turns_join xs ys in omega (arith, more)

-- a log that gained no turn twice gained none
pub no_turns : (first second third : List Note) → AddsNoTurn first second → AddsNoTurn second third
    → AddsNoTurn first third
no_turns first second third a b = record {
  notes = a.notes ++ b.notes;
  is = b.is ∙ (ap (λ (ns : List Note). ns ++ b.notes) a.is ∙ append_assoc first a.notes b.notes);
  none_made = omega (arith, turns_join a.notes b.notes, a.none_made, b.none_made);
}

-- and one that gained a visit, and then no turn, gained a visit
pub visit_ends : (first second third : List Note) → AddsVisit first second → AddsNoTurn second third
    → AddsVisit first third
visit_ends first second third a b = record {
  cell = a.cell;
  notes = a.notes ++ b.notes;
  is = b.is ∙ (ap (λ (ns : List Note). ns ++ b.notes) a.is ∙ append_assoc first (Loaded a.cell ∷ a.notes) b.notes);
  none_more = omega (arith, turns_join a.notes b.notes, a.none_more, b.none_made);
}

-- no shade
pub shades_none : (seat : Helping) → Shades seat seat
shades_none seat = record {
  table = refl;
  counts = refl;
  snap = refl;
  log = no_turn seat.lent.view.log;
  fewer = λ at has. has;
  may = λ at may. may;
}

-- and some after others
pub shades_on : (first second third : Helping) → Shades first second → Shades second third → Shades first third
shades_on first second third a b = record {
  table = b.table ∙ a.table;
  counts = b.counts ∙ a.counts;
  snap = b.snap ∙ a.snap;
  log = no_turns first.lent.view.log second.lent.view.log third.lent.view.log a.log b.log;
  fewer = λ at has. a.fewer at (b.fewer at has);
  may = λ at may. b.may at (a.may at may);
}

-- what was shaded stays so
pub stays_shaded : (first second : Helping) (word : ℕ) → Shades first second → IsShaded first word → IsShaded second
    word
stays_shaded first second word a is at e has =
    is at (subst (λ (x : Counts). target x.old word ≡ Some at) a.counts e) (a.fewer at has)

-- and what may be shaded
pub may_later : (first second : Helping) (word : ℕ) → Shades first second
    → OfTarget first.lent.counts.old word (MayShade first.lent)
    → OfTarget second.lent.counts.old word (MayShade second.lent)
may_later first second word a may =
    some_from (MayShade second.lent) (target second.lent.counts.old word) (λ at e.
    a.may at (some_at (MayShade first.lent) (target first.lent.counts.old word) at
    (subst (λ (x : Counts). target x.old word ≡ Some at) a.counts e) may))

-- the targets of one slot more are shaded
pub one_more : (first second : Helping) (slots : List SnapSlot) (i : ℕ) (none : SnapSlot) → i < length slots
    → Shades first second → ((k : ℕ) (d : SnapSlot) → k < i → IsShaded first (word_of slots k d))
    → IsShaded second (word_of slots i none) → (k : ℕ) (d : SnapSlot) → k < i + 1 → IsShaded second (word_of slots k d)
one_more first second slots i none inside shades before here k d low = elim (cases_eq k i) [
  | inl is ↦
      let same : word_of slots k d ≡ word_of slots i none =
      ap (λ (at : ℕ). word_of slots at d) is
      ∙ ap (λ (slot : SnapSlot). slot.word) (get_or_default slots i d none inside) in
      subst (IsShaded second) (sym same) here
  | inr other ↦ stays_shaded first second (word_of slots k d) shades (before k d (omega (arith, low, other)))
]
