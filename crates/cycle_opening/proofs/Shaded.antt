-- What a variable refers to is shaded.
use Rattle.std.proofs.Common.{◌≡◌, ℕ, ◌+◌, ◌<◌, inl, inr, List, Contains, refl, sym, ◌∙◌, ap, subst, arith}
use Rattle.std.proofs.lemmas.Bool.{cases_lt}
use Rattle.std.proofs.lemmas.List.Elements.{All-contains}
use Rattle.std.proofs.lemmas.Option.{same_Some}
use Rattle.core_parts.specs.Lists.{joined}
use Rattle.core_parts.proofs.Joining.{joined_in, joined_keeps}
use Rattle.page_space.specs.Extents.{Space, IsInOne, eden_start, is_page_region}
use Rattle.page_space.proofs.CellAddresses.{pages_are}
use Rattle.handle_roots.specs.declared.held.Held.TheVariants.{Ref}
use Rattle.handle_roots.specs.Roots.{Holds}
use Rattle.heap_model.proofs.WordClasses.{same_reference}
use Rattle.mark_laws.proofs.Joins.{all_from}
use Rattle.mark_barrier.specs.CycleSteps.{sure_of}
use Rattle.write_barrier.specs.MutatorState.{Mutator}
use Rattle.write_barrier.specs.Seats.{heap_words}
use Rattle.cycle_opening.specs.Opened.{GrowsSure, HasSureRoots, RefersToPage}

-- the address is one of a page, by what the regions tell
pub of_page_by : {told space : Space} {at : ℕ} → told ≡ space → IsInOne told is_page_region at → at < eden_start space
of_page_by {told} {at = at} same inside =
    subst (λ (one : Space). at < eden_start one) same ((pages_are told at).1 inside)

-- and an address of a page is in one of them
pub in_page_by : {told space : Space} {at : ℕ} → told ≡ space → at < eden_start space → IsInOne told is_page_region at
in_page_by {told} {at = at} same below =
    (pages_are told at).0 (subst (λ (one : Space). at < eden_start one) (sym same) below)

-- a variable refers to one address
pub one_target : {space : Space} {words : List ℕ} {variable : ℕ} (at other : ℕ) → Holds space words variable (Ref at)
    → Holds space words variable (Ref other) → at ≡ other
one_target at other one another = same_reference at other (same_Some _ _ (sym one.first ∙ another.first))

-- what the mutator is sure of stays so
pub stays_sure : {old new : Mutator} (at : ℕ) → GrowsSure old new → Contains old.cycle.sure at
    → Contains new.cycle.sure at
stays_sure {old} {new} at grows there = All-contains (Contains new.cycle.sure) old.cycle.sure at grows.sure there

-- nothing was shaded
pub grows_nothing : {old new : Mutator} → new ≡ old → GrowsSure old new
grows_nothing {old} {new} same = record {
  is = subst (λ (one : Mutator). one ≡ record old { cycle = record old.cycle { sure = one.cycle.sure } }) (sym same)
      refl;
  sure = all_from (Contains new.cycle.sure) old.cycle.sure
      (λ at there. subst (λ (one : Mutator). Contains one.cycle.sure at) (sym same) there);
}

-- more was shaded after what was shaded
pub grows_again : {old now new : Mutator} → GrowsSure old now → GrowsSure now new → GrowsSure old new
grows_again {old} {now} {new} before after = record {
  is = after.is
      ∙ ap (λ (one : Mutator). record one { cycle = record one.cycle { sure = new.cycle.sure } }) before.is;
  sure = all_from (Contains new.cycle.sure) old.cycle.sure
      (λ at there. stays_sure at after (stays_sure at before there));
}

module _ {old now new : Mutator} (at : ℕ) (same : now ≡ old) (is : new ≡ record now { cycle = sure_of now.cycle at })
  where
    -- the cell is all that was shaded
    shaded_is : new ≡ record old { cycle = sure_of old.cycle at }
    shaded_is = is ∙ ap (λ (one : Mutator). record one { cycle = sure_of one.cycle at }) same

    -- it has joined
    shaded_sure : new.cycle.sure ≡ joined old.cycle.sure at
    shaded_sure = ap (λ (one : Mutator). one.cycle.sure) shaded_is

    -- one cell was shaded
    pub shaded_grows : GrowsSure old new
    shaded_grows = record {
      is = shaded_is
          ∙ ap (λ (list : List ℕ). record old { cycle = record old.cycle { sure = list } }) (sym shaded_sure);
      sure = all_from (Contains new.cycle.sure) old.cycle.sure
          (λ one there. subst (λ list. Contains list one) (sym shaded_sure) (joined_keeps old.cycle.sure at one there));
    }

    -- it is the one to which the variable refers
    pub target_shaded : {variable : ℕ} → Holds old.seat.space (heap_words old.seat) variable (Ref at) → (other : ℕ)
        → RefersToPage old variable other → Contains new.cycle.sure other
    target_shaded holds other refers =
        subst (λ list. Contains list other) (sym shaded_sure)
        (subst (Contains (joined old.cycle.sure at)) (one_target at other holds refers.holds)
        (joined_in old.cycle.sure at))

-- variables refer to what they referred to
pub refers_same : {old new : Mutator} {variable at : ℕ} → GrowsSure old new → RefersToPage new variable at
    → RefersToPage old variable at
refers_same {old} {new} {variable} {at} grows refers = record {
  holds = subst (λ (one : Mutator). Holds one.seat.space (heap_words one.seat) variable (Ref at)) grows.is refers.holds;
  of_page = subst (λ (one : Mutator). at < eden_start one.seat.space) grows.is refers.of_page;
}

-- and they refer to it still
refers_on : {old new : Mutator} {variable at : ℕ} → GrowsSure old new → RefersToPage old variable at
    → RefersToPage new variable at
refers_on {old} {new} {variable} {at} grows refers = record {
  holds = subst (λ (one : Mutator). Holds one.seat.space (heap_words one.seat) variable (Ref at)) (sym grows.is)
      refers.holds;
  of_page = subst (λ (one : Mutator). at < eden_start one.seat.space) (sym grows.is) refers.of_page;
}

-- all that variables refer to is shaded
pub all_shaded : {old new : Mutator} {count : ℕ} → GrowsSure old new → count ≡ old.seat.space.variables
    → ((variable at : ℕ) → variable < count → RefersToPage old variable at → Contains new.cycle.sure at)
    → HasSureRoots new
all_shaded {old} {new} {count} grows counted shaded variable at known refers =
    let many : new.seat.space.variables ≡ old.seat.space.variables =
    ap (λ (one : Mutator). one.seat.space.variables) grows.is in
    shaded variable at (omega (arith, known, counted, many)) (refers_same grows refers)

-- with the next variable's target, those of all before and its own are shaded
pub next_shaded : {old now new : Mutator} (next : ℕ) → GrowsSure old now → GrowsSure now new
    → ((variable at : ℕ) → variable < next → RefersToPage old variable at → Contains now.cycle.sure at)
    → ((at : ℕ) → RefersToPage now next at → Contains new.cycle.sure at)
    → (variable at : ℕ) → variable < next + 1 → RefersToPage old variable at → Contains new.cycle.sure at
next_shaded {old} {now} {new} next before after shaded own variable at below refers =
    elim (cases_lt variable next) [
      | inl earlier ↦ stays_sure at after (shaded variable at earlier refers)
      | inr last ↦
          let same : variable ≡ next = omega (arith, last, below) in
          own at (refers_on before (subst (λ one. RefersToPage old one at) same refers))
    ]
