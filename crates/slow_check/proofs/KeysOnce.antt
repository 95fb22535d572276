-- The pairs of a weak table that show an entry.
use Rattle.std.proofs.Common.{◌≡◌, ℕ, ◌+◌, inl, inr, List, Bool, true, false, Some, slice_get, IsTrue}
use Rattle.std.proofs.Common.{refl, sym, ◌∙◌, ap, subst, arith}
use Rattle.std.proofs.lemmas.Bool.{cases_lt, false≢true}
use Rattle.std.proofs.lemmas.Option.{same_Some}
use Rattle.heap_model.specs.Types.{Entry}
use Rattle.object_graph.specs.Reach.{is_marked}
use Rattle.heap_model.specs.Heaps.{Heap}
use Rattle.heap_model.specs.Slots.{RefersToPlace}
use Rattle.heap_model.specs.Kinds.{Pair}
use Rattle.heap_model.specs.Showing.{ShowsValue, ShowsOnce, IsKnownKey}
use Rattle.heap_model.proofs.NewKeys.{one_number}
use Rattle.slow_check.specs.KeyPairs.{HasNoPairFrom, IsFirstPair, IsKnownNumber}

-- where the first pair with the key has the value, and no pair behind it has the key, they show the entry once
pub once_from : (heap : Heap) (pairs : List Pair) (entry : Entry) (at : ℕ) (pair : Pair)
    → IsFirstPair heap pairs entry.key 0 at → slice_get pairs at ≡ Some pair → ShowsValue heap pair.value entry.value
    → HasNoPairFrom heap pairs entry.key (at + 1) → ShowsOnce heap pairs entry
once_from heap pairs entry at pair first there value none =
    let same : pair ≡ first.pair = same_Some _ _ (sym there ∙ first.stands) in record {
      at = at;
      pair = first.pair;
      stands = first.stands;
      shows = record {
        key = first.key_is;
        value = subst (λ (one : Pair). ShowsValue heap one.value entry.value) same value;
      };
      once = λ other another stands refers. elim (cases_lt at other) [
        | inl behind ↦ absurd (none other another stands (omega (arith, behind)) refers)
        | inr before ↦ omega (arith, before, first.first other another stands (omega arith) refers)
      ];
    }

-- where they show the entry once, the first pair with the key has the value
pub once_value : (heap : Heap) (pairs : List Pair) (entry : Entry) (at : ℕ) (pair : Pair)
    → IsFirstPair heap pairs entry.key 0 at → slice_get pairs at ≡ Some pair → ShowsOnce heap pairs entry
    → ShowsValue heap pair.value entry.value
once_value heap pairs entry at pair first there once =
    let place : at ≡ once.at = once.once at first.pair first.stands first.key_is in
    let same : once.pair ≡ pair = same_Some _ _ (sym once.stands ∙ ap (slice_get pairs) (sym place) ∙ there) in
    subst (λ (one : Pair). ShowsValue heap one.value entry.value) same once.shows.value

-- and there is no second
pub not_twice : (heap : Heap) (pairs : List Pair) (entry : Entry) (at other : ℕ) → IsFirstPair heap pairs entry.key 0 at
    → IsFirstPair heap pairs entry.key (at + 1) other → ShowsOnce heap pairs entry → ⊥
not_twice heap pairs entry at other first second once =
    omega (
      arith,
      once.once at first.pair first.stands first.key_is,
      once.once other second.pair second.stands second.key_is,
      second.reached,
    )

-- the key of the pair is known where its number is
pub known_from : {heap : Heap} {pair : Pair} (marks : List Bool) (entries : List Entry) (number : ℕ)
    → RefersToPlace heap pair.key number → IsKnownNumber marks entries number → IsKnownKey heap marks entries pair
known_from {heap} {pair} marks entries number refers known =
    elim (is_marked marks number) as (λ b. is_marked marks number ≡ b → IsKnownKey heap marks entries pair) [
      | true ↦ λ marked.
          let found = known marked in
          IsKnownKey.of_entry found.entry found.at found.stands
          (subst (λ n. IsTrue (is_marked marks n)) (sym found.is) marked)
          (subst (λ n. RefersToPlace heap pair.key n) (sym found.is) refers)
      | false ↦ λ unmarked. IsKnownKey.unreached number refers unmarked
    ] refl

-- and the other way round
pub known_to : {heap : Heap} {pair : Pair} (marks : List Bool) (entries : List Entry) (number : ℕ)
    → RefersToPlace heap pair.key number → IsKnownKey heap marks entries pair → IsKnownNumber marks entries number
known_to {heap} {pair} marks entries number refers (IsKnownKey.of_entry entry at there marked refers_too) reached =
    record { at = at; entry = entry; stands = there; is = one_number heap pair.key entry.key number refers_too refers }
known_to {heap} {pair} marks entries number refers (IsKnownKey.unreached other refers_too unmarked) reached =
    let same = one_number heap pair.key other number refers_too refers in
    absurd (false≢true (sym unmarked ∙ ap (is_marked marks) same ∙ reached))

-- a key that is known is that of an object
pub known_refers : {heap : Heap} {marks : List Bool} {entries : List Entry} {pair : Pair}
    → IsKnownKey heap marks entries pair → (number : ℕ) × RefersToPlace heap pair.key number
known_refers (IsKnownKey.of_entry entry at there marked refers) = (entry.key, refers)
known_refers (IsKnownKey.unreached number refers unmarked) = (number, refers)
