-- What comes of a trim, by the words that it put: the heap shows the graph where the list has the elements that stay.
use Rattle.std.proofs.Common.{◌≡◌, ℕ, suc, ◌+◌, ◌≤◌, ◌<◌, ◌==◌}
use Rattle.std.proofs.Common.{true, false, length, take, drop, cond, Option, eq-eqb}
use Rattle.std.proofs.Common.{ℤ, to_z, of_z, refl, sym, ◌∙◌, ap, subst, arith}
use Rattle.std.specs.Prelude.{FitsSigned}
use Rattle.std.specs.Int.{w64}
use Rattle.std.proofs.lemmas.Bool.Decides.{nat_tests}
use Rattle.std.proofs.Math.Seq.{take-length}
use Rattle.page_space.specs.Sizes.{AreWithin}
use Rattle.object_graph.specs.Graphs.{Graph, ListObject}
use Rattle.object_graph.specs.Meaning.{below}
use Rattle.heap_model.specs.Needs.{capacity_at, count_at}
use Rattle.write_barrier.specs.MutatorState.{Mutator, heap_of, MainShows}
use Rattle.object_cells.specs.ListObjects.{IsListAt}
use Rattle.object_cells.proofs.ListCells.{list_shown, count_shown}
use Rattle.object_cells.proofs.NamedPlaces.{named_below}
use Rattle.array_trim.specs.TrimLaws.{ShiftedListShows, TruncatedListShows}
use Rattle.array_trim.specs.TrimWords.{PutsShifted, PutsTruncated}
use Rattle.array_trim.specs.Trims.{HasTrimmed, HasShifted, HasTruncated}
use Rattle.array_trim.proofs.Untrimmed.{nothing_trimmed}

-- what was found of an integer below one more than are counted is how many of the elements it is
pub number_named : {main : Mutator} {graph : Graph} {at : ℕ} (list : ListObject) (count : ℕ) (n : ℤ) (found : Option ℕ)
    → MainShows main graph → IsListAt main graph at list → count ≡ count_at (heap_of main) at → FitsSigned w64 n
    → found ≡ below (count + 1) (to_z w64 (of_z w64 n)) → below (suc (length list.elements)) n ≡ found
number_named list count n found shows is counted fits below_is =
    let same = counted ∙ count_shown (list_shown shows is) in
    named_below (count + 1) (suc (length list.elements)) n found (omega (arith, same)) fits below_is

-- no element goes at the front
pub none_shifted : {main : Mutator} {graph : Graph} {at : ℕ} (list : ListObject) (gone : ℕ) → MainShows main graph
    → IsListAt main graph at list → gone ≡ 0 → HasShifted main main graph at list gone
none_shifted list gone shows is none = record {
  trims = nothing_trimmed list (drop gone list.elements) _ shows is (ap (λ n. drop n list.elements) none)
      (omega (arith, none));
  unchanged = λ _. refl;
  puts = λ some. absurd (omega (arith, some, none));
}

-- some do
pub some_shifted : {old new : Mutator} {graph : Graph} {at : ℕ} (list : ListObject) (count gone : ℕ) → ShiftedListShows
    → AreWithin old.seat.space.sizes old.seat.space.variables → MainShows old graph → IsListAt old graph at list
    → count ≡ length list.elements → 1 ≤ gone → gone ≤ count
    → PutsShifted old new at count gone → HasShifted old new graph at list gone
some_shifted {old} {new} {graph} {at} list count gone law sizes shows is all some within puts =
    let put = subst (λ n. PutsShifted old new at n gone) all puts in
    record {
      trims = law old new graph at list gone sizes shows is some (omega (arith, within, all)) put;
      unchanged = λ none. absurd (omega (arith, some, none));
      puts = λ _. put;
    }

-- all elements stay
pub none_truncated : {main : Mutator} {graph : Graph} {at : ℕ} (list : ListObject) (kept : ℕ) → MainShows main graph
    → IsListAt main graph at list → kept ≡ length list.elements → HasTruncated main main graph at list kept
none_truncated {main} {at = at} list kept shows is all =
    let heap = heap_of main in
    let test : (kept == length list.elements) ≡ true = eq-eqb kept (length list.elements) all in
    record {
      trims = nothing_trimmed list (take kept list.elements) _ shows is
          (ap (λ n. take n list.elements) all ∙ take-length list.elements)
          (ap (λ t. cond t (capacity_at heap at) kept) test);
      unchanged = λ _. refl;
      puts = λ fewer. absurd (omega (arith, fewer, all));
    }

-- some elements alone stay
pub some_truncated : {old new : Mutator} {graph : Graph} {at : ℕ} (list : ListObject) (kept : ℕ) → TruncatedListShows
    → AreWithin old.seat.space.sizes old.seat.space.variables → MainShows old graph → IsListAt old graph at list
    → kept < length list.elements → PutsTruncated old new at kept
    → HasTruncated old new graph at list kept
some_truncated {old} {new} {graph} {at} list kept law sizes shows is fewer puts =
    let heap = heap_of old in
    let test : (kept == length list.elements) ≡ false = grind (arith, nat_tests, fewer) in
    record {
      trims = subst (HasTrimmed old new graph at list (take kept list.elements))
          (sym (ap (λ t. cond t (capacity_at heap at) kept) test))
          (law old new graph at list kept sizes shows is fewer puts);
      unchanged = λ all. absurd (omega (arith, fewer, all));
      puts = λ _. puts;
    }
