-- What a sweep of marked cells leaves is what the end of a cycle has to leave.
use Rattle.std.proofs.Common.{◌≡◌, ◌∙◌, ℕ, zero, suc, ◌+◌, ◌<◌, ◌≤◌, ◌⊎◌, Bool, true, false, inl, inr, List, Contains}
use Rattle.std.proofs.Common.{IsTrue, refl, sym, ap, subst, arith}
use Rattle.std.proofs.lemmas.Bool.{cases_lt}
use Rattle.tagged_word.specs.Cells.{is_free_kind}
use Rattle.page_space.specs.Extents.{Space, eden_start}
use Rattle.nursery.specs.Young.{Young}
use Rattle.object_graph.specs.Graphs.{Graph}
use Rattle.heap_model.specs.Types.{Cell}
use Rattle.heap_model.specs.Heaps.{HasCell}
use Rattle.heap_model.specs.Kinds.{Pair}
use Rattle.heap_moves.proofs.MovedWords.{contains_or_not}
use Rattle.live_cells.specs.Exact.{IsWordOf}
use Rattle.write_barrier.specs.MutatorState.{Mutator, heap_of}
use Rattle.weak_pairs.specs.Pairs.{HasPairsAt}
use Rattle.ephemeron_table.proofs.TablesRead.{one_map}
use Rattle.sweeper.specs.Swept.{IsCellWord}
use Rattle.live_cells.specs.Live.{IsLive, IsRootTarget}
use Rattle.collector.specs.Born.{MayStand, AreSomePairsOf}
use Rattle.collector.specs.Images.{IsOfSomeCell}
use Rattle.collector.specs.LastSweep.{SweptIsBorn}
use Rattle.collector.specs.MarkSwept.{WasMarked, SweepsMarked}
use Rattle.collector.proofs.KeptPairs.{place_stood, swept_keys}
use Rattle.collector.proofs.SweptObjects.{with_marked_word}

module _ {old new : Mutator} {marked : List ℕ} {graph : Graph} (sweeps : SweepsMarked old new marked graph) where
  -- where a cell has a word of a marked cell, it stood there
  cell_stood : {cell : Cell} {words : List ℕ} {at : ℕ} → HasCell (heap_of new) cell words → IsWordOf cell at
      → (was : IsCellWord (heap_of old) at) → Contains marked was.cell.at → WasMarked (heap_of old) marked cell
  cell_stood {at = at} has word was among =
      with_marked_word sweeps.cells sweeps.shows.shows.whole.rows at has word (record {
        cell = was.cell;
        words = was.words;
        has = was.has;
        among = among;
        from = was.from;
        below = was.below;
      })

  -- a word of a cell was one of a cell
  was_of_cell : {cell : Cell} {words : List ℕ} {at : ℕ} → HasCell (heap_of new) cell words → IsWordOf cell at
      → IsCellWord (heap_of old) at
  was_of_cell {cell} {words} {at} has word =
      sweeps.of_cells at (record { cell = cell; words = words; has = has; from = word.from; below = word.below })

  -- where that was not marked, it was not live
  was_useless : {at : ℕ} (was : IsCellWord (heap_of old) at) → (Contains marked was.cell.at → ⊥)
      → IsOfSomeCell (heap_of old) (λ cell. IsLive (heap_of old) (IsRootTarget (heap_of old)) cell.at → ⊥) at
  was_useless was out = record {
    cell = was.cell;
    words = was.words;
    has = was.has;
    of_cell = record { from = was.from; below = was.below };
    holds = λ live. out (sweeps.live was.cell.at live);
  }

  -- a free cell stood there before, or its first words are of cells that were not live
  stood_or_freed : {cell : Cell} {words : List ℕ} → HasCell (heap_of new) cell words
      → IsTrue (is_free_kind cell.layout.kind) → (n : ℕ) → n ≤ cell.size
      → WasMarked (heap_of old) marked cell
      ⊎ ((at : ℕ) → cell.at ≤ at → at < cell.at + n
      → IsOfSomeCell (heap_of old) (λ cell. IsLive (heap_of old) (IsRootTarget (heap_of old)) cell.at → ⊥) at)
  stood_or_freed {cell} has free zero within = inr (λ at from below. absurd (omega (arith, from, below)))
  stood_or_freed {cell} has free (suc n) within = elim (stood_or_freed has free n (omega (arith, within))) [
    | inl stood ↦ inl stood
    | inr freed ↦
        let word : IsWordOf cell (cell.at + n) = record { from = omega arith; below = omega (arith, within) } in
        let was = was_of_cell has word in
        elim (contains_or_not marked was.cell.at) [
          | inl among ↦ inl (cell_stood has word was among)
          | inr out ↦ inr (λ at from below. elim (cases_lt at (cell.at + n)) [
            | inl earlier ↦ freed at from earlier
            | inr last ↦
                let same : cell.at + n ≡ at = omega (arith, last, below) in
                subst
                (IsOfSomeCell (heap_of old) (λ one. IsLive (heap_of old) (IsRootTarget (heap_of old)) one.at → ⊥))
                same (was_useless was out)
          ])
        ]
  ]

  -- so it may stand
  free_may_stand : (cell : Cell) (words : List ℕ) → HasCell (heap_of new) cell words
      → is_free_kind cell.layout.kind ≡ true → MayStand (heap_of old) (heap_of new) graph cell
  free_may_stand cell words has free = elim (stood_or_freed has free cell.size (omega arith)) [
    | inl was ↦ MayStand.stood was.words was.had
    | inr freed ↦ MayStand.freed free (λ at word. freed at word.from word.below)
  ]

  -- and one that is not free stood there
  may_stand : (cell : Cell) (words : List ℕ) → HasCell (heap_of new) cell words → (free : Bool)
      → is_free_kind cell.layout.kind ≡ free → MayStand (heap_of old) (heap_of new) graph cell
  may_stand cell words has true is = free_may_stand cell words has is
  may_stand cell words has false is =
      let was = sweeps.used cell words has is in MayStand.stood was.words was.had

  -- a weak map that stands has some of its own pairs
  own_pairs : (map : ℕ) (before after : List Pair) → HasPairsAt (heap_of old) map before
      → HasPairsAt (heap_of new) map after → AreSomePairsOf before after
  own_pairs map before after had has =
      let was = sweeps.used has.cell has.words has.has (ap is_free_kind has.of_kind) in
      let left = sweeps.pairs map before (subst (Contains marked) has.stands was.among) had in
      subst (AreSomePairsOf before) (one_map left.has.are has) (record {
        long = left.has.left.long;
        origin = left.has.left.origin;
        from = left.has.left.from;
        apart = left.has.left.apart;
      })

-- so it is
pub swept_is_born : SweptIsBorn
swept_is_born opening old new marked graph shown sweeps born no_dead = record {
  space = sweeps.seat.space;
  shows = sweeps.shows.shows;
  born = λ number at place. let stood = place_stood sweeps number at place in born number at stood.0 stood.1;
  no_dead_word = λ cell words has used of_page lost at word dead.
      let was = sweeps.used cell words has used in
      no_dead cell was.words at was.had used
      (subst (λ (space : Space). cell.at < eden_start space) sweeps.seat.space of_page) was.among lost word dead;
  words = λ cell before after had has used no_map no_table lost.
      let was = sweeps.used cell after has used in
      let kept = sweeps.others cell before had was.among no_map no_table in sym has.words_are ∙ kept.words_are;
  pairs = λ map before after had has lost. own_pairs sweeps map before after had has;
  tables = λ cell before after had has is unnamed.
      let was = sweeps.used cell after has (ap is_free_kind is) in
      let kept = sweeps.tables cell before had was.among is unnamed in sym has.words_are ∙ kept.words_are;
  keys = λ map key has. swept_keys sweeps shown.whole map key has;
  stands = λ cell words has. may_stand sweeps cell words has (is_free_kind cell.layout.kind) refl;
  filled = sweeps.filled;
  free = sweeps.shows.free;
  apart = sweeps.apart;
  places = λ cell words has of_page live. sweeps.cells cell words has (sweeps.live cell.at live);
  fronts = λ cell copy words has free is touches.
      let was = sweeps.used copy is.words is.has is.used in absurd (is.fresh was.words was.had);
  rooms = sweeps.rooms;
  few = omega (
    arith,
    ap (λ (young : Young). young.survivors) sweeps.young,
    ap (λ (young : Young). young.used) sweeps.young,
  );
}
