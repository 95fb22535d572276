-- Each dead word of a page is in a free run, where a heap was swept and when it is moved then.
use Rattle.std.proofs.Common.{◌≡◌, ℕ, ◌<◌, inl, inr, List, Option, Some, IsTrue, refl}
use Rattle.std.proofs.Common.{subst, arith}
use Rattle.tagged_word.specs.declared.layout.Kind.TheVariants as kind
use Rattle.tagged_word.specs.Cells.{is_free_kind, is_object_kind}
use Rattle.page_space.specs.Extents.{Space, eden_start}
use Rattle.object_graph.specs.Graphs.{Graph}
use Rattle.heap_model.specs.Types.{Kind, Cell}
use Rattle.heap_model.specs.Heaps.{Heap, HasCell}
use Rattle.heap_model.specs.Slots.{IsPlace}
use Rattle.heap_model.specs.Wholeness.{IsOwnedKind}
use Rattle.heap_model.proofs.StaysCollectable.{owned_not_free}
use Rattle.heap_moves.specs.Moved.{moved_to, IsMoved}
use Rattle.heap_moves.specs.Standing.{Stays}
use Rattle.heap_moves.proofs.AllStands.{shows_for}
use Rattle.heap_moves.proofs.MovedGraphs.{reached_stay}
use Rattle.live_cells.specs.Exact.{KeepsNoOther, IsWordOf, IsDeadWord}
use Rattle.live_cells.specs.Laws.{BelongsToReached}
use Rattle.live_cells.specs.Fitting.{IsWordAmong, SweptDeadIsFree, MovedDeadIsFree}
use Rattle.live_cells.proofs.DeadWords.{named_is_owned}
use Rattle.live_cells.proofs.KeptOnly.{place_of_owner, swept_keeps_no_other, moved_keeps_no_other}
use Rattle.live_cells.proofs.LiveReached.{live_is_reached}
use Rattle.live_cells.proofs.MovedNames.{names_stay}
use Rattle.live_cells.proofs.ReachedUsed.{place_used, used_not_free, reached_used}

-- A cell is free, an object's, or one that an object names.
data KindOf (k : Kind) : Type 0 where
  is_free : IsTrue (is_free_kind k) → KindOf k
  is_object : IsTrue (is_object_kind k) → KindOf k
  is_owned : IsOwnedKind k → KindOf k

-- which it is
kind_of : (k : Kind) → KindOf k
kind_of kind.Plain = KindOf.is_object refl
kind_of kind.List = KindOf.is_object refl
kind_of kind.Weak = KindOf.is_object refl
kind_of kind.Store = KindOf.is_owned tt
kind_of kind.Table = KindOf.is_owned tt
kind_of kind.Boxed = KindOf.is_owned tt
kind_of kind.Filler = KindOf.is_free refl
kind_of kind.Gap = KindOf.is_free refl

-- in a heap that keeps nothing else a dead word is of no cell that is used
used_not_dead : {heap : Heap} {graph : Graph} {cell : Cell} {words : List ℕ} (at : ℕ) → KeepsNoOther heap graph
    → HasCell heap cell words → (IsTrue (is_free_kind cell.layout.kind) → ⊥) → IsWordOf cell at → IsDeadWord heap at
    → ⊥
used_not_dead {cell = cell} {words} at keeps has used word dead =
    let is_dead = dead cell words has word in
    elim (kind_of cell.layout.kind) [
      | KindOf.is_free free ↦ used free
      | KindOf.is_object object ↦ is_dead.0 object
      | KindOf.is_owned owned ↦ is_dead.1 (keeps.named cell words has owned)
    ]

-- a live cell is not free
pub live_used : {heap : Heap} {graph : Graph} {cell : Cell} {words : List ℕ} → HasCell heap cell words
    → BelongsToReached heap graph cell.at → IsTrue (is_free_kind cell.layout.kind) → ⊥
live_used has (BelongsToReached.place number place reached) = used_not_free (place_used place) has refl
live_used {cell = cell} has (BelongsToReached.named owner slot names reached) =
    owned_not_free cell.layout.kind (named_is_owned has (record { owner = owner; slot = slot; names = names }))

-- in a heap that was swept
pub swept_dead_is_free : SweptDeadIsFree
swept_dead_is_free old new marked to graph rows shows are stay moved filled at below dead =
    let keeps = swept_keeps_no_other old new marked to graph shows are stay moved in
    let in_page = subst (λ (space : Space). at < eden_start space) moved.space below in
    filled at in_page (λ (among : IsWordAmong old marked at).
    let cell : Cell = among.cell in
    let live = live_is_reached old graph cell.at shows ((are cell.at).0 among.among) in
    let stood = moved.stands cell among.words cell.at among.has (stay.stays cell.at among.among) in
    used_not_dead at keeps stood.has (live_used among.has live) among.of_cell dead)

module _ {old new : Heap} {to : ℕ → Option ℕ} {graph : Graph} (keeps : KeepsNoOther old graph)
    (moved : IsMoved old new to)
    (in_place : (at now : ℕ) → at < eden_start old.space → to at ≡ Some now → now ≡ at) where
  -- a word of a page that is dead was dead, of what stands in its place
  was_dead : (at : ℕ) → at < eden_start old.space → IsDeadWord new at → IsDeadWord old at
  was_dead at below dead cell words has word =
      let still : (stays : Stays to cell.at) → IsWordOf (moved_to cell stays.0) at = λ stays.
      let same : stays.0 ≡ cell.at = in_place cell.at stays.0 (omega (arith, below, word.from)) stays.1 in
      record { from = omega (arith, same, word.from); below = omega (arith, same, word.below) } in
      let shows = shows_for (Stays to) keeps.shows in
      let owner_stays : (number place : ℕ) → IsPlace old number place → Stays to place = λ number place is.
      reached_stay old new to graph number place shows moved (keeps.reached number place is) is in (
        λ object.
            let stays = owner_stays cell.header.object cell.at (record {
              cell = cell;
              words = words;
              has = has;
              stands = refl;
              object = object;
              carries = refl;
            }) in
            let stood = moved.stands cell words stays.0 has stays.1 in
            (dead (moved_to cell stays.0) stood.others stood.has (still stays)).0 object,
        λ named.
            let owner : Cell = named.owner in
            let there = names_stay moved named.names
            (owner_stays owner.header.object owner.at (place_of_owner named.names)) in
            let stood = moved.stands cell words there.now has there.stays in
            (dead (moved_to cell there.now) stood.others stood.has (still (there.now, there.stays))).1 there.named,
      )

-- and in one that is moved then
pub moved_dead_is_free : MovedDeadIsFree
moved_dead_is_free old new to graph rows left keeps moved in_place taken free at below dead =
    let in_page = subst (λ (space : Space). at < eden_start space) moved.space below in
    elim (taken at (free at in_page (was_dead keeps moved in_place at in_page dead))) [
      | inl stays ↦ stays
      | inr of_reached ↦
          let used = used_not_free (reached_used keeps.shows.whole of_reached.reached) of_reached.had refl in
          absurd (used_not_dead at (moved_keeps_no_other old new to graph keeps moved) of_reached.has used
          (record { from = of_reached.from; below = of_reached.below }) dead)
    ]
