-- A command that writes cells of one object, and leaves all where they are, keeps an open cycle of marking: nothing
-- joins what is born, each free start and each black cell goes on, and what the cells refer to is kept.
use Rattle.std.proofs.Common.{◌≡◌, ℕ, ◌+◌, ◌≤◌, ◌<◌, ◌⊎◌, inl, inr, List, [], ◌∷◌, ◌++◌, Contains, IsTrue}
use Rattle.std.proofs.Common.{refl, sym, ◌∙◌, ap, subst, arith}
use Rattle.std.proofs.lemmas.Bool.{cases_eq, false≢true}
use Rattle.std.proofs.lemmas.List.Elements.{All-contains, Contains-append_cases, Contains-append_left}
use Rattle.tagged_word.specs.declared.layout.Kind.TheVariants as kind
use Rattle.tagged_word.specs.Cells.{scavenge_offsets_of, store_slot, is_free_kind, is_object_kind}
use Rattle.tagged_word.proofs.Members.{first_in, rest_in, in_cases}
use Rattle.page_space.specs.Extents.{Space, eden_start}
use Rattle.object_graph.specs.Graphs.{Graph}
use Rattle.object_graph.specs.Reach.{is_marked, reach}
use Rattle.heap_model.specs.Types.{Kind, Cell}
use Rattle.heap_model.specs.Heaps.{Heap, words_of_cell}
use Rattle.heap_model.specs.Wholeness.{IsOwnedKind, NamesFrom}
use Rattle.heap_model.specs.Changes.{IsNewPlace}
use Rattle.heap_model.specs.Laws.{RefersToNothing}
use Rattle.heap_model.proofs.BoundHeaps.{none_in}
use Rattle.heap_model.proofs.ObjectSlots.{store_slot_at}
use Rattle.heap_table.specs.Phases.{Mark}
use Rattle.live_cells.specs.Laws.{BelongsToReached}
use Rattle.live_cells.specs.Live.{HasSlotTo, HasEntry}
use Rattle.mark_world.specs.Cycles.{Cycle}
use Rattle.mark_world.specs.Pages.{is_free}
use Rattle.mark_laws.proofs.Stores.{free_is, free_made}
use Rattle.cycle_state.specs.Cycles.{main_of}
use Rattle.cycle_state.specs.Resting.{IsPageCell, IsUsedPageCell}
use Rattle.cycle_laws.specs.Changes.{IsOwnedAt, IsReachedPlace, JoinsNewCells, WasEntry, WasTargetOf}
use Rattle.cycle_laws.specs.RestsAgain.{DidNotGo, KeepsLists}
use Rattle.write_barrier.specs.MutatorState.{Mutator, heap_of, MainShows, RestsInCycle}
use Rattle.write_barrier.proofs.StoresOn.{next_is_young}
use Rattle.object_cells.specs.CellWrites.{Owns, WritesOwnCells}
use Rattle.object_cells.specs.CycleChanges.{KeepsCycle, KeepsOwnCells}
use Rattle.object_cells.specs.OwnSlots.{Refills}
use Rattle.object_cells.specs.Uses.{TakesRun}
use Rattle.object_cells.proofs.OwnSteps.{OwnStep, OwnWriting, own_step, own_writing}
use Rattle.object_cells.proofs.OwnSteps.{came_object as object_came}

-- an object is not free
pub object_is_used : (k : Kind) → IsTrue (is_object_kind k) → IsTrue (is_free_kind k) → ⊥
object_is_used kind.Plain object free = false≢true free
object_is_used kind.List object free = false≢true free
object_is_used kind.Weak object free = false≢true free
object_is_used _ object free = false≢true object

-- nor is what belongs to one
pub owned_is_used : (k : Kind) → IsOwnedKind k → IsTrue (is_free_kind k) → ⊥
owned_is_used kind.Store owned free = false≢true free
owned_is_used kind.Table owned free = false≢true free
owned_is_used kind.Boxed owned free = false≢true free
owned_is_used _ owned free = owned

-- a cell of the list stands at the address
abbrev pub HasOneAt : List Cell → ℕ → Type 0
HasOneAt cells at = (one : Cell) × Contains cells one × (one.at ≡ at)

-- it does, or none of the list went from there
pub one_at_or_none : (cells : List Cell) (at : ℕ) → HasOneAt cells at ⊎ DidNotGo cells at
one_at_or_none [] at = inr (λ cell there. absurd (none_in cell there))
one_at_or_none (first ∷ rest) at = elim (cases_eq first.at at) [
  | inl same ↦ inl (first, first_in first rest, same)
  | inr differs ↦ elim (one_at_or_none rest at) [
    | inl one ↦ inl (one.0, rest_in first rest one.0 one.1, one.2)
    | inr none ↦ inr (λ cell there stands. elim (in_cases first rest cell there) [
      | inl same ↦ differs (ap (λ (c : Cell). c.at) same ∙ stands)
      | inr among ↦ none cell among stands
    ])
  ]
]

-- each cell beside the object's is of the kind that it owns, or a box
pub beside_kind : {owner owned : Kind} {old new : Heap} {cell came : Cell} {others made : List Cell}
    {was is : ℕ → ℕ → Type 0} → WritesOwnCells owner owned old new cell came others made
    → Refills owned old new cell came others made was is → (other : Cell) → Contains (others ++ made) other
    → (other.layout.kind ≡ owned) ⊎ (other.layout.kind ≡ kind.Boxed)
beside_kind {others = others} {made} writes refills other there =
    elim (Contains-append_cases others made other there) [
      | inl among ↦ (writes.beside other among).of_kind
      | inr among ↦ refills.kinds other among
    ]

module _ {owner owned : Kind} {old new : Mutator} {before : Graph} {cell came : Cell} {others made : List Cell}
    {was is : ℕ → ℕ → Type 0} (after : Graph) (owns : Owns owner owned) (shows : MainShows old before)
    (mark : old.seat.phase ≡ Mark)
    (writes : WritesOwnCells owner owned (heap_of old) (heap_of new) cell came others made)
    (refills : Refills owned (heap_of old) (heap_of new) cell came others made was is) (takes : TakesRun old new made)
    (reached : IsTrue (is_marked (reach after) cell.header.object)) (keeps : KeepsOwnCells old new came others) where
  -- the object's cell became the other
  abbrev step : OwnStep (heap_of old) (heap_of new) cell came others others made
  step = own_step owns shows.shows.whole writes

  -- of those beside it none is an object's
  abbrev writing : OwnWriting (heap_of old) (heap_of new) cell came others others made
  writing = own_writing owns shows.shows.whole writes refills.belong refills.kinds

  -- it rested before
  abbrev rested : RestsInCycle old before
  rested = shows.calm mark

  -- the object's cell stands, and is an object's
  came_object : IsTrue (is_object_kind came.layout.kind)
  came_object = ap is_object_kind step.same_kind ∙ step.object

  -- so it belongs to an object
  beside_owned : (other : Cell) → Contains (others ++ made) other → IsOwnedKind other.layout.kind
  beside_owned other there = elim (beside_kind writes refills other there) [
    | inl same ↦ subst IsOwnedKind (sym same) owns.belongs
    | inr boxed ↦ subst IsOwnedKind (sym boxed) tt
  ]

  -- each that came is used
  came_used : (one : Cell) → Contains (came ∷ others) one → IsTrue (is_free_kind one.layout.kind) → ⊥
  came_used one there = elim (in_cases came others one there) [
    | inl same ↦ object_is_used one.layout.kind
        (subst (λ (c : Cell). IsTrue (is_object_kind c.layout.kind)) same came_object)
    | inr among ↦ owned_is_used one.layout.kind (beside_owned one (Contains-append_left others made one among))
  ]

  -- each stands where a used one stood
  came_stood : (one : Cell) → Contains (came ∷ others) one → IsNewPlace (heap_of old) one.at → ⊥
  came_stood one there fresh = elim (in_cases came others one there) [
    | inl same ↦
        let filler = fresh cell (words_of_cell (heap_of old) cell) writes.stood
        (sym step.place ∙ ap (λ (c : Cell). c.at) same) in
        object_is_used cell.layout.kind step.object (ap is_free_kind filler)
    | inr among ↦
        let filler = fresh one (words_of_cell (heap_of old) one) (writes.beside one among).stood refl in
        owned_is_used one.layout.kind (beside_owned one (Contains-append_left others made one among))
        (ap is_free_kind filler)
  ]

  -- nothing joins what is born
  own_joins : JoinsNewCells (heap_of old) (heap_of new) old.cycle new.cycle (came ∷ others) made
  own_joins = record {
    reached = ap (λ (c : Cycle). c.reached) keeps.cycle;
    counted = ap (λ (c : Cycle). c.made) keeps.cycle;
    dead = ap (λ (c : Cycle). c.dead) keeps.cycle;
    stays = λ at born. subst (λ list. Contains list at) (sym (ap (λ (c : Cycle). c.born) keeps.cycle)) born;
    joined = λ at born. inl (subst (λ list. Contains list at) (ap (λ (c : Cycle). c.born) keeps.cycle) born);
    new_born = λ one there used fresh. absurd (came_stood one there fresh);
    young = λ one there. subst (λ (space : Space). eden_start space ≤ one.at) (sym takes.space)
        (omega (arith, (takes.within one there).0, next_is_young shows mark));
  }

  -- where one went, a used one stands
  went_on : (at : ℕ) → HasOneAt (cell ∷ others) at → HasOneAt (came ∷ others) at
  went_on at one = elim (in_cases cell others one.0 one.1) [
    | inl same ↦ (came, first_in came others, step.place ∙ ap (λ (c : Cell). c.at) same ∙ one.2)
    | inr among ↦ (one.0, rest_in came others one.0 among, one.2)
  ]

  -- so it is one of a page
  used_page : (at : ℕ) → at < eden_start new.seat.space → HasOneAt (came ∷ others) at
      → IsUsedPageCell (heap_of new) at
  used_page at of_page one = record {
    cell = one.0;
    words = words_of_cell (heap_of new) one.0;
    has = step.cells.comes one.0 (Contains-append_left (came ∷ others) made one.0 one.1);
    stands = one.2;
    of_page = of_page;
    used = came_used one.0 one.1;
  }

  -- and a cell of a page
  any_page : (at : ℕ) → at < eden_start new.seat.space → HasOneAt (came ∷ others) at → IsPageCell (heap_of new) at
  any_page at of_page one =
      let used = used_page at of_page one in record {
        cell = used.cell;
        words = used.words;
        has = used.has;
        stands = used.stands;
        of_page = of_page;
        part = λ free. absurd (used.used free);
      }

  -- a page before is one then
  still_of_page : (at : ℕ) → at < eden_start old.seat.space → at < eden_start new.seat.space
  still_of_page at below = subst (λ (space : Space). at < eden_start space) (sym takes.space) below

  -- no start turns free
  was_free : (at : ℕ) → IsTrue (is_free (main_of new.cycle) at) → IsTrue (is_free (main_of old.cycle) at)
  was_free at free =
      let now = free_is (main_of new.cycle) at free in
      free_made (main_of old.cycle) at
      (subst (λ list. Contains list at) (ap (λ (c : Cycle). c.starts) keeps.cycle) now.0)
      (λ black. now.1 (All-contains (Contains new.cycle.mine) old.cycle.mine at keeps.stays black))

  -- free starts and black cells go on
  own_lists : KeepsLists (heap_of new) old.cycle new.cycle (cell ∷ others)
  own_lists = record {
    free = λ at free. elim (one_at_or_none (cell ∷ others) at) [
      | inr none ↦ inl (was_free at free, none)
      | inl one ↦
          inr (used_page at (still_of_page at (rested.rests.free at (was_free at free)).of_page) (went_on at one))
    ];
    mine = λ at black. elim (keeps.mine at black) [
      | inr one ↦ inr (any_page at one.3 (one.0, one.1, one.2))
      | inl had ↦ elim (one_at_or_none (cell ∷ others) at) [
        | inr none ↦ inl (had, none)
        | inl one ↦
            let there = All-contains (IsPageCell (heap_of old)) old.cycle.mine at rested.rests.mine had in
            inr (any_page at (still_of_page at there.of_page) (went_on at one))
      ]
    ];
  }

  -- each object's cell that came is that of the object
  pub came_reached : (one : Cell) → Contains (came ∷ others) one → IsTrue (is_object_kind one.layout.kind)
      → IsTrue (is_marked (reach after) one.header.object)
  came_reached one there object =
      let same : came ≡ one = object_came writing one (Contains-append_left (came ∷ others) made one there)
      object in
      subst (λ (c : Cell). IsTrue (is_marked (reach after) c.header.object)) same
      (ap (λ n. is_marked (reach after) n) step.number ∙ reached)

  -- the object names the store or table
  pub names_owned : (one : Cell) → Contains (others ++ made) one → one.layout.kind ≡ owned
      → NamesFrom (heap_of new) came (came.at + store_slot) one.at
  names_owned one there same = record {
    words = words_of_cell (heap_of new) came;
    has = step.cells.comes came (first_in came (others ++ made));
    object = came_object;
    word = refills.store;
    of_owner = store_slot_at refills.store came_object refills.has_store;
    cell = one;
    others = words_of_cell (heap_of new) one;
    refers = record {
      refers = (refills.stores one there same).1;
      has = step.cells.comes one (rest_in came (others ++ made) one there);
    };
    owned = subst IsOwnedKind (sym same) owns.belongs;
    at = refl;
  }

  -- a box refers to nothing
  box_refers : (one : Cell) → one.layout.kind ≡ kind.Boxed
      → RefersToNothing one (words_of_cell (heap_of new) one)
  box_refers one boxed offset word at visited holds refers =
      let none = subst (λ k. Contains (scavenge_offsets_of k one.layout one.length) offset) boxed visited in
      omega (arith, none.1)

  -- each cell belongs to the object, which can be reached, or refers to nothing
  own_belong : (one : Cell) → Contains (came ∷ (others ++ made)) one
      → RefersToNothing one (words_of_cell (heap_of new) one) ⊎ BelongsToReached (heap_of new) after one.at
  own_belong one there = elim (in_cases came (others ++ made) one there) [
    | inl same ↦ inr (BelongsToReached.place one.header.object (record {
      cell = one;
      words = words_of_cell (heap_of new) one;
      has = step.cells.comes one there;
      stands = refl;
      object = subst (λ (c : Cell). IsTrue (is_object_kind c.layout.kind)) same came_object;
      carries = refl;
    }) (subst (λ (c : Cell). IsTrue (is_marked (reach after) c.header.object)) same
        (ap (λ n. is_marked (reach after) n) step.number ∙ reached)))
    | inr among ↦ elim (beside_kind writes refills one among) [
      | inl of_owned ↦ inr (BelongsToReached.named came (came.at + store_slot) (names_owned one among of_owned)
          (ap (λ n. is_marked (reach after) n) step.number ∙ reached))
      | inr boxed ↦ inl (box_refers one boxed)
    ]
  ]

  -- So the cycle is kept, where the slots of the cells refer to what slots referred to that went, or to new places, and
  -- their pairs are of kept tables, or of objects that can be reached.
  pub own_cells_keep : ((from at : ℕ) (slot : HasSlotTo (heap_of new) from at)
      → Contains (came ∷ (others ++ made)) slot.cell
      → IsOwnedAt (heap_of new) at → WasTargetOf (heap_of old) (cell ∷ others) at ⊎ IsNewPlace (heap_of old) at)
      → ((table key at : ℕ) (entry : HasEntry (heap_of new) table key at)
      → Contains (came ∷ (others ++ made)) entry.cell → WasEntry (heap_of old) old.cycle.born key at
      ⊎ (IsReachedPlace (heap_of new) after at ⊎ IsNewPlace (heap_of old) at))
      → KeepsCycle old new after (cell ∷ others) (came ∷ others) made
  own_cells_keep slots pairs = record {
    view = keeps.view;
    sure = keeps.sure;
    black = λ at black. elim (keeps.mine at black) [
      | inl had ↦ inl had
      | inr one ↦ inr (one.0, one.1, one.2)
    ];
    slots = keeps.slots;
    joins = own_joins;
    lists = own_lists;
    refers = record { objects = came_reached; belong = own_belong; slots = slots; pairs = pairs };
  }
