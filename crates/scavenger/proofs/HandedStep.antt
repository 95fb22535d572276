-- A scavenge goes on from what helpers copied: their copies are its homes, and the slots that they left are to do.
use Rattle.std.proofs.Common.{◌≡◌, ◌∙◌, ℕ, ◌+◌, ◌*◌, ◌<◌, ◌≤◌, inl, inr, true, false, List, [], sym, ap, subst, arith}
use Rattle.std.specs.List.{Contains}
use Rattle.std.proofs.lemmas.Bool.{false≢true}
use Rattle.tagged_word.specs.Shapes.{shapes_most}
use Rattle.page_space.specs.Sizes.{page_words}
use Rattle.page_space.specs.Extents.{Space, eden_start, segments_start, roots_start, layouts_start}
use Rattle.page_space.proofs.LawsHold.{kinds_by_number}
use Rattle.object_graph.specs.Graphs.{Graph}
use Rattle.nursery.specs.Young.{Young, IsYoung, other_half}
use Rattle.free_runs.specs.Laws.{IsFreeWord}
use Rattle.remembered_set.specs.Recorded.{Recorded}
use Rattle.heap_model.specs.Types.{Run}
use Rattle.heap_model.specs.Remembered.{RefersToYoung}
use Rattle.heap_model.proofs.RememberedSlots.{page_slot_below}
use Rattle.heap_model.proofs.RowCovers.{from_one}
use Rattle.write_barrier.specs.Seats.{heap_words}
use Rattle.write_barrier.specs.MutatorState.{Mutator, MayStore, MainShows}
use Rattle.scav_copy.specs.declared.places.Home.{Home}
use Rattle.scav_copy.specs.Places.{Fixed, IsInCopies, StoodAt}
use Rattle.scav_copy.specs.Renamings.{RefersToAddress}
use Rattle.scav_copy.proofs.Spots.{none_in}
use Rattle.scavenger.specs.declared.spaces.Spaces.{Spaces}
use Rattle.scavenger.specs.declared.progress.Progress.{Progress}
use Rattle.scavenger.specs.Starts.{Start, SegmentCopies, room_start, segment_from, start_with}
use Rattle.scavenger.specs.Filling.{CopiesFillRooms, IsInPromoted, IsOfPage, IsToDo, PageStands, PagesStand, Tiles}
use Rattle.scavenger.specs.Filling.{Front, segment_filled, words_of_homes, words_of_segments}
use Rattle.scavenger.specs.Walking.{AreKept, AreSpaces, IsToPromote, IsWellPlaced, Scavenging, at_left}
use Rattle.scavenger.specs.Handing.{HandsOver, HasLeft}
use Rattle.scavenger.proofs.Backs.{backs_of_all}
use Rattle.scavenger.proofs.FirstPages.{first_pages}
use Rattle.scavenger.proofs.FollowTiles.{tile_within}
use Rattle.scavenger.proofs.LoopGoing.{changes_since, same_spaces}
use Rattle.scavenger.proofs.PagesRuns.{run_of_word}
use Rattle.scavenger.proofs.PagesSlots.{page_stays}
use Rattle.scavenger.proofs.PagesWords.{StaysIn}
use Rattle.scavenger.proofs.SameSizes.{same_words}
use Rattle.scavenger.proofs.TargetCells.{run_ends}

-- how far a scavenge has come then: copies to the segment go to its start, so many words were copied, and no run has
-- more words than a page
abbrev pub handed_progress : Mutator → ℕ → Progress
handed_progress main many = record {
  fill = room_start main.seat.space (other_half main.young.half);
  copied = many;
  refused = page_words + 1;
}

-- a page stands as well with copies that stand in no page
with_young : {start : Start} {words : List ℕ} {rows : List (List Run)} (homes : List Home) (page : ℕ)
    → page < start.heap.space.sizes.pages
    → ((home : Home) → Contains homes home → eden_start start.heap.space ≤ home.to)
    → PageStands start words rows [] page → PageStands start words rows homes page
with_young {start} {words} {rows} homes page known young stands = record {
  cells = stands.cells;
  row = stands.row;
  each = λ cell there. elim (stands.each cell there) [
    | IsOfPage.stays were has no_run ↦ IsOfPage.stays were has no_run
    | IsOfPage.copy home among is ↦ absurd (none_in home among)
    | IsOfPage.free run is at size free no_number ↦ IsOfPage.free run is at size free no_number
  ];
  stay = stands.stay;
  copies = λ home there in_page. absurd (omega (arith, young home there, in_page.below, known));
  runs = stands.runs;
}

module _ {start now : Mutator} {handed : List SegmentCopies} {left : List ℕ} {many : ℕ}
    (hands : HandsOver start handed now left many) where
  -- what it begins with
  abbrev begins : Start
  begins = start_with start handed

  -- each copy stands in a segment
  handed_young : (home : Home) → Contains hands.homes home → eden_start start.seat.space ≤ home.to
  handed_young home there =
      let half : ℕ = other_half start.young.half in
      let found = from_one (λ (one : SegmentCopies). one.homes) handed home ((hands.same home).0 there) in
      let inside = tile_within (segment_from start.seat.space half found.one.worker)
      (segment_filled start.seat.space half hands.fixed found.one) found.one.homes home
      (hands.fills found.one found.among) found.has in
      omega (arith, inside.0)

  -- pages stand as they did
  handed_pages : PagesStand begins (heap_words now.seat) start.free hands.homes
  handed_pages page known =
      let space : Space = start.seat.space in
      let kinds = kinds_by_number space in
      let stays : StaysIn space (heap_words start.seat) (heap_words now.seat) (page_words * page)
      (page_words * page + page_words) =
      record {
        long = hands.changes.count;
        within = λ at from below. hands.outside at (inl (omega (arith, below, known)));
        layouts = λ shape less. hands.outside (layouts_start space + shape) (inr (omega (arith, kinds.layouts)));
      } in
      with_young hands.homes page known handed_young (page_stays page (first_pages hands.begun page known) stays)

  -- no copy stands in a page
  none_promoted : (at : ℕ) → IsInPromoted begins hands.fixed hands.homes at → ⊥
  none_promoted at copy = omega (arith, copy.2, handed_young copy.0 copy.1)

  -- no free word is one of a copy
  handed_apart : (at : ℕ) → IsFreeWord start.free at → IsInCopies hands.fixed hands.homes at → ⊥
  handed_apart at free copy =
      let run = run_of_word start.free at free in
      omega (
        arith,
        run.of_run.below,
        run_ends run.run hands.begun run.is,
        copy.2.from,
        handed_young copy.0 copy.1,
      )

  -- the segments are filled by what was handed over
  handed_filled : CopiesFillRooms begins hands.fixed (heap_words now.seat) start.free hands.homes
      (room_start start.seat.space begins.half)
  handed_filled = record {
    copying = hands.copying;
    stayed = [];
    tiles = Tiles.none (room_start start.seat.space begins.half);
    promoted = [];
    in_pages = λ home there. absurd (none_in home there);
    handed_by = hands.workers;
    handed = hands.fills;
    behind = hands.ends;
    same = hands.same;
    long = omega (arith, hands.words);
    pages = handed_pages;
    left = λ at. (
      λ free. inl free,
      λ either. elim either [ inl free ↦ free | inr copy ↦ absurd (none_promoted at copy) ],
    );
    free = hands.begun.apart;
    backs = backs_of_all start.free;
    apart = handed_apart;
  }

  -- no copy is one of a cell that is to be promoted
  handed_placed : IsWellPlaced begins hands.fixed start.free hands.homes false (page_words + 1)
  handed_placed =
      let stays : (home : Home) → Contains hands.homes home → IsToPromote start.seat.space false home.from → ⊥ =
      λ home there promote. elim promote [
        | inl all ↦ false≢true all
        | inr survivor ↦ omega (arith, survivor, hands.of_eden home there)
      ] in
      record {
        promoted = λ home there below. absurd (omega (arith, below, handed_young home there));
        stayed = λ home there promote. absurd (stays home there promote);
        none_fits = λ n some refused few. absurd (omega (arith, refused, few));
      }

  -- what is recorded refers to young cells
  handed_kept : AreKept begins hands.fixed (heap_words now.seat) hands.homes start.recorded.slots
  handed_kept at = (
    λ there.
        let was = (hands.begun.remembered at).0 there in
        let young : RefersToYoung (eden_start start.seat.space) (heap_words start.seat) at = was.1 in
        inl (
          there,
          record {
            word = young.word;
            stands = hands.outside at (inl (page_slot_below was.0)) ∙ young.stands;
            cell = young.cell;
            refers = young.refers;
            young = young.young;
          },
        ),
    λ either. elim either [
      | inl kept ↦ kept.0
      | inr slot ↦ absurd (omega (arith, slot.0.in_page, handed_young slot.0.home slot.0.among))
    ],
  )

  -- each live slot that refers to one of the cells is to do: it is a root, a recorded one, or was left
  handed_to_do : (slot place cell : ℕ) → StoodAt hands.fixed hands.homes slot place
      → RefersToAddress (heap_words now.seat) slot cell → Contains hands.fixed.cells cell
      → IsToDo begins hands.fixed hands.homes [] (at_left start.seat.space left) slot
  handed_to_do slot place cell (StoodAt.itself among same) refers is =
      elim ((hands.begun.begins.slots slot).0 among) [
        | inl root ↦ IsToDo.root (omega (arith, root.stands))
        | inr recorded ↦
            IsToDo.recorded (omega arith) (page_slot_below ((hands.begun.remembered slot).0 recorded).0) recorded
      ]
  handed_to_do slot place cell (StoodAt.in_cell home offset there visited stands stood) refers is =
      let words : List ℕ = heap_words now.seat in
      let was : RefersToAddress words (home.to + offset) cell =
      subst (λ (at : ℕ). RefersToAddress words at cell) (sym stands) refers in
      IsToDo.left (subst (Contains left) stands (hands.others home offset cell there visited was is))

  -- so a scavenge has come there, and the slots that were left are live
  pub handed_step : start.young.half ≤ 1 → start.recorded.bound ≡ eden_start start.seat.space
      → MayStore start → HasLeft start handed now false (handed_progress start many) [] left left
  handed_step two bounded quiet = record {
    state = record {
      fixed = hands.fixed;
      homes = hands.homes;
      two = two;
      bounded = bounded;
      quiet = λ mark. quiet (sym hands.changes.seat.phase ∙ mark);
      begun = hands.begun;
      filled = subst (λ (rows : List (List Run)). CopiesFillRooms begins hands.fixed (heap_words now.seat) rows
          hands.homes (room_start start.seat.space begins.half)) (sym hands.free) handed_filled;
      copied = hands.counted ∙ sym hands.words;
      placed = subst (λ (rows : List (List Run)). IsWellPlaced begins hands.fixed rows hands.homes false
          (page_words + 1)) (sym hands.free) handed_placed;
      kept = subst (λ (recorded : Recorded). AreKept begins hands.fixed
          (heap_words now.seat) hands.homes recorded.slots)
          (sym hands.recorded) handed_kept;
      listed = λ at there. absurd (none_in at there);
      few = omega arith;
      others = handed_to_do;
      changes = hands.changes;
    };
    live = hands.live;
  }

-- so it has with the spaces that the code has computed, and an empty list
pub comes_left : (start now : Mutator) (handed : List SegmentCopies) (graph : Graph) (left : List ℕ) (many : ℕ)
    (spaces : Spaces) (progress : Progress) (items : List ℕ) → MainShows start graph → MayStore start
    → IsYoung now.young → HandsOver start handed now left many → AreSpaces now.seat.space now.young.half false spaces
    → progress ≡ record { fill = spaces.room; copied = many; refused = page_words + 1 } → items ≡ []
    → HasLeft start handed now false progress items left left
comes_left start now handed graph left many spaces progress items shows quiet young hands are is_progress none =
    let two : start.young.half ≤ 1 =
    subst (λ (one : Young). one.half ≤ 1) hands.changes.young young.half in
    let room : spaces.room ≡ room_start start.seat.space (other_half start.young.half) =
    are.room ∙ ap (λ (space : Space). room_start space (other_half now.young.half)) hands.changes.seat.space
    ∙ ap (λ (one : Young). room_start start.seat.space (other_half one.half)) hands.changes.young in
    let Begun : ℕ → Progress = λ first. record { fill = first; copied = many; refused = page_words + 1 } in
    subst (λ (one : Progress). HasLeft start handed now false one items left left) (sym is_progress)
    (subst (λ (first : ℕ). HasLeft start handed now false (Begun first) items left left) (sym room)
    (subst (λ (todo : List ℕ). HasLeft start handed now false (handed_progress start many) todo left left) (sym none)
    (handed_step hands two shows.bounded quiet)))

-- What is known then, as the code begins: the slots are to do, and which words they have is known.
pub record LeavesSlots (start now : Mutator) (handed : List SegmentCopies) (left : List ℕ) (many : ℕ)
    (spaces : Spaces) (progress : Progress) (items : List ℕ) : Type 0 where
  pub hands : HandsOver start handed now left many
  pub has : HasLeft start handed now false progress items left left
  pub are : AreSpaces now.seat.space now.young.half false spaces
  pub young : IsYoung start.young

-- so it is where the code has begun
pub leaves_slots : (start old now : Mutator) (handed : List SegmentCopies) (graph : Graph) (left : List ℕ) (many : ℕ)
    (spaces : Spaces) (progress : Progress) (items : List ℕ) → MainShows start graph → MayStore start
    → IsYoung now.young → HandsOver start handed old left many → now ≡ old
    → AreSpaces old.seat.space old.young.half false spaces
    → progress ≡ record { fill = spaces.room; copied = many; refused = page_words + 1 } → items ≡ []
    → LeavesSlots start now handed left many spaces progress items
leaves_slots start old now handed graph left many spaces progress items shows quiet young hands same were is_progress
    none =
    let hands_now : HandsOver start handed now left many =
    subst (λ (one : Mutator). HandsOver start handed one left many) (sym same) hands in
    let are : AreSpaces now.seat.space now.young.half false spaces =
    subst (λ (one : Mutator). AreSpaces one.seat.space one.young.half false spaces) (sym same) were in
    record {
      hands = hands_now;
      has = comes_left start now handed graph left many spaces progress items shows quiet young hands_now are
          is_progress none;
      are = are;
      young = subst (λ (one : Young). IsYoung one) hands_now.changes.young young;
    }

-- What is known once they were followed: nothing but words has changed.
pub record LeftFollowed (new now : Mutator) (handed : List SegmentCopies) (fixed : Fixed) (many : ℕ)
    (spaces : Spaces) : Type 0 where
  pub same : new.seat.space ≡ now.seat.space
  pub tied : new.young.space ≡ new.seat.space
  pub are : AreSpaces new.seat.space new.young.half false spaces
  pub counted : many ≡ words_of_segments fixed handed

-- so it is
pub left_followed : {start now new : Mutator} {handed : List SegmentCopies} {graph : Graph} {left : List ℕ} {many : ℕ}
    {spaces : Spaces} {progress after : Progress} {items todo : List ℕ} {front : Front}
    (leaves : LeavesSlots start now handed left many spaces progress items)
    (state : Scavenging start handed new false after todo front) → MainShows start graph
    → LeftFollowed new now handed state.fixed many spaces
left_followed {handed = handed} {spaces = spaces} leaves state shows =
    let changes = changes_since leaves.has.state.changes state.changes in
    record {
      same = changes.seat.space;
      tied = ap (λ (young : Young). young.space) state.changes.young
          ∙ (shows.tied.space ∙ sym state.changes.seat.space);
      are = same_spaces spaces changes leaves.are;
      counted = leaves.hands.counted ∙ same_words leaves.hands.begun state.begun handed;
    }
