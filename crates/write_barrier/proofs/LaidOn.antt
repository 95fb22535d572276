-- What stays where paths are added with their layout words.
use Rattle.std.proofs.Common.{◌≡◌, ◌≢◌, ℕ, ◌+◌, ◌<◌, inl, inr, IsTrue, IsSome, IfSome, List, ◌++◌, length, min, take}
use Rattle.std.proofs.Common.{All, Contains, Option, Some, false, slice_get, slice_index, unwrap_or, refl, sym}
use Rattle.std.proofs.Common.{◌∙◌, ap, subst, arith}
use Rattle.std.proofs.lemmas.Bool.{cases_lt}
use Rattle.std.proofs.lemmas.List.{ext_get_or, get_or-take, length-take}
use Rattle.std.proofs.lemmas.List.Elements.{All-contains_itself}
use Rattle.std.proofs.lemmas.Option.{slice_get_within, unwrap_or-slice_get}
use Rattle.tagged_word.specs.Layouts.{layout_bits}
use Rattle.tagged_word.specs.Readings.{read_cell}
use Rattle.tagged_word.specs.Shapes.{first_path_shape, shapes_most}
use Rattle.tagged_word.proofs.Cells.{some_same}
use Rattle.tagged_word.proofs.CellReadings.{cell_from, cell_to}
use Rattle.tagged_word.proofs.Layouts.{kind_number-some}
use Rattle.cell_layout.specs.Cells.{layouts_in}
use Rattle.cell_layout.proofs.CellsThere.{slice_get-layouts_in}
use Rattle.cycle_state.specs.Cycles.{main_of, words_of_pages}
use Rattle.heap_model.specs.Types.{Path}
use Rattle.heap_model.specs.Wholeness.{HasSizes}
use Rattle.mark_laws.proofs.Growing.{grown_from_itself}
use Rattle.mark_laws.proofs.Starts.{value_of}
use Rattle.mark_laws.specs.PageWords.{HasMainSound}
use Rattle.mark_laws.specs.Types.{Reading, World}
use Rattle.mark_world.specs.Coverage.{cell_of}
use Rattle.mark_world.specs.Cycles.{Cycle}
use Rattle.mark_world.specs.Pages.{OfTarget, is_free, is_inside, page_end, slots_of}
use Rattle.mark_world.specs.Soundness.{AreIn}
use Rattle.object_graph.specs.Paths.{missing}
use Rattle.page_space.specs.Extents.{Space, eden_start, layouts_start}
use Rattle.page_space.proofs.Starts.{layouts_start_is, roots_start_is}
use Rattle.remembered_set.specs.Recorded.{Recorded}
use Rattle.write_barrier.specs.Layouts.{AreLayouts}
use Rattle.write_barrier.specs.MutatorState.{Mutator, heap_of, world_of}
use Rattle.write_barrier.specs.Opening.{LaysPath}
use Rattle.write_barrier.specs.Storing.{StoresOn}
use Rattle.write_barrier.proofs.AddedPaths.{added_behind}
use Rattle.write_barrier.proofs.CycleSteps.{layouts_count}
use Rattle.write_barrier.proofs.PutLayouts.{layouts_grown}
use Rattle.write_barrier.proofs.SeenWorlds.{SeesOn, seen}
use Rattle.write_barrier.proofs.StoresOn.{stores_by}

-- each layout word that is not 0 is among others
abbrev LaidAmong : List ℕ → List ℕ → Type 0
LaidAmong layouts others =
    (shape word : ℕ) → slice_get layouts shape ≡ Some word → word ≢ 0 → slice_get others shape ≡ Some word

-- a cell is read as before where layout words are more
laid_keeps : (words layouts others : List ℕ) (start bound : ℕ) (cell : Reading) → LaidAmong layouts others
    → read_cell words layouts start bound ≡ Some cell → read_cell words others start bound ≡ Some cell
laid_keeps words layouts others start bound cell among e =
    let reads = cell_from words layouts start bound cell e in
    let some : layout_bits cell.layout ≢ 0 = λ none. absurd (omega (arith, none, kind_number-some cell.layout.kind)) in
    cell_to words others start bound cell record {
      is_header = reads.is_header;
      first = reads.first;
      known = reads.known;
      is_layout = reads.is_layout;
      of_shape = among cell.header.shape (layout_bits cell.layout) reads.of_shape some;
      second = reads.second;
      sized = reads.sized;
      ends = reads.ends;
      there = reads.there;
    }

module _ (old : ℕ) (words layouts others : List ℕ) (cycle : Cycle) (long : length others ≡ shapes_most)
    (among : LaidAmong layouts others) (sound : HasMainSound (seen old words layouts cycle)) where
  abbrev was : World
  was = seen old words layouts cycle

  abbrev now : World
  now = seen old words others cycle

  -- a free start's cell is read as before
  same_cell : (start : ℕ) → IsTrue (is_free (main_of cycle) start) → cell_of now start ≡ cell_of was start
  same_cell start free =
      let v = value_of (cell_of was start) (sound.read start free) in
      laid_keeps words layouts others start (min old (page_end start)) v.0 among v.1 ∙ sym v.1

  -- so the world goes on
  laid_sees : SeesOn was now
  laid_sees = record {
    sound = record {
      pages = sound.pages;
      addresses = sound.addresses;
      within = sound.within;
      shapes = long;
      read = λ start free. subst (λ (o : Option Reading). IsSome o) (sym (same_cell start free))
          (sound.read start free);
      apart = λ start free other other_free differ.
          subst (λ (o : Option Reading). is_inside start o other ≡ false) (sym (same_cell start free))
          (sound.apart start free other other_free differ);
      born = sound.born;
      mine = sound.mine;
      mine_born = sound.mine_born;
      mine_old = sound.mine_old;
      sure_born = sound.sure_born;
      owed_born = sound.owed_born;
      slots = λ start free is_born.
          subst (λ (o : Option Reading). IfSome o (λ cell. All (λ offset.
          OfTarget old (slice_index words (start + offset)) (Contains cycle.born)) (slots_of cell)))
          (sym (same_cell start free)) (sound.slots start free is_born);
    };
    goes = record {
      old = refl;
      long = refl;
      grows = grown_from_itself (main_of cycle);
      free = λ start free. free;
      reads = λ start free cell is. record {
        cell = cell;
        is = same_cell start free ∙ is;
        one_kind = refl;
        widens = record { size = refl; slots = All-contains_itself (slots_of cell) };
      };
    };
  }

-- words that agree up to an address are the same up to it
same_up_to : (many : ℕ) (words others : List ℕ) → length others ≡ length words
    → ((a : ℕ) → a < many → slice_get others a ≡ slice_get words a) → take many others ≡ take many words
same_up_to many words others counted same =
    let were = length-take many words in
    let are = length-take many others in
    ext_get_or 0 (take many others) (take many words) (omega (arith, were, are, counted)) (λ a below.
    let few : a < many = omega (arith, below, are) in
    get_or-take many others a 0 few
    ∙ sym (unwrap_or-slice_get others a 0) ∙ ap (λ (o : Option ℕ). unwrap_or o 0) (same a few)
    ∙ unwrap_or-slice_get words a 0
    ∙ sym (get_or-take many words a 0 few))

-- layout words of paths are among those of these paths and others behind them
laid_among : (space : Space) (words others : List ℕ) (paths more : List Path)
    → length (layouts_in space words) ≡ shapes_most
    → AreLayouts words (layouts_start space) paths → AreLayouts others (layouts_start space) (paths ++ more)
    → LaidAmong (layouts_in space words) (layouts_in space others)
laid_among space words others paths more counted were are shape word stands some =
    let few : shape < shapes_most =
    omega (arith, counted, slice_get_within (layouts_in space words) shape word stands) in
    let stood = sym (slice_get-layouts_in space words shape few) ∙ stands in
    let below = layouts_grown words (layouts_start space) paths more were in
    elim (cases_lt shape (first_path_shape + length paths)) [
      | inl known ↦ slice_get-layouts_in space others shape few ∙ are shape few
          ∙ sym (below.known shape known few) ∙ stood
      | inr past ↦ absurd (some (some_same stood (below.rest shape past few)))
    ]

-- where paths are added with their layout words, the world goes on
pub path_stores_on : {old new : Mutator} {path : Path} {shape : ℕ} → HasSizes (heap_of old)
    → LaysPath old new path shape → StoresOn old new
path_stores_on {old} {new} {path} {shape} sizes lays =
    let changes = lays.changes in
    let space = old.seat.space in
    let same_space : new.seat.space ≡ space = changes.seat.space in
    let more = missing old.paths path in
    let many : ℕ = eden_start space in
    let words : take many new.seat.table ≡ take many old.seat.table =
    same_up_to many old.seat.table new.seat.table changes.count (λ a few.
    changes.beside a (inl (omega (arith, few, roots_start_is space, layouts_start_is space)))) in
    let are : AreLayouts new.seat.table (layouts_start space) new.paths =
    subst (λ (one : Space). AreLayouts new.seat.table (layouts_start one) new.paths) same_space lays.sized.layouts in
    let behind : new.paths ≡ old.paths ++ more = added_behind old.paths new.paths path lays.leads.added in
    let count = layouts_count space old.seat.table sizes.words in
    let long = layouts_count space new.seat.table (changes.count ∙ sizes.words) in
    let among = laid_among space old.seat.table new.seat.table old.paths more count sizes.layouts
    (subst (AreLayouts new.seat.table (layouts_start space)) behind are) in
    let here : world_of new ≡ seen many (words_of_pages (heap_of old)) (layouts_in space new.seat.table) old.cycle =
    ap (λ (one : Space). seen (eden_start one) (take (eden_start one) new.seat.table)
    (layouts_in one new.seat.table) new.cycle) same_space
    ∙ ap (λ (all : List ℕ). seen many all (layouts_in space new.seat.table) new.cycle) words
    ∙ ap (λ (one : Cycle). seen many (take many old.seat.table) (layouts_in space new.seat.table) one) changes.cycle in
    stores_by same_space changes.seat.phase (ap (λ (one : Recorded). one.bound) changes.recorded)
    (changes.cycle ∙ ap (λ (list : List ℕ). record old.cycle { sure = list })
    (ap (λ (one : Cycle). one.sure) (sym changes.cycle)))
    (subst (λ (one : Cycle). AreIn one.sure old.cycle.sure) (sym changes.cycle) (All-contains_itself old.cycle.sure))
    (λ had. lays.sized.layouts)
    (λ mark readable. subst (SeesOn (world_of old)) (sym here)
    (laid_sees many (words_of_pages (heap_of old)) (layouts_in space old.seat.table) (layouts_in space new.seat.table)
    old.cycle long among readable.view))
