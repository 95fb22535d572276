-- A command that finds words of a page granted where eden has not the words that it needs: what it spends.
use Rattle.std.proofs.Common.{◌≡◌, ◌≢◌, ◌∙◌, ◌↔◌, ℕ, ◌+◌, Bool, true, false, List, length, ◌==◌, if◌then◌else◌}
use Rattle.std.proofs.Common.{refl, sym, ap, subst, arith, inl, inr}
use Rattle.std.proofs.lemmas.Bool.Decides.{nat_tests}
use Rattle.heap_model.specs.Types.{Command, Run}
use Rattle.object_graph.specs.Graphs.{Graph}
use Rattle.heap_model.specs.Collectable.{AreFreeRuns}
use Rattle.heap_model.specs.Heaps.{Heap}
use Rattle.heap_model.specs.Slots.{IsPlace}
use Rattle.heap_model.specs.Needs.{capacity_at}
use Rattle.heap_model.specs.Rooms.{Room, HasRooms, need_of}
use Rattle.heap_model.proofs.ShownRooms.{shown_objects_have_rooms}
use Rattle.nursery.specs.Young.{Young, HasRoom, in_eden, bumped, with_granted, rest_of}
use Rattle.free_runs.specs.FreeRuns.{TakesFront}
use Rattle.page_space.specs.Extents.{Space, eden_start}
use Rattle.write_barrier.specs.MutatorState.{Mutator, heap_of, IsTied, MainShows}
use Rattle.object_cells.specs.Contents.{next_at}
use Rattle.scavenger.specs.Granting.{Grants}
use Rattle.scavenger.specs.Laws.{KeepsGraphs}
use Rattle.scavenger.proofs.Granted.{grants_keep_stores}
use Rattle.scavenger.proofs.PagesRuns.{whole, whole_is, taken_at, taken_words, one_run_at}
use Rattle.collector.specs.Making.{Serves}
use Rattle.collector.proofs.MadeRoom.{served_rows}
use Rattle.mutator.specs.Capacities.{KeepsStores}
use Rattle.mutator.specs.CarriesOut.{TakesRoom, FindsMapNotFull}
use Rattle.mutator.specs.Changing.{MayStandAfter, MakesNoOtherCell}
use Rattle.heap_script.specs.Collecting.{LacksWords}
use Rattle.heap_script.specs.Spending.{UsesNeed, Allocates}
use Rattle.heap_script.specs.Stages.{Collections, uncollected, SpendsWords, IsCutWord, stage_of}
use Rattle.heap_script.proofs.GrantedOthers.{granted_keeps}
use Rattle.heap_script.proofs.Lacking.{not_lacking, full_for}

-- What a command that is none of the collector's finds of a heap in which nothing is granted, behind these collections
-- since the last line: the heap itself; or, where a collection came, and left eden empty and without the
-- words that the command needs, the heap with so many words granted.
pub data Served (old found : Mutator) (graph : Graph) (collections : Collections) (command : Command) : Type 0 where
  as_it_is : found ≡ old → Served old found graph collections command
  by_grant : (need : ℕ) → collections ≢ uncollected → LacksWords old graph command need → old.young.used ≡ 0
      → Grants old found need → KeepsGraphs old found → Served old found graph collections command

-- so it is where eden is empty behind a collection, and there is room for the words that the command needs
pub served : {old found : Mutator} {graph : Graph} {collections : Collections} {command : Command} {need : ℕ}
    → Serves old found need → collections ≢ uncollected
    → ((rooms : ℕ → Room) → HasRooms (heap_of old) graph rooms → need ≡ need_of graph rooms command)
    → FindsMapNotFull old graph command → old.young.used ≡ 0 → Served old found graph collections command
served (Serves.eden room is) some needs unfull empty = Served.as_it_is is
served {need = need} (Serves.granted lacks grants keeps) some needs unfull empty =
    Served.by_grant need some (record { needs = needs; lacks = lacks; unfull = unfull }) empty grants keeps

-- What a command that was carried out has done: it allocated, nothing is granted any more, so many pages have rows of
-- free runs, and the phase is the same.
pub record HasAllocated (old new : Mutator) (graph after : Graph) (collections : Collections) (command : Command)
    : Type 0 where
  pub allocates : Allocates (stage_of old) (stage_of new) graph after collections command
  pub ungranted : in_eden new.young ≡ true
  pub rows : length new.free ≡ length old.free
  pub phase : new.seat.phase ≡ old.seat.phase

-- What a command that is carried out takes of the heap that it finds, and leaves: which cells stand, and that free runs
-- are free cells.
pub record Takes (old new : Mutator) (graph after : Graph) (command : Command) : Type 0 where
  pub room : (rooms : ℕ → Room) → HasRooms (heap_of old) graph rooms → TakesRoom old new graph after command rooms
  pub cells : MakesNoOtherCell (heap_of old) (heap_of new) after
  pub free : AreFreeRuns (heap_of new) new.free

-- where cells are made in eden, the next one is made behind its used words
next_in_eden : (main : Mutator) → IsTied main → in_eden main.young ≡ true
    → next_at main ≡ eden_start main.seat.space + main.young.used
next_in_eden main tied ungranted =
    ap (λ (b : Bool). if b then eden_start main.young.space + main.young.used else main.young.granted.at) ungranted
    ∙ ap (λ (space : Space). eden_start space + main.young.used) tied.space

-- where cells are made in eden, it is eden whose words are used
used_of_eden : (old : Young) {new : Young} (n : ℕ) → in_eden old ≡ true → new ≡ bumped old n → new.used ≡ old.used + n
used_of_eden old n ungranted is =
    ap (λ (young : Young). young.used) is
    ∙ ap (λ (b : Bool). if b then old.used + n else old.used) ungranted

-- and nothing comes to be granted
still_ungranted : (old : Young) {new : Young} (n : ℕ) → in_eden old ≡ true → new ≡ bumped old n → in_eden new ≡ true
still_ungranted old n ungranted is =
    ap in_eden is
    ∙ ap (λ (b : Bool). (if b then old.granted else rest_of old.granted n).words == 0) ungranted ∙ ungranted

-- a command that finds the heap itself spends words of eden
allocated_in_eden : {old new : Mutator} {graph after : Graph} {collections : Collections} (command : Command)
    → MainShows old graph → in_eden old.young ≡ true → FindsMapNotFull old graph command
    → Takes old new graph after command → HasAllocated old new graph after collections command
allocated_in_eden {old} {new} {graph} command shows ungranted unfull takes =
    let (some, had) = shown_objects_have_rooms (heap_of old) graph shows.shows in
    let one = takes.room some had in
    let next = next_in_eden old shows.tied ungranted in
    record {
      allocates = record {
        space = one.uses.beside.space;
        survivors = ap (λ (young : Young). young.survivors) one.uses.young;
        free = takes.free;
        cells = takes.cells;
        unfull = λ (entries, finds). unfull entries finds;
        uses = λ rooms has.
            let taken = takes.room rooms has in
            let need = need_of graph rooms command in
            record {
              spends = SpendsWords.of_eden (not_lacking old need shows.tied ungranted taken.room)
                  (used_of_eden old.young need ungranted taken.uses.young) taken.uses.free;
              words = λ word before not_changed not_spent. taken.words word before not_changed
                  (λ from below. not_spent (omega (arith, from, next), omega (arith, below, next)));
              stores = taken.stores;
            };
      };
      ungranted = still_ungranted old.young (need_of graph some command) ungranted one.uses.young;
      rows = ap length one.uses.free;
      phase = one.uses.beside.phase;
    }

-- where all granted words are used, none of an empty eden is
none_used : (used words n : ℕ) (b : Bool) → words ≡ n → (words == 0) ≡ b → used ≡ 0
    → (if b then used + n else used) ≡ 0
none_used used words n true all none empty = grind (arith, nat_tests)
none_used used words n false all some empty = empty

-- and nothing is granted any more
none_left : (run : Run) (n : ℕ) (b : Bool) → run.words ≡ n → (run.words == 0) ≡ b
    → ((if b then run else rest_of run n).words == 0) ≡ true
none_left run n true all none = none
none_left run n false all some = grind (arith, nat_tests)

-- so it is with what a new young generation comes to have
used_of_run : (old mid : Young) {new : Young} (run : Run) (n : ℕ) → mid ≡ with_granted old run → run.words ≡ n
    → old.used ≡ 0 → new ≡ bumped mid n → new.used ≡ 0
used_of_run old mid run n has words empty is =
    ap (λ (young : Young). young.used) is ∙ ap (λ (young : Young). (bumped young n).used) has
    ∙ none_used old.used run.words n (run.words == 0) words refl empty

-- a young generation that has used up what was granted has its next object in eden again
ungranted_again : (old mid : Young) {new : Young} (run : Run) (n : ℕ) → mid ≡ with_granted old run → run.words ≡ n
    → new ≡ bumped mid n → in_eden new ≡ true
ungranted_again old mid run n has words is =
    ap in_eden is ∙ ap (λ (young : Young). in_eden (bumped young n)) has
    ∙ none_left run n (run.words == 0) words refl

-- where objects stand as they stood, a command keeps the stores of those before
stores_before : {old found new : Heap} {graph after : Graph} {command : Command} {rooms : ℕ → Room}
    → ((number at : ℕ) → (IsPlace old number at ↔ IsPlace found number at)
    × (IsPlace old number at → capacity_at found at ≡ capacity_at old at))
    → KeepsStores found new graph after command rooms → KeepsStores old new graph after command rooms
stores_before stands stores = record {
  has = stores.has;
  stays = λ number at place. stores.stays number at ((stands number at).0.0 place);
  others = λ number at place same.
      stores.others number at ((stands number at).0.0 place) same ∙ (stands number at).1 place;
  made = λ number at place none. stores.made number at place (λ stood. none ((stands number at).0.1 stood));
}

module _ {old found new : Mutator} {graph after : Graph} {collections : Collections} (command : Command) {need : ℕ}
    (shows : MainShows old graph) (ungranted : in_eden old.young ≡ true) (some : collections ≢ uncollected)
    (lacks : LacksWords old graph command need) (empty : old.young.used ≡ 0) (grants : Grants old found need)
    (keeps : KeepsGraphs old found) (takes : Takes found new graph after command) where
  -- a command that finds granted words takes them, by the rooms that objects had before
  takes_by : (rooms : ℕ → Room) → HasRooms (heap_of old) graph rooms → TakesRoom found new graph after command rooms
  takes_by rooms has = takes.room rooms ((keeps.rooms graph rooms shows).0 has)

  -- the front of the run was taken
  front_taken : (rooms : ℕ → Room) → HasRooms (heap_of old) graph rooms
      → TakesFront old.free new.free (need_of graph rooms command) grants.run
  front_taken rooms has =
      subst (λ (rows : List (List Run)). TakesFront old.free rows (need_of graph rooms command) grants.run)
      (sym (takes_by rooms has).uses.free)
      (subst (λ (count : ℕ). TakesFront old.free found.free count grants.run) (lacks.needs rooms has) grants.takes)

  -- of the run of which words were granted
  same_run : {n : ℕ} (taken : TakesFront old.free new.free n grants.run) → whole grants.takes ≡ whole taken
  same_run taken =
      one_run_at old.free (whole grants.takes) (whole taken) grants.own (whole_is grants.takes) (whole_is taken)
      (sym (taken_at grants.takes) ∙ taken_at taken)

  -- it spends those words, and objects stand where they stood
  uses_run : (rooms : ℕ → Room) → HasRooms (heap_of old) graph rooms
      → UsesNeed (stage_of old) (stage_of new) graph after collections command rooms
  uses_run rooms has =
      let taken = takes_by rooms has in
      let n = need_of graph rooms command in
      let same : need ≡ n = lacks.needs rooms has in
      let front = front_taken rooms has in
      record {
        spends = SpendsWords.of_page grants.run some
            (full_for old n shows.tied ungranted (λ room. lacks.lacks (subst (HasRoom old.young) (sym same) room)))
            empty
            (used_of_run old.young found.young grants.run n grants.young (taken_words front) empty taken.uses.young)
            front;
        words = λ word before not_changed not_spent.
            granted_keeps shows grants (heap_of new) n same taken.words word before not_changed
            (λ cut. not_spent (subst (λ (run : Run). IsCutWord run n word) (same_run front) cut));
        stores = stores_before (grants_keep_stores old found graph need shows grants) taken.stores;
      }

  -- no cell stands but those that stood before the grant, and those that may
  cells_before : MakesNoOtherCell (heap_of old) (heap_of new) after
  cells_before cell words has = elim (takes.cells cell words has) [
    | MayStandAfter.stood stood ↦ elim (grants.back cell words stood) [
      | inl before ↦ MayStandAfter.stood before.0
      | inr free ↦ MayStandAfter.free free
    ]
    | MayStandAfter.free free ↦ MayStandAfter.free free
    | MayStandAfter.boxed boxed ↦ MayStandAfter.boxed boxed
    | MayStandAfter.reached reached ↦ MayStandAfter.reached reached
  ]

  -- so the grant and the command together allocate on the heap
  allocated_in_page : HasAllocated old new graph after collections command
  allocated_in_page =
      let (rooms, has) = shown_objects_have_rooms (heap_of old) graph shows.shows in
      let taken = takes_by rooms has in
      let n = need_of graph rooms command in
      let words : grants.run.words ≡ n = taken_words grants.takes ∙ lacks.needs rooms has in
      record {
        allocates = record {
          space = taken.uses.beside.space ∙ grants.beside.space;
          survivors = ap (λ (young : Young). young.survivors) taken.uses.young
              ∙ ap (λ (young : Young). young.survivors) grants.young;
          free = takes.free;
          cells = cells_before;
          unfull = λ (entries, finds). lacks.unfull entries finds;
          uses = uses_run;
        };
        ungranted = ungranted_again old.young found.young grants.run n grants.young words taken.uses.young;
        rows = ap length taken.uses.free ∙ served_rows (Serves.granted lacks.lacks grants keeps);
        phase = taken.uses.beside.phase ∙ grants.beside.phase;
      }

-- a command that is carried out on what it finds of a heap in which nothing is granted allocates on that heap
pub allocated : {old found new : Mutator} {graph after : Graph} {collections : Collections} (command : Command)
    → MainShows old graph → in_eden old.young ≡ true → Served old found graph collections command
    → FindsMapNotFull found graph command → Takes found new graph after command
    → HasAllocated old new graph after collections command
allocated {old} {found} {new} {graph} {after} command shows ungranted (Served.as_it_is is) unfull takes =
    allocated_in_eden command shows ungranted
    (subst (λ (main : Mutator). FindsMapNotFull main graph command) is unfull)
    (subst (λ (main : Mutator). Takes main new graph after command) is takes)
allocated command shows ungranted (Served.by_grant need some lacks empty grants keeps) unfull takes =
    allocated_in_page command shows ungranted some lacks empty grants keeps takes
