-- `del` is carried out as the call on fields says.
use Rattle.std.proofs.Common.{◌≡◌, ℕ, ◌==◌, true, false, cond, List, [], ◌∷◌, ◌++◌, length, Option, Ok, Err}
use Rattle.std.proofs.Common.{Some, None, refl, sym, ◌∙◌, ap, subst, arith}
use Rattle.std.specs.Prelude.{Bool, Contains}
use Rattle.std.specs.FinMap.{get}
use Rattle.std.proofs.lemmas.Option.{none-some}
use Rattle.heap_command.specs.declared.command.Command.TheVariants.{Del}
use Rattle.heap_command.specs.declared.command.FaultWord.TheVariants as word
use Rattle.heap_model.specs.Types.{Value, Field, Path}
use Rattle.object_graph.specs.declared.value.Value.TheVariants.{Ref}
use Rattle.object_graph.specs.declared.object.Object.TheVariants.{Plain}
use Rattle.object_graph.specs.Objects.{field_value, without_field}
use Rattle.object_graph.specs.Paths.{path_of, missing}
use Rattle.object_graph.specs.Graphs.{Graph, PlainObject, as_plain}
use Rattle.object_graph.specs.Meaning.{fault, reshape_if, meaning}
use Rattle.object_graph.specs.Invariants.{HasItsPath}
use Rattle.object_graph.specs.Limits.{ideal_limits}
use Rattle.shape_tree.proofs.GrownPaths.{missing-there}
use Rattle.shape_tree.proofs.LedPaths.{with_path-added}
use Rattle.heap_model.proofs.SlotWords.{All-slice_get}
use Rattle.write_barrier.specs.MutatorState.{Mutator, heap_of, MainShows}
use Rattle.object_cells.specs.PlainObjects.{IsPlainAt, LacksPaths}
use Rattle.shape_change.specs.FieldChanges.{HasDeletedField}
use Rattle.mutator.specs.declared.stop.Stop.TheVariants.{Fault}
use Rattle.mutator.specs.declared.lookups.Found.{Found}
use Rattle.mutator.specs.CarriesOut.{Carries}
use Rattle.mutator.specs.Reading.{IsFound}
use Rattle.mutator.proofs.KnownObjects.{IsKnown, known_found, change_carried}
use Rattle.mutator.proofs.FieldMeanings.{reshape_done, reshape_full, del_known}
use Rattle.mutator.proofs.ChangedWords.{still_keeps}
use Rattle.mutator.proofs.KeptStores.{keeps_still}
use Rattle.heap_model.specs.Needs.{capacity_at}
use Rattle.mutator.proofs.CommandRooms.{keeps_object}
use Rattle.mutator.proofs.Rebinding.{room_for_none}
use Rattle.mutator.proofs.StandingCells.{still_stands}
use Rattle.mutator.proofs.StillShown.{shows_still}

-- the same of a first field and the others, by whether it is the one
without_by : (test : Bool) (field : Field) (fields : List Field) (name : ℕ) → (field.name == name) ≡ test
    → cond test (Some field.value) (field_value fields name) ≡ None
    → (field_value fields name ≡ None → without_field fields name ≡ fields)
    → without_field (field ∷ fields) name ≡ field ∷ fields
without_by true field fields name is none more = absurd (none-some field.value (sym none))
without_by false field fields name is none more =
    ap (λ t. cond t fields (field ∷ without_field fields name)) is ∙ ap (λ rest. field ∷ rest) (more none)

-- where a field is not there, nothing is taken out
without_none : (fields : List Field) (name : ℕ) → field_value fields name ≡ None → without_field fields name ≡ fields
without_none [] name none = refl
without_none (field ∷ fields) name none =
    without_by (field.name == name) field fields name refl none (without_none fields name)

-- the paths of an object that is there are not lacking
own_path_there : {main : Mutator} {graph : Graph} {at : ℕ} {plain : PlainObject} → MainShows main graph
    → IsPlainAt main graph at plain → LacksPaths graph plain plain.fields → ⊥
own_path_there {main} {graph} {plain = plain} shows is lacks =
    let path : Path = path_of plain.cap plain.fields in
    let among : Contains graph.paths path =
    All-slice_get (HasItsPath graph.paths) graph.objects plain.number
    (Plain plain.cap plain.proto plain.fields) shows.is_graph.shaped
    is.object in
    let none : missing graph.paths path ≡ [] = missing-there graph.paths path shows.is_graph.paths among in
    let few = shows.shows.whole.sized.shapes.few in
    let added = with_path-added graph.paths (graph.paths ++ missing graph.paths path) path refl
    (omega (arith, ap length none, few, ap length shows.shows.paths)) in
    none-some (graph.paths ++ missing graph.paths path) (sym lacks ∙ added)

-- what is known once the variable of a `del` and its object were found
pub record IsTaking (main : Mutator) (graph : Graph) (x at : ℕ) : Type 0 where
  pub plain : PlainObject
  pub shows : MainShows main graph
  pub known : IsKnown as_plain graph x (Ref plain.number) plain
  pub stands : IsPlainAt main graph at plain

-- so it is once they were read
pub taking_known : {main : Mutator} {graph : Graph} {where_at : Found} (x : ℕ) (target : Value) → MainShows main graph
    → get graph.bindings x ≡ Some target → IsFound main graph target where_at → IsTaking main graph x where_at.at
taking_known x target shows is found = record {
  plain = found.plain;
  shows = shows;
  known = known_found is found.is found.refers;
  stands = found.stands;
}

-- what `del` comes to by whether the field is there
taken_by : {old main new : Mutator} {graph : Graph} {x at : ℕ} (names : List (List ℕ)) (f : ℕ) (found : Option Value)
    → main ≡ old → (taking : IsTaking main graph x at) → field_value taking.plain.fields f ≡ found
    → HasDeletedField main new graph at taking.plain f → Carries names old new graph (Del x f) [] (Ok tt)
taken_by {main = main} {new} {graph} {x} names f None same taking is taken =
    let plain = taking.plain in
    let still = shows_still (taken.none is) taking.shows in
    subst (λ main. Carries names main new graph (Del x f) [] (Ok tt)) same
    (record {
      after = graph;
      means = del_known names f taking.known
          ∙ ap (λ one. reshape_if ideal_limits graph plain one (without_field plain.fields f)) is;
      shows = still;
      cells = still_stands graph (taken.none is);
      takes = λ rooms has. record {
        room = room_for_none taking.shows;
        uses = taken.uses;
        words = still_keeps graph (Del x f) (taken.none is);
        stores = keeps_still (Del x f) (taken.none is) taking.shows still has (λ number marked. marked) refl
            (λ number. refl);
      };
    })
taken_by {main = main} {graph = graph} {x} {at} names f (Some value) same taking is taken =
    let plain = taking.plain in
    let fields = without_field plain.fields f in
    let stands = taking.stands in
    change_carried names same taking.shows taken.shows.shows
    (del_known names f taking.known ∙ ap (λ one. reshape_if ideal_limits graph plain one fields) is
    ∙ reshape_done graph plain fields taken.shows.paths taken.shows.added)
    refl refl taking.known.bound stands.place taken.changes (room_for_none taking.shows) taken.uses (λ rooms has. refl)
    (λ rooms one fewer.
    keeps_object one fewer (Del x f) (Plain plain.cap plain.proto fields) (capacity_at (heap_of main) at) refl
    stands.object stands.reached stands.place refl (one.has plain.number at _ stands.object stands.reached stands.place)
    (λ number apart. refl) taken.changes)

-- a field that was taken out, or was not there
pub del_carried : {old main new : Mutator} {graph : Graph} {x at : ℕ} (names : List (List ℕ)) (f : ℕ) → main ≡ old
    → (taking : IsTaking main graph x at) → HasDeletedField main new graph at taking.plain f
    → Carries names old new graph (Del x f) [] (Ok tt)
del_carried names f same taking taken =
    taken_by names f (field_value taking.plain.fields f) same taking refl taken

-- where the fields that are left lack paths, that is the fault
stopped_by_paths : {main : Mutator} {graph : Graph} {x at : ℕ} (names : List (List ℕ)) (f : ℕ) (found : Option Value)
    → (taking : IsTaking main graph x at) → field_value taking.plain.fields f ≡ found
    → LacksPaths graph taking.plain (without_field taking.plain.fields f)
    → meaning ideal_limits names graph (Del x f) ≡ fault word.ShapesFull
stopped_by_paths {graph = graph} names f None taking is lacks =
    absurd (own_path_there taking.shows taking.stands
    (subst (LacksPaths graph taking.plain) (without_none taking.plain.fields f is) lacks))
stopped_by_paths {graph = graph} names f (Some value) taking is lacks =
    let plain = taking.plain in
    let fields = without_field plain.fields f in
    del_known names f taking.known ∙ ap (λ one. reshape_if ideal_limits graph plain one fields) is
    ∙ reshape_full graph plain fields lacks

-- and one that was not, as there may not be as many paths
pub del_stopped : {main new : Mutator} {graph : Graph} {x at : ℕ} (names : List (List ℕ)) (f : ℕ)
    → (taking : IsTaking main graph x at) → LacksPaths graph taking.plain (without_field taking.plain.fields f)
    → new ≡ main → Carries names main new graph (Del x f) [] (Err (Fault word.ShapesFull))
del_stopped names f taking lacks same =
    (stopped_by_paths names f (field_value taking.plain.fields f) taking refl lacks, same)
