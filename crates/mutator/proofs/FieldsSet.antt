-- `set` is carried out as the call on fields says.
use Rattle.std.proofs.Common.{◌≡◌, refl, ℕ, List, [], Result, Ok, Err, Some, ◌∙◌, sym, subst, inl, inr}
use Rattle.std.proofs.lemmas.Bool.{cases_lt}
use Rattle.std.specs.FinMap.{get}
use Rattle.heap_model.specs.Types.{Operand, Value, Held, Header}
use Rattle.heap_command.specs.declared.command.Command.TheVariants.{Set}
use Rattle.object_graph.specs.declared.value.Value.TheVariants.{Ref}
use Rattle.object_graph.specs.Objects.{with_field}
use Rattle.object_graph.specs.Paths.{path_of, with_path}
use Rattle.object_graph.specs.Graphs.{Graph, PlainObject, value_of, as_plain}
use Rattle.object_graph.specs.Meaning.{refill}
use Rattle.object_graph.specs.Limits.{paths_most}
use Rattle.tagged_word.specs.Shapes.{first_path_shape}
use Rattle.handle_roots.specs.declared.given.Given.{Given}
use Rattle.handle_roots.specs.Givens.{IsGivenFor}
use Rattle.write_barrier.specs.MutatorState.{Mutator, MainShows}
use Rattle.object_cells.specs.PlainObjects.{IsPlainAt}
use Rattle.object_cells.specs.HeldValues.{IsValueHeld}
use Rattle.shape_change.specs.FieldChanges.{IsShownSetting, MaySet, HasSetField, Sets, SetsField}
use Rattle.shape_change.specs.declared.stop.FieldStop.{FieldStop}
use Rattle.shape_change.specs.declared.stop.FieldStop.TheVariants.{NotPlain, FieldsFull, ShapesFull, Full}
use Rattle.mutator.specs.Stops.{stop_of, stop_in}
use Rattle.mutator.specs.CarriesOut.{Carries}
use Rattle.mutator.specs.Reading.{FindsGiven, FindsHeader, FindsHeaded}
use Rattle.mutator.proofs.KnownObjects.{IsKnown, known_found, change_carried}
use Rattle.mutator.proofs.FieldMeanings.{reshape_done, reshape_full, paths_there, set_room, set_full, set_lacks}
use Rattle.mutator.proofs.CommandRooms.{set_need_is, keeps_set}
use Rattle.mutator.proofs.FoundKinds.{headed_plain, finds_no_plain}
use Rattle.mutator.proofs.StillShown.{shows_still, stands_still, header_still}

-- what is known once the variables of a `set` and its object were found
pub record IsSetting (main : Mutator) (graph : Graph) (x : ℕ) (v : Operand) (at : ℕ) (one : Held) : Type 0 where
  pub plain : PlainObject
  pub value : Value
  pub shows : MainShows main graph
  pub known : IsKnown as_plain graph x (Ref plain.number) plain
  pub value_is : value_of graph v ≡ Some value
  pub stands : IsPlainAt main graph at plain
  pub held : IsValueHeld main graph one value

-- the call on the field may be made
pub setting_shown : {main : Mutator} {graph : Graph} {x at : ℕ} {v : Operand} {one : Held}
    → IsSetting main graph x v at one → IsShownSetting main at one
setting_shown {graph = graph} setting = record {
  graph = graph;
  plain = setting.plain;
  value = setting.value;
  shows = setting.shows;
  is = setting.stands;
  is_held = setting.held;
}

-- a field that was set
pub set_carried : {old main new : Mutator} {graph : Graph} {x at : ℕ} {v : Operand} {one : Held}
    (names : List (List ℕ)) (f : ℕ) → main ≡ old
    → (setting : IsSetting main graph x v at one) → HasSetField main new graph at setting.plain f setting.value
    → Carries names old new graph (Set x f v) [] (Ok tt)
set_carried {graph = graph} {v = v} names f same setting sets =
    let fields = with_field setting.plain.fields f setting.value in
    change_carried names same setting.shows sets.shows.shows
    (set_room names f v setting.known setting.value_is sets.few
    ∙ reshape_done graph setting.plain fields sets.shows.paths sets.shows.added)
    refl refl setting.known.bound setting.stands.place sets.changes sets.room sets.uses
    (λ rooms has. set_need_is has f v setting.value setting.known setting.value_is setting.stands)
    (λ rooms one fewer. keeps_set one fewer f v fields setting.known setting.stands refl sets.changes)

-- and one that was not
pub set_stopped : {main : Mutator} {graph : Graph} {x at : ℕ} {v : Operand} {one : Held} (new : Mutator)
    (names : List (List ℕ)) (f : ℕ) (stop : FieldStop) → (setting : IsSetting main graph x v at one)
    → SetsField main new graph at setting.plain f setting.value (Err stop)
    → Carries names main new graph (Set x f v) [] (Err (stop_of stop))
set_stopped new names f NotPlain setting sets = absurd sets
set_stopped {v = v} new names f FieldsFull setting sets =
    (set_full names f v setting.known setting.value_is sets.0, sets.1)
set_stopped {graph = graph} {v = v} new names f (ShapesFull full) setting sets = (
  set_room names f v setting.known setting.value_is sets.0
      ∙ reshape_full graph setting.plain (with_field setting.plain.fields f setting.value) sets.1.refused,
  sets.2,
)
set_stopped {graph = graph} {v = v} new names f (Full room) setting sets =
    let fields = with_field setting.plain.fields f setting.value in
    let (more, added) =
    paths_there (with_path (Some paths_most) graph.paths (path_of setting.plain.cap fields)) sets.1 in (
      refill graph setting.plain fields more,
      [],
      set_room names f v setting.known setting.value_is sets.0 ∙ reshape_done graph setting.plain fields more added,
      λ rooms has. sets.2 ∙ set_need_is has f v setting.value setting.known setting.value_is setting.stands,
      sets.3,
      sets.4,
    )

-- what is known once the value of a `set` was found, and the object with its header
pub record IsHeadedSetting (main : Mutator) (graph : Graph) (x : ℕ) (v : Operand) (at : ℕ) (header : Header)
    (given : Given) : Type 0 where
  pub one : Held
  pub gives : IsGivenFor given one
  pub setting : IsSetting main graph x v at one

-- so it is once they were read
headed_setting : {old now : Mutator} {graph : Graph} {at : ℕ} {header : Header} {given : Given} (x : ℕ)
    (v : Operand) → now ≡ old → MainShows old graph → FindsGiven old graph (value_of graph v) (Some given)
    → FindsHeaded old graph (get graph.bindings x) at header → IsHeadedSetting now graph x v at header given
headed_setting {graph = graph} {at} {header} x v still shows (one, gives, (value, is, stands)) headed = record {
  one = one;
  gives = gives;
  setting = record {
    plain = headed.found.plain;
    value = value;
    shows = shows_still still shows;
    known = known_found headed.is headed.found.is headed.found.refers;
    value_is = is;
    stands = subst (λ main. IsPlainAt main graph at headed.found.plain) (sym still) headed.found.stands;
    held = (stands_still still stands).is;
  };
}

-- the call on the object's field may be made
pub may_set : {old now : Mutator} {graph : Graph} {at : ℕ} {header : Header} {given : Given} (x : ℕ) (v : Operand)
    → now ≡ old → MainShows old graph → FindsGiven old graph (value_of graph v) (Some given)
    → FindsHeader old graph (get graph.bindings x) at header → MaySet now at header given
unfolding headed_setting
may_set x v still shows (one, gives, finds) headed = record {
  held = one;
  gives = gives;
  plain = λ from. setting_shown (headed_setting x v still shows (one, gives, finds) (headed_plain headed from)).setting;
  headed = (header_still still headed).headed;
}

module _ {old main : Mutator} (new : Mutator) {graph : Graph} {at : ℕ} {header : Header} {given : Given}
    (names : List (List ℕ)) (x f : ℕ) (v : Operand) (same : main ≡ old) (shows : MainShows old graph)
    (finds : FindsGiven old graph (value_of graph v) (Some given))
    (headed : FindsHeader old graph (get graph.bindings x) at header) where
  -- what became of the field is what becomes of the command
  field_carried : {one : Held} (came : Result Unit FieldStop) → (setting : IsSetting main graph x v at one)
      → SetsField main new graph at setting.plain f setting.value came
      → Carries names old new graph (Set x f v) [] (stop_in came)
  field_carried (Ok done) setting sets = set_carried names f same setting sets
  field_carried (Err stop) setting sets =
      subst (λ (m : Mutator). Carries names m new graph (Set x f v) [] (Err (stop_of stop))) same
      (set_stopped new names f stop setting sets)

  -- so it is of what became of the object by its header
  pub sets_carried : (came : Result Unit FieldStop) → Sets main new at header f given came
      → Carries names old new graph (Set x f v) [] (stop_in came)
  sets_carried came sets = elim (cases_lt header.shape first_path_shape) [
    | inl below ↦
        let (why, unchanged) = sets.other below in
        let lacks = inr (headed.value, headed.is, finds_no_plain headed.found below, refl) in
        subst (λ (c : Result Unit FieldStop). Carries names old new graph (Set x f v) [] (stop_in c)) (sym why)
        (set_lacks graph names x f v lacks finds.2.1, unchanged ∙ same)
    | inr from ↦
        let known = headed_setting x v same shows finds (headed_plain headed from) in
        let s = known.setting in
        field_carried came s (sets.plain from known.one known.gives graph s.plain s.value s.shows s.stands s.held)
  ]
