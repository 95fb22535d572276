-- A search along prototypes for the object that is to get one: what is known at each turn, and that it ends.
use Rattle.std.proofs.Common.{◌≡◌, ◌≢◌, ℕ, suc, ◌+◌, ◌-◌, ◌<◌, ◌≤◌, Bool, true, false, List, Option}
use Rattle.std.proofs.Common.{Some, None, get_or, inl, inr, refl, sym, ◌∙◌, ap, subst, arith}
use Rattle.std.specs.Prelude.{option_and_then}
use Rattle.std.specs.List.{range_with_len}
use Rattle.std.proofs.lemmas.Bool.{cases_lt}
use Rattle.std.proofs.lemmas.Option.{none-some, same_Some}
use Rattle.std.proofs.lemmas.List.FromFn.{get_or-range_with_len, length-range_with_len}
use Rattle.page_space.specs.Extents.{marks_start, words_count}
use Rattle.page_space.proofs.Starts.{board_start_is, words_count_is}
use Rattle.object_graph.specs.declared.value.Value.TheVariants.{Ref}
use Rattle.object_graph.specs.declared.object.Object.{Object}
use Rattle.object_graph.specs.declared.object.Object.TheVariants.{Plain}
use Rattle.object_graph.specs.Graphs.{Graph, PlainObject, plain_at}
use Rattle.object_graph.specs.Prototypes.{proto_of, proto_at, after_protos, makes_ring, IsPlainNumber}
use Rattle.graph_laws.proofs.FoundProtos.{step_found, proto_at-is}
use Rattle.graph_laws.proofs.Pigeons.{AreNumbered, AreApart, no_more}
use Rattle.graph_laws.proofs.ProtoChains.{after_join, after_split, protos_differ, ring_is_found, ring_leads}
use Rattle.heap_model.specs.Types.{Cell}
use Rattle.heap_model.specs.Slots.{IsPlace}
use Rattle.heap_model.proofs.CellsApart.{one_at}
use Rattle.write_barrier.specs.MutatorState.{Mutator, heap_of, MainShows}
use Rattle.object_cells.specs.PlainObjects.{IsPlainAt, IsShownPlain}
use Rattle.object_cells.proofs.CellsRead.{place_before_marks}
use Rattle.object_cells.proofs.ProtosRead.{proto_of_plain}
use Rattle.shape_change.specs.Prototypes.{FindsProto, AreShownPlain}

-- the object after so many prototypes stands at the address
pub record StandsAfter (main : Mutator) (objects : List Object) (start j at : ℕ) : Type 0 where
  pub number : ℕ
  pub after : after_protos objects j start ≡ Some number
  pub place : IsPlace (heap_of main) number at

-- After so many turns the search is at the address: there stands the object that comes after as many prototypes from
-- the other one. Each object that it passed stands somewhere, and none was the one that is sought.
pub record Sought (main : Mutator) (graph : Graph) (one other : PlainObject) (at turn : ℕ) : Type 0 where
  pub here : PlainObject
  pub is : IsPlainAt main graph at here
  pub after : after_protos graph.objects turn other.number ≡ Some here.number
  pub passed : (j : ℕ) → j ≤ turn → (place : ℕ) × StandsAfter main graph.objects other.number j place
  pub before : (j : ℕ) → j < turn → after_protos graph.objects j other.number ≢ Some one.number

-- so it is in each graph that the heap shows
abbrev pub Seeks : Mutator → (object target at turn : ℕ) → Type 0
Seeks main object target at turn =
    (graph : Graph) (one other : PlainObject) → MainShows main graph → IsPlainAt main graph object one
    → IsPlainAt main graph target other → Sought main graph one other at turn

-- an address is the place of one object
one_number : (main : Mutator) {number other at : ℕ} → IsPlace (heap_of main) number at → IsPlace (heap_of main) other at
    → number ≡ other
one_number main place another =
    let same : place.cell ≡ another.cell = one_at place.has another.has (place.stands ∙ sym another.stands) in
    sym place.carries ∙ ap (λ (c : Cell). c.header.object) same ∙ another.carries

-- and a plain object that can be reached has one place
one_place : {main : Mutator} {graph : Graph} {at object : ℕ} {here one : PlainObject} → MainShows main graph
    → IsPlainAt main graph at here → IsPlainAt main graph object one → here.number ≡ one.number → at ≡ object
one_place {main} {at = at} {object} {one = one} shows is is_one same =
    let shown = shows.shows.reached one.number (Plain one.cap one.proto one.fields) is_one.object is_one.reached in
    shown.once at (subst (λ n. IsPlace (heap_of main) n at) same is.place) ∙ sym (shown.once object is_one.place)

-- at first the search is at the other object
pub search_begins : {main : Mutator} (object target : ℕ) → Seeks main object target target 0
search_begins object target graph one other shows is is_other = record {
  here = other;
  is = is_other;
  after = refl;
  passed = λ j few.
      let none : j ≡ 0 = omega (arith, few) in (
        target,
        record {
          number = other.number;
          after = ap (λ n. after_protos graph.objects n other.number) none;
          place = is_other.place;
        },
      );
  before = λ j below. absurd (omega (arith, below));
}

-- the object where the search is, for the call that reads its prototype
pub seeks_shown : {main : Mutator} {object target at turn : ℕ} → AreShownPlain main object target
    → Seeks main object target at turn → IsShownPlain main at
seeks_shown are seeks =
    let sought = seeks are.graph are.one are.other are.shows are.is are.is_other in
    record { graph = are.graph; plain = sought.here; shows = are.shows; is = sought.is }

-- what the call finds of each plain object that stands at the address
abbrev pub FindsNext : Mutator → ℕ → Option ℕ → Type 0
FindsNext main at found =
    (graph : Graph) (plain : PlainObject) → MainShows main graph → IsPlainAt main graph at plain
    → FindsProto main graph plain found

module _ {main : Mutator} {graph : Graph} {one other : PlainObject} {object at turn : ℕ} (shows : MainShows main graph)
    (is_one : IsPlainAt main graph object one) (sought : Sought main graph one other at turn) where
  -- where the search is at the object, there is a ring
  pub found_ring : at ≡ object → makes_ring graph.objects one.number (Some other.number) ≡ true
  found_ring same =
      let here = subst (λ a. IsPlace (heap_of main) sought.here.number a) same sought.is.place in
      let number : sought.here.number ≡ one.number = one_number main here is_one.place in
      ring_is_found graph.objects one.number other.number turn shows.is_graph.protos
      (sought.after ∙ ap (λ n. Some n) number)

  -- where it is elsewhere, the object does not come after so many prototypes
  not_here : at ≢ object → after_protos graph.objects turn other.number ≢ Some one.number
  not_here apart found =
      apart (one_place shows sought.is is_one
      (same_Some sought.here.number one.number (sym sought.after ∙ found)))

  -- nor after fewer
  not_before : at ≢ object → (j : ℕ) → j ≤ turn → after_protos graph.objects j other.number ≢ Some one.number
  not_before apart j few found = elim (cases_lt j turn) [
    | inl below ↦ sought.before j below found
    | inr from ↦
        let same : j ≡ turn = omega (arith, from, few) in
        not_here apart (ap (λ n. after_protos graph.objects n other.number) (sym same) ∙ found)
  ]

  -- the number of the object is that of its prototype's slot
  proto_number : proto_of graph.objects sought.here.number ≡ sought.here.proto
  proto_number = proto_of_plain graph sought.here sought.is.object

  -- where the object has no prototype, none comes after it
  ends_here : proto_at graph.objects sought.here ≡ None → (k number : ℕ)
      → after_protos graph.objects (suc k) sought.here.number ≢ Some number
  ends_here none k number comes =
      let next = step_found (after_protos graph.objects k) (proto_of graph.objects sought.here.number) number comes in
      let plain : IsPlainNumber graph.objects next.0 =
      shows.is_graph.protos.plain sought.here.number next.0 next.1 in
      let has : proto_at graph.objects sought.here ≡ Some plain.0 =
      ap (λ found. option_and_then (λ n. plain_at graph.objects (Ref n)) found) (sym proto_number ∙ next.1) ∙ plain.1 in
      none-some plain.0 (sym none ∙ has)

  -- so the object does not come after it
  not_later : at ≢ object → proto_at graph.objects sought.here ≡ None → (j : ℕ)
      → after_protos graph.objects j other.number ≢ Some one.number
  not_later apart none j found = elim (cases_lt turn j) [
    | inr few ↦ not_before apart j few found
    | inl past ↦
        let far : turn + suc (j - suc turn) ≡ j = omega (arith, past) in
        let split = after_split graph.objects turn (suc (j - suc turn)) j other.number one.number far found in
        let here : split.0 ≡ sought.here.number =
        same_Some split.0 sought.here.number (sym split.1 ∙ sought.after) in
        ends_here none (j - suc turn) one.number
        (ap (λ n. after_protos graph.objects (suc (j - suc turn)) n) (sym here) ∙ split.2)
  ]

  -- a test that is not true is false
  not_true : (test : Bool) → (test ≡ true → ⊥) → test ≡ false
  not_true true apart = absurd (apart refl)
  not_true false apart = refl

  -- where the search ends there is no ring
  pub found_none : at ≢ object → proto_at graph.objects sought.here ≡ None
      → makes_ring graph.objects one.number (Some other.number) ≡ false
  found_none apart none =
      not_true (makes_ring graph.objects one.number (Some other.number)) (λ is_ring.
      let leads = ring_leads graph.objects one.number other.number is_ring in
      not_later apart none leads.0 leads.1)

  -- else it goes on to the prototype
  pub goes_on : {next : ℕ} → at ≢ object → FindsProto main graph sought.here (Some next)
      → Sought main graph one other next (suc turn)
  goes_on {next} apart (proto, leads, is) =
      let one_step : after_protos graph.objects 1 sought.here.number ≡ Some proto.number =
      ap (λ found. option_and_then (after_protos graph.objects 0) found)
      (proto_number ∙ (proto_at-is graph.objects sought.here proto leads).0) in
      let after : after_protos graph.objects (suc turn) other.number ≡ Some proto.number =
      after_join graph.objects turn 1 (suc turn) other.number sought.here.number proto.number (omega arith) sought.after
      one_step in
      record {
        here = proto;
        is = is;
        after = after;
        passed = λ j few. elim (cases_lt j (suc turn)) [
          | inl below ↦ sought.passed j (omega (arith, below))
          | inr from ↦
              let same : j ≡ suc turn = omega (arith, from, few) in (
                next,
                record {
                  number = proto.number;
                  after = ap (λ n. after_protos graph.objects n other.number) same ∙ after;
                  place = is.place;
                },
              )
        ];
        before = λ j below. not_before apart j (omega (arith, below));
      }

  -- the objects that were passed stand at different addresses before the marks
  turns_numbered : AreNumbered (λ j place. StandsAfter main graph.objects other.number j place)
      (marks_start main.seat.space) (range_with_len 0 (suc turn))
  turns_numbered j there =
      let within : there.0 < suc turn = omega (arith, there.1, length-range_with_len 0 (suc turn)) in
      let at_place = get_or-range_with_len 0 (suc turn) there.0 j within in
      let passed = sought.passed j (omega (arith, at_place, there.2, within)) in
      (passed.0, place_before_marks shows.shows.whole.sized passed.1.place, passed.1)

  turns_apart : AreApart (λ j place. StandsAfter main graph.objects other.number j place)
      (marks_start main.seat.space) (range_with_len 0 (suc turn))
  turns_apart i j d less within place first second =
      let turns = range_with_len 0 (suc turn) in
      let long = length-range_with_len 0 (suc turn) in
      let first_at = get_or-range_with_len 0 (suc turn) i d (omega (arith, less, within, long)) in
      let second_at = get_or-range_with_len 0 (suc turn) j d (omega (arith, within, long)) in
      let at_first : get_or turns i d ≡ i = omega (arith, first_at) in
      let at_second : get_or turns j d ≡ j = omega (arith, second_at) in
      let Is = λ (p : ℕ). StandsAfter main graph.objects other.number p place in
      let a : StandsAfter main graph.objects other.number i place = subst Is at_first first in
      let b : StandsAfter main graph.objects other.number j place = subst Is at_second second in
      protos_differ graph.objects i j other.number a.number b.number shows.is_graph.protos less a.after b.after
      (one_number main {number = a.number} {other = b.number} a.place b.place)

  -- so there are fewer turns than words
  pub turns_are_few : turn < words_count main.seat.space
  turns_are_few =
      let few = no_more (λ j place. StandsAfter main graph.objects other.number j place) (marks_start main.seat.space)
      (range_with_len 0 (suc turn)) turns_numbered turns_apart in
      omega (
        arith,
        few,
        length-range_with_len 0 (suc turn),
        board_start_is main.seat.space,
        words_count_is main.seat.space,
      )
