-- Chains of prototypes: what comes after so many of them, and how long they are.
use Rattle.std.proofs.Common.{◌≡◌, ℕ, zero, suc, ◌+◌, ◌-◌, ◌<◌, ◌≤◌, true, false, List, length, Option, Some, None}
use Rattle.std.proofs.Common.{refl, sym, ap, ◌∙◌, subst, arith, inl, inr, ◌==◌, get_or}
use Rattle.std.specs.Prelude.{option_and_then, option_map, unwrap_or, slice_get}
use Rattle.std.specs.List.{range_with_len}
use Rattle.std.proofs.lemmas.Bool.{or_cases, or_left, or_right, eqb-true, eq-eqb}
use Rattle.std.proofs.lemmas.Option.{same_Some, slice_get_within}
use Rattle.std.proofs.lemmas.List.FromFn.{get_or-range_with_len, length-range_with_len}
use Rattle.object_graph.specs.declared.object.Object.{Object}
use Rattle.object_graph.specs.Graphs.{as_plain}
use Rattle.object_graph.specs.Prototypes.{proto_in, proto_of, after_protos, IsPlainNumber, AreProtos, leads_to}
use Rattle.graph_laws.specs.ProtoLaws.{LeadsIsAfter, AfterLeads, ChainsAreShort, RingsAreFound, RingsLead, ProtosDiffer}
use Rattle.graph_laws.proofs.FoundProtos.{step_found}
use Rattle.graph_laws.proofs.Pigeons.{AreNumbered, AreApart, no_more}

-- where a step finds a chain's end so many prototypes on, the chain is one longer from before that step
leads_step : (objects : List Object) (k b : ℕ) (found : Option ℕ)
    → ((n : ℕ) → leads_to objects k n b ≡ true → (j : ℕ) × (j ≤ k) × (after_protos objects j n ≡ Some b))
    → unwrap_or (option_map (λ next. leads_to objects k next b) found) false ≡ true
    → (j : ℕ) × (j ≤ k) × (option_and_then (after_protos objects j) found ≡ Some b)
leads_step objects k b None each is = absurd (cc)
leads_step objects k b (Some n) each is = each n is

-- what the test of leading finds comes after so many prototypes or fewer
pub leads_is_after : LeadsIsAfter
leads_is_after objects zero a b is = (0, omega arith, ap (λ n. Some n) (eqb-true a b is))
leads_is_after objects (suc k) a b is =
    let later = unwrap_or (option_map (λ next. leads_to objects k next b) (proto_of objects a)) false in
    elim (or_cases (a == b) later is) [
      | inl same ↦ (0, omega arith, ap (λ n. Some n) (eqb-true a b same))
      | inr leads ↦
          let found = leads_step objects k b (proto_of objects a) (λ n. leads_is_after objects k n b) leads in
          (suc found.0, omega (arith, found.1), found.2)
    ]

-- and the test finds what comes after so many prototypes or fewer
pub leads_from : AfterLeads
leads_from objects zero zero a b few is = eq-eqb a b (same_Some a b is)
leads_from objects zero (suc j) a b few is = absurd (omega (arith, few))
leads_from objects (suc k) zero a b few is =
    or_left (a == b) (unwrap_or (option_map (λ next. leads_to objects k next b) (proto_of objects a)) false)
    (eq-eqb a b (same_Some a b is))
leads_from objects (suc k) (suc j) a b few is =
    let next = step_found (after_protos objects j) (proto_of objects a) b is in
    let rest = leads_from objects k j next.0 b (omega (arith, few)) next.2 in
    let later = λ (found : Option ℕ). unwrap_or (option_map (λ n. leads_to objects k n b) found) false in
    or_right (a == b) (later (proto_of objects a)) (ap later next.1 ∙ rest)

-- a chain has an object after its first so many prototypes
pub after_split : (objects : List Object) (i j n a c : ℕ) → i + j ≡ n → after_protos objects n a ≡ Some c
    → (b : ℕ) × (after_protos objects i a ≡ Some b) × (after_protos objects j b ≡ Some c)
after_split objects zero j n a c sum is =
    let same : j ≡ n = omega (arith, sum) in
    (a, refl, ap (λ m. after_protos objects m a) same ∙ is)
after_split objects (suc i) j zero a c sum is = absurd (omega (arith, sum))
after_split objects (suc i) j (suc n) a c sum is =
    let next = step_found (after_protos objects n) (proto_of objects a) c is in
    let rest = after_split objects i j n next.0 c (omega (arith, sum)) next.2 in
    (rest.0, ap (option_and_then (after_protos objects i)) next.1 ∙ rest.1, rest.2)

-- a chain goes on with the chain of its last object
pub after_join : (objects : List Object) (i j n a b c : ℕ) → i + j ≡ n → after_protos objects i a ≡ Some b
    → after_protos objects j b ≡ Some c → after_protos objects n a ≡ Some c
after_join objects zero j n a b c sum first second =
    let same : n ≡ j = omega (arith, sum) in
    ap (λ m. after_protos objects m a) same ∙ ap (after_protos objects j) (same_Some a b first) ∙ second
after_join objects (suc i) j zero a b c sum first second = absurd (omega (arith, sum))
after_join objects (suc i) j (suc n) a b c sum first second =
    let next = step_found (after_protos objects i) (proto_of objects a) b first in
    ap (option_and_then (after_protos objects n)) next.1
    ∙ after_join objects i j n next.0 b c (omega (arith, sum)) next.2 second

-- the objects of a chain differ
pub protos_differ : ProtosDiffer
protos_differ objects i j a b c are less first second same =
    let far : i + suc (j - suc i) ≡ j = omega (arith, less) in
    let split = after_split objects i (suc (j - suc i)) j a c far second in
    let here : split.0 ≡ b = same_Some split.0 b (sym split.1 ∙ first) in
    are.no_ring (j - suc i) split.0 (split.2 ∙ ap (λ n. Some n) (sym same ∙ sym here))

-- what has a prototype is an object
pub proto_within : (objects : List Object) (a n : ℕ) → proto_of objects a ≡ Some n → a < length objects
proto_within objects a n is =
    let found = step_found proto_in (slice_get objects a) n is in
    slice_get_within objects a found.0 found.1

-- the number of a plain object is that of an object
pub plain_within : (objects : List Object) (n : ℕ) → IsPlainNumber objects n → n < length objects
plain_within objects n is =
    let found = step_found (as_plain n) (slice_get objects n) is.0 is.1 in
    slice_get_within objects n found.0 found.1

-- a chain from an object comes to objects
pub after_within : (objects : List Object) (j a b : ℕ) → AreProtos objects → a < length objects
    → after_protos objects j a ≡ Some b → b < length objects
after_within objects zero a b are within is = subst (λ n. n < length objects) (same_Some a b is) within
after_within objects (suc j) a b are within is =
    let next = step_found (after_protos objects j) (proto_of objects a) b is in
    after_within objects j next.0 b are (plain_within objects next.0 (are.plain a next.0 next.1)) next.2

-- the object comes after so many prototypes from the first
abbrev IsAfter : List Object → ℕ → ℕ → ℕ → Type 0
IsAfter objects a i m = after_protos objects i a ≡ Some m

-- at each place of a chain there is an object
chain_numbered : (objects : List Object) (k a b : ℕ) → AreProtos objects → after_protos objects (suc k) a ≡ Some b
    → AreNumbered (IsAfter objects a) (length objects) (range_with_len 0 (suc (suc k)))
chain_numbered objects k a b are is i there =
    let within : there.0 < suc (suc k) = omega (arith, there.1, length-range_with_len 0 (suc (suc k))) in
    let at = get_or-range_with_len 0 (suc (suc k)) there.0 i within in
    let few : i < suc (suc k) = omega (arith, at, there.2, within) in
    let far : i + (suc k - i) ≡ suc k = omega (arith, few) in
    let split = after_split objects i (suc k - i) (suc k) a b far is in
    let next = step_found (after_protos objects k) (proto_of objects a) b is in
    (split.0, after_within objects i a split.0 are (proto_within objects a next.0 next.1) split.1, split.1)

-- at two places of a chain the objects differ
chain_apart : (objects : List Object) (k a : ℕ) → AreProtos objects
    → AreApart (IsAfter objects a) (length objects) (range_with_len 0 (suc (suc k)))
chain_apart objects k a are i j d less within m first second =
    let long = length-range_with_len 0 (suc (suc k)) in
    let places = range_with_len 0 (suc (suc k)) in
    let first_at = get_or-range_with_len 0 (suc (suc k)) i d (omega (arith, less, within, long)) in
    let second_at = get_or-range_with_len 0 (suc (suc k)) j d (omega (arith, within, long)) in
    let at_first : get_or places i d ≡ i = omega (arith, first_at) in
    let at_second : get_or places j d ≡ j = omega (arith, second_at) in
    let Is = λ (p : ℕ). IsAfter objects a p m in
    protos_differ objects i j a m m are less (subst Is at_first first) (subst Is at_second second) refl

-- a chain has fewer prototypes than there are objects
pub chains_are_short : ChainsAreShort
chains_are_short objects k a b are is =
    let places = range_with_len 0 (suc (suc k)) in
    let few = no_more (IsAfter objects a) (length objects) places (chain_numbered objects k a b are is)
    (chain_apart objects k a are) in
    omega (arith, few, length-range_with_len 0 (suc (suc k)))

-- a chain has no more prototypes than there are objects, also where it has none
pub few_protos : (objects : List Object) (j a b : ℕ) → AreProtos objects → after_protos objects j a ≡ Some b
    → j ≤ length objects
few_protos objects zero a b are is = omega arith
few_protos objects (suc k) a b are is = omega (arith, chains_are_short objects k a b are is)

-- where the prototype comes to the object, a ring is found
pub ring_is_found : RingsAreFound
ring_is_found objects a b j are is = leads_from objects (length objects) j b a (few_protos objects j b a are is) is

-- where a ring is found, the prototype comes to the object
pub ring_leads : RingsLead
ring_leads objects a b found = let at = leads_is_after objects (length objects) b a found in (at.0, at.2)
