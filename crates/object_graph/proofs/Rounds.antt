-- Rounds of marks: each keeps the marks before it, and after as many rounds as objects none is added.
use Rattle.std.proofs.Common.{◌≡◌, ℕ, zero, suc, ◌+◌, ◌-◌, ◌<◌, ◌≤◌, Bool, true, false, cond, ◌||◌}
use Rattle.std.proofs.Common.{List, [], ◌∷◌, length, map, count_by, refl, sym, ap, ◌∙◌, arith, ◌⊎◌, inl, inr}
use Rattle.std.specs.List.{range_with_len, list_any}
use Rattle.std.specs.FinMap.{values}
use Rattle.std.proofs.lemmas.Bool.{cases_lt, or_left}
use Rattle.std.proofs.lemmas.List.{get_or_past}
use Rattle.std.proofs.lemmas.List.FromFn.{get_or-map-range_with_len, length-map-range_with_len}
use Rattle.std.proofs.lemmas.List.Sums.{count_by-le-length, sum_by-cons}
use Rattle.object_graph.specs.Graphs.{Graph}
use Rattle.object_graph.specs.Reach.{is_marked, refers_to, is_linked, bound_marks, round, rounds, reach}
use Rattle.object_graph.proofs.Marking.{is_marked-get_or}

-- a mark of a list that is made by a test of each number is that test's answer
pub is_marked-made : (f : ℕ → Bool) (n number : ℕ) → number < n
    → is_marked (map f (range_with_len 0 n)) number ≡ f number
is_marked-made f n number within =
    let made = get_or-map-range_with_len f 0 n number number false within (omega arith) in
    is_marked-get_or (map f (range_with_len 0 n)) number ∙ made

-- what is marked is an object
pub marked_within : (marks : List Bool) (number : ℕ) → is_marked marks number ≡ true → number < length marks
marked_within marks number marked =
    elim (cases_lt number (length marks)) [
      | inl within ↦ within
      | inr past ↦
          let unmarked = get_or_past marks number false past in
          let not_marked : false ≡ true = sym unmarked ∙ sym (is_marked-get_or marks number) ∙ marked in
          absurd (cc)
    ]

-- whether a variable is bound to the object of this number
abbrev pub is_bound : Graph → ℕ → Bool
is_bound graph number = list_any (refers_to number) (values graph.bindings)

-- before the first round an object is marked if a variable is bound to it
pub is_marked-bound : (graph : Graph) (number : ℕ) → number < length graph.objects
    → is_marked (bound_marks graph) number ≡ is_bound graph number
is_marked-bound graph number within = is_marked-made (is_bound graph) (length graph.objects) number within

-- after a round an object is marked if it was or a marked object links to it
pub is_marked-round : (graph : Graph) (marks : List Bool) (number : ℕ) → number < length graph.objects
    → is_marked (round graph marks) number ≡ (is_marked marks number || is_linked graph.objects marks number)
is_marked-round graph marks number within =
    is_marked-made (λ n. is_marked marks n || is_linked graph.objects marks n) (length graph.objects) number within

-- before the first round there is a mark for each object
pub length-bound : (graph : Graph) → length (bound_marks graph) ≡ length graph.objects
length-bound graph = length-map-range_with_len (is_bound graph) 0 (length graph.objects)

-- after a round there is a mark for each object
pub length-round : (graph : Graph) (marks : List Bool) → length (round graph marks) ≡ length graph.objects
length-round graph marks =
    let marked = λ (n : ℕ). is_marked marks n || is_linked graph.objects marks n in
    length-map-range_with_len marked 0 (length graph.objects)

-- after some rounds there is a mark for each object
pub length-rounds : (graph : Graph) (n : ℕ) → length (rounds graph n) ≡ length graph.objects
length-rounds graph zero = length-bound graph
length-rounds graph (suc n) = length-round graph (rounds graph n)

-- a round keeps each mark
pub round_keeps : (graph : Graph) (marks : List Bool) → length marks ≡ length graph.objects
    → (number : ℕ) → is_marked marks number ≡ true → is_marked (round graph marks) number ≡ true
round_keeps graph marks long number marked =
    let within : number < length graph.objects = omega (arith, marked_within marks number marked, long) in
    let kept = or_left (is_marked marks number) (is_linked graph.objects marks number) marked in
    is_marked-round graph marks number within ∙ kept

-- how many objects are marked
abbrev marked_count : List Bool → ℕ
marked_count marks = count_by (λ mark. mark) marks

-- one mark in front of others counts as one, or as none
marked_count-cons : (mark : Bool) (marks : List Bool) → marked_count (mark ∷ marks) ≡ cond mark 1 0 + marked_count marks
marked_count-cons mark marks = sum_by-cons (λ b. cond b 1 0) mark marks

-- marks are the same, or more are there, also with one mark in front that is kept
more_here : (o n : Bool) (os ns : List Bool) → (os ≡ ns) ⊎ (marked_count os < marked_count ns)
    → (o ≡ true → n ≡ true)
    → (o ∷ os ≡ n ∷ ns) ⊎ (marked_count (o ∷ os) < marked_count (n ∷ ns))
more_here true true os ns (inl same) kept = inl (ap (λ rest. true ∷ rest) same)
more_here true true os ns (inr more) kept = inr (omega (arith, marked_count-cons true os, marked_count-cons true ns))
more_here true false os ns rest kept = let bad : false ≡ true = kept refl in absurd (cc)
more_here false true os ns (inl same) kept =
    inr (omega (arith, ap marked_count same, marked_count-cons false os, marked_count-cons true ns))
more_here false true os ns (inr more) kept = inr (omega (arith, marked_count-cons false os, marked_count-cons true ns))
more_here false false os ns (inl same) kept = inl (ap (λ rest. false ∷ rest) same)
more_here false false os ns (inr more) kept =
    inr (omega (arith, marked_count-cons false os, marked_count-cons false ns))

-- marks that keep those before them are the same, or more objects are marked
more_or_same : (old new : List Bool) → length old ≡ length new
    → ((number : ℕ) → is_marked old number ≡ true → is_marked new number ≡ true)
    → (old ≡ new) ⊎ (marked_count old < marked_count new)
more_or_same [] [] long kept = inl refl
more_or_same [] (n ∷ ns) long kept = absurd (omega arith)
more_or_same (o ∷ os) [] long kept = absurd (omega arith)
more_or_same (o ∷ os) (n ∷ ns) long kept =
    more_here o n os ns (more_or_same os ns (omega arith) (λ number. kept (suc number))) (kept 0)

-- a round more after some rounds is the same, or it marks more objects
round_adds : (graph : Graph) (n : ℕ)
    → (rounds graph n ≡ rounds graph (suc n)) ⊎ (marked_count (rounds graph n) < marked_count (rounds graph (suc n)))
round_adds graph n =
    let long = length-rounds graph n in
    more_or_same (rounds graph n) (rounds graph (suc n)) (long ∙ sym (length-rounds graph (suc n)))
    (round_keeps graph (rounds graph n) long)

-- after each round the next adds nothing, or at least as many objects are marked as there were rounds
adds_or_ends : (graph : Graph) (n : ℕ)
    → (rounds graph (suc n) ≡ rounds graph n) ⊎ (n < marked_count (rounds graph (suc n)))
adds_or_ends graph zero = elim (round_adds graph zero) [ inl same ↦ inl (sym same) | inr more ↦ inr (omega arith) ]
adds_or_ends graph (suc n) =
    elim (adds_or_ends graph n) [
      | inl same ↦ inl (ap (round graph) same)
      | inr many ↦ elim (round_adds graph (suc n)) [ inl same ↦ inl (sym same) | inr more ↦ inr (omega arith) ]
    ]

-- a round more adds nothing to what is reached
pub round-reach : (graph : Graph) → round graph (reach graph) ≡ reach graph
round-reach graph =
    let count = length graph.objects in
    elim (adds_or_ends graph count) [
      | inl same ↦ same
      | inr many ↦
          let most = count_by-le-length (λ (b : Bool). b) (rounds graph (suc count)) in
          absurd (omega (arith, many, most, length-rounds graph (suc count)))
    ]

-- rounds after one that adds nothing add nothing
pub rounds_end : (graph : Graph) (n more : ℕ) → round graph (rounds graph n) ≡ rounds graph n
    → rounds graph (n + more) ≡ rounds graph n
rounds_end graph n zero ends = ap (rounds graph) (omega arith)
rounds_end graph n (suc more) ends =
    let next : n + suc more ≡ suc (n + more) = omega arith in
    ap (rounds graph) next ∙ ap (round graph) (rounds_end graph n more ends) ∙ ends

-- after a round that adds nothing all that can be reached is marked
pub ended_is_reach : (graph : Graph) (marks : List Bool) (n : ℕ)
    → n ≤ length graph.objects → marks ≡ rounds graph n → round graph marks ≡ marks → marks ≡ reach graph
ended_is_reach graph marks n early is ends =
    let sum : n + (length graph.objects - n) ≡ length graph.objects = omega arith in
    let there : round graph (rounds graph n) ≡ rounds graph n = ap (round graph) (sym is) ∙ ends ∙ is in
    is ∙ sym (rounds_end graph n (length graph.objects - n) there) ∙ ap (rounds graph) sum
