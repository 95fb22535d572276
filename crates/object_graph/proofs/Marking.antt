-- Marks that grow by one object, by the objects of a list, or by a round.
use Rattle.std.proofs.Common.{◌≡◌, ℕ, ◌+◌, ◌<◌, ◌≤◌, ◌==◌, Bool, true, false, ◌||◌, List, []}
use Rattle.std.proofs.Common.{◌∷◌, ◌++◌, length, get_or, take, set, map, replicate, refl, sym, ap, ◌∙◌, arith}
use Rattle.std.proofs.Common.{length-set, inl, inr}
use Rattle.std.specs.List.{list_any, range_with_len}
use Rattle.std.specs.FinMap.{values}
use Rattle.std.proofs.Math.Bool.{or-false, or_assoc}
use Rattle.std.proofs.lemmas.Bool.{cases_eq, or_right}
use Rattle.std.proofs.lemmas.Bool.Decides.{nat_tests}
use Rattle.std.proofs.lemmas.List.{same_lists, get_or-set_same, get_or-set_other, get_or-replicate, length-replicate}
use Rattle.std.proofs.lemmas.List.{get_or_default, take_all}
use Rattle.std.proofs.lemmas.List.Folds.{list_any_more, list_any-append}
use Rattle.std.proofs.lemmas.List.FromFn.{get_or-map-range_with_len, length-map-range_with_len}
use Rattle.std.proofs.lemmas.Option.{unwrap_or-slice_get}
use Rattle.object_graph.specs.declared.value.Value.{Value}
use Rattle.object_graph.specs.declared.object.Object.{Object}
use Rattle.object_graph.specs.Graphs.{Graph}
use Rattle.object_graph.specs.Marks.{MarksAlso}
use Rattle.object_graph.specs.Reach.{is_marked, refers_to, is_linked, bound_marks, round}

-- a mark is what the list's own look-up finds
pub is_marked-get_or : (marks : List Bool) (number : ℕ) → is_marked marks number ≡ get_or marks number false
is_marked-get_or marks number = unwrap_or-slice_get marks number false

-- marks grow by the same objects said in another way
pub MarksAlso-agree : (old new : List Bool) (these those : ℕ → Bool) → ((number : ℕ) → these number ≡ those number)
    → MarksAlso old new these → MarksAlso old new those
MarksAlso-agree old new these those same grown = record {
  same_length = grown.same_length;
  also = λ number within. grown.also number within ∙ ap (λ b. is_marked old number || b) (same number);
}

-- marks that stay grew by no object
pub MarksAlso-none : (marks : List Bool) (these : ℕ → Bool)
    → ((number : ℕ) → number < length marks → these number ≡ false) → MarksAlso marks marks these
MarksAlso-none marks these none = record {
  same_length = refl;
  also = λ number within.
      sym (or-false (is_marked marks number))
      ∙ ap (λ b. is_marked marks number || b) (sym (none number within));
}

-- a mark that is set adds its object
pub MarksAlso-set : (marks : List Bool) (place : ℕ) → place < length marks
    → MarksAlso marks (set marks place true) (λ number. place == number)
MarksAlso-set marks place inside = record {
  same_length = length-set marks place true;
  also = λ number within. elim (cases_eq place number) [
    | inl same ↦
        let e : (place == number) ≡ true = grind (arith, nat_tests) in
        is_marked-get_or (set marks place true) number
        ∙ ap (λ n. get_or (set marks place true) n false) (sym same)
        ∙ get_or-set_same marks place true false inside
        ∙ sym (or_right (is_marked marks number) true refl)
        ∙ ap (λ b. is_marked marks number || b) (sym e)
    | inr apart ↦
        let e : (place == number) ≡ false = grind (arith, nat_tests) in
        is_marked-get_or (set marks place true) number
        ∙ get_or-set_other marks place number true false (λ same. apart (sym same))
        ∙ sym (is_marked-get_or marks number)
        ∙ sym (or-false (is_marked marks number))
        ∙ ap (λ b. is_marked marks number || b) (sym e)
  ];
}

-- marks that grow by these and then by those grow by both
pub MarksAlso-both : (old between new : List Bool) (these those : ℕ → Bool)
    → MarksAlso old between these → MarksAlso between new those
    → MarksAlso old new (λ number. these number || those number)
MarksAlso-both old between new these those first second = record {
  same_length = second.same_length ∙ first.same_length;
  also = λ number within.
      second.also number (omega (arith, first.same_length))
      ∙ ap (λ b. b || those number) (first.also number within)
      ∙ or_assoc (is_marked old number) (these number) (those number);
}

-- the next element of a list adds what the elements before had left out
pub MarksAlso-more : {X : Type 0} (test : ℕ → X → Bool) (xs : List X) (i : ℕ) (x : X) (old between new : List Bool)
    → i < length xs → x ≡ get_or xs i x → MarksAlso old between (λ number. list_any (test number) (take i xs))
    → MarksAlso between new (λ number. test number x)
    → MarksAlso old new (λ number. list_any (test number) (take (i + 1) xs))
MarksAlso-more test xs i x old between new within is first second =
    let before = λ (number : ℕ). list_any (test number) (take i xs) in
    let after = λ (number : ℕ). list_any (test number) (take (i + 1) xs) in
    let here = λ (number : ℕ). test number x in
    MarksAlso-agree old new (λ number. before number || here number) after
    (λ number. ap (λ y. before number || test number y) is ∙ sym (list_any_more (test number) xs i x within))
    (MarksAlso-both old between new before here first second)

-- the elements before are all elements where there are no more
pub MarksAlso-all : {X : Type 0} (test : ℕ → X → Bool) (xs : List X) (i : ℕ) (old new : List Bool) → length xs ≤ i
    → MarksAlso old new (λ number. list_any (test number) (take i xs))
    → MarksAlso old new (λ number. list_any (test number) xs)
MarksAlso-all test xs i old new past grown =
    let so_far = λ (number : ℕ). list_any (test number) (take i xs) in
    MarksAlso-agree old new so_far (λ number. list_any (test number) xs)
    (λ number. ap (list_any (test number)) (take_all i xs past)) grown

-- an element more at the end of a list adds what the list had left out
pub MarksAlso-push : {X : Type 0} (test : ℕ → X → Bool) (xs : List X) (x : X) (old between new : List Bool)
    → MarksAlso old between (λ number. list_any (test number) xs) → MarksAlso between new (λ number. test number x)
    → MarksAlso old new (λ number. list_any (test number) (xs ++ x ∷ []))
MarksAlso-push test xs x old between new first second =
    let before = λ (number : ℕ). list_any (test number) xs in
    let after = λ (number : ℕ). list_any (test number) (xs ++ x ∷ []) in
    let here = λ (number : ℕ). test number x in
    let same = λ (number : ℕ).
    ap (λ b. before number || b) (sym (or-false (here number))) ∙ sym (list_any-append (test number) xs (x ∷ [])) in
    MarksAlso-agree old new (λ number. before number || here number) after same
    (MarksAlso-both old between new before here first second)

-- marks that are known at each object are known
same_marks : (marks : List Bool) (n : ℕ) (f : ℕ → Bool) → length marks ≡ n
    → ((number : ℕ) → number < n → is_marked marks number ≡ f number) → marks ≡ map f (range_with_len 0 n)
same_marks marks n f long each =
    same_lists marks (map f (range_with_len 0 n)) (long ∙ sym (length-map-range_with_len f 0 n)) (λ k d within.
    let inside : k < n = omega (arith, long) in
    let here : get_or marks k d ≡ get_or marks k false = get_or_default marks k d false within in
    let made = get_or-map-range_with_len f 0 n k k d inside (omega arith) in
    here ∙ sym (is_marked-get_or marks k) ∙ each k inside ∙ sym made)

-- marks that grew by what is linked grew by a round
pub round_is : (graph : Graph) (objects : List Object) (marks next : List Bool)
    → objects ≡ graph.objects → length marks ≡ length graph.objects → MarksAlso marks next (is_linked objects marks)
    → next ≡ round graph marks
round_is graph objects marks next same long grown =
    let marked = λ (number : ℕ). is_marked marks number || is_linked graph.objects marks number in
    same_marks next (length graph.objects) marked (grown.same_length ∙ long) (λ number within.
    grown.also number (omega (arith, long)) ∙ ap (λ held. is_marked marks number || is_linked held marks number) same)

-- marks that grew from none by what variables are bound to mark the bound objects
pub bound_is : (graph : Graph) (bound : List Value) (marks next : List Bool) (n : ℕ)
    → bound ≡ values graph.bindings → n ≡ length graph.objects → marks ≡ replicate n false
    → MarksAlso marks next (λ number. list_any (refers_to number) bound) → next ≡ bound_marks graph
bound_is graph bound marks next n same long none grown =
    let is_bound = λ (number : ℕ). list_any (refers_to number) (values graph.bindings) in
    let long_marks : length marks ≡ length graph.objects = ap length none ∙ length-replicate n false ∙ long in
    same_marks next (length graph.objects) is_bound (grown.same_length ∙ long_marks) (λ number within.
    let inside : number < length marks = omega (arith, long_marks) in
    let fresh = get_or-replicate n number false false (omega (arith, long)) in
    let unmarked : is_marked marks number ≡ false =
    is_marked-get_or marks number ∙ ap (λ ms. get_or ms number false) none ∙ fresh in
    grown.also number inside
    ∙ ap (λ b. b || list_any (refers_to number) bound) unmarked
    ∙ ap (list_any (refers_to number)) same)
