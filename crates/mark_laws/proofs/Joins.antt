-- Lists that others join keep what they have.
use Rattle.std.proofs.Common.{ℕ, ◌+◌, ◌<◌, ◌≡◌, ◌≢◌, ◌==◌, ◌⊎◌, inl, inr, List, [], ◌∷◌}
use Rattle.std.proofs.Common.{length, get_or, set, slice_get, Option, Some, None}
use Rattle.std.proofs.Common.{All, Any, Bool, Contains, IfSome, IsSomeAnd, true, false, if◌then◌else◌}
use Rattle.std.proofs.Common.{slice_index, eqb-true, eq-eqb, refl}
use Rattle.std.proofs.Common.{sym, ap, subst, ◌∙◌, arith}
use Rattle.std.proofs.lemmas.Bool.{cases_lt}
use Rattle.std.proofs.lemmas.List.{get_or-set_same, get_or-set_other, length-set}
use Rattle.std.proofs.lemmas.Option.{slice_get-get_or, slice_get_within}
use Rattle.tagged_word.proofs.Cells.{some_same}
use Rattle.std.proofs.lemmas.List.Elements.{All-contains, Contains-get_or}
use Rattle.mark_laws.specs.Types.{Reading, HelperView, World}
use Rattle.tagged_word.proofs.Members.{first_in, in_cases, rest_in}
use Rattle.core_parts.specs.Lists.{joined}
use Rattle.core_parts.specs.Boards.{joined_by}
use Rattle.core_parts.proofs.Joining.{decided, joined_from, joined_in, joined_keeps}
use Rattle.core_parts.proofs.Tested.{not_equal}
use Rattle.mark_world.specs.Coverage.{EachSlot, cell_of}
use Rattle.mark_world.specs.Pages.{OfTarget, slots_of, target, targets_joined}
use Rattle.mark_world.specs.Steps.{all_joined, joined_if_white, white}

-- a list that something may join keeps what it has
pub joined_by_keeps : (list : List ℕ) (new : Option ℕ) (at : ℕ) → Contains list at → Contains (joined_by list new) at
joined_by_keeps list None at c = c
joined_by_keeps list (Some a) at c = joined_keeps list a at c

-- so does one that targets join
pub targets_keep : (old : ℕ) (list words : List ℕ) (at : ℕ) → Contains list at
    → Contains (targets_joined old list words) at
targets_keep old list [] at c = c
targets_keep old list (word ∷ rest) at c =
    targets_keep old (joined_by list (target old word)) rest at (joined_by_keeps list (target old word) at c)

-- and one that addresses join
pub all_keep : (list others : List ℕ) (at : ℕ) → Contains list at → Contains (all_joined list others) at
all_keep list [] at c = c
all_keep list (a ∷ rest) at c = all_keep (joined list a) rest at (joined_keeps list a at c)

-- a cell that was found white joins the list
pub joined_white : (grey : List ℕ) (at found : ℕ) → found ≡ white → joined_if_white grey found at ≡ joined grey at
joined_white grey at found is = ap (λ (b : Bool). if b then joined grey at else grey) (eq-eqb found 0 is)

-- one that was found grey or black joins none
pub joined_other : (grey : List ℕ) (at found : ℕ) → found ≢ white → joined_if_white grey found at ≡ grey
joined_other grey at found other = ap (λ (b : Bool). if b then joined grey at else grey) (not_equal found 0 other)

-- each address that joins is there
pub all_there : (list others : List ℕ) (at : ℕ) → Contains others at → Contains (all_joined list others) at
all_there list [] at c = absurd (omega (arith, c.1))
all_there list (a ∷ rest) at c = elim (in_cases a rest at c) [
  | inl first ↦ all_keep (joined list a) rest at (subst (Contains (joined list a)) first (joined_in list a))
  | inr later ↦ all_there (joined list a) rest at later
]

-- another view stays where it is
any_other : (P : HelperView → Type 0) (views : List HelperView) (number : ℕ) (after : HelperView) (k : ℕ)
    (view : HelperView)
    → k < length views → get_or views k view ≡ view → P view → k ≢ number → Any P (set views number after)
any_other P views number after k view l e holds other = (
  k,
  view,
  omega (arith, length-set views number after, l),
  get_or-set_other views number k after view other ∙ e,
  holds,
)

-- the view that changes has a successor
any_same : (P : HelperView → Type 0) (Q : Type 0) (views : List HelperView) (number : ℕ) (before after : HelperView)
    → slice_get views number ≡ Some before → (P before → P after ⊎ Q) → (k : ℕ) (view : HelperView)
    → k < length views
    → get_or views k view ≡ view → P view → k ≡ number → Any P (set views number after) ⊎ Q
any_same P Q views number before after there step k view l e holds same =
    let within : number < length views = omega (arith, l) in
    let at_k : slice_get views k ≡ Some (get_or views k view) = slice_get-get_or views k view l in
    let is : view ≡ before = some_same (at_k ∙ ap (λ v. Some v) e) (ap (slice_get views) same ∙ there) in
    elim (step (subst P is holds)) [
      | inl next ↦ inl (
        number,
        after,
        omega (arith, length-set views number after, within),
        get_or-set_same views number after after within,
        next,
      )
      | inr else_holds ↦ inr else_holds
    ]

-- one of some views is the one that changes, and then its successor is one, or something else holds; or it is another
pub any_through : (P : HelperView → Type 0) (Q : Type 0) (views : List HelperView) (number : ℕ)
    (before after : HelperView) → slice_get views number ≡ Some before → (P before → P after ⊎ Q) → Any P views
    → Any P (set views number after) ⊎ Q
any_through P Q views number before after there step (k, view, l, e, holds) = elim (cases_lt k number) [
  | inl below ↦ inl (any_other P views number after k view l e holds (λ same. absurd (omega (arith, same))))
  | inr from ↦ elim (cases_lt number k) [
    | inl above ↦ inl (any_other P views number after k view l e holds (λ same. absurd (omega (arith, same))))
    | inr at ↦ any_same P Q views number before after there step k view l e holds (omega arith)
  ]
]

-- what holds of each view holds of the one that there is at a number
pub of_get : (P : HelperView → Type 0) (views : List HelperView) (number : ℕ) (view : HelperView)
    → slice_get views number ≡ Some view
    → All P views → P view
of_get P views number view there each =
    let within : number < length views = slice_get_within views number view there in
    let is : get_or views number view ≡ view = some_same (slice_get-get_or views number view within) there in
    subst P is (each number view within)

-- where something is known of a value, there is one
pub some_and : {X : Type 0} (P : X → Type 0) (o : Option X) → IsSomeAnd o P → (x : X) × (o ≡ Some x) × P x
some_and P None h = absurd h
some_and P (Some x) h = (x, refl, h)

-- what holds of the target of a word holds of this target
pub of_target : (old word at : ℕ) (P : ℕ → Type 0) → target old word ≡ Some at → OfTarget old word P → P at
of_target old word at P e h = subst (λ (t : Option ℕ). IfSome t P) e h

-- what holds of each tagged slot holds of this one
pub of_slot : (world : World) (from offset : ℕ) (cell : Reading) (P : ℕ → ℕ → Type 0)
    → cell_of world from ≡ Some cell
    → Contains (slots_of cell) offset → EachSlot world from P → P offset (slice_index world.words (from + offset))
of_slot world from offset cell P e there each =
    let all = subst (λ (c : Option Reading). IfSome c
    (λ r. All (λ o. P o (slice_index world.words (from + o))) (slots_of r))) e each in
    All-contains (λ (o : ℕ). P o (slice_index world.words (from + o))) (slots_of cell) offset all there

-- what holds of each number that a list contains holds of all of it
pub all_from : (P : ℕ → Type 0) (list : List ℕ) → ((x : ℕ) → Contains list x → P x) → All P list
all_from P list each k d l = each (get_or list k d) (Contains-get_or list k d l)

-- what holds of each of a list and of what joins it holds of each then
pub joins : (P : ℕ → Type 0) (list : List ℕ) (new : ℕ) → All P list → P new → (x : ℕ)
    → Contains (joined list new) x → P x
joins P list new each there x c = elim (decided (x == new)) [
  | inl same ↦ subst P (sym (eqb-true _ _ same)) there
  | inr other ↦ All-contains P list x each
      (joined_from list new x (λ e. absurd (let t = eq-eqb x new e in let both : true ≡ false = sym t ∙ other in cc)) c)
]

-- a word of a list that has a target
abbrev pub HasTarget : ℕ → List ℕ → ℕ → Type 0
HasTarget old words at = (word : ℕ) × Contains words word × (target old word ≡ Some at)

-- a cell that joined as a target is one of a word
joined_target : (old : ℕ) (list : List ℕ) (word at : ℕ) (new : Option ℕ) → target old word ≡ new
    → Contains (joined_by list new) at
    → Contains list at ⊎ (target old word ≡ Some at)
joined_target old list word at None e c = inl c
joined_target old list word at (Some a) e c = elim (decided (at == a)) [
  | inl same ↦ inr (e ∙ ap (λ x. Some x) (sym (eqb-true _ _ same)))
  | inr other ↦ inl (joined_from list a at
      (λ f. absurd (let t = eq-eqb at a f in let both : true ≡ false = sym t ∙ other in cc)) c)
]

-- what a list has once targets joined it had before, or is a target
pub targets_from : (old : ℕ) (list words : List ℕ) (at : ℕ) → Contains (targets_joined old list words) at
    → Contains list at ⊎ HasTarget old words at
targets_from old list [] at c = inl c
targets_from old list (word ∷ rest) at c = elim (targets_from old (joined_by list (target old word)) rest at c) [
  | inl early ↦ elim (joined_target old list word at (target old word) refl early) [
    | inl had ↦ inl had
    | inr is ↦ inr (word, first_in word rest, is)
  ]
  | inr later ↦ inr (later.0, rest_in word rest later.0 later.1, later.2)
]

-- each target is there
pub targets_there : (old : ℕ) (list words : List ℕ) (word at : ℕ) → Contains words word → target old word ≡ Some at
    → Contains (targets_joined old list words) at
targets_there old list [] word at c e = absurd (omega (arith, c.1))
targets_there old list (first ∷ rest) word at c e = elim (in_cases first rest word c) [
  | inl is ↦ targets_keep old (joined_by list (target old first)) rest at
      (subst (λ (o : Option ℕ). Contains (joined_by list o) at) (sym (ap (target old) is ∙ e)) (joined_in list at))
  | inr later ↦ targets_there old (joined_by list (target old first)) rest word at later e
]
