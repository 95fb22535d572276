-- Where a line of a block stands, and which lines name another.
use Rattle.std.proofs.Common.{◌≡◌, ◌⊎◌, inl, inr, ℕ, zero, suc, ◌+◌, ◌<◌, List, [], ◌∷◌, ◌++◌}
use Rattle.std.proofs.Common.{length, Some, refl, ap, ◌∙◌, subst, append_assoc, length-append, arith}
use Rattle.script_text.specs.declared.script.Line.{Line}
use Rattle.script_text.specs.declared.script.What.{What}
use Rattle.script_text.specs.Sound.{what_at}

-- a line of the first lines is a line of all
what_at-front : (xs ys : List Line) (k : ℕ) (what : What) → what_at xs k ≡ Some what → what_at (xs ++ ys) k ≡ Some what
what_at-front [] ys k what e = cc
what_at-front (x ∷ xs) ys zero what e = e
what_at-front (x ∷ xs) ys (suc k) what e = what_at-front xs ys k what e

-- behind the first lines stand the others
pub what_at-behind : (xs ys : List Line) (k : ℕ) → what_at (xs ++ ys) (length xs + k) ≡ what_at ys k
what_at-behind [] ys k =
    let here : 0 + k ≡ k = omega arith in
    ap (what_at ys) here
what_at-behind (x ∷ xs) ys k =
    let next : suc (length xs) + k ≡ suc (length xs + k) = omega arith in
    ap (what_at (x ∷ (xs ++ ys))) next ∙ what_at-behind xs ys k

-- a line that there is stands before the end
pub what_at-within : (xs : List Line) (k : ℕ) (what : What) → what_at xs k ≡ Some what → k < length xs
what_at-within [] k what e = cc
what_at-within (x ∷ xs) zero what e = omega arith
what_at-within (x ∷ xs) (suc k) what e = omega (arith, what_at-within xs k what e)

-- Another line at its place names this one: of lines from a place on, the one so many below does this with its place.
pub record IsNamed (Order : ℕ → ℕ → Type 0) (does : ℕ → What) (at k named : ℕ) (lines : List Line) : Type 0 where
  pub further : ℕ
  pub order : Order k further
  pub place : named ≡ at + further
  pub line : what_at lines further ≡ Some (does (at + k))

-- so it is in more lines
IsNamed-front : (Order : ℕ → ℕ → Type 0) (does : ℕ → What) (at k named : ℕ) (lines more : List Line)
    → IsNamed Order does at k named lines → IsNamed Order does at k named (lines ++ more)
IsNamed-front Order does at k named lines more h =
    record {
      further = h.further;
      order = h.order;
      place = h.place;
      line = what_at-front lines more h.further
          (does (at + k)) h.line;
    }

-- and behind other lines
pub IsNamed-behind : (Order : ℕ → ℕ → Type 0) (does : ℕ → What)
    → ((n k further : ℕ) → Order k further → Order (n + k) (n + further))
    → (front lines : List Line) (at from k named : ℕ) → from ≡ at + length front → IsNamed Order does from k named lines
    → IsNamed Order does at (length front + k) named (front ++ lines)
IsNamed-behind Order does shift front lines at from k named e h =
    let here : from + k ≡ at + (length front + k) = omega arith in
    record {
      further = length front + h.further;
      order = shift (length front) k h.further h.order;
      place = h.place ∙ omega arith;
      line = what_at-behind front lines h.further ∙ h.line ∙ ap (λ n. Some (does n)) here;
    }

-- where a line of a block and of the lines behind it stands
pub data Stands (first end : Line) (body rest : List Line) (what : What) : ℕ → Type 0 where
  at_first : first.what ≡ what → Stands first end body rest what 0
  in_body : (k : ℕ) → what_at body k ≡ Some what → Stands first end body rest what (1 + k)
  at_end : end.what ≡ what → Stands first end body rest what (1 + length body)
  behind : (k : ℕ) → what_at rest k ≡ Some what → Stands first end body rest what (2 + length body + k)

-- a line of lines with an `end` among them stands before the `end`, at it, or behind it
cut_at : (body rest : List Line) (end : Line) (k : ℕ) (what : What) → what_at (body ++ (end ∷ rest)) k ≡ Some what
    → (what_at body k ≡ Some what) ⊎
    (((k ≡ length body) × (end.what ≡ what))
    ⊎ ((j : ℕ) × (k ≡ suc (length body + j)) × (what_at rest j ≡ Some what)))
cut_at [] rest end zero what e = inr (inl (refl, cc))
cut_at [] rest end (suc k) what e = inr (inr (k, omega arith, e))
cut_at (x ∷ body) rest end zero what e = inl e
cut_at (x ∷ body) rest end (suc k) what e =
    elim (cut_at body rest end k what e) [
      | inl here ↦ inl here
      | inr there ↦
          inr (elim there [
            | inl here ↦ inl (ap suc here.0, here.1)
            | inr later ↦ inr (
              later.0,
              ap suc later.1
                  ∙ omega arith,
              later.2,
            )
          ])
    ]

-- each line of a block and of the lines behind it stands somewhere
pub stands : (first end : Line) (body rest : List Line) (what : What) (k : ℕ)
    → what_at (first ∷ (body ++ (end ∷ rest))) k ≡ Some what
    → Stands first end body rest what k
stands first end body rest what zero e = at_first cc
stands first end body rest what (suc k) e =
    let next : 1 + k ≡ suc k = omega arith in
    elim (cut_at body rest end k what e) [
      | inl here ↦ subst (Stands first end body rest what) next (in_body k here)
      | inr there ↦ elim there [
        | inl here ↦
            let last : 1 + length body ≡ suc k = omega (arith, here.0) in
            subst (Stands first end body rest what) last (at_end here.1)
        | inr later ↦
            let place : 2 + length body + later.0 ≡ suc k = omega (arith, later.1) in
            subst (Stands first end body rest what) place (behind later.0 later.2)
      ]
    ]

-- what is named in the body of a block is named in the block and the lines behind it
pub IsNamed-body : (Order : ℕ → ℕ → Type 0) (does : ℕ → What)
    → ((n k further : ℕ) → Order k further → Order (n + k) (n + further))
    → (first end : Line) (body rest : List Line) (at k named : ℕ) → IsNamed Order does (suc at) k named body
    → IsNamed Order does at (1 + k) named (first ∷ (body ++ (end ∷ rest)))
IsNamed-body Order does shift first end body rest at k named h =
    IsNamed-behind Order does shift (first ∷ []) (body ++ (end ∷ rest)) at (suc at) k named (omega arith)
    (IsNamed-front Order does (suc at) k named body (end ∷ rest) h)

-- so is what is named behind a block
pub IsNamed-rest : (Order : ℕ → ℕ → Type 0) (does : ℕ → What)
    → ((n k further : ℕ) → Order k further → Order (n + k) (n + further))
    → (first end : Line) (body rest : List Line) (at k named : ℕ)
    → IsNamed Order does (suc (suc (at + length body))) k named rest
    → IsNamed Order does at (2 + length body + k) named (first ∷ (body ++ (end ∷ rest)))
IsNamed-rest Order does shift first end body rest at k named h =
    let front : List Line = first ∷ (body ++ (end ∷ [])) in
    let count : length front ≡ 2 + length body = omega (arith, length-append body (end ∷ [])) in
    subst (λ n. IsNamed Order does at (n + k) named (first ∷ (body ++ (end ∷ rest)))) count
    (subst (λ all. IsNamed Order does at (length front + k) named (first ∷ all)) (append_assoc body (end ∷ []) rest)
    (IsNamed-behind Order does shift front rest at (suc (suc (at + length body))) k named (omega arith) h))
