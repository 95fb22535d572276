-- A table of transitions as it becomes a copy of another.
use Rattle.std.proofs.Common.{◌≡◌, ℕ, ◌+◌, ◌≤◌, List, [], ◌∷◌, ◌++◌, length, map, None, Some, cond}
use Rattle.std.proofs.Common.{refl, sym, ap, ◌∙◌, arith, HashMap, append_assoc, length-append}
use Rattle.std.proofs.lemmas.List.{map_push}
use Rattle.std.proofs.lemmas.Map.{update_all_push}
use Rattle.std.proofs.lemmas.Map.Made.{update_all_none}
use Rattle.std.proofs.lemmas.Map.Lookups.{hash_map_len_from_get}
use Rattle.std.specs.HashMap.{get, hash_map_len, spare, IsUnique}
use Rattle.std.specs.Map.{update_all}
use Rattle.shape_tree.specs.declared.transition.Transition.{Transition}
use Rattle.shape_tree.specs.Nodes.{same_transition}
use Rattle.shape_tree.proofs.SameTransitions.{same_transition_equiv}

-- these entries were put in, of those that the other holds
pub record Copies {S : Type 0} (total : ℕ) (so_far : List (Transition × ℕ))
    (steps : HashMap Transition ℕ S) : Type 0 where
  pub finds : (step : Transition) → get same_transition steps step ≡ update_all same_transition (λ _. None) so_far step
  pub room : total ≤ length so_far + spare steps
  pub unique : IsUnique same_transition steps

-- one entry more is put in
pub copies_more : {S : Type 0} (total : ℕ) (so_far : List (Transition × ℕ)) (steps new : HashMap Transition ℕ S)
    (step : Transition) (shape : ℕ) → Copies total so_far steps
    → ((other : Transition)
    → get same_transition new other ≡ cond (same_transition step other) (Some shape) (get same_transition steps other))
    → spare steps ≤ spare new + 1 → IsUnique same_transition new → Copies total (so_far ++ (step, shape) ∷ []) new
copies_more total so_far steps new step shape copies put room unique = record {
  finds = λ other. put other
      ∙ update_all_push same_transition (λ _. None) (get same_transition steps) so_far (step, shape) other
      (copies.finds other);
  room = omega (arith, copies.room, room, length-append so_far ((step, shape) ∷ []));
  unique = unique;
}

-- what is left after the next entry
pub left_more : {A : Type 0} (shows : A → Transition × ℕ) (all left rest : List (Transition × ℕ)) (xs : List A) (x : A)
    → map shows xs ++ left ≡ all → left ≡ shows x ∷ rest → map shows (xs ++ x ∷ []) ++ rest ≡ all
left_more shows all left rest xs x is next =
    ap (λ l. l ++ rest) (map_push shows xs x) ∙ append_assoc (map shows xs) (shows x ∷ []) rest
    ∙ ap (λ l. map shows xs ++ l) (sym next) ∙ is

-- once all were put in, the tables find the same
pub copied_all : {S : Type 0} (total : ℕ) (steps others : HashMap Transition ℕ S) → Copies total others.entries steps
    → IsUnique same_transition others → (step : Transition)
    → get same_transition steps step ≡ get same_transition others step
copied_all total steps others copies unique step =
    copies.finds step ∙ update_all_none same_transition_equiv same_transition (λ a b. refl) others.entries step unique

-- and have as many entries
pub copied_len : {S : Type 0} (total : ℕ) (steps others : HashMap Transition ℕ S) → Copies total others.entries steps
    → IsUnique same_transition others → hash_map_len steps ≡ hash_map_len others
copied_len total steps others copies unique =
    hash_map_len_from_get same_transition_equiv steps others copies.unique unique
    (copied_all total steps others copies unique)
