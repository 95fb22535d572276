-- The last pair of each key is told when a pair comes, and when the last one is taken off.
use Rattle.std.proofs.Common.{◌≡◌, ◌≢◌, ℕ, ◌+◌, ◌<◌, inl, inr, List, [], ◌∷◌, ◌++◌, length, set, get_or}
use Rattle.std.proofs.Common.{option_map, sym, ◌∙◌, ap, subst, arith}
use Rattle.std.proofs.lemmas.Bool.{cases_eq, cases_lt}
use Rattle.std.proofs.lemmas.Option.{slice_get_within, slice_get-map}
use Rattle.std.proofs.lemmas.List.{length-append, get_or-set_same, get_or-set_other, get_or_past}
use Rattle.heap_model.proofs.CellWords.{slice_get-append_left}
use Rattle.ephemeron_mark.specs.declared.waiting.WaitingPair.{WaitingPair}
use Rattle.ephemeron_mark.specs.Pairs.{IsLastOf}
use Rattle.ephemeron_mark.specs.Model.{keys_of, AreTold}
use Rattle.ephemeron_mark.proofs.LastPairs.{last_there, which_of, last_itself, last_stays, last_of_more, last_of_fewer}
use Rattle.ephemeron_mark.proofs.LastPairs.{last_before, as_many_keys, keys_with}

-- which of all pairs is the last of a key is told
pub told_of_all : (pairs : List WaitingPair) (last : List ℕ) (key : ℕ) → AreTold last pairs
    → IsLastOf (keys_of pairs) (length (keys_of pairs)) key (get_or last key 0)
told_of_all pairs last key told =
    subst (λ (n : ℕ). IsLastOf (keys_of pairs) n key (get_or last key 0)) (sym (as_many_keys pairs)) (told.latest key)

module _ (pairs : List WaitingPair) (pair : WaitingPair) where
  -- with one pair more there is one more
  one_more : length (pairs ++ pair ∷ []) ≡ length (keys_of pairs) + 1
  one_more = omega (arith, as_many_keys pairs, length-append pairs (pair ∷ []))

  -- what is told of the keys with one more is told of the pairs, and the other way round
  of_pairs : (key last : ℕ) → IsLastOf (keys_of pairs ++ pair.key ∷ []) (length (keys_of pairs) + 1) key last
      → IsLastOf (keys_of (pairs ++ pair ∷ [])) (length (pairs ++ pair ∷ [])) key last
  of_pairs key last is =
      subst (λ (n : ℕ). IsLastOf (keys_of (pairs ++ pair ∷ [])) n key last) (sym one_more)
      (subst (λ (keys : List ℕ). IsLastOf keys (length (keys_of pairs) + 1) key last) (sym (keys_with pairs pair)) is)

  of_keys : (key last : ℕ) → IsLastOf (keys_of (pairs ++ pair ∷ [])) (length (pairs ++ pair ∷ [])) key last
      → IsLastOf (keys_of pairs ++ pair.key ∷ []) (length (keys_of pairs) + 1) key last
  of_keys key last is =
      subst (λ (keys : List ℕ). IsLastOf keys (length (keys_of pairs) + 1) key last) (keys_with pairs pair)
      (subst (λ (n : ℕ). IsLastOf (keys_of (pairs ++ pair ∷ [])) n key last) one_more is)

  -- of the first so many pairs the same is told with one more
  of_more : (count key last : ℕ) → count < length pairs + 1 → IsLastOf (keys_of pairs) count key last
      → IsLastOf (keys_of (pairs ++ pair ∷ [])) count key last
  of_more count key last few is =
      subst (λ (keys : List ℕ). IsLastOf keys count key last) (sym (keys_with pairs pair))
      (last_of_more (keys_of pairs) (pair.key ∷ []) count key last (omega (arith, few, as_many_keys pairs)) is)

  of_fewer : (count key last : ℕ) → count < length pairs + 1
      → IsLastOf (keys_of (pairs ++ pair ∷ [])) count key last → IsLastOf (keys_of pairs) count key last
  of_fewer count key last few is =
      last_of_fewer (keys_of pairs) (pair.key ∷ []) count key last (omega (arith, few, as_many_keys pairs))
      (subst (λ (keys : List ℕ). IsLastOf keys count key last) (keys_with pairs pair) is)

  -- A pair comes: it is told before itself which was the last of its key, and now that is itself.
  pub told_added : (last new : List ℕ) → AreTold last pairs → pair.earlier ≡ get_or last pair.key 0
      → get_or new pair.key 0 ≡ length pairs + 1
      → ((other : ℕ) → other ≢ pair.key → get_or new other 0 ≡ get_or last other 0)
      → AreTold new (pairs ++ pair ∷ [])
  told_added last new told is own others =
      let many : length pairs + 1 ≡ length (keys_of pairs) + 1 = omega (arith, as_many_keys pairs) in
      record {
        latest = λ key. elim (cases_eq key pair.key) [
          | inl same ↦
              let itself : get_or new key 0 ≡ length (keys_of pairs) + 1 =
              ap (λ (one : ℕ). get_or new one 0) same ∙ own ∙ many in
              of_pairs key (get_or new key 0)
              (subst (λ (n : ℕ). IsLastOf (keys_of pairs ++ pair.key ∷ []) (length (keys_of pairs) + 1) key n)
              (sym itself)
              (subst (λ (one : ℕ). IsLastOf (keys_of pairs ++ pair.key ∷ []) (length (keys_of pairs) + 1) one
              (length (keys_of pairs) + 1)) (sym same) (last_itself (keys_of pairs) pair.key)))
          | inr other ↦
              of_pairs key (get_or new key 0)
              (subst (λ (n : ℕ). IsLastOf (keys_of pairs ++ pair.key ∷ []) (length (keys_of pairs) + 1) key n)
              (sym (others key other)) (last_stays (keys_of pairs) pair.key key (get_or last key 0)
              (λ e. other (sym e)) (told_of_all pairs last key told)))
        ];
        earlier = λ place one there. elim (which_of pairs pair one place there) [
          | inl before ↦
              of_more place one.key one.earlier (omega (arith, slice_get_within pairs place one before))
              (told.earlier place one before)
          | inr come ↦
              let here = told.latest pair.key in
              let own = of_more (length pairs) pair.key (get_or last pair.key 0) (omega arith) here in
              let own_earlier = subst (λ (n : ℕ). IsLastOf (keys_of (pairs ++ pair ∷ [])) (length pairs) pair.key n)
              (sym is) own in
              subst (λ (n : ℕ). IsLastOf (keys_of (pairs ++ pair ∷ [])) n one.key one.earlier) (sym come.0)
              (subst (λ (p : WaitingPair). IsLastOf (keys_of (pairs ++ pair ∷ [])) (length pairs) p.key p.earlier)
              come.1 own_earlier)
        ];
      }

  -- It is told of the key of the last pair: that of a key of which nothing is told no pair waits.
  pub key_told : (last : List ℕ) → AreTold last (pairs ++ pair ∷ []) → pair.key < length last
  key_told last told =
      let there = slice_get-map (λ (one : WaitingPair). one.key) (pairs ++ pair ∷ []) (length pairs)
      ∙ ap (option_map (λ (one : WaitingPair). one.key)) (last_there pairs pair) in
      let more = (told.latest pair.key).behind (length pairs)
      (slice_get_within (pairs ++ pair ∷ []) (length pairs) pair (last_there pairs pair)) there in
      elim (cases_lt pair.key (length last)) [
        | inl within ↦ within
        | inr past ↦ absurd (omega (arith, more, get_or_past last pair.key 0 past))
      ]

  -- The last pair is taken off, and its key has the last that was told before it.
  pub told_taken : (last : List ℕ) → AreTold last (pairs ++ pair ∷ []) → AreTold (set last pair.key pair.earlier) pairs
  told_taken last told =
      let there = last_there pairs pair in
      let below = key_told last told in
      record {
        latest = λ key. elim (cases_eq key pair.key) [
          | inl same ↦
              let own : get_or (set last pair.key pair.earlier) key 0 ≡ pair.earlier =
              ap (λ (one : ℕ). get_or (set last pair.key pair.earlier) one 0) same
              ∙ get_or-set_same last pair.key pair.earlier 0 below in
              subst (λ (n : ℕ). IsLastOf (keys_of pairs) (length pairs) key n) (sym own)
              (subst (λ (one : ℕ). IsLastOf (keys_of pairs) (length pairs) one pair.earlier) (sym same)
              (of_fewer (length pairs) pair.key pair.earlier (omega arith)
              (told.earlier (length pairs) pair there)))
          | inr other ↦
              let stay = get_or-set_other last pair.key key pair.earlier 0 other in
              let before = of_keys key (get_or last key 0) (told.latest key) in
              let own = last_before (keys_of pairs) pair.key key (get_or last key 0) (λ e. other (sym e)) before in
              subst (λ (n : ℕ). IsLastOf (keys_of pairs) (length pairs) key n) (sym stay)
              (subst (λ (n : ℕ). IsLastOf (keys_of pairs) n key (get_or last key 0)) (as_many_keys pairs) own)
        ];
        earlier = λ place one before.
            let within = slice_get_within pairs place one before in
            of_fewer place one.key one.earlier (omega (arith, within))
            (told.earlier place one (slice_get-append_left pairs (pair ∷ []) place within ∙ before));
      }
