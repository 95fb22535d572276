-- What the owner of the table of claims knows once the seats of all workers were taken back.
use Rattle.std.proofs.Common.{◌≡◌, ◌∙◌, inl, inr, List, ◌∷◌, [], ◌++◌, sym, ap, subst}
use Rattle.std.specs.List.{Contains}
use Rattle.std.proofs.lemmas.List.{append-nil, append_assoc}
use Rattle.std.proofs.lemmas.List.Elements.{Contains-append_left, Contains-append_right}
use Rattle.tagged_word.proofs.Members.{in_cases}
use Rattle.scav_copy.proofs.Spots.{none_in}
use Rattle.claims.specs.declared.view.Claim.{Claim}
use Rattle.claims.specs.Claimed.{AreApart, AreAmong, together}
use Rattle.claims.specs.Sides.{OwnerSide, taking}
use Rattle.eden_copies.specs.Together.{Finished, claims_of}
use Rattle.lent_eden.specs.SeatsBack.{AreTakenBack, TakenBackHaveCopied}

-- it knows what each of them claimed, in order
made_are : (all : List Finished) (old new : OwnerSide) → AreTakenBack all old new
    → new.made ≡ old.made ++ claims_of all
made_are _ _ _ (AreTakenBack.none owner) = sym (append-nil owner.made)
made_are _ _ _ (AreTakenBack.next one more old new rest) =
    made_are more (taking old one.seat) new rest ∙ append_assoc old.made (one.seat.made ∷ []) (claims_of more)

-- it still knows of the claims that it knew were seen
still_seen : (all : List Finished) (old new : OwnerSide) → AreTakenBack all old new → AreAmong old.seen new.seen
still_seen _ _ _ (AreTakenBack.none owner) claim has = has
still_seen _ _ _ (AreTakenBack.next one more old new rest) claim has =
    still_seen more (taking old one.seat) new rest claim (Contains-append_left old.seen one.seat.seen claim has)

-- and of those that each of them saw
each_seen : (all : List Finished) (old new : OwnerSide) → AreTakenBack all old new → (one : Finished)
    → Contains all one → AreAmong one.seat.seen new.seen
each_seen _ _ _ (AreTakenBack.none owner) one there claim has = absurd (none_in one there)
each_seen _ _ _ (AreTakenBack.next first more old new rest) one there claim has =
    elim (in_cases first more one there) [
      | inl is ↦
          let own : Contains first.seat.seen claim =
          subst (λ (f : Finished). Contains f.seat.seen claim) (sym is) has in
          still_seen more (taking old first.seat) new rest claim
          (Contains-append_right old.seen first.seat.seen claim own)
      | inr later ↦ each_seen more (taking old first.seat) new rest one later claim has
    ]

-- the law
pub taken_back_have_copied : TakenBackHaveCopied
taken_back_have_copied own recorded all old new some each none back once seen =
    let made : new.made ≡ claims_of all =
    made_are all old new back ∙ ap (λ (lists : List (List Claim)). lists ++ claims_of all) none in
    record {
      some = some;
      each = each;
      once = subst (λ (lists : List (List Claim)). AreApart (together lists)) made once;
      seen = λ one there claim has.
          subst (λ (lists : List (List Claim)). Contains (together lists) claim) made
          (seen claim (each_seen all old new back one there claim has));
    }
