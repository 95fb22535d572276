-- What all workers have done together: each cell to which a way leads was copied once.
use Rattle.std.proofs.Common.{◌≡◌, ◌∙◌, ℕ, ◌+◌, ◌%◌, ◌<◌, ◌≤◌, inl, inr, List, [], ◌∷◌, length, map, Some, refl}
use Rattle.std.proofs.Common.{sym, ap, subst, arith}
use Rattle.std.specs.List.{Contains, flat_map}
use Rattle.std.proofs.Math.Nat.{mod-lt}
use Rattle.std.proofs.lemmas.List.Elements.{Contains-append_left, Contains-append_right, Contains-append_cases}
use Rattle.std.proofs.lemmas.Option.{slice_get-get_or, slice_get_cases}
use Rattle.tagged_word.specs.declared.word.Class.TheVariants.{Ref}
use Rattle.tagged_word.specs.Words.{IsClass, bits_of}
use Rattle.tagged_word.proofs.Cells.{some_same}
use Rattle.tagged_word.proofs.Members.{first_in, rest_in, in_cases, in_map, map_from}
use Rattle.tagged_word.proofs.Readings.{reference_from, reference_to}
use Rattle.shared_table.specs.Owned.{Own}
use Rattle.scav_copy.specs.declared.places.Home.{Home}
use Rattle.scav_copy.specs.Renamings.{IsRenamed}
use Rattle.scav_copy.proofs.Spots.{none_in}
use Rattle.claims.specs.declared.view.Claim.{Claim}
use Rattle.claims.specs.Claimed.{times, together, AreApart}
use Rattle.claims.proofs.Counts.{times-cons, one_here}
use Rattle.eden_copies.specs.Eden.{Deal, deal_of, word_at, slots_in, IsLed, MayCopy, RefersToEden}
use Rattle.eden_copies.specs.Sides.{end_of, room_word}
use Rattle.eden_copies.specs.Steps.{cell_claim}
use Rattle.eden_copies.specs.Copied.{claim_for, HasCopied, IsFollowed}
use Rattle.eden_copies.specs.Together.{Finished, homes_of, claims_of, whole_deal, HaveCopied, WorkersCopyOnce}
use Rattle.eden_copies.proofs.Tiles.{tile_within}
use Rattle.eden_copies.proofs.Growing.{slot_below}

-- what one of the lists has, all have
pub flat_in : {X A : Type 0} (f : X → List A) (xs : List X) (x : X) (a : A) → Contains xs x → Contains (f x) a
    → Contains (flat_map f xs) a
flat_in f [] x a has there = absurd (none_in x has)
flat_in f (y ∷ ys) x a has there =
    elim (in_cases y ys x has) [
      | inl is ↦
          Contains-append_left (f y) (flat_map f ys) a (subst (λ z. Contains (f z) a) (sym is) there)
      | inr rest ↦ Contains-append_right (f y) (flat_map f ys) a (flat_in f ys x a rest there)
    ]

-- what all have, one of the lists has
pub flat_from : {X A : Type 0} (f : X → List A) (xs : List X) (a : A) → Contains (flat_map f xs) a
    → (x : X) × Contains xs x × Contains (f x) a
flat_from f [] a has = absurd (none_in a has)
flat_from f (y ∷ ys) a has =
    elim (Contains-append_cases (f y) (flat_map f ys) a has) [
      | inl here ↦ (y, first_in y ys, here)
      | inr rest ↦ let found = flat_from f ys a rest in (found.0, rest_in y ys found.0 found.1, found.2)
    ]

-- the place of a claim stands among claims
pub times_has : (place : ℕ) (claims : List Claim) (claim : Claim) → Contains claims claim → claim.place ≡ place
    → 1 ≤ times claims place
times_has place [] claim has is = absurd (none_in claim has)
times_has place (first ∷ claims) claim has is =
    elim (in_cases first claims claim has) [
      | inl same ↦
          omega (arith, times-cons place first claims, one_here place first (ap (λ (c : Claim). c.place) same ∙ is))
      | inr rest ↦ omega (arith, times-cons place first claims, times_has place claims claim rest is)
    ]

-- of claims of which no place stands twice, two of one place are one
one_claim : (claims : List Claim) (one other : Claim) → AreApart claims → Contains claims one → Contains claims other
    → one.place ≡ other.place → one ≡ other
one_claim [] one other apart has also same = absurd (none_in one has)
one_claim (first ∷ claims) one other apart has also same =
    let twice : (here there : Claim) → first ≡ here → Contains claims there → here.place ≡ there.place → ⊥ =
    λ here there is rest e.
    let place : ℕ = there.place in
    omega (
      arith,
      apart place,
      times-cons place first claims,
      one_here place first (ap (λ (c : Claim). c.place) is ∙ e),
      times_has place claims there rest refl,
    ) in
    elim (in_cases first claims one has) [
      | inl is ↦
          elim (in_cases first claims other also) [
            | inl too ↦ sym is ∙ too
            | inr rest ↦ absurd (twice one other is rest same)
          ]
      | inr there ↦
          elim (in_cases first claims other also) [
            | inl too ↦ absurd (twice other one too there (sym same))
            | inr rest ↦
                one_claim claims one other
                (λ place. omega (arith, apart place, times-cons place first claims)) there rest same
          ]
    ]

-- homes of one cell at one address are one
same_home : (one other : Home) → one.from ≡ other.from → one.to ≡ other.to → one ≡ other
same_home one other from to =
    let moved : ℕ → ℕ → Home = λ a b. record { from = a; to = b } in
    ap (λ (n : ℕ). moved n one.to) from ∙ ap (λ (n : ℕ). moved other.from n) to

-- a way from what is dealt to one is a way from all slots
pub led_whole : (own : Own) (recorded : List ℕ) (first every cell : ℕ) → IsLed own (deal_of recorded first every) cell
    → IsLed own (whole_deal recorded) cell
led_whole own recorded first every _ (IsLed.by_slot slot cell dealt refers) =
    IsLed.by_slot slot cell (record { number = dealt.number; stands = dealt.stands; in_turn = omega arith }) refers
led_whole own recorded first every _ (IsLed.by_cell host offset cell led visited refers) =
    IsLed.by_cell host offset cell (led_whole own recorded first every host led) visited refers

-- a cell to which a way leads has a reference
led_class : (own : Own) (deal : Deal) (cell : ℕ) → IsLed own deal cell → IsClass (Ref cell)
led_class own deal _ (IsLed.by_slot slot cell dealt refers) =
    (reference_from (word_at own slot) cell refers.refers).0
led_class own deal _ (IsLed.by_cell host offset cell led visited refers) =
    (reference_from (word_at own (host + offset)) cell refers.refers).0

module _ (own : Own) (recorded : List ℕ) (all : List Finished) (may : MayCopy own (whole_deal recorded))
    (have : HaveCopied own recorded all) where
  -- each worker has copied what it was dealt
  pub has_copied : (one : Finished) → Contains all one
      → (number : ℕ) × HasCopied own (deal_of recorded number (length all)) one.worker one.seat
  has_copied one (k, inside, is) =
      (k, have.each k one (slice_get-get_or all k one inside ∙ ap Some is))

  -- a copy is of a cell to which a way leads
  home_led : (home : Home) → Contains (homes_of all) home → IsLed own (whole_deal recorded) home.from
  home_led home has =
      let (one, among, there) = flat_from (λ (f : Finished). f.worker.copies) all home has in
      let (number, copied) = has_copied one among in
      led_whole own recorded number (length all) home.from (copied.copying.led home there)

  -- and was claimed
  home_claimed : (home : Home) → Contains (homes_of all) home → Contains (together (claims_of all)) (claim_for own home)
  home_claimed home has =
      let (one, among, there) = flat_from (λ (f : Finished). f.worker.copies) all home has in
      let (number, copied) = has_copied one among in
      flat_in (λ (list : List Claim). list) (claims_of all) one.seat.made (claim_for own home)
      (in_map (λ (f : Finished). f.seat.made) all one among)
      (subst (λ (claims : List Claim). Contains claims (claim_for own home)) (sym copied.copying.claimed)
      (in_map (claim_for own) one.worker.copies home there))

  -- a claim of a cell of eden that was made is that of a copy
  home_for : (word cell to : ℕ) → RefersToEden own word cell → Contains (together (claims_of all))
      (cell_claim own cell to)
      → (home : Home) × Contains (homes_of all) home × (home.from ≡ cell) × (home.to ≡ to)
  home_for word cell to refers has =
      let (list, in_list, there) = flat_from (λ (l : List Claim). l) (claims_of all) (cell_claim own cell to) has in
      let (one, among, is) = map_from (λ (f : Finished). f.seat.made) all list in_list in
      let (number, copied) = has_copied one among in
      let made : Contains (map (claim_for own) one.worker.copies) (cell_claim own cell to) =
      subst (λ (claims : List Claim). Contains claims (cell_claim own cell to)) (sym is ∙
      copied.copying.claimed) there in
      let (home, in_copies, same) = map_from (claim_for own) one.worker.copies (cell_claim own cell to) made in
      let stands = may.stand home.from (led_whole own recorded number (length all) home.from
      (copied.copying.led home in_copies)) in (
        home,
        flat_in (λ (f : Finished). f.worker.copies) all one home among in_copies,
        omega (arith, ap (λ (c : Claim). c.place) same, stands.from, refers.from),
        ap (λ (c : Claim). c.value) same,
      )

  -- a cell that a word refers to which was followed has a copy
  followed_home : (one : Finished) (old new cell : ℕ) → Contains all one → IsFollowed own one.seat.seen old new
      → RefersToEden own old cell → (home : Home) × Contains (homes_of all) home × (home.from ≡ cell)
  followed_home one old new cell among (IsFollowed.kept none same) refers = absurd (none cell refers)
  followed_home one old new cell among (IsFollowed.renamed other to also has is) refers =
      let found = home_for old other to also (have.seen one among (cell_claim own other to) has) in
      (found.0, found.1, found.2 ∙ some_same also.refers refers.refers)

  -- a slot of a copy was followed
  slot_followed : (one : Finished) (home : Home) (offset : ℕ) → Contains all one → Contains one.worker.copies home
      → Contains (slots_in own home.from) offset
      → IsFollowed own one.seat.seen (word_at own (home.from + offset)) (room_word one.worker (home.to + offset))
  slot_followed one home offset among there visited =
      let (number, copied) = has_copied one among in
      let inside = tile_within own one.worker.start (end_of one.worker) one.worker.copies home
      copied.copying.tiled there in
      copied.copying.followed home offset there visited
      (omega (arith, inside.1, slot_below own home.from offset visited))

  -- each cell to which a way leads has a copy
  led_home : (cell : ℕ) → IsLed own (whole_deal recorded) cell
      → (home : Home) × Contains (homes_of all) home × (home.from ≡ cell)
  led_home _ (IsLed.by_slot slot cell dealt refers) =
      let turn : ℕ = dealt.number % length all in
      let inside : turn < length all = mod-lt dealt.number have.some in
      elim (slice_get_cases all turn).1 [
        | inl found ↦
            let (one, low, stands, at) = found in
            let among : Contains all one = (turn, low, at) in
            let (now, followed) = (have.each turn one stands).dealt slot
            (record { number = dealt.number; stands = dealt.stands; in_turn = refl }) in
            followed_home one (word_at own slot) now cell among followed refers
        | inr past ↦ absurd (omega (arith, past.0, inside))
      ]
  led_home _ (IsLed.by_cell host offset cell led visited refers) =
      let (home, has, is) = led_home host led in
      let (one, among, there) = flat_from (λ (f : Finished). f.worker.copies) all home has in
      let here : Contains (slots_in own home.from) offset =
      subst (λ (n : ℕ). Contains (slots_in own n) offset) (sym is) visited in
      followed_home one (word_at own (home.from + offset)) (room_word one.worker (home.to + offset)) cell among
      (slot_followed one home offset among there here)
      (subst (λ (n : ℕ). RefersToEden own (word_at own (n + offset)) cell) (sym is) refers)

  -- a word that was followed is renamed, or refers to no cell of which there is a copy
  renamed : (one : Finished) (old new : ℕ) → Contains all one → IsFollowed own one.seat.seen old new
      → IsRenamed (homes_of all) old new
  renamed one old new among (IsFollowed.kept none same) =
      IsRenamed.kept
      (λ home has is.
      let led = home_led home has in
      let stands = may.stand home.from led in
      none home.from (record {
        refers = reference_to old home.from (led_class own (whole_deal recorded) home.from led) is;
        from = stands.from;
        below = stands.below;
      }))
      same
  renamed one old new among (IsFollowed.renamed cell to refers has is) =
      let (home, there, from, at) = home_for old cell to refers (have.seen one among (cell_claim own cell to) has) in
      IsRenamed.renamed home there
      ((reference_from old cell refers.refers).1 ∙ ap (λ (n : ℕ). bits_of (Ref n)) (sym from))
      (is ∙ ap (λ (n : ℕ). bits_of (Ref n)) (sym at))

-- so all that was reached was copied once
pub workers_copy_once : WorkersCopyOnce
workers_copy_once own recorded all may have = record {
  copied = led_home own recorded all may have;
  led = home_led own recorded all may have;
  one_each = λ home other has also same.
      let claims : claim_for own home ≡ claim_for own other =
      one_claim (together (claims_of all)) (claim_for own home) (claim_for own other) have.once
      (home_claimed own recorded all may have home has) (home_claimed own recorded all may have other also)
      (ap (λ (n : ℕ). (cell_claim own n 0).place) same) in
      same_home home other same (ap (λ (c : Claim). c.value) claims);
  slots = λ one home offset among there visited.
      renamed own recorded all may have one (word_at own (home.from + offset)) (room_word one.worker (home.to + offset))
      among (slot_followed own recorded all may have one home offset among there visited);
}
