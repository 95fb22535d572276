-- Looks go round the board, and what a run of turns has made so far.
use Rattle.std.proofs.Common.{◌≡◌, ◌≢◌, ℕ, zero, suc, ◌+◌, ◌-◌, ◌%◌, ◌<◌, Bool, List, [], ◌∷◌, ◌++◌, get_or, map}
use Rattle.std.proofs.Common.{Contains, if◌then◌else◌}
use Rattle.std.proofs.Common.{append-nil, append_assoc, refl, sym, ap, subst, ◌∙◌, arith}
use Rattle.std.specs.List.{range_with_len}
use Rattle.std.proofs.lemmas.List.FromFn.{get_or-map-range_with_len, length-map-range_with_len, map-range_with_len_more}
use Rattle.core_parts.specs.declared.note.Note.{Note}
use Rattle.core_parts.specs.declared.note.Note.TheVariants.{Loaded, Took}
use Rattle.core_parts.proofs.Tested.{not_equal}
use Rattle.marker.specs.Turns.{AddsVisit, LooksEverywhere, LooksOnce, looks, turns}
use Rattle.marker.proofs.Looked.{looked_from, looked_join, looks_join, no_looks, once_join}
use Rattle.marker.proofs.ShadeAll.{turns_join}

-- so many places from one on, around the board
abbrev pub round : ℕ → ℕ → List ℕ
round from count = map (λ k. (from + k) % 64) (range_with_len 0 count)

-- a round goes on by the next place
round_more : (from count : ℕ) → round from (count + 1) ≡ round from count ++ (from + count) % 64 ∷ []
round_more from count =
    let none_before : 0 + count ≡ count = omega arith in
    map-range_with_len_more (λ k. (from + k) % 64) 0 count count none_before

-- the place of each look of a round
round_get : (from count k d : ℕ) → k < count → get_or (round from count) k d ≡ (from + k) % 64
round_get from count k d low =
    let none_before : 0 + k ≡ k = omega arith in
    get_or-map-range_with_len (λ k. (from + k) % 64) 0 count k k d low none_before

-- which look meets a place
meets : (from place : ℕ) → place < 64 → (from + (place + 64 - from % 64) % 64) % 64 ≡ place
meets from place low = omega (arith, low)

-- 64 looks meet each place
pub full_round : (from : ℕ) → LooksEverywhere (round from 64)
full_round from place low =
    let k : ℕ = (place + 64 - from % 64) % 64 in
    let inside : k < 64 = omega arith in (
      k,
      subst (λ (n : ℕ). k < n) (sym (length-map-range_with_len (λ k. (from + k) % 64) 0 64)) inside,
      round_get from 64 k place inside ∙ meets from place low,
    )

-- and fewer do not meet the next one
other_place : (from count k : ℕ) → k < count → count < 64 → (from + k) % 64 ≡ (from + count) % 64 → ⊥
other_place from count k low few same = omega (arith, low, few, same)

-- so the next place is none of a round that is not full
pub next_is_new : (from count : ℕ) → count < 64 → Contains (round from count) ((from + count) % 64) → ⊥
next_is_new from count few has =
    let low : has.0 < count =
    subst (λ (n : ℕ). has.0 < n) (length-map-range_with_len (λ k. (from + k) % 64) 0 count) has.1 in
    other_place from count has.0 low few (sym (round_get from count has.0 ((from + count) % 64) low) ∙ has.2)

-- So many turns were made since a log was this one, and no place was looked at twice without a visit between. The last
-- of them were looks that found nothing, at places one after another, and then no cell waits.
pub record IsGoing (before after : List Note) (listed : List ℕ) (made place idle : ℕ) : Type 0 where
  pub new : List Note
  pub from : ℕ
  pub is : after ≡ before ++ new
  pub made_is : turns new ≡ made
  pub places : looks new ≡ round from idle
  pub next : place ≡ (from + idle) % 64
  pub none_waits : 0 < idle → listed ≡ []
  pub once : LooksOnce [] new
  pub looked : listed ≡ [] → looked_from [] new ≡ round from idle

-- no turn was made so far
pub not_begun : (log : List Note) (listed : List ℕ) (place : ℕ) → place < 64 → IsGoing log log listed 0 place 0
not_begun log listed place low = record {
  new = [];
  from = place;
  is = sym (append-nil log);
  made_is = refl;
  places = refl;
  next = omega (arith, low);
  none_waits = λ some. absurd (omega (arith, some));
  once = tt;
  looked = λ empty. refl;
}

-- where the last looks found nothing, no cell waits
pub none_waits_idle : (before after : List Note) (listed : List ℕ) (made place idle : ℕ)
    → (g : IsGoing before after listed made place idle) → looks g.new ≢ [] → listed ≡ []
none_waits_idle before after listed made place zero g some = absurd (some g.places)
none_waits_idle before after listed made place (suc idle) g some = g.none_waits (omega arith)

module _ (before after later : List Note) (listed : List ℕ) (made place idle : ℕ)
    (g : IsGoing before after listed made place idle) where
  longer : (notes : List Note) → later ≡ after ++ notes → later ≡ before ++ (g.new ++ notes)
  longer notes is = is ∙ (ap (λ (ns : List Note). ns ++ notes) g.is ∙ append_assoc before g.new notes)

  -- a turn more that visits a cell
  pub visits_on : (now : List ℕ) (to : ℕ) → AddsVisit after later → to < 64 → IsGoing before later now (made + 1) to 0
  visits_on now to visit low =
      let all : List Note = Loaded visit.cell ∷ visit.notes in
      let none = no_looks visit.notes visit.none_more in
      record {
        new = g.new ++ all;
        from = to;
        is = longer all visit.is;
        made_is = omega (arith, turns_join g.new all, g.made_is, visit.none_more);
        places = looks_join [] g.new all ∙ none.0;
        next = omega (arith, low);
        none_waits = λ some. absurd (omega (arith, some));
        once = once_join [] g.new all g.once none.2;
        looked = λ empty. looked_join [] g.new all ∙ none.1;
      }

  -- a place that is looked at with an empty list is none of the last ones
  new_look : (found : ℕ) → idle < 64 → listed ≡ [] → LooksOnce (looked_from [] g.new) (Took place found ∷ [])
  new_look found few empty =
      let next = g.next in (
        omega (arith, next),
        (λ has. next_is_new g.from idle few
            (subst (λ (p : ℕ). Contains (round g.from idle) p) g.next
            (subst (λ (xs : List ℕ). Contains xs place) (g.looked empty) has))),
        tt,
      )

  -- a turn more that looks and finds a cell
  pub finds_on : (now : List ℕ) (to found : ℕ) → found ≢ 0 → later ≡ after ++ Took place found ∷ [] → idle < 64
      → listed ≡ [] → now ≢ [] → to < 64 → IsGoing before later now (made + 1) to 0
  finds_on now to found other is few empty some_wait low =
      let all : List Note = Took place found ∷ [] in
      record {
        new = g.new ++ all;
        from = to;
        is = longer all is;
        made_is = omega (arith, turns_join g.new all, g.made_is);
        places = looks_join [] g.new all
            ∙ ap (λ (b : Bool). if b then looks g.new ++ place ∷ [] else []) (not_equal found 0 other);
        next = omega (arith, low);
        none_waits = λ some. absurd (omega (arith, some));
        once = once_join [] g.new all g.once (new_look found few empty);
        looked = λ none. absurd (some_wait none);
      }

  round_on : (seen : List ℕ) → seen ≡ round g.from idle → seen ++ place ∷ [] ≡ round g.from (idle + 1)
  round_on seen is =
      ap (λ (xs : List ℕ). xs ++ place ∷ []) is
      ∙ (ap (λ (p : ℕ). round g.from idle ++ p ∷ []) g.next ∙ sym (round_more g.from idle))

  -- and one that finds nothing
  pub looks_on : (now : List ℕ) → later ≡ after ++ Took place 0 ∷ [] → idle < 64 → listed ≡ [] → now ≡ []
      → IsGoing before later now (made + 1) ((place + 1) % 64) (idle + 1)
  looks_on now is few empty none_waits =
      let all : List Note = Took place 0 ∷ [] in
      record {
        new = g.new ++ all;
        from = g.from;
        is = longer all is;
        made_is = omega (arith, turns_join g.new all, g.made_is);
        places = looks_join [] g.new all ∙ round_on (looks g.new) g.places;
        next = let next = g.next in omega (arith, next);
        none_waits = λ some. none_waits;
        once = once_join [] g.new all g.once (new_look 0 few empty);
        looked = λ none. looked_join [] g.new all ∙ round_on (looked_from [] g.new) (g.looked empty);
      }
