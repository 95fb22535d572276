-- Words that are put behind all pages, one after another.
use Rattle.std.proofs.Common.{◌≡◌, ◌≢◌, ◌∙◌, ℕ, zero, suc, ◌+◌, ◌<◌, ◌≤◌, inl, inr, List, [], ◌∷◌, length, get_or}
use Rattle.std.proofs.Common.{slice_get, Some, refl, sym, ap, subst, arith, length-set}
use Rattle.std.specs.Prelude.{slice_set}
use Rattle.std.specs.List.{Contains}
use Rattle.std.proofs.lemmas.List.{get_or-set_same}
use Rattle.std.proofs.lemmas.Option.{get_or_from_slice_get, slice_get_within}
use Rattle.tagged_word.specs.declared.word.Class.TheVariants.{Ref}
use Rattle.tagged_word.specs.Words.{bits_of}
use Rattle.tagged_word.proofs.Cells.{some_same}
use Rattle.write_barrier.specs.Seats.{RestStays}
use Rattle.write_barrier.specs.Staying.{rest_stays_itself, rest_stays_again}
use Rattle.write_barrier.specs.MutatorState.{Mutator, with_word}
use Rattle.write_barrier.proofs.HeapWords.{stays_beside-put}
use Rattle.write_barrier.proofs.JudgedSlots.{wiped_behind}
use Rattle.scav_copy.specs.declared.places.Home.{Home}
use Rattle.scav_copy.proofs.Redirecting.{equal_or_not}
use Rattle.scav_copy.proofs.Spots.{elsewhere}
use Rattle.eden_copies.specs.Copied.{AreOfOneEach}
use Rattle.handed_rooms.specs.Taken.{HasRefs, HasRoom, StaysBeside}

-- nothing has changed
pub stays_itself : (main : Mutator) → StaysBeside main main
stays_itself main = record {
  seat = rest_stays_itself main.seat;
  paths = refl;
  young = refl;
  free = refl;
  recorded = refl;
  cycle = refl;
}

-- one thing after another
pub stays_again : {first old new : Mutator} → StaysBeside first old → StaysBeside old new → StaysBeside first new
stays_again {first} {old} {new} before then = record {
  seat = rest_stays_again first.seat old.seat new.seat before.seat then.seat;
  paths = then.paths ∙ before.paths;
  young = then.young ∙ before.young;
  free = then.free ∙ before.free;
  recorded = then.recorded ∙ before.recorded;
  cycle = then.cycle ∙ before.cycle;
}

-- a word is put behind all pages
pub put_stays : {old new : Mutator} (at word : ℕ) → new ≡ with_word old at word → old.recorded.bound ≤ at
    → StaysBeside old new
put_stays {old} {new} at word is behind = record {
  seat = subst (λ (main : Mutator). RestStays old.seat main.seat) (sym is) (stays_beside-put old.seat at word);
  paths = ap (λ (main : Mutator). main.paths) is;
  young = ap (λ (main : Mutator). main.young) is;
  free = ap (λ (main : Mutator). main.free) is;
  recorded = ap (λ (main : Mutator). main.recorded) is ∙ wiped_behind old.recorded at (at + 1) behind;
  cycle = ap (λ (main : Mutator). main.cycle) is;
}

-- where a word was put it stands
put_there : (words now : List ℕ) (at word : ℕ) → now ≡ slice_set words at word → at < length words
    → get_or now at 0 ≡ word
put_there words now at word is inside =
    ap (λ (all : List ℕ). get_or all at 0) is ∙ get_or-set_same words at word 0 inside

-- and no other is another
put_elsewhere : (words now : List ℕ) (at word other : ℕ) → now ≡ slice_set words at word → other ≢ at
    → get_or now other 0 ≡ get_or words other 0
put_elsewhere words now at word other is apart =
    ap (λ (all : List ℕ). get_or all other 0) is ∙ elsewhere words at word other apart

-- no word of the room is put
pub no_room : (start : ℕ) (room words : List ℕ) → HasRoom start room 0 words words
no_room start room words = record {
  long = refl;
  put = λ offset less. absurd (omega (arith, less));
  others = λ at out. refl;
}

-- one more is
pub one_word_more : (start : ℕ) (room : List ℕ) (offset word : ℕ) (old mid new : List ℕ)
    → HasRoom start room offset old mid → new ≡ slice_set mid (start + offset) word
    → get_or room offset 0 ≡ word → start + offset < length mid → HasRoom start room (offset + 1) old new
one_word_more start room offset word old mid new has is of_room inside = record {
  long = ap length is ∙ length-set mid (start + offset) word ∙ has.long;
  put = λ k less. elim (equal_or_not k offset) [
    | inl same ↦
        ap (λ (n : ℕ). get_or new (start + n) 0) same ∙ put_there mid new (start + offset) word is inside
        ∙ sym of_room ∙ ap (λ (n : ℕ). get_or room n 0) (sym same)
    | inr other ↦
        put_elsewhere mid new (start + offset) word (start + k) is (λ same. other (omega (arith, same)))
        ∙ has.put k (omega (arith, less, other))
  ];
  others = λ at out.
      put_elsewhere mid new (start + offset) word at is
      (λ same. out (omega (arith, same), omega (arith, same)))
      ∙ has.others at (λ inside. out (inside.0, omega (arith, inside.1)));
}

-- no header is put
pub no_refs : (copies : List Home) (words : List ℕ) → HasRefs copies 0 words words
no_refs copies words = record {
  long = refl;
  put = λ number home less stands. absurd (omega (arith, less));
  others = λ at out. refl;
}

-- copies at two places are of two cells
apart_by_place : (copies : List Home) (one other : ℕ) (home another : Home) → AreOfOneEach copies → one < other
    → other < length copies → get_or copies one home ≡ home → get_or copies other another ≡ another
    → another.from ≢ home.from
apart_by_place [] one other home another each less within stands also = absurd (omega (arith, within))
apart_by_place (first ∷ copies) zero zero home another each less within stands also = absurd (omega (arith, less))
apart_by_place (first ∷ copies) zero (suc other) home another each less within stands also =
    let is : first ≡ home = stands in
    let among : Contains copies another = (other, omega (arith, within), also) in
    λ same. each.0 another among (same ∙ ap (λ (h : Home). h.from) (sym is))
apart_by_place (first ∷ copies) (suc one) zero home another each less within stands also =
    absurd (omega (arith, less))
apart_by_place (first ∷ copies) (suc one) (suc other) home another each less within stands also =
    apart_by_place copies one other home another each.1 (omega (arith, less)) (omega (arith, within)) stands also

-- one more is
pub one_ref_more : (copies : List Home) (number word : ℕ) (home : Home) (old mid new : List ℕ)
    → AreOfOneEach copies → HasRefs copies number old mid → slice_get copies number ≡ Some home
    → new ≡ slice_set mid home.from word → word ≡ bits_of (Ref home.to) → home.from < length mid
    → HasRefs copies (number + 1) old new
one_ref_more copies number word home old mid new each has stands is refers inside = record {
  long = ap length is ∙ length-set mid home.from word ∙ has.long;
  put = λ k other less also. elim (equal_or_not k number) [
    | inl same ↦
        let one : other ≡ home = some_same (ap (slice_get copies) (sym same) ∙ also) stands in
        ap (λ (h : Home). get_or new h.from 0) one ∙ put_there mid new home.from word is inside ∙ refers
        ∙ ap (λ (h : Home). bits_of (Ref h.to)) (sym one)
    | inr apart ↦
        put_elsewhere mid new home.from word other.from is
        (λ same.
        apart_by_place copies k number other home each (omega (arith, less, apart))
        (slice_get_within copies number home stands) (get_or_from_slice_get copies k other other also)
        (get_or_from_slice_get copies number home home stands) (sym same))
        ∙ has.put k other (omega (arith, less, apart)) also
  ];
  others = λ at out.
      put_elsewhere mid new home.from word at is (λ same. out number home (omega arith) stands (sym same))
      ∙ has.others at (λ k other less also. out k other (omega (arith, less)) also);
}
