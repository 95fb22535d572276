-- The lines of a source, as the pieces that std's `slice_split` gives.
use Rattle.std.proofs.Common.{◌≡◌, ℕ, suc, ◌-◌, ◌<◌, Bool, true, false, cond, eqb, List, [], ◌∷◌, length}
use Rattle.std.proofs.Common.{map, take, get_or, refl, sym, ap, ◌∙◌, arith, Bor}
use Rattle.std.specs.List as std
use Rattle.std.specs.List.{slice_split}
use Rattle.std.proofs.lemmas.List.{length-map, take-map}
use Rattle.std.proofs.lemmas.Bool.{false≢true}
use Rattle.std.proofs.lemmas.Bool.Decides.{nat_tests}
use Rattle.script_text.specs.Lines.{onto_first, lines_of}
use Rattle.script_text.specs.Pieces.{is_empty, ends_empty, without_empty_end}

-- there is a first piece
pub record HasFirst (pieces : List (List ℕ)) : Type 0 where
  pub first : List ℕ
  pub rest : List (List ℕ)
  pub is : pieces ≡ first ∷ rest

-- a byte before the first of some pieces leaves a first piece
onto_first-HasFirst : (b : ℕ) (pieces : List (List ℕ)) → HasFirst (std.onto_first b pieces)
onto_first-HasFirst b [] = record { first = b ∷ []; rest = []; is = refl }
onto_first-HasFirst b (piece ∷ pieces) = record { first = b ∷ piece; rest = pieces; is = refl }

-- a split gives a first piece
slice_split-HasFirst : (p : ℕ → Bool) (bs : List ℕ) → HasFirst (slice_split p bs)
slice_split-HasFirst p [] = record { first = []; rest = []; is = refl }
slice_split-HasFirst p (b ∷ bs) =
    elim (p b) as (λ v. HasFirst (cond v ([] ∷ slice_split p bs) (std.onto_first b (slice_split p bs)))) [
      | true ↦ record { first = []; rest = slice_split p bs; is = refl }
      | false ↦ onto_first-HasFirst b
          (slice_split p bs)
    ]

-- a byte before the first piece is a byte before the first line
without_empty_end-onto_first : (b : ℕ) (piece : List ℕ) (pieces : List (List ℕ))
    → without_empty_end (std.onto_first b (piece ∷ pieces)) ≡ onto_first b (without_empty_end (piece ∷ pieces))
without_empty_end-onto_first b [] [] = refl
without_empty_end-onto_first b (c ∷ cs) [] = refl
without_empty_end-onto_first b piece (next ∷ pieces) = refl

-- no pieces have no first
none : {first : List ℕ} {rest : List (List ℕ)} → [] ≡ first ∷ rest → ⊥
none e = cc

-- a line feed ends a line that is empty
without_empty_end-after_feed : (pieces : List (List ℕ)) → HasFirst pieces
    → without_empty_end ([] ∷ pieces) ≡ [] ∷ without_empty_end pieces
without_empty_end-after_feed [] h = absurd (none h.is)
without_empty_end-after_feed (piece ∷ pieces) h = refl

-- a byte before the first piece is a byte before the first line
onto_first-lines : (b : ℕ) (pieces : List (List ℕ)) → HasFirst pieces
    → without_empty_end (std.onto_first b pieces) ≡ onto_first b (without_empty_end pieces)
onto_first-lines b [] h = refl
onto_first-lines b (piece ∷ pieces) h = without_empty_end-onto_first b piece pieces

-- the lines of a source are its pieces between line feeds, the last only where it is not empty
without_empty_end-slice_split : (source : List ℕ)
    → without_empty_end (slice_split (λ b. eqb b 10) source) ≡ lines_of source
without_empty_end-slice_split [] = refl
without_empty_end-slice_split (b ∷ bs) =
    let pieces = slice_split (λ c. eqb c 10) bs in
    let has = slice_split-HasFirst (λ c. eqb c 10) bs in
    let at_feed : without_empty_end ([] ∷ pieces) ≡ [] ∷ lines_of bs =
    without_empty_end-after_feed pieces has ∙ ap (λ rest. [] ∷ rest) (without_empty_end-slice_split bs) in
    let at_byte : without_empty_end (std.onto_first b pieces) ≡ onto_first b (lines_of bs) =
    onto_first-lines b pieces has ∙ ap (onto_first b) (without_empty_end-slice_split bs) in
    elim (eqb b 10) as (λ v. without_empty_end (cond v ([] ∷ pieces) (std.onto_first b pieces)) ≡ cond v
    ([] ∷ lines_of bs) (onto_first b (lines_of bs)))
    [ true ↦ at_feed | false ↦ at_byte ]

-- an empty last piece is left out
take-without_empty_end : (pieces : List (List ℕ)) → ends_empty pieces ≡ true
    → take (length pieces - 1) pieces ≡ without_empty_end pieces
take-without_empty_end [] h = refl
take-without_empty_end ([] ∷ []) h = refl
take-without_empty_end ((b ∷ bs) ∷ []) h = absurd (false≢true h)
take-without_empty_end (piece ∷ next ∷ pieces) h =
    let here : length (piece ∷ next ∷ pieces) - 1 ≡ suc (length (next ∷ pieces) - 1) = omega arith in
    ap (λ n. take n (piece ∷ next ∷ pieces)) here
    ∙ ap (λ rest. piece ∷ rest) (take-without_empty_end (next ∷ pieces) h)

-- a last piece that is not empty stays
all-without_empty_end : (pieces : List (List ℕ)) → ends_empty pieces ≡ false → pieces ≡ without_empty_end pieces
all-without_empty_end [] h = refl
all-without_empty_end ([] ∷ []) h = absurd (false≢true (sym h))
all-without_empty_end ((b ∷ bs) ∷ []) h = refl
all-without_empty_end (piece ∷ next ∷ pieces) h = ap (λ rest. piece ∷ rest) (all-without_empty_end (next ∷ pieces) h)

-- a list is empty where its length is 0
length-is_empty : (bs : List ℕ) → eqb (length bs) 0 ≡ is_empty bs
length-is_empty [] = refl
length-is_empty (b ∷ bs) = grind (arith, nat_tests)

-- whether the last piece is empty, by its place
pub last-ends_empty : (pieces : List (Bor (List ℕ))) (d : Bor (List ℕ)) → 0 < length pieces
    → eqb (length (get_or pieces (length pieces - 1) d).now) 0 ≡ ends_empty (map (λ piece. piece.now) pieces)
last-ends_empty [] d h = absurd (omega arith)
last-ends_empty (piece ∷ []) d h = length-is_empty piece.now
last-ends_empty (piece ∷ next ∷ pieces) d h =
    let here : length (piece ∷ next ∷ pieces) - 1 ≡ suc (length (next ∷ pieces) - 1) = omega arith in
    ap (λ n. eqb (length (get_or (piece ∷ next ∷ pieces) n d).now) 0) here
    ∙ last-ends_empty (next ∷ pieces) d (omega arith)

-- without an empty last piece, the pieces between line feeds are the lines
pub lines_of-shorter : (source : List ℕ) (n : ℕ) (pieces : List (Bor (List ℕ))) → n ≡ length pieces
    → map (λ piece. piece.now) pieces ≡ slice_split (λ b. eqb b 10) source
    → ends_empty (map (λ piece. piece.now) pieces) ≡ true
    → map (λ piece. piece.now) (take (n - 1) pieces) ≡ lines_of source
lines_of-shorter source n pieces len e h =
    let names = map (λ (piece : Bor (List ℕ)). piece.now) pieces in
    let count : n - 1 ≡ length names - 1 = ap (λ m. m - 1) (len ∙ sym (length-map pieces (λ piece. piece.now))) in
    sym (take-map (λ piece. piece.now) (n - 1) pieces) ∙ ap (λ m. take m names) count ∙ take-without_empty_end names h
    ∙ ap without_empty_end e ∙ without_empty_end-slice_split source

-- where the last piece is not empty, the pieces between line feeds are the lines
pub lines_of-all : (source : List ℕ) (pieces : List (List ℕ)) → pieces ≡ slice_split (λ b. eqb b 10) source
    → ends_empty pieces ≡ false → pieces ≡ lines_of source
lines_of-all source pieces e h =
    all-without_empty_end pieces h ∙ ap without_empty_end e ∙ without_empty_end-slice_split source
