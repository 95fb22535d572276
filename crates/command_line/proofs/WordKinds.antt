-- The kind of a word, beside what the parser of options takes the word for.
use Rattle.std.proofs.Common.{◌≡◌, ◌≢◌, ◌∙◌, ℕ, ◌+◌, ◌==◌, ◌||◌, Bool, true, false, not}
use Rattle.std.proofs.Common.{[], ◌∷◌, length, take, Option, None}
use Rattle.std.proofs.Common.{Some, cond}
use Rattle.std.proofs.Common.{bytes_eq, nat_eq, refl, subst, ap, sym, inl, inr, arith, ne_eqb}
use Rattle.std.specs.List.{list_any, before_first, after_first, position_or_len}
use Rattle.std.proofs.lemmas.Bool.Decides.{eqb_tells}
use Rattle.std.proofs.lemmas.List.{take_all}
use Rattle.clap.specs.Lexer.{long_of, short_of}
use Rattle.command_line.specs.Given.{Text, Kind, valued, named, ends_options, plain, stray, kind_of, option_kind}
use Rattle.command_line.specs.Given.{is_equals_sign}

-- `--`
abbrev pub two_hyphens : Text
two_hyphens = 45 ∷ 45 ∷ []

-- the word is `--name`, or `--name=value` with a value
pub record IsLong (word name : Text) (v : Option Text) : Type 0 where
  pub no_dashes : bytes_eq word two_hyphens ≡ false
  pub long : long_of word ≡ Some (name, v)

-- the word is neither of these, nor `--`
pub record IsNoLong (word : Text) : Type 0 where
  pub no_dashes : bytes_eq word two_hyphens ≡ false
  pub long : long_of word ≡ None

-- the kind of an option's word, by its name and the value that is attached to it
abbrev pub attached_kind : Text → Option Text → Kind
attached_kind name None = named name
attached_kind name (Some text) = valued name text

-- which word it is, in the words of both
pub data IsSeen (word : Text) : Type 0 where
  dashes : word ≡ two_hyphens → kind_of word ≡ ends_options → IsSeen word
  option : (rest name : Text) (v : Option Text) → word ≡ 45 ∷ rest → IsLong word name v
      → kind_of word ≡ attached_kind name v
      → IsSeen word
  hyphen : (rest : Text) → word ≡ 45 ∷ rest → IsNoLong word → kind_of word ≡ stray → IsSeen word
  other : IsNoLong word → short_of word ≡ None → kind_of word ≡ plain → IsSeen word

-- without an `=`, all stands before the first
none_before : (text : Text) → list_any is_equals_sign text ≡ false → position_or_len is_equals_sign text ≡ length text
none_before [] e = refl
none_before (b ∷ bs) e = go (b == 61) (none_before bs) e
  where
    go : (t : Bool) → (list_any is_equals_sign bs ≡ false → position_or_len is_equals_sign bs ≡ length bs)
        → (t || list_any is_equals_sign bs) ≡ false
        → cond (not t) (1 + position_or_len is_equals_sign bs) 0 ≡ length (b ∷ bs)
    go true rest e = cc
    go false rest e = omega (arith, rest e)

-- what stands before the first `=`, as the parser of options cuts it
abbrev name_in : Text → Text
name_in text = before_first is_equals_sign text

-- what stands after it
abbrev value_in : Text → Option Text
value_in text = cond (list_any is_equals_sign text) (Some (after_first is_equals_sign text)) None

-- an option's name and value are those that the parser of options cuts
option_kind-attached : (text : Text) → option_kind text ≡ attached_kind (name_in text) (value_in text)
option_kind-attached text = go (list_any is_equals_sign text) all
  where
    all : list_any is_equals_sign text ≡ false → name_in text ≡ text
    all e = ap (λ n. take n text) (none_before text e) ∙ take_all (length text) text (omega arith)

    go : (t : Bool) → (t ≡ false → name_in text ≡ text)
        → cond t (valued (name_in text) (after_first is_equals_sign text)) (named text)
        ≡ attached_kind (name_in text) (cond t (Some (after_first is_equals_sign text)) None)
    go true same = refl
    go false same = ap named (sym (same refl))

-- a word that does not begin with a hyphen
no_hyphen : (b : ℕ) (bs : Text) → b ≢ 45 → IsSeen (b ∷ bs)
no_hyphen b bs differs =
    let here : (b == 45) ≡ false = ne_eqb b 45 differs in
    let turned : nat_eq 45 b ≡ false = ne_eqb 45 b (λ e. differs (sym e)) in
    other (record { no_dashes = rw here; long = rw here }) (rw here) (rw (here, turned))

-- a word that begins with one hyphen and no second
one_hyphen : (b : ℕ) (bs : Text) → b ≢ 45 → IsSeen (45 ∷ b ∷ bs)
one_hyphen b bs differs =
    let here : (b == 45) ≡ false = ne_eqb b 45 differs in
    let turned : nat_eq 45 b ≡ false = ne_eqb 45 b (λ e. differs (sym e)) in
    hyphen (b ∷ bs) refl (record { no_dashes = rw here; long = rw here }) (rw (here, turned))

-- a word that begins with two
after_two : (bs : Text) → IsSeen (45 ∷ 45 ∷ bs)
after_two [] = dashes refl refl
after_two (b ∷ bs) =
    option (45 ∷ b ∷ bs) (name_in (b ∷ bs)) (value_in (b ∷ bs)) refl (record { no_dashes = refl; long = refl })
    (option_kind-attached (b ∷ bs))

-- a word that begins with one
after_one : (bs : Text) → IsSeen (45 ∷ bs)
after_one [] = hyphen [] refl (record { no_dashes = refl; long = refl }) refl
after_one (b ∷ bs) = elim (eqb_tells b 45) [
  | inl same ↦ subst (λ c. IsSeen (45 ∷ c ∷ bs)) (sym same.1) (after_two bs)
  | inr differs ↦ one_hyphen b bs differs.1
]

-- each word is one of these
pub seen : (word : Text) → IsSeen word
seen [] = other (record { no_dashes = refl; long = refl }) refl refl
seen (b ∷ bs) = elim (eqb_tells b 45) [
  | inl same ↦ subst (λ c. IsSeen (c ∷ bs)) (sym same.1) (after_one bs)
  | inr differs ↦ no_hyphen b bs differs.1
]
