-- Words of a generated script are tokens that say what stands at their places.
use Rattle.std.proofs.Common.{◌≡◌, inl, inr, ℕ, suc, ◌≤◌, Bool, true, false, cond, not}
use Rattle.std.proofs.Common.{◌&&◌, ◌||◌, List, [], ◌∷◌, ◌++◌, length, Option, Some, None, is_some, Ok, Err, ℤ, pos}
use Rattle.std.proofs.Common.{negsuc, codes, bytes_eq, nat_le, refl, sym, ap, ◌∙◌, arith}
use Rattle.std.specs.List.{Contains, list_any}
use Rattle.std.specs.Fmt.{decimal, signed_decimal}
use Rattle.std.proofs.lemmas.Bool.Decides.{nat_tests}
use Rattle.std.proofs.lemmas.Fmt.{decimal_digit}
use Rattle.script_text.specs.declared.script.Why.TheVariants as why
use Rattle.script_text.specs.declared.table.OperandKind.{OperandKind}
use Rattle.script_text.specs.declared.table.OperandKind.TheVariants.{Variable, Field, Value, Literal}
use Rattle.script_text.specs.Lines.{is_blank, is_some_bytes}
use Rattle.script_text.specs.Tokens.{is_digit, is_name, integer_of}
use Rattle.script_text.specs.Statements.{RawOperand, variable, field, literal, integer, undefined, bound, written_at}
use Rattle.script_text.specs.Statements.{integer_or_bound, literal_up_to}
use Rattle.heap_command.specs.Commands.{cap_most}
use Rattle.script_text.specs.Names.{variable_in, field_in}
use Rattle.script_text.proofs.Numbers.{bytes_tell, Contains-head, Contains-tail}
use Rattle.script_text.proofs.Scanning.{is_hash}
use Rattle.script_laws.specs.Words.{Has64Bits}
use Rattle.script_laws.proofs.Spacing.{Avoids, is_feed}
use Rattle.script_laws.proofs.Integers.{both, integers_are_read, all_digits, decimal-all_digits}

-- the variables of a generated script
abbrev pub known_variables : List (List ℕ)
known_variables =
    codes "o0" ∷ codes "o1" ∷ codes "o2" ∷ codes "o3" ∷ codes "o4" ∷ codes "o5" ∷ codes "o6" ∷ codes "o7"
    ∷ codes "l0" ∷ codes "l1" ∷ codes "l2" ∷ codes "l3" ∷ codes "w0" ∷ codes "w1" ∷ codes "v" ∷ []

-- the fields of a generated script
abbrev pub known_fields : List (List ℕ)
known_fields = codes "a" ∷ codes "b" ∷ codes "c" ∷ codes "d" ∷ []

-- each name is one of these
abbrev pub AreKnown : List (List ℕ) → List (List ℕ) → Type 0
AreKnown known [] = Unit {0}
AreKnown known (name ∷ names) = Contains known name × AreKnown known names

-- known names and known names are known
pub AreKnown-append : (known xs ys : List (List ℕ)) → AreKnown known xs → AreKnown known ys → AreKnown known (xs ++ ys)
AreKnown-append known [] ys h k = k
AreKnown-append known (x ∷ xs) ys h k = (h.0, AreKnown-append known xs ys h.1 k)

-- the word is a token: it has bytes, and none that would end it
pub record IsToken (word : List ℕ) : Type 0 where
  pub some : is_some_bytes word ≡ true
  pub blank : Avoids is_blank word
  pub hash : Avoids is_hash word
  pub feed : Avoids is_feed word

-- The word is a token that says something at this place. It has no more than so many bytes, and what it names is known.
pub record Says (place : OperandKind) (word : List ℕ) (most : ℕ) : Type 0 where
  pub operand : RawOperand
  pub read : written_at place word ≡ Ok operand
  pub token : IsToken word
  pub short : length word ≤ most
  pub variables : AreKnown known_variables (variable_in operand)
  pub fields : AreKnown known_fields (field_in operand)

-- a byte that ends no token
abbrev pub is_plain : ℕ → Bool
is_plain b = not (is_blank b || (is_hash b || is_feed b))

-- all bytes are such
abbrev pub all_plain : List ℕ → Bool
all_plain [] = true
all_plain (b ∷ bs) = is_plain b && all_plain bs

-- none of three tests passes
none_of : (x y z : Bool) → not (x || (y || z)) ≡ true → (x ≡ false) × (y ≡ false) × (z ≡ false)
none_of false false false e = (refl, refl, refl)
none_of false false true e = cc
none_of false true z e = cc
none_of true y z e = cc

-- some bytes, none of which ends a token, are a token
pub IsToken-some : (bs : List ℕ) → is_some_bytes bs ≡ true → all_plain bs ≡ true → IsToken bs
IsToken-some [] some plain = record { some = some; blank = tt; hash = tt; feed = tt }
IsToken-some (b ∷ bs) some plain =
    let rest = avoids (b ∷ bs) plain in
    record { some = some; blank = rest.0; hash = rest.1; feed = rest.2 }
  where
    avoids : (cs : List ℕ) → all_plain cs ≡ true → Avoids is_blank cs × Avoids is_hash cs × Avoids is_feed cs
    avoids [] h = (tt, tt, tt)
    avoids (c ∷ cs) h =
        let parts = both (is_plain c) (all_plain cs) h in
        let here = none_of (is_blank c) (is_hash c) (is_feed c) parts.0 in
        let later = avoids cs parts.1 in
        ((here.0, later.0), (here.1, later.1), (here.2, later.2))

-- what is among the names, as a test
pub Contains-tested : (names : List (List ℕ)) (name : List ℕ) → list_any (bytes_eq name) names ≡ true
    → Contains names name
Contains-tested [] name h = cc
Contains-tested (first ∷ names) name h =
    elim (bytes_tell name first) [
      | inl e ↦ Contains-head first names name (sym e.1)
      | inr e ↦
          Contains-tail first names name
          (Contains-tested names name (sym (ap (λ b. b || list_any (bytes_eq name) names) e.0) ∙ h))
    ]

-- nothing, as a test
none_tested : (o : Option ℤ) → is_some o ≡ false → o ≡ None
none_tested None e = refl
none_tested (Some v) e = cc

-- a test that fails
failed : (b : Bool) → not b ≡ true → b ≡ false
failed true e = cc
failed false e = refl

-- the token is the name of a known variable, and no integer
abbrev pub is_known_variable : List ℕ → Bool
is_known_variable token =
    is_name token && (not (bytes_eq token (codes "undefined")) && (not (is_some (integer_of token))
    && (is_some_bytes token && (all_plain token && list_any (bytes_eq token) known_variables))))

-- the token is the name of a known field
abbrev pub is_known_field : List ℕ → Bool
is_known_field token =
    is_name token && (is_some_bytes token && (all_plain token && list_any (bytes_eq token) known_fields))

-- what the test of a variable tells
record IsVariable (token : List ℕ) : Type 0 where
  name : is_name token ≡ true
  other : bytes_eq token (codes "undefined") ≡ false
  no_integer : integer_of token ≡ None
  is_token : IsToken token
  known : AreKnown known_variables (token ∷ [])

-- a token that passes is the name of a known variable
IsVariable-tested : (token : List ℕ) → is_known_variable token ≡ true → IsVariable token
IsVariable-tested token h =
    let a = both (is_name token) _ h in
    let b = both (not (bytes_eq token (codes "undefined"))) _ a.1 in
    let c = both (not (is_some (integer_of token))) _ b.1 in
    let d = both (is_some_bytes token) _ c.1 in
    let e = both (all_plain token) (list_any (bytes_eq token) known_variables) d.1 in
    record {
      name = a.0;
      other = failed (bytes_eq token (codes "undefined")) b.0;
      no_integer = none_tested (integer_of token) (failed (is_some (integer_of token)) c.0);
      is_token = IsToken-some token d.0 e.0;
      known = (Contains-tested known_variables token e.1, tt);
    }

-- a known variable is said at the place of a variable
pub Says-variable : (token : List ℕ) (most : ℕ) → is_known_variable token ≡ true → length token ≤ most
    → Says Variable token most
Says-variable token most h short =
    let is = IsVariable-tested token h in
    record {
      operand = variable token;
      read = ap (λ v. cond v (Ok (variable token)) (Err why.Name)) is.name;
      token = is.is_token;
      short = short;
      variables = is.known;
      fields = tt;
    }

-- and at the place of a value
pub Says-bound : (token : List ℕ) (most : ℕ) → is_known_variable token ≡ true → length token ≤ most
    → Says Value token most
Says-bound token most h short =
    let is = IsVariable-tested token h in
    record {
      operand = bound token;
      read = ap (λ v. cond v (Ok undefined) (integer_or_bound (integer_of token) token)) is.other
          ∙ ap (λ v. integer_or_bound v token) is.no_integer
          ∙ ap (λ v. cond v (Ok (bound token)) (Err why.Value)) is.name;
      token = is.is_token;
      short = short;
      variables = is.known;
      fields = tt;
    }

-- a known field is said at the place of a field
pub Says-field : (token : List ℕ) (most : ℕ) → is_known_field token ≡ true → length token ≤ most
    → Says Field token most
Says-field token most h short =
    let a = both (is_name token) _ h in
    let b = both (is_some_bytes token) _ a.1 in
    let c = both (all_plain token) (list_any (bytes_eq token) known_fields) b.1 in
    record {
      operand = field token;
      read = ap (λ v. cond v (Ok (field token)) (Err why.Name)) a.0;
      token = IsToken-some token b.0 c.0;
      short = short;
      variables = tt;
      fields = (Contains-tested known_fields token c.1, tt);
    }

-- digits end no token
digits-plain : (ds : List ℕ) → all_digits ds ≡ true → all_plain ds ≡ true
digits-plain [] h = refl
digits-plain (d ∷ ds) h =
    let parts = both (is_digit d) (all_digits ds) h in
    ap (λ v. v && all_plain ds) (digit-plain d parts.0) ∙ digits-plain ds parts.1
  where
    digit-plain : (d : ℕ) → is_digit d ≡ true → is_plain d ≡ true
    digit-plain d h = grind (arith, nat_tests)

-- nor does what is written of an integer
signed-plain : (v : ℤ) → Has64Bits v → all_plain (signed_decimal v) ≡ true
signed-plain (pos n) few = digits-plain (decimal n) (decimal-all_digits n (omega arith))
signed-plain (negsuc n) few = digits-plain (decimal (suc n)) (decimal-all_digits (suc n) (omega arith))

-- an integer is said at the place of a value
pub Says-integer : (v : ℤ) (most : ℕ) → Has64Bits v → length (signed_decimal v) ≤ most
    → Says Value (signed_decimal v) most
Says-integer v most few short =
    let token = signed_decimal v in
    let is = integers_are_read v few in
    let other : bytes_eq token (codes "undefined") ≡ false =
    elim (bytes_tell token (codes "undefined"))
    [ inl e ↦ absurd (no_integer (sym (ap integer_of e.1) ∙ is)) | inr e ↦ e.0 ] in
    record {
      operand = integer v;
      read = ap (λ t. cond t (Ok undefined) (integer_or_bound (integer_of token) token)) other
          ∙ ap (λ o. integer_or_bound o token) is;
      token = IsToken-some token (some token is) (signed-plain v few);
      short = short;
      variables = tt;
      fields = tt;
    }
  where
    no_integer : {w : ℤ} → None ≡ Some w → ⊥
    no_integer e = cc

    some : (bs : List ℕ) {w : ℤ} → integer_of bs ≡ Some w → is_some_bytes bs ≡ true
    some [] e = absurd (no_integer e)
    some (b ∷ bs) e = refl

-- `undefined` is said at the place of a value
pub Says-undefined : (most : ℕ) → 9 ≤ most → Says Value (codes "undefined") most
Says-undefined most le =
    record {
      operand = undefined;
      read = refl;
      token = IsToken-some (codes "undefined") refl refl;
      short = le;
      variables = tt;
      fields = tt;
    }

-- a number up to 8 is said at the place of a cap
pub Says-cap : (n : ℕ) → n ≤ cap_most → Says (Literal cap_most) (decimal n) 1
Says-cap n le =
    let is = integers_are_read (pos n) (omega arith) in
    let written = Says-integer (pos n) 1 (omega arith) (omega (arith, ap length (decimal_digit n (omega arith)))) in
    record {
      operand = literal n;
      read = ap (literal_up_to cap_most) is
          ∙ ap (λ v. cond v (Ok (literal n)) (Err why.Integer)) (within n cap_most le);
      token = written.token;
      short = written.short;
      variables = tt;
      fields = tt;
    }
  where
    within : (n most : ℕ) → n ≤ most → nat_le n most ≡ true
    within n most h = grind (arith, nat_tests)
