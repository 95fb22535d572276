-- The line of each form of a generated script is plain.
use Rattle.std.proofs.Common.{◌≡◌, ℕ, zero, suc, ◌+◌, ◌<◌, ◌≤◌, ◌^◌, Bool, true, not, ◌&&◌, eqb, nat_lt, List}
use Rattle.std.proofs.Common.{[], ◌∷◌, ◌++◌, length, ℤ, pos, negsuc, ◌-ℤ◌, codes, get_or, refl, ap, ◌∙◌, below_more}
use Rattle.std.proofs.Common.{arith}
use Rattle.std.specs.Fmt.{decimal, signed_decimal}
use Rattle.std.specs.Int.Signed.{mag}
use Rattle.std.proofs.lemmas.Bool.{cond_both}
use Rattle.std.proofs.lemmas.Bool.Decides.{nat_tests}
use Rattle.std.proofs.lemmas.Fmt.{decimal_digit, length-decimal-le, length_signed_le}
use Rattle.std.proofs.lemmas.Int.{ints}
use Rattle.script_text.specs.declared.table.OperandKind.TheVariants.{Variable, Field, Value, Literal}
use Rattle.script_text.specs.declared.table.Keyword.TheVariants as keyword
use Rattle.script_gen.specs.declared.draws.Kept.{Kept}
use Rattle.script_gen.specs.Draws.{next, drawn}
use Rattle.script_gen.specs.Lines.{Drawn, drawn_object, drawn_value}
use Rattle.script_gen.specs.Forms.{Form, form_line, with_draw, list_form, plain_form, form_of}
use Rattle.script_gen.proofs.Lengths.{AreShort, drawn-lt}
use Rattle.script_laws.specs.Words.{Has64Bits}
use Rattle.script_laws.proofs.Integers.{both}
use Rattle.script_laws.proofs.GeneratedWords.{Says, Says-variable, Says-bound, Says-field, Says-integer, Says-cap}
use Rattle.script_laws.proofs.GeneratedWords.{Says-undefined, is_known_variable, is_known_field}
use Rattle.script_laws.proofs.GeneratedLines.{IsPlain, no_word, one_word, two_words, three_words}

-- a test that passes for each number below this one
abbrev all_below : ℕ → (ℕ → Bool) → Bool
all_below zero p = true
all_below (suc n) p = p n && all_below n p

-- it passes for the number
all_below-at : (n a : ℕ) (p : ℕ → Bool) → all_below n p ≡ true → a < n → p a ≡ true
all_below-at zero a p h lt = absurd (omega arith)
all_below-at (suc n) a p h lt =
    let parts = both (p n) (all_below n p) h in
    below_more (λ k. p k ≡ true) n (λ k before. all_below-at n k p parts.1 before) parts.0 a (omega arith)

-- a letter and a digit
abbrev numbered : ℕ → ℕ → List ℕ
numbered letter n = letter ∷ (48 + n) ∷ []

-- a letter and a number below ten
numbered-decimal : (letter n : ℕ) → n < 10 → letter ∷ decimal n ≡ numbered letter n
numbered-decimal letter n h = ap (λ ds. letter ∷ ds) (decimal_digit n h)

-- the eight objects are known
object_known : (n : ℕ) → n < 8 → is_known_variable (codes "o" ++ decimal n) ≡ true
object_known n h =
    ap is_known_variable (numbered-decimal 111 n (omega arith))
    ∙ all_below-at 8 n (λ a. is_known_variable (numbered 111 a)) refl h

-- so are the four lists
list_known : (n : ℕ) → n < 4 → is_known_variable (codes "l" ++ decimal n) ≡ true
list_known n h =
    ap is_known_variable (numbered-decimal 108 n (omega arith))
    ∙ all_below-at 4 n (λ a. is_known_variable (numbered 108 a)) refl h

-- and the two weak maps
weak_known : (n : ℕ) → n < 2 → is_known_variable (codes "w" ++ decimal n) ≡ true
weak_known n h =
    ap is_known_variable (numbered-decimal 119 n (omega arith))
    ∙ all_below-at 2 n (λ a. is_known_variable (numbered 119 a)) refl h

-- and the four fields
field_known : (n : ℕ) → n < 4 → is_known_field ((97 + n) ∷ []) ≡ true
field_known n h = all_below-at 4 n (λ a. is_known_field ((97 + a) ∷ [])) refl h

-- a letter and a number below ten are two bytes
short_name : (letter n : ℕ) → n < 10 → length (letter ∷ decimal n) ≤ 2
short_name letter n h = omega (arith, ap length (numbered-decimal letter n h))

-- an object that is drawn is said at the place of a variable
object_variable : (state : ℕ) → Says Variable (drawn_object state).word 2
object_variable state =
    let n = drawn 8 (next state) in
    let lt : n < 8 = drawn-lt 8 (next state) (omega arith) in
    Says-variable (codes "o" ++ decimal n) 2 (object_known n lt) (short_name 111 n (omega arith))

-- and at the place of a value
object_value : (state : ℕ) (most : ℕ) → 2 ≤ most → Says Value (drawn_object state).word most
object_value state most le =
    let n = drawn 8 (next state) in
    let lt : n < 8 = drawn-lt 8 (next state) (omega arith) in
    let short = short_name 111 n (omega arith) in
    Says-bound (codes "o" ++ decimal n) most (object_known n lt) (omega (arith, short))

-- so are the other names
list_variable : (n : ℕ) → n < 4 → Says Variable (codes "l" ++ decimal n) 2
list_variable n lt = Says-variable (codes "l" ++ decimal n) 2 (list_known n lt) (short_name 108 n (omega arith))

-- a weak map that is drawn
weak_variable : (state : ℕ) → Says Variable (codes "w" ++ decimal (drawn 2 (next state))) 2
weak_variable state =
    let n = drawn 2 (next state) in
    let lt : n < 2 = drawn-lt 2 (next state) (omega arith) in
    Says-variable (codes "w" ++ decimal n) 2 (weak_known n lt) (short_name 119 n (omega arith))

-- the variable that values are read into
seen_variable : Says Variable (codes "v") 1
seen_variable = Says-variable (codes "v") 1 refl (omega arith)

-- it is a value too
seen_value : Says Value (codes "v") 1
seen_value = Says-bound (codes "v") 1 refl (omega arith)

-- a field that is drawn
drawn_field : (state : ℕ) → Says Field ((97 + drawn 4 (next state)) ∷ []) 1
drawn_field state =
    let n = drawn 4 (next state) in
    Says-field ((97 + n) ∷ []) 1 (field_known n (drawn-lt 4 (next state) (omega arith))) (omega arith)

-- a place in a list, and how many elements go or stay, have at most three digits
pub place_value : (n : ℕ) → n < 256 → Says Value (decimal n) 3
place_value n lt =
    Says-integer (pos n) 3 (omega arith) (length-decimal-le 3 n (omega arith) (omega arith) (omega arith))

-- a small integer has at most four digits, and a sign
small_bounds : (v : ℤ) (d : ℕ) → v ≡ pos d -ℤ pos 1000 → d < 2001 → Has64Bits v × (mag v + 1 < 10 ^ 4)
small_bounds (pos n) d e lt =
    let few : n < 1001 = omega (arith, ints) in
    (omega arith, omega arith)
small_bounds (negsuc n) d e lt =
    let few : n < 1000 = omega (arith, ints) in
    (omega arith, omega arith)

-- so it is said at the place of a value
small_value : (d : ℕ) → d < 2001 → Says Value (signed_decimal (pos d -ℤ pos 1000)) 13
small_value d lt =
    let v = pos d -ℤ pos 1000 in
    let bounds = small_bounds v d refl lt in
    let short = length_signed_le 4 v bounds.1 (omega (arith, bounds.1)) in
    Says-integer v 13 bounds.0 (omega (arith, short))

-- a wide integer has 13 digits
wide_value : (d : ℕ) → d < 1000 → Says Value (decimal (1000000000000 + d)) 13
wide_value d lt =
    let n = 1000000000000 + d in
    Says-integer (pos n) 13 (omega arith) (length-decimal-le 13 n (omega arith) (omega arith) (omega arith))

-- a value that is drawn has at most 13 bytes
value_value : (kind state : ℕ) → Says Value (drawn_value kind state).word 13
value_value kind state =
    let P = λ (d : Drawn). Says Value d.word 13 in
    cond_both (eqb kind 0) _ _ P (λ h. small_value (drawn 2001 (next state)) (drawn-lt 2001 (next state) (omega arith)))
    (λ h. cond_both (eqb kind 1) _ _ P
    (λ h. wide_value (drawn 1000 (next state)) (drawn-lt 1000 (next state) (omega arith)))
    (λ h. cond_both (eqb kind 2) _ _ P (λ h. object_value state 13 (omega arith))
    (λ h. Says-undefined 13 (omega arith))))

-- a value after these draws has at most 13 bytes
next_value : (state : ℕ) → Says Value (drawn_value (drawn 4 (next state)) (next state)).word 13
next_value state = value_value (drawn 4 (next state)) (next state)

-- `print v`
print_line : IsPlain (record { command = codes "print"; operands = codes "v" ∷ [] })
print_line = one_word keyword.Print Value (codes "v") 1 refl refl (λ number open'. refl) seen_value (omega arith)

-- the line of a form of no list is plain
plain_form-IsPlain : (first : ℕ) (kept : Kept) → IsPlain (form_line (plain_form first kept))
plain_form-IsPlain first kept =
    let P = λ (f : Form). IsPlain (form_line f) in
    let s = kept.state in
    cond_both (nat_lt first 3) _ _ P
    (λ h. two_words keyword.New Variable (Literal 8) _ _ 2 1 refl refl (λ number open'. refl) (object_variable s)
    (Says-cap 1 (omega arith)) (omega arith))
    (λ h. cond_both (nat_lt first 6) _ _ P
    (λ h. two_words keyword.New Variable (Literal 8) _ _ 2 1 refl refl (λ number open'. refl) (object_variable s)
    (Says-cap 3 (omega arith)) (omega arith))
    (λ h. cond_both (nat_lt first 18) _ _ P
    (λ h. three_words keyword.Set Variable Field Value _ _ _ 2 1 13 refl refl (λ number open'. refl) (object_variable s)
    (drawn_field (next s)) (next_value (next (next s))) (omega arith))
    (λ h. cond_both (nat_lt first 23) _ _ P
    (λ h. three_words keyword.Get Variable Variable Field _ _ _ 1 2 1 refl refl (λ number open'. refl) seen_variable
    (object_variable s) (drawn_field (next s)) (omega arith))
    (λ h. cond_both (nat_lt first 27) _ _ P
    (λ h. two_words keyword.Del Variable Field _ _ 2 1 refl refl (λ number open'. refl) (object_variable s)
    (drawn_field (next s)) (omega arith))
    (λ h. cond_both (nat_lt first 54) _ _ P
    (λ h. three_words keyword.WPut Variable Value Value _ _ _ 2 2 13 refl refl (λ number open'. refl) (weak_variable s)
    (object_value (next s) 2 (omega arith)) (next_value (next (next s))) (omega arith))
    (λ h. cond_both (nat_lt first 58) _ _ P
    (λ h. three_words keyword.WGet Variable Variable Value _ _ _ 1 2 2 refl refl (λ number open'. refl) seen_variable
    (weak_variable s) (object_value (next s) 2 (omega arith)) (omega arith))
    (λ h. cond_both (eqb first 58) _ _ P
    (λ h. no_word keyword.Scavenge refl refl (λ number open'. refl) (omega arith))
    (λ h. cond_both (eqb first 59) _ _ P
    (λ h. no_word keyword.Mark refl refl (λ number open'. refl) (omega arith))
    (λ h. cond_both (eqb first 60) _ _ P
    (λ h. no_word keyword.Finish refl refl (λ number open'. refl) (omega arith))
    (λ h. cond_both (nat_lt first 63) _ _ P (λ h. print_line)
    (λ h. no_word keyword.Census refl refl (λ number open'. refl) (omega arith))))))))))))

-- the line of a form of a list is plain
list_form-IsPlain : (first list length' : ℕ) (kept : Kept) → list < 4 → length' < 256
    → IsPlain (form_line (list_form first list length' kept))
list_form-IsPlain first list length' kept lt short =
    let P = λ (f : Form). IsPlain (form_line f) in
    let s = kept.state in
    let n = drawn (length' + 1) (next s) in
    let within : n < length' + 1 = drawn-lt (length' + 1) (next s) (omega arith) in
    let pushed = two_words keyword.Push Variable Value _ _ 2 13 refl refl (λ number open'. refl) (list_variable list lt)
    (next_value s) (omega arith) in
    let i = drawn length' (next s) in
    cond_both (nat_lt first 35) _ _ P (λ h. pushed)
    (λ h. cond_both (nat_lt first 39) _ _ P
    (λ h. cond_both (eqb length' 0) _ _ P (λ h. pushed)
    (λ h. let some : 0 < length' = grind (arith, nat_tests) in
    let here : i < length' = drawn-lt length' (next s) some in
    three_words keyword.Put Variable Value Value _ _ _ 2 3 13 refl refl (λ number open'. refl) (list_variable list lt)
    (place_value i (omega arith)) (next_value (next s)) (omega arith)))
    (λ h. cond_both (nat_lt first 43) _ _ P
    (λ h. cond_both (eqb length' 0) _ _ P (λ h. print_line)
    (λ h. let some : 0 < length' = grind (arith, nat_tests) in
    let here : i < length' = drawn-lt length' (next s) some in
    three_words keyword.At Variable Variable Value _ _ _ 1 2 3 refl refl (λ number open'. refl) seen_variable
    (list_variable list lt) (place_value i (omega arith)) (omega arith)))
    (λ h. cond_both (nat_lt first 46) _ _ P
    (λ h. two_words keyword.Shift Variable Value _ _ 2 3 refl refl (λ number open'. refl) (list_variable list lt)
    (place_value n (omega arith)) (omega arith))
    (λ h. two_words keyword.Trunc Variable Value _ _ 2 3 refl refl (λ number open'. refl) (list_variable list lt)
    (place_value n (omega arith)) (omega arith)))))

-- the line of each form is plain, where the lists are short
pub form_of-IsPlain : (kept : Kept) → AreShort 255 kept.lengths → IsPlain (form_line (form_of kept))
form_of-IsPlain kept h =
    let first = drawn 64 (next kept.state) in
    let ready = with_draw kept in
    let list = drawn 4 (next ready.state) in
    cond_both (not (nat_lt first 27) && nat_lt first 49) _ _ (λ (f : Form). IsPlain (form_line f))
    (λ e. list_form-IsPlain first list (get_or ready.lengths list 0) (with_draw ready)
    (drawn-lt 4 (next ready.state) (omega arith)) (omega (arith, h list)))
    (λ e. plain_form-IsPlain first ready)
