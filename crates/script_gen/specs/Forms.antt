-- The forms: which line a first draw chooses, and which lengths of lists are kept after it.
use Rattle.std.specs.Prelude.{◌≡◌, ℕ, ◌+◌, ◌-◌, List, [], ◌∷◌, ◌++◌, nat_lt, ◌==◌, not, ◌&&◌, codes}
use Rattle.std.specs.Prelude.{if◌then◌else◌, slice_index, slice_set}
use Rattle.script_gen.specs.declared.draws.Kept.{Kept}
use Rattle.script_gen.specs.declared.lines.Operand.{Operand}
use Rattle.script_gen.specs.declared.lines.Operand.TheVariants.{Number, Seen, Object, NumberedList, WeakMap}
use Rattle.script_gen.specs.declared.lines.Operand.TheVariants.{Field, Value}
use Rattle.script_gen.specs.Draws.{next, drawn}
use Rattle.script_gen.specs.Lines.{Line, line_text, drawn_words, state_after}

-- a form: the word of its command, its operands, and what is kept before the draws for them
pub record Form : Type 0 where
  pub command : List ℕ
  pub operands : List Operand
  pub kept : Kept

-- the same by its parts
abbrev pub form : List ℕ → List Operand → Kept → Form
form command operands kept = record { command = command; operands = operands; kept = kept }

-- the line of a form
abbrev pub form_line : Form → Line
form_line form = record { command = form.command; operands = drawn_words form.operands form.kept.state }

-- what is kept after a form
abbrev pub after_form : Form → Kept
after_form form = record form.kept { state = state_after form.operands form.kept.state }

-- a draw more
abbrev pub with_draw : Kept → Kept
with_draw kept = record kept { state = next kept.state }

-- the list with this number is so long now
abbrev pub with_length : Kept → ℕ → ℕ → Kept
with_length kept list length = record kept { lengths = slice_set kept.lengths list length }

-- `push l<b> <V>`: the list is longer by one
abbrev pub push_form : ℕ → ℕ → Kept → Form
push_form list length kept = form (codes "push") (NumberedList list ∷ Value ∷ []) (with_length kept list (length + 1))

-- `put l<b> <i> <V>`, with i a draw of the length
abbrev pub put_form : ℕ → ℕ → Kept → Form
put_form list length kept =
    form (codes "put") (NumberedList list ∷ Number (drawn length (next kept.state)) ∷ Value ∷ []) (with_draw kept)

-- `at v l<b> <i>`, with i a draw of the length
abbrev pub at_form : ℕ → ℕ → Kept → Form
at_form list length kept =
    form (codes "at") (Seen ∷ NumberedList list ∷ Number (drawn length (next kept.state)) ∷ []) (with_draw kept)

-- `shift l<b> <n>`, with n a draw of the length and one: the list is shorter by n
abbrev pub shift_form : ℕ → ℕ → Kept → Form
shift_form list length kept =
    let n = drawn (length + 1) (next kept.state) in
    form (codes "shift") (NumberedList list ∷ Number n ∷ []) (with_length (with_draw kept) list (length - n))

-- `trunc l<b> <n>`, with n a draw of the length and one: the list has n elements
abbrev pub trunc_form : ℕ → ℕ → Kept → Form
trunc_form list length kept =
    let n = drawn (length + 1) (next kept.state) in
    form (codes "trunc") (NumberedList list ∷ Number n ∷ []) (with_length (with_draw kept) list n)

-- `print v`
abbrev pub print_form : Kept → Form
print_form kept = form (codes "print") (Seen ∷ []) kept

-- The form of a first draw 27 to 48, for the list of this number and length. Its rows are 27 to 34, 35 to 38, 39 to 42,
-- 43 to 45, and 46 to 48. A list without elements is pushed to in place of a `put`, and in place of an `at` of it `v`
-- is printed.
abbrev pub list_form : ℕ → ℕ → ℕ → Kept → Form
list_form first list length kept =
    if nat_lt first 35 then push_form list length kept
    else (if nat_lt first 39 then (if length == 0 then push_form list length kept else put_form list length kept)
    else (if nat_lt first 43 then (if length == 0 then print_form kept else at_form list length kept)
    else (if nat_lt first 46 then shift_form list length kept
    else trunc_form list length kept)))

-- The form of another first draw. Its rows are 0 to 2, 3 to 5, 6 to 17, 18 to 22, 23 to 26, 49 to 53, 54 to 57, 58, 59,
-- 60, 61 and 62, and 63.
abbrev pub plain_form : ℕ → Kept → Form
plain_form first kept =
    if nat_lt first 3 then form (codes "new") (Object ∷ Number 1 ∷ []) kept
    else (if nat_lt first 6 then form (codes "new") (Object ∷ Number 3 ∷ []) kept
    else (if nat_lt first 18 then form (codes "set") (Object ∷ Field ∷ Value ∷ []) kept
    else (if nat_lt first 23 then form (codes "get") (Seen ∷ Object ∷ Field ∷ []) kept
    else (if nat_lt first 27 then form (codes "del") (Object ∷ Field ∷ []) kept
    else (if nat_lt first 54 then form (codes "wput") (WeakMap ∷ Object ∷ Value ∷ []) kept
    else (if nat_lt first 58 then form (codes "wget") (Seen ∷ WeakMap ∷ Object ∷ []) kept
    else (if first == 58 then form (codes "scavenge") [] kept
    else (if first == 59 then form (codes "mark") [] kept
    else (if first == 60 then form (codes "finish") [] kept
    else (if nat_lt first 63 then print_form kept
    else form (codes "census") [] kept))))))))))

-- The form after what is kept. A first draw of 27 to 48 is of a list, which a second one draws.
abbrev pub form_of : Kept → Form
form_of kept =
    let first = drawn 64 (next kept.state) in
    let after_first = with_draw kept in
    let list = drawn 4 (next after_first.state) in
    if not (nat_lt first 27) && nat_lt first 49
    then list_form first list (slice_index after_first.lengths list) (with_draw after_first)
    else plain_form first after_first

-- the line of a form is written behind these bytes, and this is kept after it
pub record WritesForm (old new : List ℕ) (kept : Kept) (form : Form) : Type 0 where
  pub written : new ≡ old ++ line_text (form_line form)
  pub after : kept ≡ after_form form
