-- A command allocates at most as many words as a cell may have.
use Rattle.std.proofs.Common.{◌≡◌, ℕ, suc, ◌+◌, ◌-◌, ◌*◌, ◌≤◌, Bool, true, false, length, Option, Some, None}
use Rattle.std.proofs.Common.{◌&&◌, not, arith, refl, ◌∙◌, ap, cond, nat_lt, slice_get, ◌==◌}
use Rattle.std.specs.Prelude.{option_and_then}
use Rattle.std.specs.FinMap.{get}
use Rattle.std.proofs.Math.Nat.{max-le, min-le_left}
use Rattle.std.proofs.lemmas.Bool.Decides.{nat_tests}
use Rattle.std.proofs.lemmas.List.{length-map}
use Rattle.std.proofs.lemmas.List.Elements.{All-contains}
use Rattle.std.proofs.lemmas.Option.{none-some, same_Some}
use Rattle.tagged_word.specs.Cells.{store_head, cell_words_most}
use Rattle.heap_model.specs.Types.{Command, Value, Object, Field, PathField}
use Rattle.heap_command.specs.declared.command.Command.TheVariants as command
use Rattle.heap_command.specs.Commands.{IsWithin}
use Rattle.object_graph.specs.declared.value.Value.TheVariants.{Int, Undefined, Ref}
use Rattle.object_graph.specs.declared.object.Object.TheVariants as kind
use Rattle.object_graph.specs.Graphs.{Graph, PlainObject, as_plain, plain_at, value_of}
use Rattle.object_graph.specs.Invariants.{IsGraph, IsPath, HasItsPath, fields_most}
use Rattle.object_graph.specs.Meaning.{list_most}
use Rattle.object_graph.specs.Objects.{entry_value}
use Rattle.object_graph.specs.Values.{join, rep_of}
use Rattle.heap_model.specs.Needs.{box_need, grown, store_need, grown_list, pairs_most, grown_table}
use Rattle.heap_model.specs.Rooms.{Room, on_found, plain_of, list_of, weak_of, number_of, key_of, is_wide, is_boxed}
use Rattle.heap_model.specs.Rooms.{field_need, field_place, set_need_by}
use Rattle.heap_model.specs.Rooms.{wput_need_by, need_of}
use Rattle.heap_model.proofs.SlotWords.{All-slice_get}

-- what is needed for what is found is few where it is few for each thing that may be
found_few : {A : Type 0} (most : ℕ) (found : Option A) (need : A → ℕ)
    → ((one : A) → found ≡ Some one → need one ≤ most) → on_found found need ≤ most
found_few most None need few = omega arith
found_few most (Some one) need few = few one refl

-- a box has two words
box_few : (wide : Bool) → box_need wide ≤ 2
box_few true = omega arith
box_few false = omega arith

-- a store is made where there is no room beside the fields in it, so it has not many more slots
made_few : (room : Bool) (capacity used : ℕ) → room ≡ nat_lt used capacity → used ≤ fields_most
    → cond room 0 (store_head + grown capacity) ≤ 130
made_few true capacity used is few = omega arith
made_few false capacity used is few =
    let full : capacity ≤ used = grind (arith, nat_tests) in
    let grows : grown capacity ≤ 128 = max-le (omega arith) (omega (arith, full, few)) in
    omega (arith, grows)

-- a field that is new needs few words
added_few : (inside : Bool) (store : ℕ) (wide : Bool) → store ≤ 130 → cond inside 0 (store + box_need wide) ≤ 132
added_few true store wide few = omega arith
added_few false store wide few = omega (arith, few, box_few wide)

-- what `set` needs, by whether the field is there
set_few : (capacity : ℕ) (plain : PlainObject) (value : Value) (place : Option ℕ) → length plain.fields ≤ fields_most
    → set_need_by capacity plain value place ≤ 132
set_few capacity plain value None few =
    let used : ℕ = length plain.fields - plain.cap in
    added_few (nat_lt (length plain.fields) plain.cap) (store_need capacity used) (is_wide value)
    (made_few (nat_lt used capacity) capacity used refl (omega (arith, few)))
set_few capacity plain value (Some at) few =
    found_few 132 (slice_get plain.fields at) (λ field. field_need (nat_lt at plain.cap) field value)
    (λ field is.
    let few = box_few (is_boxed (nat_lt at plain.cap) (join field.rep (rep_of value)) value
    && not (is_boxed (nat_lt at plain.cap) field.rep field.value)) in
    omega (arith, few))

-- a plain object that is found is an object of the graph, by what stands there
is_plain : (number : ℕ) (what : Object) (plain : PlainObject) → as_plain number what ≡ Some plain
    → what ≡ kind.Plain plain.cap plain.proto plain.fields
is_plain number (kind.Plain cap proto fields) plain is =
    ap (λ (one : PlainObject). kind.Plain one.cap one.proto one.fields) (same_Some _ plain is)
is_plain number (kind.List elements) plain is = absurd (none-some plain is)
is_plain number (kind.Weak entries) plain is = absurd (none-some plain is)

-- an object that stands in a graph where a plain one is found has few fields
there_few : (graph : Graph) (number : ℕ) (found : Option Object) (plain : PlainObject) → IsGraph graph
    → slice_get graph.objects number ≡ found → option_and_then (as_plain number) found ≡ Some plain
    → length plain.fields ≤ fields_most
there_few graph number None plain is there found = absurd (none-some plain found)
there_few graph number (Some what) plain is there found =
    let object : slice_get graph.objects number ≡ Some (kind.Plain plain.cap plain.proto plain.fields) =
    there ∙ ap (λ one. Some one) (is_plain number what plain found) in
    let its = All-slice_get (HasItsPath graph.paths) graph.objects number
    (kind.Plain plain.cap plain.proto plain.fields) is.shaped object in
    let short = (All-contains IsPath graph.paths _ is.paths.each its).short in
    let part : Field → PathField = λ f. record { name = f.name; rep = f.rep } in
    omega (arith, short, length-map plain.fields part)

-- so it has, by the value that refers to it
value_few : (graph : Graph) (value : Value) (plain : PlainObject) → IsGraph graph
    → plain_at graph.objects value ≡ Some plain → length plain.fields ≤ fields_most
value_few graph (Int v) plain is found = absurd (none-some plain found)
value_few graph Undefined plain is found = absurd (none-some plain found)
value_few graph (Ref number) plain is found =
    there_few graph number (slice_get graph.objects number) plain is refl found

-- and by what a variable is bound to
bound_few : (graph : Graph) (bound : Option Value) (plain : PlainObject) → IsGraph graph
    → option_and_then (plain_at graph.objects) bound ≡ Some plain → length plain.fields ≤ fields_most
bound_few graph None plain is found = absurd (none-some plain found)
bound_few graph (Some value) plain is found = value_few graph value plain is found

-- a list's store is made with at most as many slots as a list may have elements
list_made_few : (full : Bool) (count : ℕ) → cond full (store_head + grown_list count) 0 ≤ 1002
list_made_few true count = omega (arith, min-le_left list_most (grown count))
list_made_few false count = omega arith

-- a weak map's table is made with at most as many pairs as one may have
table_few : (over : Bool) (capacity : ℕ) → cond over (store_head + 2 * grown_table capacity) 0 ≤ 1026
table_few true capacity = omega (arith, min-le_left pairs_most (grown capacity))
table_few false capacity = omega arith

-- what `wput` needs, by whether the key is there: a table and a box at most
wput_few : (room : Room) (value : Value) (found : Option Value) → wput_need_by room value found ≤ 1028
wput_few room value None =
    let table = table_few (nat_lt room.capacity (2 * suc room.entries)) room.capacity in
    omega (arith, table, box_few (is_wide value))
wput_few room value (Some before) = omega (arith, box_few (is_wide value && not (is_wide before)))

-- each command needs few words
pub need_few : (graph : Graph) (rooms : ℕ → Room) (variables fields : ℕ) (command : Command) → IsGraph graph
    → IsWithin variables fields command → need_of graph rooms command ≤ cell_words_most
need_few graph rooms variables fields (command.New x slots) is within = omega (arith, within.1)
need_few graph rooms variables fields (command.Set x name v) is within =
    found_few cell_words_most (plain_of graph x) _ (λ plain there.
    found_few cell_words_most (value_of graph v) _ (λ value given.
    let few = set_few (rooms plain.number).capacity plain value (field_place plain.fields name)
    (bound_few graph (get graph.bindings x) plain is there) in
    omega (arith, few)))
need_few graph rooms variables fields (command.Push x v) is within =
    found_few cell_words_most (list_of graph x) _ (λ list there.
    found_few cell_words_most (value_of graph v) _ (λ value given.
    let count : ℕ = length list.elements in
    let few = list_made_few (count == (rooms list.number).capacity) count in
    omega (arith, few, box_few (is_wide value))))
need_few graph rooms variables fields (command.Put x i v) is within =
    found_few cell_words_most (list_of graph x) _ (λ list there.
    found_few cell_words_most (value_of graph v) _ (λ value given.
    found_few cell_words_most (number_of graph (length list.elements) i) _ (λ at named.
    found_few cell_words_most (slice_get list.elements at) _ (λ before stands.
    omega (arith, box_few (is_wide value && not (is_wide before)))))))
need_few graph rooms variables fields (command.WPut m k v) is within =
    found_few cell_words_most (weak_of graph m) _ (λ weak there.
    found_few cell_words_most (value_of graph v) _ (λ value given.
    found_few cell_words_most (key_of graph k) _ (λ key named.
    omega (arith, wput_few (rooms weak.number) value (entry_value weak.entries key)))))
need_few graph rooms variables fields _ is within = omega arith
