-- The functions of one word read exactly what stands there.
use Rattle.std.proofs.Common.{ℕ, zero, suc, ◌/◌, ◌%◌, ◌<◌, ◌≡◌, ◌==◌, ◌&&◌, Bool, true, false, IsTrue}
use Rattle.std.proofs.Common.{nat_lt, Option, Some, arith, refl, sym, ap, subst, ◌∙◌}
use Rattle.std.proofs.lemmas.Bool.Decides.{nat_tests}
use Rattle.std.specs.Option.{option_and_then}
use Rattle.std.proofs.lemmas.Option.{option_and_then_some}
use Rattle.tagged_word.specs.declared.header.Header.{Header}
use Rattle.tagged_word.specs.declared.layout.Kind.{Kind}
use Rattle.tagged_word.specs.declared.layout.Kind.TheVariants as kind
use Rattle.tagged_word.specs.declared.layout.LayoutWord.{LayoutWord}
use Rattle.tagged_word.specs.declared.word.Class.TheVariants.{Ref}
use Rattle.tagged_word.specs.Words.{IsClass, bits_of}
use Rattle.tagged_word.specs.Headers.{IsHeader, header_bits}
use Rattle.tagged_word.specs.Layouts.{HasInObjectSlots, HasNoInObjectSlots, IsLayout, IsLayoutOfKind, kind_number}
use Rattle.tagged_word.specs.Layouts.{layout_bits}
use Rattle.tagged_word.specs.Readings.{given, reference_in, low_part, is_header_word, header_in, kind_in}
use Rattle.tagged_word.specs.Readings.{has_no_in_object_slots, has_in_object_slots, is_layout_of_kind, is_layout}
use Rattle.tagged_word.specs.Readings.{layout_parts, layout_in}
use Rattle.tagged_word.proofs.Layouts.{Parts, parts, fits, same_made}
use Rattle.tagged_word.proofs.Cells.{some_same}
use Rattle.tagged_word.proofs.Headers.{same_made as same_header_made}

-- what is given passes the test
pub given_is : {X : Type 0} (test : Bool) (x y : X) → given test x ≡ Some y → IsTrue test × (x ≡ y)
given_is true x y e = (refl, cc)
given_is false x y e = cc

-- what passes the test is given
pub given_some : {X : Type 0} (test : Bool) (x y : X) → IsTrue test → x ≡ y → given test x ≡ Some y
given_some true x y t e = ap (λ z. Some z) e
given_some false x y t e = cc

-- an address is that of the reference that it is read from
pub reference_from : (word address : ℕ) → reference_in word ≡ Some address →
    IsClass (Ref address) × (word ≡ bits_of (Ref address))
reference_from word address e = (grind (arith, nat_tests), grind (arith, nat_tests))

-- a reference is read as the address of its cell
pub reference_to : (word address : ℕ) → IsClass (Ref address) → word ≡ bits_of (Ref address) →
    reference_in word ≡ Some address
reference_to word address is e =
    given_some (word % 4 == 1 && nat_lt (word / 4) 4294967296) (word / 4) address
    (grind (arith, nat_tests)) (omega arith)

-- the header of the parts of a word
abbrev header_made : ℕ → Header
header_made word = record { shape = low_part word; object = word / 4294967296 }

-- the parts of a header, read from a word that passes the test, are within their ranges, and the word is their header's
header_parts : (word : ℕ) → IsTrue (is_header_word word) →
    IsHeader (header_made word) × (word ≡ header_bits (header_made word))
header_parts word t = (
  record { shape = grind (arith, nat_tests); object = grind (arith, nat_tests) },
  grind (arith, nat_tests),
)

-- a header is that of the word that it is read from
pub header_from : (word : ℕ) (header : Header) → header_in word ≡ Some header →
    IsHeader header × (word ≡ header_bits header)
header_from word header e =
    let g = given_is (is_header_word word) (header_made word) header e in
    subst (λ h. IsHeader h × (word ≡ header_bits h)) g.1 (header_parts word g.0)

-- the word of a header is read as it
pub header_to : (word : ℕ) (header : Header) → IsHeader header → word ≡ header_bits header →
    header_in word ≡ Some header
header_to word header is e =
    given_some (is_header_word word) (header_made word) header (grind (arith, nat_tests))
    (same_header_made (low_part word) header.shape (word / 4294967296) header.object
    (omega (arith, is.shape, is.object)) (omega (arith, is.shape, is.object)))

-- the kind of a number has it
pub kind_from : (number : ℕ) (k : Kind) → kind_in number ≡ Some k → number ≡ kind_number k
kind_from zero k e = cc
kind_from (suc zero) k e = ap kind_number (some_same refl e)
kind_from (suc (suc zero)) k e = ap kind_number (some_same refl e)
kind_from (suc (suc (suc zero))) k e = ap kind_number (some_same refl e)
kind_from (suc (suc (suc (suc zero)))) k e = ap kind_number (some_same refl e)
kind_from (suc (suc (suc (suc (suc zero))))) k e = ap kind_number (some_same refl e)
kind_from (suc (suc (suc (suc (suc (suc zero)))))) k e = ap kind_number (some_same refl e)
kind_from (suc (suc (suc (suc (suc (suc (suc zero))))))) k e = ap kind_number (some_same refl e)
kind_from (suc (suc (suc (suc (suc (suc (suc (suc zero)))))))) k e = ap kind_number (some_same refl e)
kind_from (suc (suc (suc (suc (suc (suc (suc (suc (suc more))))))))) k e = cc

-- a kind is that of its number
kind_number_in : (k : Kind) → kind_in (kind_number k) ≡ Some k
kind_number_in kind.Plain = refl
kind_number_in kind.List = refl
kind_number_in kind.Weak = refl
kind_number_in kind.Store = refl
kind_number_in kind.Table = refl
kind_number_in kind.Boxed = refl
kind_number_in kind.Filler = refl
kind_number_in kind.Gap = refl

-- the number of a kind is read as it
pub kind_to : (number : ℕ) (k : Kind) → number ≡ kind_number k → kind_in number ≡ Some k
kind_to number k e = ap kind_in e ∙ kind_number_in k

-- the test of in-object slots tells what its record says
slots_from : (layout : LayoutWord) → IsTrue (has_in_object_slots layout) → HasInObjectSlots layout
slots_from layout t = record {
  cap = grind (arith, nat_tests);
  used = grind (arith, nat_tests);
  raw = grind (arith, nat_tests);
}

-- what its record says passes the test
slots_to : (layout : LayoutWord) → HasInObjectSlots layout → IsTrue (has_in_object_slots layout)
slots_to layout is = grind (arith, nat_tests)

-- and so does the test of none
none_from : (layout : LayoutWord) → IsTrue (has_no_in_object_slots layout) → HasNoInObjectSlots layout
none_from layout t = record {
  cap = grind (arith, nat_tests);
  used = grind (arith, nat_tests);
  raw = grind (arith, nat_tests);
}

-- and so does what its record says of none
none_to : (layout : LayoutWord) → HasNoInObjectSlots layout → IsTrue (has_no_in_object_slots layout)
none_to layout is = grind (arith, nat_tests)

-- the test of a layout tells what its relation says, kind by kind
layout_test_from : (k : Kind) (layout : LayoutWord) → IsTrue (is_layout_of_kind k layout) → IsLayoutOfKind k layout
layout_test_from kind.Plain layout t = slots_from layout t
layout_test_from kind.List layout t = none_from layout t
layout_test_from kind.Weak layout t = none_from layout t
layout_test_from kind.Store layout t = none_from layout t
layout_test_from kind.Table layout t = none_from layout t
layout_test_from kind.Boxed layout t = none_from layout t
layout_test_from kind.Filler layout t = none_from layout t
layout_test_from kind.Gap layout t = none_from layout t

-- what the relation of its kind says passes the test
layout_test_to : (k : Kind) (layout : LayoutWord) → IsLayoutOfKind k layout → IsTrue (is_layout_of_kind k layout)
layout_test_to kind.Plain layout is = slots_to layout is
layout_test_to kind.List layout is = none_to layout is
layout_test_to kind.Weak layout is = none_to layout is
layout_test_to kind.Store layout is = none_to layout is
layout_test_to kind.Table layout is = none_to layout is
layout_test_to kind.Boxed layout is = none_to layout is
layout_test_to kind.Filler layout is = none_to layout is
layout_test_to kind.Gap layout is = none_to layout is

-- a word has the bits of its own parts
parts_are : (word : ℕ) (k : Kind) → word % 16 ≡ kind_number k → IsTrue (is_layout (layout_parts word k)) →
    word ≡ layout_bits (layout_parts word k)
parts_are word k e t =
    let raw : word / 4096 < 256 = (fits (layout_parts word k) (layout_test_from k (layout_parts word k) t)).raw in
    omega (arith, e, raw)

-- a layout is that of the word that it is read from
pub layout_from : (word : ℕ) (layout : LayoutWord) → layout_in word ≡ Some layout →
    IsLayout layout × (word ≡ layout_bits layout)
layout_from word layout e =
    option_and_then_some (λ k. given (is_layout (layout_parts word k)) (layout_parts word k))
    (kind_in (word % 16)) layout e
    (λ k is f. let g = given_is (is_layout (layout_parts word k)) (layout_parts word k) layout f in
    subst (λ l. IsLayout l × (word ≡ layout_bits l)) g.1
    (layout_test_from k (layout_parts word k) g.0, parts_are word k (kind_from (word % 16) k is) g.0))

-- where a layout has the parts of a word for its kind
parts_made : (word : ℕ) (layout : LayoutWord) → Parts word layout → layout_parts word layout.kind ≡ layout
parts_made word layout p =
    same_made layout.kind layout.kind (word / 16 % 16) layout.cap (word / 256 % 16) layout.used (word / 4096) layout.raw
    refl p.cap p.used p.raw

-- the word of a layout is read as it
pub layout_to : (word : ℕ) (layout : LayoutWord) → IsLayout layout → word ≡ layout_bits layout →
    layout_in word ≡ Some layout
layout_to word layout is e =
    let p = parts word layout is e in
    let f : Kind → Option LayoutWord = λ k. given (is_layout (layout_parts word k)) (layout_parts word k) in
    let same = parts_made word layout p in
    let t : IsTrue (is_layout (layout_parts word layout.kind)) =
    subst (λ l. IsTrue (is_layout l)) (sym same) (layout_test_to layout.kind layout is) in
    ap (option_and_then f) (kind_to (word % 16) layout.kind p.number)
    ∙ given_some (is_layout (layout_parts word layout.kind)) (layout_parts word layout.kind) layout t same
