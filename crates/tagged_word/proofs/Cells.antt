-- Cells: an address reads as one cell, its size is that of a page or less, and its slots lie in it.
use Rattle.std.proofs.Common.{ℕ, ◌<◌, ◌≤◌, ◌+◌, ◌*◌, ◌≡◌, ◌≢◌, List}
use Rattle.std.proofs.Common.{slice_get, Option, Some, IsTrue, arith, refl, ap, ◌∙◌}
use Rattle.std.proofs.lemmas.Bool.{false≢true}
use Rattle.std.proofs.lemmas.Bool.Decides.{nat_tests}
use Rattle.std.specs.List.{Contains}
use Rattle.tagged_word.specs.declared.header.Header.{Header}
use Rattle.tagged_word.specs.declared.layout.Kind.{Kind}
use Rattle.tagged_word.specs.declared.layout.Kind.TheVariants as kind
use Rattle.tagged_word.specs.declared.layout.LayoutWord.{LayoutWord}
use Rattle.tagged_word.specs.declared.reading.Reading.{Reading}
use Rattle.tagged_word.specs.Layouts.{IsLayout, IsLayoutOfKind, HasInObjectSlots, layout_bits}
use Rattle.tagged_word.specs.Cells.{ReadsAs, has_length, length_by, length_offset, cell_size, size_within, words_least}
use Rattle.tagged_word.specs.Cells.{words_of, cell_words_most, plain_head, store_head, store_slot}
use Rattle.tagged_word.specs.Cells.{scavenge_offsets, scavenge_offsets_of, tagged_offsets, tagged_offsets_of}
use Rattle.tagged_word.proofs.Headers.{same_header}
use Rattle.tagged_word.proofs.Layouts.{same_layout}
use Rattle.tagged_word.proofs.Members.{one_in, range_bounds}
use Rattle.tagged_word.proofs.Offsets.{IsPlainSlot, plain_slot_is}

-- where there is a size, it is the number of words, within its bounds
pub size_is : (least words size : ℕ) → size_within least words ≡ Some size →
    (words ≡ size) × (least ≤ words) × (words ≤ cell_words_most)
size_is least words size e = (grind (arith, nat_tests), grind (arith, nat_tests), grind (arith, nat_tests))

-- a cell of a kind with a length has two words at least: its header and its length
pub two_words_of : (k : Kind) (cap long size : ℕ) → IsTrue (has_length k) → words_of k cap long ≡ size
    → words_least k ≤ size → 2 ≤ size
two_words_of kind.Store cap long size has is least = omega arith
two_words_of kind.Table cap long size has is least = omega arith
two_words_of kind.Gap cap long size has is least = omega arith
two_words_of _ cap long size has is least = absurd (false≢true has)

-- the fewest words are one at least
least_one : (k : Kind) → 1 ≤ words_least k
least_one kind.Gap = omega arith
least_one kind.Plain = omega arith
least_one kind.List = omega arith
least_one kind.Weak = omega arith
least_one kind.Store = omega arith
least_one kind.Table = omega arith
least_one kind.Boxed = omega arith
least_one kind.Filler = omega arith

-- a cell has at least a word, and at most those of a page
pub size_bounds : (layout : LayoutWord) (long size : ℕ) → cell_size layout long ≡ Some size →
    (1 ≤ size) × (size ≤ cell_words_most)
size_bounds layout long size e =
    let s = size_is (words_least layout.kind) (words_of layout.kind layout.cap long) size e in
    let l = least_one layout.kind in
    (omega arith, omega arith)

-- a slot of a plain cell lies behind its header, and within its words
plain_within : (layout : LayoutWord) → HasInObjectSlots layout → (offset : ℕ) → IsPlainSlot layout offset →
    (1 ≤ offset) × (offset < plain_head + layout.cap)
plain_within layout is offset (IsPlainSlot.store e) = (omega (arith, e), omega (arith, e))
plain_within layout is offset (IsPlainSlot.proto e) = (omega (arith, e), omega (arith, e))
plain_within layout is offset (IsPlainSlot.own slot) =
    (omega (arith, slot.behind), omega (arith, slot.behind, slot.used, is.used))

-- the slots lie within the words, kind by kind
slots_within : (k : Kind) (layout : LayoutWord) → IsLayoutOfKind k layout → (long offset : ℕ) →
    Contains (scavenge_offsets_of k layout long) offset → (1 ≤ offset) × (offset < words_of k layout.cap long)
slots_within kind.Plain layout is long offset c =
    plain_within layout is offset (plain_slot_is layout offset c)
slots_within kind.List layout is long offset c = let e = one_in store_slot offset c in (omega arith, omega arith)
slots_within kind.Weak layout is long offset c = let e = one_in store_slot offset c in (omega arith, omega arith)
slots_within kind.Store layout is long offset c =
    let b = range_bounds store_head long offset c in (omega arith, omega arith)
slots_within kind.Table layout is long offset c =
    let b = range_bounds store_head (2 * long) offset c in (omega arith, omega arith)
slots_within kind.Boxed layout is long offset (k, l, e) = absurd (omega (arith, l))
slots_within kind.Filler layout is long offset (k, l, e) = absurd (omega (arith, l))
slots_within kind.Gap layout is long offset (k, l, e) = absurd (omega (arith, l))

-- each slot that a scavenge visits lies in the cell, behind its header
pub slot_within : (layout : LayoutWord) (long size offset : ℕ) → IsLayout layout → cell_size layout long ≡ Some size →
    Contains (scavenge_offsets layout long) offset → (1 ≤ offset) × (offset < size)
slot_within layout long size offset is e c =
    let s = size_is (words_least layout.kind) (words_of layout.kind layout.cap long) size e in
    let w = slots_within layout.kind layout is long offset c in
    (omega arith, omega arith)

-- the slots of marking are slots of a scavenge, kind by kind
tagged_of : (k : Kind) (layout : LayoutWord) (long offset : ℕ) →
    Contains (tagged_offsets_of k layout long) offset → Contains (scavenge_offsets_of k layout long) offset
tagged_of kind.Plain layout long offset c = c
tagged_of kind.List layout long offset c = c
tagged_of kind.Weak layout long offset c = c
tagged_of kind.Store layout long offset c = c
tagged_of kind.Table layout long offset (k, l, e) = absurd (omega (arith, l))
tagged_of kind.Boxed layout long offset c = c
tagged_of kind.Filler layout long offset c = c
tagged_of kind.Gap layout long offset c = c

-- a scavenge visits each slot that marking visits
pub tagged_is_scavenged : (layout : LayoutWord) (long offset : ℕ) →
    Contains (tagged_offsets layout long) offset → Contains (scavenge_offsets layout long) offset
tagged_is_scavenged layout = tagged_of layout.kind layout

-- the two lists agree, kind by kind
offsets_of : (k : Kind) (layout : LayoutWord) (long : ℕ) → k ≢ kind.Table →
    scavenge_offsets_of k layout long ≡ tagged_offsets_of k layout long
offsets_of kind.Plain layout long other = refl
offsets_of kind.List layout long other = refl
offsets_of kind.Weak layout long other = refl
offsets_of kind.Store layout long other = refl
offsets_of kind.Table layout long other = absurd (other refl)
offsets_of kind.Boxed layout long other = refl
offsets_of kind.Filler layout long other = refl
offsets_of kind.Gap layout long other = refl

-- in all cells but tables of weak maps, marking and a scavenge visit the same slots
pub same_offsets : (layout : LayoutWord) (long : ℕ) → layout.kind ≢ kind.Table →
    scavenge_offsets layout long ≡ tagged_offsets layout long
same_offsets layout = offsets_of layout.kind layout

-- an option holds one value
pub some_same : {X : Type 0} {o : Option X} {x y : X} → o ≡ Some x → o ≡ Some y → x ≡ y
some_same e f = cc

-- a layout and a second word give one length
same_length : (second : Option ℕ) (l l' : LayoutWord) (n n' : ℕ) → l ≡ l' →
    length_by (has_length l.kind) second ≡ Some n → length_by (has_length l'.kind) second ≡ Some n' → n ≡ n'
same_length second l l' n n' e f g = some_same f (ap (λ x. length_by (has_length x.kind) second) e ∙ g)

-- a layout and a length give one size
same_size : (l l' : LayoutWord) (n n' s s' : ℕ) → l ≡ l' → n ≡ n' →
    cell_size l n ≡ Some s → cell_size l' n' ≡ Some s' → s ≡ s'
same_size l l' n n' s s' e f g h = some_same g (ap (λ x. cell_size x n) e ∙ ap (λ x. cell_size l' x) f ∙ h)

-- a reading by its parts
abbrev pub made : Header → LayoutWord → ℕ → ℕ → Reading
made h l n s = record { header = h; layout = l; length = n; size = s }

-- equal parts make one reading
pub same_made : (h h' : Header) (l l' : LayoutWord) (n n' s s' : ℕ) → h ≡ h' → l ≡ l' → n ≡ n' → s ≡ s' →
    made h l n s ≡ made h' l' n' s'
same_made h h' l l' n n' s s' e f g i =
    ap (λ x. made x l n s) e ∙ ap (λ x. made h' x n s) f ∙ ap (λ x. made h' l' x s) g ∙ ap (λ x. made h' l' n' x) i

-- The words at an address read as a cell in one way at most, whatever the bound is.
pub same_reading : {words layouts : List ℕ} {at bound bound' : ℕ} {r r' : Reading} →
    ReadsAs words layouts at bound r → ReadsAs words layouts at bound' r' → r ≡ r'
same_reading {words} {layouts} {at} {r = r} {r'} a b =
    let header : r.header ≡ r'.header =
    same_header r.header r'.header a.is_header b.is_header (some_same a.first b.first) in
    let shape : slice_get layouts r.header.shape ≡ slice_get layouts r'.header.shape =
    ap (λ x. slice_get layouts x.shape) header in
    let bits : layout_bits r.layout ≡ layout_bits r'.layout = some_same a.of_shape (shape ∙ b.of_shape) in
    let layout : r.layout ≡ r'.layout = same_layout r.layout r'.layout a.is_layout b.is_layout bits in
    let long : r.length ≡ r'.length =
    same_length (slice_get words (at + length_offset)) r.layout r'.layout r.length r'.length layout a.second b.second in
    let size : r.size ≡ r'.size =
    same_size r.layout r'.layout r.length r'.length r.size r'.size layout long a.sized b.sized in
    same_made r.header r'.header r.layout r'.layout r.length r'.length r.size r'.size header layout long size
