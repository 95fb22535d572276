-- What is found of a weak map, by its table and its count.
use Rattle.std.proofs.Common.{◌≡◌, ◌≢◌, ℕ, Option, ◌+◌, ◌-◌, ◌/◌, ◌⊎◌, inl, inr, List, [], drop, slice_get}
use Rattle.std.proofs.Common.{Some, get_or, refl, sym, ◌∙◌, ap, subst, arith}
use Rattle.std.proofs.lemmas.Option.{same_Some, slice_get_within, slice_get-get_or}
use Rattle.tagged_word.specs.Cells.{store_slot, store_head, length_offset}
use Rattle.tagged_word.specs.declared.layout.Kind.TheVariants as kind
use Rattle.heap_model.specs.Types.{Cell}
use Rattle.heap_model.specs.Heaps.{Heap, words_of_cell}
use Rattle.heap_model.specs.Slots.{undefined_word, RefersTo, HoldsStore}
use Rattle.heap_model.specs.Kinds.{HasWord, Pair, pairs_in, IsPowerOfTwo, HasTable, IsWeakCell, count_offset}
use Rattle.heap_model.proofs.PairLists.{length-pairs_in}
use Rattle.heap_model.proofs.WordClasses.{undefined_refers_not}
use Rattle.image_walk.specs.declared.spans.Span.{Span}
use Rattle.image_walk.specs.Spans.{span_words, HoldsNoStore}
use Rattle.image_walk.specs.TablePairs.{table_pairs, filled_pairs, IsTableAs}
use Rattle.heap_check.specs.HeldPairs.{AreHeldPairs}
use Rattle.image_walk.proofs.PairWords.{HasTablePairs, table_is, table_capacity, table_from}
use Rattle.heap_check.proofs.WeakEntries.{weak_from}
use Rattle.image_walk.proofs.PairWords.{table_is_span}
use Rattle.heap_check.specs.declared.flaw.Flaw.{Flaw}
use Rattle.heap_check.specs.Firsts.{IsFirst, IsVerdict, earlier_of, asked_of}
use Rattle.heap_check.specs.Cells.{BreaksStore, BreaksCapacity, BreaksEntries, BreaksPair, BreaksWeak, IsNextPower}
use Rattle.image_walk.specs.Spans.{IsBeside}
use Rattle.heap_check.specs.SpanFlaws.{BreaksPairs, BreaksCount, HasBeside}
use Rattle.heap_check.proofs.JoinedFinds.{Includes, Excludes, NoneBelow, first_by, first_is}
use Rattle.heap_check.proofs.JoinedFinds.{joined_finds}
use Rattle.heap_check.proofs.BesideSpans.{HasNone, IsSpanBeside, span_beside, beside_spans, span_of_target, store_at}
use Rattle.heap_check.proofs.BesideSpans.{store_excludes}
use Rattle.heap_check.proofs.PairFlaws.{pairs_exclude}

-- where slot 1 tells of no table, no table of pairs is told of
pub no_table : {heap : Heap} {word : ℕ} {pairs : List Pair} → HoldsNoStore heap kind.Table word
    → HasTable heap word pairs → ⊥
no_table {heap} {word} lacks has = elim (table_is has) [
  | HasTablePairs.no_table undefined are ↦
      lacks [] (subst (λ w. HoldsStore heap kind.Table w []) (sym undefined) HoldsStore.none)
  | HasTablePairs.to_table cell refers is power are ↦
      lacks (drop store_head (words_of_cell heap cell))
      (HoldsStore.store word cell (words_of_cell heap cell) refers is)
]

-- a table to which slot 1 refers is one that it tells of
to_table : {heap : Heap} {word : ℕ} (cell : Cell) (words : List ℕ) → HoldsNoStore heap kind.Table word
    → RefersTo heap word cell words → cell.layout.kind ≡ kind.Table → ⊥
to_table {heap} {word} cell words lacks refers is =
    lacks (drop store_head words) (HoldsStore.store word cell words refers is)

-- of no other word it is told
other_word : {heap : Heap} (words : List ℕ) (word other : ℕ) → HasWord words store_slot word
    → HoldsNoStore heap kind.Table word → HasWord words store_slot other → HoldsNoStore heap kind.Table other
other_word {heap} words word other there lacks here =
    subst (HoldsNoStore heap kind.Table) (same_Some _ _ (sym there ∙ here)) lacks

-- where slot 1 tells of no table, a breach of the weak map is there
lacks_table : (heap : Heap) (cell : Cell) (words : List ℕ) (word : ℕ) → HasWord words store_slot word
    → HoldsNoStore heap kind.Table word → NoneBelow (BreaksWeak heap cell words) (cell.at + store_slot)
lacks_table heap cell words word there lacks _ _ _ (BreaksWeak.table at found wanted breaks) =
    omega (arith, store_at heap cell words kind.Table at found wanted breaks)
lacks_table heap cell words word there lacks _ _ _ (BreaksWeak.capacity _ _ _
    (BreaksCapacity.capacity other wanted table others slot refers is odd next)) =
    absurd (to_table table others (other_word words word other there lacks slot) refers is)
lacks_table heap cell words word there lacks _ _ _ (BreaksWeak.entry _ _ _
    (BreaksEntries.pair other place at found wanted table others pair slot refers is power here breaks)) =
    absurd (to_table table others (other_word words word other there lacks slot) refers is)
lacks_table heap cell words word there lacks _ _ _ (BreaksWeak.entry _ _ _
    (BreaksEntries.count other found pairs slot has counted wrong)) =
    absurd (no_table (other_word words word other there lacks slot) has)

-- and that is the first
pub first_lacks_table : (heap : Heap) (cell : Cell) (words : List ℕ) (word : ℕ) (flaw : Flaw)
    → HasWord words store_slot word → HoldsNoStore heap kind.Table word
    → flaw ≡ record { at = cell.at + store_slot; found = word; wanted = asked_of word }
    → IsFirst (BreaksWeak heap cell words) flaw
first_lacks_table heap cell words word flaw there lacks is =
    first_is (BreaksWeak heap cell words) flaw (cell.at + store_slot) word (asked_of word) is
    (BreaksWeak.table _ _ _ (BreaksStore.store word there lacks)) (lacks_table heap cell words word there lacks)

-- the span has the slots of this table
record IsTableOf (heap : Heap) (table : Span) (cell : Cell) (words : List ℕ) : Type 0 where
  pub begins : table.from ≡ cell.at + store_head
  pub pairs : table_pairs heap table ≡ pairs_in (drop store_head words)
  pub capacity : cell.length ≡ (table.end - table.from) / 2

-- the table that slot 1 refers to is
table_of : {heap : Heap} {cell : Cell} {table : Span} (word : ℕ) (other : Cell) (others : List ℕ)
    → HasBeside heap cell kind.Table table → HasWord (words_of_cell heap cell) store_slot word
    → RefersTo heap word other others → other.layout.kind ≡ kind.Table → IsTableOf heap table other others
table_of {heap} {cell} {table} word other others has slot refers is =
    let to = subst (λ w. RefersTo heap w other others) (same_Some _ _ (sym slot ∙ has.slot)) refers in
    let target = span_of_target heap kind.Table has.word table other others (inr refl) has.is to in
    record {
      begins = target.0;
      pairs = ap pairs_in target.1;
      capacity = table_capacity heap has.word other table
          (subst (λ all. RefersTo heap has.word other all) (sym to.has.words_are) to) is
          (beside_spans heap kind.Table has.word table (inr refl) has.is).is
          (target.1 ∙ ap (drop store_head) (sym to.has.words_are));
    }

-- no slot 1 breaks a weak map beside which the slots of a table are found
table_excludes : {heap : Heap} {cell : Cell} {table : Span} (at found wanted : ℕ)
    → HasBeside heap cell kind.Table table → BreaksStore heap cell (words_of_cell heap cell) kind.Table at found wanted
    → ⊥
table_excludes {heap} {cell} {table} at found wanted has breaks =
    store_excludes heap cell (words_of_cell heap cell) kind.Table has.word (span_words heap table) at found wanted
    has.slot (beside_spans heap kind.Table has.word table (inr refl) has.is).beside breaks

-- where the capacity of a table is no power of two, no breach is before its length
odd_capacity : (heap : Heap) (cell : Cell) (table : Span) → HasBeside heap cell kind.Table table → table.from ≢ 0
    → (IsPowerOfTwo ((table.end - table.from) / 2) → ⊥)
    → NoneBelow (BreaksWeak heap cell (words_of_cell heap cell)) (table.from - store_head + length_offset)
odd_capacity heap cell table has some odd _ _ _ (BreaksWeak.table at found wanted breaks) =
    absurd (table_excludes at found wanted has breaks)
odd_capacity heap cell table has some odd _ _ _ (BreaksWeak.capacity _ _ _
    (BreaksCapacity.capacity word wanted other others slot refers is wrong next)) =
    omega (arith, (table_of word other others has slot refers is).begins)
odd_capacity heap cell table has some odd _ _ _ (BreaksWeak.entry _ _ _
    (BreaksEntries.pair word place at found wanted other others pair slot refers is power here breaks)) =
    absurd (odd (subst IsPowerOfTwo (table_of word other others has slot refers is).capacity power))
odd_capacity heap cell table has some odd _ _ _ (BreaksWeak.entry _ _ _
    (BreaksEntries.count word found pairs slot told counted wrong)) =
    let same : word ≡ has.word = same_Some _ _ (sym slot ∙ has.slot) in
    elim (table_is told) [
      | HasTablePairs.to_table other refers is power are ↦
          absurd (odd (subst IsPowerOfTwo (table_of word other _ has slot refers is).capacity power))
      | HasTablePairs.no_table undefined are ↦ elim has.is [
        | IsBeside.none unbound from end ↦ absurd (some from)
        | IsBeside.store other others to is from end ↦
            absurd (undefined_refers_not other.at (sym undefined ∙ same ∙ to.refers))
      ]
    ]

-- and the length is the first
pub first_odd_capacity : {heap : Heap} {cell : Cell} {table : Span} (flaw : Flaw)
    → HasBeside heap cell kind.Table table
    → table.from ≢ 0 → (IsPowerOfTwo ((table.end - table.from) / 2) → ⊥)
    → flaw.at ≡ table.from - store_head + length_offset → flaw.found ≡ (table.end - table.from) / 2
    → IsNextPower ((table.end - table.from) / 2) flaw.wanted
    → IsFirst (BreaksWeak heap cell (words_of_cell heap cell)) flaw
first_odd_capacity {heap} {cell} {table} flaw has some odd is_at is_found next = elim has.is [
  | IsBeside.none unbound from end ↦ absurd (some from)
  | IsBeside.store other others to is from end ↦
      let of = table_of has.word other others has has.slot to is in
      let Breaks : ℕ → ℕ → ℕ → Type 0 = BreaksWeak heap cell (words_of_cell heap cell) in
      first_by Breaks flaw (other.at + length_offset) other.length flaw.wanted
      (BreaksWeak.capacity _ _ _ (BreaksCapacity.capacity has.word flaw.wanted other others has.slot to is
      (λ power. odd (subst IsPowerOfTwo of.capacity power))
      (subst (λ n. IsNextPower n flaw.wanted) (sym of.capacity) next)))
      (λ at found wanted breaks. omega (arith, from, odd_capacity heap cell table has some odd at found wanted breaks))
      (omega (arith, is_at, from)) (is_found ∙ sym of.capacity) refl
]

-- there is no table beside a weak map, or its capacity is a power of two
abbrev pub IsCapable : ℕ → Span → Type 0
IsCapable word table = (word ≡ undefined_word) ⊎ IsPowerOfTwo ((table.end - table.from) / 2)

-- where no word stands in a span no pair does
no_pairs : (heap : Heap) (table : Span) (place : ℕ) (pair : Pair) → HasNone heap table
    → slice_get (table_pairs heap table) place ≡ Some pair → ⊥
no_pairs heap table place pair empty there =
    let words : List ℕ = span_words heap table in
    empty 0 (get_or words 0 0)
    (slice_get-get_or words 0 0
    (omega (arith, slice_get_within (table_pairs heap table) place pair there, length-pairs_in words)))

-- the capacity of a table beside a weak map is a power of two
capable : {heap : Heap} {cell : Cell} {table : Span} {other : Cell} {others : List ℕ}
    → (has : HasBeside heap cell kind.Table table) → IsCapable has.word table → RefersTo heap has.word other others
    → IsTableOf heap table other others → IsPowerOfTwo other.length
capable {other = other} has (inl undefined) to of = absurd (undefined_refers_not other.at (sym undefined ∙ to.refers))
capable has (inr power) to of = subst IsPowerOfTwo (sym of.capacity) power

-- a breach of a pair is one of the weak map
pairs_to : {heap : Heap} {cell : Cell} {table : Span} (has : HasBeside heap cell kind.Table table)
    → IsCapable has.word table
    → Includes (BreaksPairs heap table) (BreaksWeak heap cell (words_of_cell heap cell))
pairs_to {heap} {cell} {table} has power _ _ _ (BreaksPairs.pair place at found wanted pair there breaks) =
    elim (span_beside heap kind.Table has.word table (inr refl) has.is) [
      | IsSpanBeside.none undefined empty ↦ absurd (no_pairs heap table place pair empty there)
      | IsSpanBeside.store other to is from end are ↦
          let of = table_of has.word other (words_of_cell heap other) has has.slot to is in
          BreaksWeak.entry at found wanted
          (BreaksEntries.pair has.word place at found wanted other (words_of_cell heap other) pair has.slot to is
          (capable has power to of) (ap (λ all. slice_get all place) (sym of.pairs) ∙ there)
          (subst (λ all. BreaksPair heap (other.at + store_head) all place pair at found wanted) of.pairs
          (subst (λ n. BreaksPair heap n (table_pairs heap table) place pair at found wanted) of.begins breaks)))
    ]

-- the pairs of the table beside it are those of the span
table_told : {heap : Heap} {cell : Cell} {table : Span} (has : HasBeside heap cell kind.Table table)
    → IsCapable has.word table → IsTableAs heap has.word table
table_told {heap} {cell} {table} has power =
    let stands = beside_spans heap kind.Table has.word table (inr refl) has.is in
    record { has = table_from heap has.word table stands power; is = stands.is }

-- so is one of the count
count_to : {heap : Heap} {cell : Cell} {table : Span} (has : HasBeside heap cell kind.Table table)
    → IsCapable has.word table
    → Includes (BreaksCount heap cell table) (BreaksWeak heap cell (words_of_cell heap cell))
count_to {heap} {cell} {table} has power _ _ _ (BreaksCount.count found there wrong) =
    BreaksWeak.entry _ _ _
    (BreaksEntries.count has.word found (table_pairs heap table) has.slot (table_told has power).has there wrong)

-- and each breach of the weak map is one of these
weak_only : {heap : Heap} {cell : Cell} {table : Span} (has : HasBeside heap cell kind.Table table)
    → IsCapable has.word table → (at found wanted : ℕ) → BreaksWeak heap cell (words_of_cell heap cell) at found wanted
    → BreaksPairs heap table at found wanted ⊎ BreaksCount heap cell table at found wanted
weak_only {heap} {cell} {table} has power _ _ _ (BreaksWeak.table at found wanted breaks) =
    absurd (table_excludes at found wanted has breaks)
weak_only {heap} {cell} {table} has power _ _ _ (BreaksWeak.capacity _ _ _
    (BreaksCapacity.capacity word wanted other others slot refers is odd next)) =
    let to = subst (λ w. RefersTo heap w other others) (same_Some _ _ (sym slot ∙ has.slot)) refers in
    absurd (odd (capable has power to (table_of word other others has slot refers is)))
weak_only {heap} {cell} {table} has power _ _ _ (BreaksWeak.entry _ _ _
    (BreaksEntries.pair word place at found wanted other others pair slot refers is two here breaks)) =
    let of = table_of word other others has slot refers is in
    inl (BreaksPairs.pair place at found wanted pair (ap (λ all. slice_get all place) of.pairs ∙ here)
    (subst (λ n. BreaksPair heap n (table_pairs heap table) place pair at found wanted) (sym of.begins)
    (subst (λ all. BreaksPair heap (other.at + store_head) all place pair at found wanted) (sym of.pairs) breaks)))
weak_only {heap} {cell} {table} has power _ _ _ (BreaksWeak.entry _ _ _
    (BreaksEntries.count word found pairs slot told counted wrong)) =
    let same : pairs ≡ table_pairs heap table =
    table_is_span (words_of_cell heap cell) store_slot has.word word table has.slot slot (table_told has power) told in
    inr (subst (λ n. BreaksCount heap cell table (cell.at + count_offset) found n) (sym (ap filled_pairs same))
    (BreaksCount.count found counted (λ equal. wrong (equal ∙ sym (ap filled_pairs same)))))

-- a count that is that of the filled pairs has no breach
count_excludes : (heap : Heap) (cell : Cell) (table : Span) → Excludes (BreaksCount heap cell table)
    (HasWord (words_of_cell heap cell) count_offset (filled_pairs (table_pairs heap table)))
count_excludes heap cell table _ _ _ (BreaksCount.count found there wrong) counted =
    wrong (same_Some _ _ (sym there ∙ counted))

-- a breach of the count is where it stands
counts_there : (heap : Heap) (cell : Cell) (table : Span)
    → NoneBelow (BreaksCount heap cell table) (cell.at + count_offset)
counts_there heap cell table _ _ _ (BreaksCount.count found there wrong) = omega arith

-- a count that is not is its own first breach
pub first_miscounted : (heap : Heap) (cell : Cell) (table : Span) (count : ℕ) (flaw : Flaw)
    → HasWord (words_of_cell heap cell) count_offset count → count ≢ filled_pairs (table_pairs heap table)
    → flaw ≡ record { at = cell.at + count_offset; found = count; wanted = filled_pairs (table_pairs heap table) }
    → IsFirst (BreaksCount heap cell table) flaw
first_miscounted heap cell table count flaw there wrong is =
    first_is (BreaksCount heap cell table) flaw (cell.at + count_offset) count
    (filled_pairs (table_pairs heap table)) is
    (BreaksCount.count count there wrong) (counts_there heap cell table)

-- what is found of the pairs and of the count is found of the weak map
pub weak_by_entries : {heap : Heap} {cell : Cell} {table : Span} (one other : Option Flaw)
    → (has : HasBeside heap cell kind.Table table) → IsCapable has.word table
    → IsVerdict (AreHeldPairs heap (table_pairs heap table)) (BreaksPairs heap table) one
    → IsVerdict (HasWord (words_of_cell heap cell) count_offset (filled_pairs (table_pairs heap table)))
    (BreaksCount heap cell table) other
    → IsVerdict (IsWeakCell heap (words_of_cell heap cell)) (BreaksWeak heap cell (words_of_cell heap cell))
    (earlier_of one other)
weak_by_entries {heap} {cell} {table} one other has power is also =
    let pairs : List Pair = table_pairs heap table in
    let words : List ℕ = words_of_cell heap cell in
    joined_finds (AreHeldPairs heap pairs) (HasWord words count_offset (filled_pairs pairs)) (IsWeakCell heap words)
    (BreaksPairs heap table) (BreaksCount heap cell table) (BreaksWeak heap cell words) one other
    (record {
      both = λ held counted. weak_from heap words has.word (filled_pairs pairs) table has.slot counted
          (table_told has power) (held, refl);
      of_one = pairs_to has power;
      of_other = count_to has power;
      only = weak_only has power;
      not_one = pairs_exclude heap table;
      not_other = count_excludes heap cell table;
    })
    is also

-- where the span begins at 0 there is no table
pub capable_at_zero : {heap : Heap} {cell : Cell} {table : Span} (has : HasBeside heap cell kind.Table table)
    → table.from ≡ 0 → IsCapable has.word table
capable_at_zero has zero = elim has.is [
  | IsBeside.none undefined from end ↦ inl undefined
  | IsBeside.store other others to is from end ↦ absurd (omega (arith, zero, from))
]
