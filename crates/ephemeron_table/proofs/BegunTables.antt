-- The words with a table of pairs that hold nothing.
use Rattle.std.proofs.Common.{◌≡◌, ℕ, ◌+◌, ◌*◌, ◌≤◌, ◌<◌, inl, inr, List, length, Some, slice_get, replicate, sym}
use Rattle.std.proofs.Common.{◌∙◌, ap, arith, length-set}
use Rattle.std.specs.Prelude.{slice_set}
use Rattle.std.proofs.lemmas.Bool.{cases_lt}
use Rattle.std.proofs.lemmas.List.{length-replicate, get_or-replicate}
use Rattle.std.proofs.lemmas.Option.{same_Some, slice_get_within, slice_get-get_or}
use Rattle.tagged_word.specs.Cells.{store_head, length_offset}
use Rattle.tagged_word.specs.Headers.{header_bits}
use Rattle.object_graph.proofs.Lists.{slice_get-set_same, slice_get-set_other}
use Rattle.heap_model.specs.Slots.{hole_word}
use Rattle.write_barrier.proofs.PutRanges.{length-with_range, with_range_before, with_range_inside, with_range_behind}
use Rattle.weak_pairs.specs.Pairs.{HoldNothing}
use Rattle.weak_pairs.specs.Tables.{key_offset, value_offset, pairs_of, made_pair}
use Rattle.ephemeron_table.specs.Puttings.{begun_table, table_header}
use Rattle.weak_pairs.specs.declared.table.Table.{Table}
use Rattle.weak_pairs.proofs.PairLists.{pairs_read}

module _ (words : List ℕ) (table : Table) (within : table.at + (store_head + 2 * table.capacity) ≤ length words) where
  -- the words with its header, and with its capacity too
  abbrev headed : List ℕ
  headed = slice_set words table.at (header_bits table_header)

  abbrev sized : List ℕ
  sized = slice_set headed (table.at + length_offset) table.capacity

  abbrev holes : List ℕ
  holes = replicate (2 * table.capacity) hole_word

  sized_long : length sized ≡ length words
  sized_long =
      length-set headed (table.at + length_offset) table.capacity ∙ length-set words table.at (header_bits table_header)

  holes_long : length holes ≡ 2 * table.capacity
  holes_long = length-replicate (2 * table.capacity) hole_word

  -- as many words stand
  pub begun_long : length (begun_table words table) ≡ length words
  begun_long =
      length-with_range sized holes (table.at + store_head) (omega (arith, within, sized_long, holes_long)) ∙ sized_long

  -- its first words
  pub begun_header : slice_get (begun_table words table) table.at ≡ Some (header_bits table_header)
  begun_header =
      with_range_before sized holes (table.at + store_head) table.at (omega (arith, within, sized_long)) (omega arith)
      ∙ slice_get-set_other headed (table.at + length_offset) table.at table.capacity (λ same. omega (arith, same))
      ∙ slice_get-set_same words table.at (header_bits table_header) (omega (arith, within))

  pub begun_capacity : slice_get (begun_table words table) (table.at + 1) ≡ Some table.capacity
  begun_capacity =
      with_range_before sized holes (table.at + store_head) (table.at + 1) (omega (arith, within, sized_long))
      (omega arith)
      ∙ slice_get-set_same headed (table.at + 1) table.capacity
      (omega (arith, within, length-set words table.at (header_bits table_header)))

  -- a word beside the table stays
  pub begun_beside : (a : ℕ) → (table.at ≤ a → a < table.at + (store_head + 2 * table.capacity) → ⊥)
      → slice_get (begun_table words table) a ≡ slice_get words a
  begun_beside a beside =
      let before = slice_get-set_other headed (table.at + length_offset) a table.capacity
      (λ same. beside (omega (arith, same)) (omega (arith, same)))
      ∙ slice_get-set_other words table.at a (header_bits table_header)
      (λ same. beside (omega (arith, same)) (omega (arith, same))) in
      elim (cases_lt a (table.at + store_head)) [
        | inl low ↦
            with_range_before sized holes (table.at + store_head) a (omega (arith, within, sized_long)) low ∙ before
        | inr from ↦ elim (cases_lt a (table.at + (store_head + 2 * table.capacity))) [
          | inl below ↦ absurd (beside (omega (arith, from)) below)
          | inr behind ↦
              with_range_behind sized holes (table.at + store_head) a (omega (arith, within, sized_long))
              (omega (arith, behind, holes_long)) ∙ before
        ]
      ]

  -- each word of its pairs is a hole
  begun_hole : (k a : ℕ) → k < 2 * table.capacity → a ≡ table.at + store_head + k
      → slice_get (begun_table words table) a ≡ Some hole_word
  begun_hole k a below is =
      ap (slice_get (begun_table words table)) is
      ∙ with_range_inside sized holes (table.at + store_head) k (omega (arith, within, sized_long))
      (omega (arith, below, holes_long))
      ∙ slice_get-get_or holes k 0 (omega (arith, below, holes_long))
      ∙ ap (λ n. Some n) (get_or-replicate (2 * table.capacity) k hole_word 0 below)

  -- so each pair holds nothing
  pub begun_nothing : HoldNothing (pairs_of (begun_table words table) table)
  begun_nothing at pair there =
      let pairs = pairs_of (begun_table words table) table in
      let read = pairs_read (begun_table words table) table (omega (arith, within, begun_long)) in
      let below : at < table.capacity = omega (arith, slice_get_within pairs at pair there, read.long) in
      let key : pair.key ≡ hole_word =
      same_Some pair.key hole_word (sym (read.keys at pair there)
      ∙ begun_hole (2 * at) (table.at + key_offset at) (omega (arith, below)) (omega arith)) in
      let value : pair.value ≡ hole_word =
      same_Some pair.value hole_word (sym (read.values at pair there)
      ∙ begun_hole (2 * at + 1) (table.at + value_offset at) (omega (arith, below)) (omega arith)) in
      ap (λ k. made_pair k pair.value) key ∙ ap (λ v. made_pair hole_word v) value
