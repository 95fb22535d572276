-- A table that is made in the place of a map's has the words in which the next cell is made: no other cell but fillers
-- has one of these.
use Rattle.std.proofs.Common.{◌≡◌, ℕ, ◌+◌, ◌*◌, ◌≤◌, ◌<◌, length, slice_get, sym, ◌∙◌, ap, subst, arith}
use Rattle.tagged_word.specs.Cells.{store_head}
use Rattle.page_space.specs.Extents.{Space, layouts_start, marks_start}
use Rattle.nursery.specs.Young.{HasRoom}
use Rattle.write_barrier.specs.Seats.{heap_words}
use Rattle.heap_model.specs.Needs.{grown_table}
use Rattle.heap_model.specs.Slots.{reference_word}
use Rattle.write_barrier.specs.MutatorState.{Mutator, heap_of, reserved}
use Rattle.write_barrier.specs.Recording.{Touches}
use Rattle.object_cells.specs.declared.content.SlotContent.{SlotContent}
use Rattle.object_cells.specs.Contents.{next_at}
use Rattle.object_cells.specs.Made.{PutsWords, with_content}
use Rattle.object_cells.proofs.FilledTouches.{reserved_touch}
use Rattle.object_cells.proofs.MadeBoxes.{length-with_content, with_content_stays}
use Rattle.object_cells.proofs.UnusedWords.{marks_fit, next_before_layouts, next_before_marks}
use Rattle.page_space.specs.Sizes.{AreWithin}
use Rattle.write_barrier.specs.Storing.{IsMadeYoung, MayHold}
use Rattle.object_cells.proofs.HoldableWords.{young_may_hold}
use Rattle.ephemeron_table.specs.MapClaims.{MayPutPairs}
use Rattle.ephemeron_table.specs.Rehashing.{CanGrow, IsUsed, RehashesPairs, new_table}
use Rattle.weak_pairs.specs.Pairs.{HoldNothing, IsFilledAt}
use Rattle.weak_pairs.specs.Tables.{TablesDisjoint, KeysMovable, IsOutsidePairs, made_pair, pairs_of}
use Rattle.weak_pairs.specs.Probes.{HasFree}
use Rattle.ephemeron_table.specs.Puttings.{InsertsRehashed, begun_table, table_touch}
use Rattle.weak_pairs.specs.declared.table.Table.{Table}
use Rattle.ephemeron_table.proofs.BegunTables.{begun_beside, begun_long, begun_nothing}
use Rattle.ephemeron_table.proofs.ClaimedMaps.{young_may_put}
use Rattle.ephemeron_table.proofs.UsedWords.{used_not_next}
use Rattle.weak_pairs.proofs.CountedPairs.{count_filled}
use Rattle.weak_pairs.proofs.PairLists.{beside_run, pairs_stay}
use Rattle.weak_pairs.proofs.PairsPut.{length-with_pair}
use Rattle.weak_pairs.proofs.KeyedPairs.{HaveKeys}
use Rattle.weak_pairs.proofs.InsertedPairs.{has_free}

module _ {old : Mutator} {map key count : ℕ} {table : Table} (can : CanGrow old map table key count)
    (counted : length (heap_words old.seat) ≡ marks_start old.seat.space) {at capacity : ℕ} (box : ℕ)
    (room : HasRoom old.young (store_head + 2 * capacity + box))
    (begins_at : 0 < store_head + 2 * capacity + box → at ≡ next_at old)
    (capacity_is : capacity ≡ grown_table table.capacity) where
  at_is : at ≡ next_at old
  at_is = begins_at (omega arith)

  -- the table that is made
  abbrev made : Table
  made = record { at = at; capacity = capacity }

  -- which stands where the next cell is made
  made_is : made ≡ new_table old table
  made_is =
      ap (λ n. let one : Table = record { at = n; capacity = capacity } in one) at_is
      ∙ ap (λ n. let one : Table = record { at = next_at old; capacity = n } in one) capacity_is

  -- it and the box behind it end before the marks
  pub grown_before_marks : at + (store_head + 2 * capacity + box) ≤ marks_start old.seat.space
  grown_before_marks = omega (arith, at_is, next_before_marks old (store_head + 2 * capacity + box) can.tied room)

  -- and before the layout words
  pub grown_before_layouts : at + (store_head + 2 * capacity + box) ≤ layouts_start old.seat.space
  grown_before_layouts = omega (arith, at_is, next_before_layouts old (store_head + 2 * capacity + box) can.tied room)

  -- where a cycle is open it is young, and so is what stands behind it
  pub grown_young : (place : ℕ) → at ≤ place → IsMadeYoung old place
  grown_young place behind mark = omega (arith, can.young mark, at_is, behind)

  -- so pairs may be put in it
  pub grown_may : MayPutPairs old made
  grown_may = young_may_put (omega (arith, grown_before_layouts)) (grown_young at (omega arith))

  -- the map may name it
  pub grown_named : AreWithin old.seat.space.sizes old.seat.space.variables → MayHold old (reference_word at)
  grown_named sizes =
      young_may_hold at (omega (arith, grown_before_marks, marks_fit old.seat.space sizes))
      (grown_young at (omega arith))

  grown_within : at + (store_head + 2 * capacity) ≤ length (heap_words old.seat)
  grown_within = omega (arith, grown_before_marks, counted)

  -- it has more pairs
  pub grown_more : table.capacity < capacity
  grown_more = omega (arith, can.few, can.over, capacity_is)

  -- no word that is used is one of it
  used_apart : (a : ℕ) → IsUsed old a → at ≤ a → a < at + (store_head + 2 * capacity) → ⊥
  used_apart a used from below =
      used_not_next (store_head + 2 * capacity + box) can.tied can.whole room used (omega (arith, at_is, from))
      (omega (arith, at_is, below))

  -- so one is beside its pairs
  used_beside : (a : ℕ) → IsUsed old a → IsOutsidePairs made a
  used_beside a used = beside_run made a (used_apart a used)

  -- and the pairs of the map's table are
  pub grown_apart : TablesDisjoint table made
  grown_apart a from below = used_beside a (can.pairs a from below)

  module _ {between begun : Mutator} (is : between ≡ reserved old (store_head + 2 * capacity + box))
      (begins : PutsWords between begun (begun_table (heap_words between.seat) made)) where
    -- of what is recorded only the words of the table were touched
    pub begun_touch : Touches between begun (table_touch made) → Touches old begun (table_touch (new_table old table))
    begun_touch touches =
        reserved_touch (store_head + 2 * capacity + box)
        (subst (λ (main : Mutator). Touches main begun (table_touch (new_table old table))) is
        (subst (λ (one : Table). Touches between begun (table_touch one)) made_is touches))

    -- the regions stay, and the words are those with the table
    pub begun_space : begun.seat.space ≡ old.seat.space
    begun_space = begins.beside.space ∙ ap (λ (main : Mutator). main.seat.space) is

    pub begun_words : heap_words begun.seat ≡ begun_table (heap_words old.seat) made
    begun_words = begins.heap ∙ ap (λ (main : Mutator). begun_table (heap_words main.seat) made) is

    begun_marks : marks_start begun.seat.space ≡ marks_start old.seat.space
    begun_marks = ap (λ (s : Space). marks_start s) begun_space

    pub begun_words_long : length (heap_words begun.seat) ≡ length (heap_words old.seat)
    begun_words_long = ap length begun_words ∙ begun_long (heap_words old.seat) made grown_within

    -- what ends before the marks does so there
    pub begun_within : at + (store_head + 2 * capacity) ≤ marks_start begun.seat.space
    begun_within = omega (arith, grown_before_marks, begun_marks)

    -- the pairs of the map's table stay
    pub grown_pairs_stay : pairs_of (heap_words begun.seat) table ≡ pairs_of (heap_words old.seat) table
    grown_pairs_stay =
        pairs_stay (heap_words old.seat) (heap_words begun.seat) table
        (omega (arith, can.within, counted)) begun_words_long
        (λ a from below. ap (λ all. slice_get all a) begun_words
        ∙ begun_beside (heap_words old.seat) made grown_within a (used_apart a (can.pairs a from below)))

    -- and their keys are beside the table that is made
    pub grown_keys : KeysMovable (heap_of begun) table made
    grown_keys place pair filled =
        let known = can.keys place pair (subst (λ all. IsFilledAt all place pair) grown_pairs_stay filled) in (
          known.0,
          known.1,
          record {
            within = omega (arith, known.2, begun_marks);
            beside = used_beside known.0 known.3;
          },
        )

    -- whose pairs hold nothing
    pub grown_nothing : HoldNothing (pairs_of (heap_words begun.seat) made)
    grown_nothing =
        subst (λ all. HoldNothing (pairs_of all made)) (sym begun_words)
        (begun_nothing (heap_words old.seat) made grown_within)

    module _ {moved boxed : Mutator} (holds : SlotContent) (moves : RehashesPairs begun moved table made table.capacity)
        (boxes : PutsWords moved boxed
        (with_content (heap_words moved.seat) holds (at + (store_head + 2 * capacity)))) where
      -- there are as many words as before
      boxed_long : length (heap_words boxed.seat) ≡ length (heap_words old.seat)
      boxed_long =
          ap length boxes.heap ∙ length-with_content (heap_words moved.seat) holds (at + (store_head + 2 * capacity))
          ∙ moves.changes.long ∙ begun_words_long

      -- so there are once a pair is inserted
      pub inserted_long : {inserted : Mutator} {key value : ℕ} → InsertsRehashed boxed inserted made key value
          → length (heap_words inserted.seat) ≡ length (heap_words old.seat)
      inserted_long {key = key} {value} inserts =
          ap length inserts.words.heap
          ∙ length-with_pair (heap_words boxed.seat) at inserts.place (made_pair (reference_word key) value)
          ∙ boxed_long

      pub boxed_within : at + (store_head + 2 * capacity) ≤ length (heap_words boxed.seat)
      boxed_within = omega (arith, grown_within, boxed_long)

      -- a box stands behind its pairs
      pub boxed_pairs : pairs_of (heap_words boxed.seat) made ≡ pairs_of (heap_words moved.seat) made
      boxed_pairs =
          pairs_stay (heap_words moved.seat) (heap_words boxed.seat) made
          (omega (arith, grown_within, moves.changes.long, begun_words_long))
          (ap length boxes.heap ∙ length-with_content (heap_words moved.seat) holds (at + (store_head + 2 * capacity)))
          (λ a from below. ap (λ all. slice_get all a) boxes.heap
          ∙ with_content_stays (heap_words moved.seat) holds (at + (store_head + 2 * capacity)) a
          (λ low high. omega (arith, low, below)))

      -- so one is free
      pub boxed_free : HasFree (heap_of boxed) made
      boxed_free =
          has_free (heap_of boxed) made boxed_within
          (omega (arith, moves.moved.few, grown_more, ap count_filled boxed_pairs))

      -- and each that holds something has a key
      pub boxed_keys : HaveKeys (pairs_of (heap_words boxed.seat) made)
      boxed_keys place pair filled =
          let was = moves.moved.from place pair (subst (λ all. IsFilledAt all place pair) boxed_pairs filled) in
          let known = grown_keys (moves.moved.origin place) pair was.0 in (known.0, known.1)
