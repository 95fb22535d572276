-- Where each key of a live table is live, what a slot of a live cell refers to is live, of those of a scavenge too.
use Rattle.std.proofs.Common.{◌≡◌, ◌≢◌, ℕ, suc, ◌+◌, ◌*◌, ◌-◌, ◌/◌, ◌<◌, ◌⊎◌, inl, inr, List, drop, length, get_or}
use Rattle.std.proofs.Common.{Some, Contains, slice_get, refl, sym, ◌∙◌, ap, subst, arith, length-drop}
use Rattle.std.proofs.lemmas.Bool.{cases_eq}
use Rattle.std.proofs.lemmas.Option.{same_Some, slice_get-get_or}
use Rattle.tagged_word.specs.declared.layout.Kind.TheVariants as kind
use Rattle.tagged_word.specs.Cells.{scavenge_offsets, store_head}
use Rattle.tagged_word.proofs.Cells.{same_offsets}
use Rattle.tagged_word.proofs.Members.{range_bounds}
use Rattle.heap_model.specs.Types.{Kind, Cell}
use Rattle.heap_model.specs.Heaps.{Heap, HasCell}
use Rattle.heap_model.specs.Slots.{reference_word}
use Rattle.heap_model.specs.Kinds.{HasWord, Pair, pairs_in, free_pair, IsFoundPair}
use Rattle.heap_model.specs.Wholeness.{Whole}
use Rattle.heap_model.proofs.CellWords.{slice_get-drop, slots_of_kind, words_by_kind}
use Rattle.heap_model.proofs.ObjectSlots.{pair_words}
use Rattle.heap_model.proofs.PairLists.{length-pairs_in}
use Rattle.heap_model.proofs.WordClasses.{hole_refers_not}
use Rattle.live_cells.specs.Live.{IsLive, AreNoTables}
use Rattle.live_cells.specs.Cleared.{HasLiveKeysFrom, LiveIsClosed}
use Rattle.live_cells.specs.Starts.{LiveIsClosedFromStarts}
use Rattle.live_cells.proofs.TablesOfMaps.{map_of_table, roots_are_no_tables, starts_are_no_tables}

-- a cell is a table or not
table_or_not : (k : Kind) → (k ≡ kind.Table) ⊎ (k ≢ kind.Table)
table_or_not kind.Table = inl refl
table_or_not _ = inr (λ same. cc)

-- the key of the pair refers to an address
abbrev HasReferenceKey : Pair → Type 0
HasReferenceKey pair = (key : ℕ) × (pair.key ≡ reference_word key)

-- a pair of a weak map's table whose value refers to something has a key that does
key_of_pair : {heap : Heap} {pairs : List Pair} {place : ℕ} {pair : Pair} (at : ℕ)
    → (pair ≡ free_pair) ⊎ IsFoundPair heap pairs place pair → pair.value ≡ reference_word at → HasReferenceKey pair
key_of_pair at (inl free) value_is =
    absurd (hole_refers_not at (sym (ap (λ (one : Pair). one.value) free) ∙ value_is))
key_of_pair at (inr found) value_is = (found.filled.key.at, found.filled.key.refers)

module _ {heap : Heap} {starts : ℕ → Type 0} (whole : Whole heap) (no_tables : AreNoTables heap starts)
    (keys : HasLiveKeysFrom heap starts) where
  -- what a word of a pair of a live table refers to is live
  pair_live : {cell : Cell} {words : List ℕ} (offset at : ℕ) → IsLive heap starts cell.at
      → HasCell heap cell words → cell.layout.kind ≡ kind.Table
      → Contains (scavenge_offsets cell.layout cell.length) offset → HasWord words offset (reference_word at)
      → IsLive heap starts at
  pair_live {cell} {words} offset at live has of_table visited slot =
      let bounds = range_bounds store_head (2 * cell.length) offset
      (slots_of_kind cell kind.Table offset of_table visited) in
      let behind : List ℕ = drop store_head words in
      let k : ℕ = offset - store_head in
      let place : ℕ = k / 2 in
      let long : length words ≡ store_head + 2 * cell.length = words_by_kind kind.Table has of_table in
      let here : HasWord behind k (reference_word at) =
      slice_get-drop store_head words k offset (omega (arith, bounds.0)) ∙ slot in
      let within : place < length (pairs_in behind) =
      omega (arith, length-pairs_in behind, length-drop store_head words, long, bounds.0, bounds.1) in
      let pair : Pair = get_or (pairs_in behind) place free_pair in
      let there : slice_get (pairs_in behind) place ≡ Some pair =
      slice_get-get_or (pairs_in behind) place free_pair within in
      let both = pair_words behind place (2 * place) pair refl there in
      elim (cases_eq k (2 * place)) [
        | inl even ↦
            let in_pair : HasWord behind (2 * place) (reference_word at) =
            subst (λ n. HasWord behind n (reference_word at)) even here in
            keys cell.at at live (record {
              cell = cell;
              words = words;
              has = has;
              stands = refl;
              of_kind = of_table;
              place = place;
              pair = pair;
              among = there;
              key_is = same_Some _ _ (sym both.0 ∙ in_pair);
            })
        | inr other ↦
            let odd : k ≡ suc (2 * place) = omega (arith, other) in
            let in_pair : HasWord behind (suc (2 * place)) (reference_word at) =
            subst (λ n. HasWord behind n (reference_word at)) odd here in
            let value_is : pair.value ≡ reference_word at = same_Some _ _ (sym both.1 ∙ in_pair) in
            let of_map = map_of_table whole no_tables live has of_table in
            let key = key_of_pair at (of_map.sound.each place pair
            (subst (λ (all : List Pair). slice_get all place ≡ Some pair) (sym of_map.pairs_are) there)) value_is in
            let key_live = keys cell.at key.0 live (record {
              cell = cell;
              words = words;
              has = has;
              stands = refl;
              of_kind = of_table;
              place = place;
              pair = pair;
              among = there;
              key_is = key.1;
            }) in
            IsLive.entry cell.at key.0 at live key_live (record {
              cell = cell;
              words = words;
              has = has;
              stands = refl;
              of_kind = of_table;
              place = place;
              pair = pair;
              among = there;
              key_is = key.1;
              value_is = value_is;
            })
      ]

  -- so live is closed
  closed_from : (cell : Cell) (words : List ℕ) (offset at : ℕ) → IsLive heap starts cell.at → HasCell heap cell words
      → Contains (scavenge_offsets cell.layout cell.length) offset → HasWord words offset (reference_word at)
      → IsLive heap starts at
  closed_from cell words offset at live has visited slot =
      elim (table_or_not cell.layout.kind) [
        | inl of_table ↦ pair_live offset at live has of_table visited slot
        | inr other ↦ IsLive.slot cell.at at live (record {
          cell = cell;
          words = words;
          has = has;
          stands = refl;
          offset = offset;
          visited = subst (λ offsets. Contains offsets offset) (same_offsets cell.layout cell.length other) visited;
          holds = slot;
        })
      ]

-- from given starts, and from roots alone
pub live_is_closed_from_starts : LiveIsClosedFromStarts
live_is_closed_from_starts heap given cell words offset at whole no_tables keys live has visited slot =
    closed_from whole (starts_are_no_tables given whole no_tables) keys cell words offset at live has visited slot

pub live_is_closed : LiveIsClosed
live_is_closed heap graph cell words offset at shows keys live has visited slot =
    closed_from shows.whole (roots_are_no_tables shows.whole) keys cell words offset at live has visited slot
