-- What may be put in a plain object's cell where a cycle of marking is open and its path gets a field more: a raw word
-- in the slot behind its fields, and the header.
use Rattle.std.proofs.Common.{◌≡◌, ℕ, ◌+◌, ◌<◌, ◌⊎◌, inl, inr, List, [], ◌∷◌, ◌++◌, length, Contains, Some, slice_get}
use Rattle.std.proofs.Common.{slice_index, refl, sym, ◌∙◌, ap, subst, arith}
use Rattle.std.specs.Prelude.{Option}
use Rattle.std.proofs.lemmas.Option.{same_Some, slice_get_within}
use Rattle.tagged_word.specs.declared.layout.Kind.TheVariants as kind
use Rattle.tagged_word.specs.Cells.{has_length, plain_head, tagged_offsets}
use Rattle.tagged_word.specs.Headers.{IsHeader, header_bits}
use Rattle.page_space.specs.Extents.{eden_start}
use Rattle.cell_layout.specs.Cells.{layouts_in}
use Rattle.mark_world.specs.declared.event.Event.TheVariants as event
use Rattle.mark_world.specs.Conditions.{AreSure}
use Rattle.mark_world.specs.Safety.{IsSafe, laid_in, slots_by}
use Rattle.mark_laws.specs.Types.{Laid}
use Rattle.mark_laws.proofs.Joins.{all_from}
use Rattle.mark_laws.proofs.Laid.{cell_laid, laid_of}
use Rattle.cycle_state.specs.Cycles.{main_of, words_of_pages}
use Rattle.shape_tree.specs.Shapes.{IsPathShape, shape_path}
use Rattle.shape_tree.specs.ShapeLayouts.{layout_of, raw_bit}
use Rattle.heap_model.specs.Types.{Header, LayoutWord, Path, PathField}
use Rattle.heap_model.specs.Wholeness.{HasSizes}
use Rattle.heap_table.specs.Phases.{Mark}
use Rattle.write_barrier.specs.Marking.{MayPut, MayPutHeader}
use Rattle.write_barrier.specs.MutatorState.{Mutator, heap_of, world_of}
use Rattle.write_barrier.specs.Seats.{heap_words}
use Rattle.write_barrier.specs.Storing.{IsSureAt, MayChange}
use Rattle.write_barrier.proofs.MayPuts.{may_put_header, may_put_word}
use Rattle.write_barrier.proofs.SureStores.{page_word}
use Rattle.object_cells.proofs.ChangedPlaces.{offset_is_quiet}
use Rattle.shape_change.proofs.ShapeChanges.{IsTagged, changes_safely, laid_path, newly_tagged, tagged_is}

module _ {main : Mutator} {object size : ℕ} (header : Header) (sized : HasSizes (heap_of main)) (is : IsHeader header)
    (stands : slice_get (heap_words main.seat) object ≡ Some (header_bits header))
    (shape : IsPathShape main.paths header.shape) (may : MayChange main object size kind.Plain) where
  -- the path of the header's shape
  abbrev before : Path
  before = shape_path main.paths header.shape

  abbrev layouts : List ℕ
  layouts = layouts_in main.seat.space (heap_words main.seat)

  -- the header stands for it
  was_laid : object < eden_start main.seat.space → laid_in layouts (slice_index (words_of_pages (heap_of main)) object)
      ≡ Some (record { header = header; layout = layout_of before })
  was_laid below = ap (laid_in layouts) (page_word main object (header_bits header) below stands)
      ∙ laid_path {heap = heap_of main} header sized is shape

  -- the slot behind the fields is none of marking's
  not_yet_tagged : (long : ℕ) → Contains (tagged_offsets (layout_of before) long) (plain_head + length before.fields)
      → ⊥
  not_yet_tagged long among = elim (tagged_is before (plain_head + length before.fields) among) [
    | IsTagged.head at ↦ elim at [ inl same ↦ omega (arith, same) | inr same ↦ omega (arith, same) ]
    | IsTagged.own number field same below there tagged ↦
        let within = slice_get_within before.fields number field there in omega (arith, within, same)
  ]

  -- so a raw word may be put there
  pub raw_behind : (word : ℕ) → plain_head + length before.fields < size
      → MayPut main (object + (plain_head + length before.fields))
      (event.StoreOwned (object + (plain_head + length before.fields)) word)
  raw_behind word within =
      let offset : ℕ = plain_head + length before.fields in
      may_put_word offset word may within (λ page mark free read reads.
      let same = same_Some (laid_of read) (record { header = header; layout = layout_of before })
      (sym (cell_laid (world_of main) object read reads) ∙ was_laid page) in
      let layout : read.layout ≡ layout_of before = ap (λ (l : Laid). l.layout) same in
      offset_is_quiet read offset (ap (λ (l : LayoutWord). has_length l.kind) layout) (omega arith)
      (λ among. not_yet_tagged read.length
      (subst (λ (l : LayoutWord). Contains (tagged_offsets l read.length) offset) layout among)))

  module _ (next : ℕ) (field : PathField) (is_next : IsHeader (record header { shape = next }))
      (next_shape : IsPathShape main.paths next) (cap : before.cap ≡ (shape_path main.paths next).cap)
      (fields : (shape_path main.paths next).fields ≡ before.fields ++ field ∷ []) where
    -- the header stands for the path with the field then
    next_laid : laid_in layouts (header_bits (record header { shape = next }))
        ≡ Some (record { header = record header { shape = next }; layout = layout_of (shape_path main.paths next) })
    next_laid = laid_path {heap = heap_of main} (record header { shape = next }) sized is_next next_shape

    -- and the header may be put, if the mutator is sure of what the slot of a field refers to that is not wide
    pub path_may_head : 0 < size
        → (object < eden_start main.seat.space → main.seat.phase ≡ Mark → length before.fields < before.cap
        → raw_bit field.rep ≡ 0 → IsSureAt main (object + (plain_head + length before.fields)))
        → MayPutHeader main object (header_bits (record header { shape = next }))
    path_may_head some sure =
        let after : Path = shape_path main.paths next in
        let word : ℕ = header_bits (record header { shape = next }) in
        let found : ℕ = slice_index (words_of_pages (heap_of main)) object in
        may_put_header word may some (λ page mark.
        subst (λ (w : ℕ). IsSafe layouts w word) (sym (page_word main object (header_bits header) page stands))
        (changes_safely before after field cap fields {heap = heap_of main} header next sized is is_next shape
        next_shape refl
        refl)) (λ page mark free.
        let each = all_from (λ (offset : ℕ). Contains (tagged_offsets (layout_of before) 0) offset
        ⊎ IsSureAt main (object + offset)) (tagged_offsets (layout_of after) 0)
        (λ offset among. elim (newly_tagged before after field cap fields offset among) [
          | inl was ↦ inl was
          | inr new ↦ inr (subst (λ (o : ℕ). IsSureAt main (object + o)) (sym new.0) (sure page mark new.1 new.2))
        ]) in
        subst (λ (o : Option Laid). AreSure (eden_start main.seat.space) (words_of_pages (heap_of main))
        (main_of main.cycle)
        object (slots_by o 0) (slots_by (laid_in layouts word) 0)) (sym (was_laid page))
        (subst (λ (o : Option Laid). AreSure (eden_start main.seat.space) (words_of_pages (heap_of main))
        (main_of main.cycle) object (slots_by (Some (record { header = header; layout = layout_of before })) 0)
        (slots_by o 0))
        (sym next_laid) each))
