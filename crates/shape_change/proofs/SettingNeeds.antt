-- How many words it takes to set a field that is there.
use Rattle.std.proofs.Common.{◌≡◌, ℕ, Bool, false, refl, sym, ◌∙◌, ap, not, ◌&&◌, IsTrue}
use Rattle.std.specs.Prelude.{ℤ}
use Rattle.std.proofs.lemmas.Bool.{false≢true}
use Rattle.tagged_word.specs.Words.{small}
use Rattle.heap_model.specs.Types.{Value, Rep}
use Rattle.object_graph.specs.declared.value.Value.TheVariants.{Int}
use Rattle.object_graph.specs.declared.value.Rep.TheVariants as rep
use Rattle.page_space.specs.RegionLaws.{IsSpace}
use Rattle.heap_model.specs.Heaps.{Heap}
use Rattle.heap_model.specs.Needs.{box_need, is_box_word}
use Rattle.heap_model.specs.Rooms.{is_boxed}
use Rattle.heap_model.specs.Showing.{ShowsField}
use Rattle.heap_model.specs.Wholeness.{HasSizes}
use Rattle.heap_model.proofs.ShownBoxes.{field_boxed}
use Rattle.object_cells.specs.declared.content.SlotContent.{SlotContent}
use Rattle.object_cells.specs.Contents.{box_in, filling_of, filling_need}
use Rattle.object_cells.proofs.SlotBoxes.{boxed_need}
use Rattle.object_cells.proofs.HeldContents.{HoldsValue}

-- a small integer stands in no box, unless its field is wide
small_unboxed : (own : Bool) (one : Rep) (v : ℤ) → IsTrue (small v) → (one ≡ rep.Wide → ⊥)
    → is_boxed own one (Int v) ≡ false
small_unboxed own rep.Small v is apart = refl
small_unboxed own rep.Wide v is apart = absurd (apart refl)
small_unboxed own rep.Tagged v is apart = ap not is

-- a field that is there takes the words of a box where it comes to stand in one, and its slot refers to none
pub need_there : {heap : Heap} {own : Bool} {was one : Rep} {before what : Value} {content : SlotContent} (word at : ℕ)
    → IsSpace heap.space → HasSizes heap → HoldsValue heap own was one what content
    → ShowsField heap own word was before
    → box_need (is_boxed own one what && not (is_boxed own was before))
    ≡ filling_need (filling_of (box_in heap word) at content)
need_there {own = own} {was} {before = before} word at space sized (HoldsValue.small_integer one v is apart) shows =
    ap (λ t. box_need (t && not (is_boxed own was before))) (small_unboxed own one v is apart)
need_there {own = own} {was} {before = before} word at space sized (HoldsValue.raw v is apart) shows =
    ap (λ o. box_need (not o && not (is_boxed own was before))) is
need_there {heap} {own} {was} {before = before} word at space sized (HoldsValue.wide_box v beside apart stays) shows =
    let told : is_box_word heap word ≡ is_boxed own was before =
    field_boxed own word was before space sized (λ is wide. false≢true (sym beside ∙ is)) shows in
    ap (λ o. box_need (not o && not (is_boxed own was before))) beside ∙ ap (λ b. box_need (not b)) (sym told)
    ∙ sym (boxed_need heap word at v)
need_there {heap} {own} {was} {before = before} word at space sized (HoldsValue.tagged_box v wide tagged) shows =
    let told : is_box_word heap word ≡ is_boxed own was before =
    field_boxed own word was before space sized
    (λ is is_wide. let same : rep.Tagged ≡ rep.Wide = sym tagged ∙ is_wide in cc) shows in
    ap (λ s. box_need (not s && not (is_boxed own was before))) wide ∙ ap (λ b. box_need (not b)) (sym told)
    ∙ sym (boxed_need heap word at v)
need_there word at space sized HoldsValue.undefined shows = refl
need_there word at space sized (HoldsValue.object place number there) shows = refl
