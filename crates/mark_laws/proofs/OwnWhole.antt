-- The snap of a grey cell, once nothing is left to read, has read the cell whole.
use Rattle.std.proofs.Common.{ℕ, ◌≡◌, ◌∙◌, ◌↔◌, inl, inr, true, false, List, Contains, sym}
use Rattle.std.proofs.Common.{subst}
use Rattle.std.proofs.lemmas.List.Elements.{All-contains}
use Rattle.mark_laws.specs.Types.{Snap, HelperView, World}
use Rattle.mark_world.specs.Naming.{IsReadOut, Named, named, read_offsets}
use Rattle.mark_world.specs.Steps.{grey}
use Rattle.mark_world.specs.Coverage.{colour_of}
use Rattle.mark_world.specs.Soundness.{Sound, header_slots}
use Rattle.mark_laws.specs.OwnViews.{HasReadNamed, HasReadWhole, HasSnap, IsNamed, IsOwnView}
use Rattle.mark_laws.proofs.Named.{header_named}
use Rattle.mark_laws.proofs.Names.{was_read}
use Rattle.mark_laws.proofs.OwnTelling.{grey_true, snap_reached}
use Rattle.mark_laws.proofs.Slots.{free_cell, grey_free, some_at}

-- the slots that were read are those that are named, if nothing is left
read_named : (snap : Snap) (offsets : List ℕ) → named snap ≡ Named.slots offsets → HasReadNamed snap
    → IsReadOut (named snap) (read_offsets snap) → (offset : ℕ)
    → Contains (read_offsets snap) offset ↔ Contains offsets offset
read_named snap offsets names has out offset = (
  λ c. subst (λ (name : Named). IsNamed name offset) names
      (All-contains (IsNamed (named snap)) (read_offsets snap) offset has.names c),
  λ c. All-contains (λ (o : ℕ). Contains (read_offsets snap) o) offsets offset
      (subst (λ (name : Named). IsReadOut name (read_offsets snap)) names out) c,
)

-- a snap that names slots, with nothing left to read, has read the cell whole
named_whole : (snap : Snap) (offsets : List ℕ) → named snap ≡ Named.slots offsets → HasReadNamed snap
    → IsReadOut (named snap) (read_offsets snap) → HasReadWhole snap
named_whole snap offsets names has out =
    let read = was_read snap offsets names in
    elim read.are [
      | inl long ↦ record {
        header = read.header;
        is_header = read.is_header;
        word = read.word;
        read = read.read;
        layout = read.layout;
        is_layout = read.is_layout;
        long = long.1.0;
        is_long = λ asks. long.1.1;
        slots = subst (λ (xs : List ℕ). (offset : ℕ) → Contains (read_offsets snap) offset ↔ Contains xs offset)
            long.1.2 (read_named snap offsets names has out);
        once = has.once;
      }
      | inr short ↦ record {
        header = read.header;
        is_header = read.is_header;
        word = read.word;
        read = read.read;
        layout = read.layout;
        is_layout = read.is_layout;
        long = 0;
        is_long = λ asks. absurd (let both : true ≡ false = sym asks ∙ short.0 in cc);
        slots = subst (λ (xs : List ℕ). (offset : ℕ) → Contains (read_offsets snap) offset ↔ Contains xs offset)
            short.1 (read_named snap offsets names has out);
        once = has.once;
      }
    ]

-- so does that of a grey cell
pub grey_whole : (world : World) (view : HelperView) (snap : Snap) → Sound world → HasSnap world view snap
    → colour_of world snap.cell ≡ grey → IsOwnView view → IsReadOut (named snap) (read_offsets snap)
    → HasReadWhole snap
grey_whole world view snap sound has is_grey own out =
    let reached = snap_reached world view snap sound has in
    let read = free_cell world sound.cells snap.cell (grey_free world sound.cells snap.cell reached.start is_grey) in
    named_whole snap (header_slots world snap read.0.length)
    (header_named world snap read.0 read.1 (grey_true world view snap sound has is_grey) out)
    (some_at HasReadNamed view.snap snap has.has own.snap) out
