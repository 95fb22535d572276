use Rattle.std.proofs.Common.{◌≡◌, ◌+◌, ℕ, List, Some, slice_get, arith, ap, ◌∙◌, sym, refl}
use Rattle.tagged_word.specs.Cells.{has_length, length_by}
use Rattle.cell_layout.proofs.CellsThere.{HasParts, no_room, no_size, makes_cell}
use Rattle.cell_layout.proofs.cells.cell_of_word.Goals as goal

pub returns-then-size-room-clause-cell : goal.returns-then-size-room-clause-cell
returns-then-size-room-clause-cell g c =
    let words : List ℕ = g.W.Reads.words c.args.words.now in
    let layout = c.in_ok-layout.layout in
    let kept : g.W.Reads.words c.layout_of.new.words ≡ words = c.in_ok-layout.ensures.kept in
    let parts : HasParts c.args.regions.now words c.args.a c.in_ok-header.header layout
    c.in_ok-length.length c.in_ok-size.size =
    record {
      is_header = c.in_ok-header.ensures.one.0;
      first = c.requires.read ∙ ap (λ bits. Some bits) c.in_ok-header.ensures.one.1;
      layout_of = c.in_ok-layout.ensures.layout;
      second =
          ap (λ all. length_by (has_length layout.kind) (slice_get all (c.args.a + 1))) (sym kept)
          ∙ sym c.in_ok-length.ensures.length;
      sized = sym c.in_ok-size.ensures;
    } in
    no_room c.args.regions.now words c.args.a c.in_ok-room.room c.in_ok-header.header layout c.in_ok-length.length
    c.in_ok-size.size parts c.in_ok-room.ensures (omega arith)

pub returns-in_err-size-clause-cell : goal.returns-in_err-size-clause-cell
returns-in_err-size-clause-cell g c =
    let words : List ℕ = g.W.Reads.words c.args.words.now in
    let layout = c.in_ok-layout.layout in
    let kept : g.W.Reads.words c.layout_of.new.words ≡ words = c.in_ok-layout.ensures.kept in
    let second =
    ap (λ all. length_by (has_length layout.kind) (slice_get all (c.args.a + 1))) (sym kept)
    ∙ sym c.in_ok-length.ensures.length in
    let none = no_size c.args.regions.now words c.args.a c.in_ok-header.header layout c.in_ok-length.length
    c.in_ok-header.ensures.one.0 (c.requires.read ∙ ap (λ bits. Some bits) c.in_ok-header.ensures.one.1)
    c.in_ok-layout.ensures.layout second (sym c.in_err-size.ensures) in
    rw c.from_residual-in_err-size.ensures none

pub returns-clause-cell : goal.returns-clause-cell
returns-clause-cell g c =
    let words : List ℕ = g.W.Reads.words c.args.words.now in
    let layout = c.in_ok-layout.layout in
    let kept : g.W.Reads.words c.layout_of.new.words ≡ words = c.in_ok-layout.ensures.kept in
    let parts : HasParts c.args.regions.now words c.args.a c.in_ok-header.header layout
    c.in_ok-length.length c.in_ok-size.size =
    record {
      is_header = c.in_ok-header.ensures.one.0;
      first = c.requires.read ∙ ap (λ bits. Some bits) c.in_ok-header.ensures.one.1;
      layout_of = c.in_ok-layout.ensures.layout;
      second =
          ap (λ all. length_by (has_length layout.kind) (slice_get all (c.args.a + 1))) (sym kept)
          ∙ sym c.in_ok-length.ensures.length;
      sized = sym c.in_ok-size.ensures;
    } in (
      refl,
      makes_cell c.args.regions.now words c.args.a c.in_ok-room.room c.in_ok-header.header layout c.in_ok-length.length
          c.in_ok-size.size parts c.in_ok-room.ensures (omega arith),
    )
