use Rattle.std.proofs.Common.{rules, ◌≡◌, ap, ◌∙◌, map, true, false}
use Rattle.script_text.specs.Pieces.{ends_empty}
use Rattle.script_text.proofs.Cut.{lines_of-shorter, lines_of-all}
use Rattle.script_text.proofs.lines.lines.Goals as goal
use Rattle.script_text.proofs.lines.lines.Goals.{then-ends_empty, else-ends_empty}

pub returns : goal.returns
returns c =
    let pieces = c.in_ok-lines.lines in
    elim c.if-ends_empty.branch [
      | then-ends_empty w ↦
          let ends : ends_empty (map (λ piece. piece.now) pieces.items) ≡ true = search rules in
          ap (λ lines. map (λ line. line.now) lines.items) w.lines-is ∙ ap (map (λ line. line.now)) w.pop.ensures.rest
          ∙ lines_of-shorter c.args.source.now _ pieces.items (search rules) c.in_ok-lines.ensures ends
      | else-ends_empty w ↦
          let ends : ends_empty (map (λ piece. piece.now) pieces.items) ≡ false = search rules in
          ap (λ lines. map (λ line. line.now) lines.items) w.lines-is
          ∙ lines_of-all c.args.source.now (map (λ piece. piece.now) pieces.items) c.in_ok-lines.ensures ends
    ]
