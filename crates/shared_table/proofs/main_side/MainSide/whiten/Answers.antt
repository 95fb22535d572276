-- One cell more is white after each turn.
use Rattle.std.proofs.Common.{◌≡◌, ◌∙◌, ◌<◌, ℕ, List, length, refl, ap, arith}
use Rattle.mark_laws.specs.Types.{Spot}
use Rattle.shared_table.specs.Seats.{Side}
use Rattle.shared_table.specs.Spots.{with_spot}
use Rattle.shared_table.proofs.Whitened.{whitened_to, white_more, white_all}
use Rattle.shared_table.proofs.main_side.MainSide.whiten.Goals as goal

pub loop-a-init : goal.loop-a-init
loop-a-init c = refl

pub put_white-requires-clause-quiet : goal.put_white-requires-clause-quiet
put_white-requires-clause-quiet c =
    ap (λ (v : Side). v.main.phase) c.loop-a.invariant ∙ c.requires.quiet

pub put_white-requires-clause-within : goal.put_white-requires-clause-within
put_white-requires-clause-within c =
    omega (arith, ap (λ (v : Side). v.main.old) c.loop-a.invariant, c.counts-counts.ensures.old)

pub loop-a-preserved : goal.loop-a-preserved
loop-a-preserved c =
    let entry : Side = c.args.self.now in
    let a : ℕ = c.loop-a.a in
    let inside : a < length entry.main.colours =
    omega (arith, c.counts-counts.ensures.old, c.counts-counts.ensures.colours) in
    c.put_white.ensures ∙ ap (λ (v : Side). record v { main = with_spot v.main (Spot.Colour a) 0 }) c.loop-a.invariant
    ∙ ap (λ (cs : List ℕ). record entry { main = record entry.main { colours = cs } })
    (white_more a entry.main.colours inside)

pub returns : goal.returns
returns c =
    let entry : Side = c.args.self.now in
    let end : c.loop-a.a ≡ entry.main.old = omega (arith, c.counts-counts.ensures.old) in
    record {
      whitened = c.loop-a.invariant
          ∙ ap (λ (i : ℕ). whitened_to i entry) end
          ∙ ap (λ (cs : List ℕ). record entry { main = record entry.main { colours = cs } })
          (white_all entry.main.old entry.main.colours c.counts-counts.ensures.colours);
    }
