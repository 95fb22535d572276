use Rattle.std.proofs.Common.{◌≡◌, ◌∙◌, [], ◌∷◌, ◌++◌, max, length, length-append, ap, sym, arith, rules}
use Rattle.free_runs.specs.FreeRuns.{longest_in}
use Rattle.free_runs.proofs.Bounds.{longest_pushed}
use Rattle.free_runs.proofs.row.Row.add.Goals as goal

pub invariant_of-self : goal.invariant_of-self
invariant_of-self c =
    let old = c.self.inside.runs.items in
    let items : c.push_reserved.new.self.items ≡ old ++ c.args.run ∷ [] = search rules in
    record {
      room = omega (arith, c.push_reserved.ensures.capacity, c.self.invariant.room);
      few = omega (
        arith,
        ap length items,
        length-append old (c.args.run ∷ []),
        c.requires,
        ap length c.self.view_is,
      );
      longest = c.max-self-inside.ensures ∙ ap (λ n. max n c.args.run.words) c.self.invariant.longest
          ∙ sym (longest_pushed old c.args.run) ∙ sym (ap longest_in items);
    }
