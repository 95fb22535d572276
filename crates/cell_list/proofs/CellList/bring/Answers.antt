-- The address at the place and the last one were exchanged.
use Rattle.std.proofs.Common.{rules, ℕ, ◌<◌, ◌∙◌, ◌-◌, List, length, ap, arith}
use Rattle.std.proofs.lemmas.List.Edits.{length-swap}
use Rattle.cell_list.specs.Listing.{Listing}
use Rattle.cell_list.proofs.Exchanges.{AreExchanged, same_listed, listing_exchanged}
use Rattle.cell_list.proofs.CellList.bring.Goals as goal

pub invariant_of-self : goal.invariant_of-self
invariant_of-self c =
    let before : List ℕ = c.self.inside.addresses.items in
    let after : List ℕ = c.swap.new.self.items in
    let one : ℕ = c.args.place in
    let other : ℕ = c.len-last.result - 1 in
    let at = c.swap.ensures.by_index in
    let there : one < length before =
    omega (arith, c.requires, ap (λ (l : Listing). length l.addresses) c.self.view_is) in
    let are : AreExchanged before after one other = record {
      count = ap length c.swap.ensures.items ∙ length-swap before one other;
      one_there = there;
      other_there = omega (arith, there, c.len-last.ensures);
      first = at.0;
      second = at.1;
      beside = at.2;
    } in
    record {
      listing = listing_exchanged before after one other c.self.inside.bound are c.self.invariant.listing;
      room = search rules;
      room_for_flags = c.self.invariant.room_for_flags;
      told = λ x.
          let same = same_listed before after one other x are in
          let was = c.self.invariant.told x in (λ flag. same.1 (was.0 flag), λ listed. was.1 (same.0 listed));
    }

pub returns-clause-own : goal.returns-clause-own
returns-clause-own c = (invariant_of-self c).listing
