-- What has no flag is not listed.
use Rattle.std.proofs.Common.{◌≡◌, sym, subst, ℕ, true, nat_lt, Contains, arith}
use Rattle.std.proofs.lemmas.Bool.Decides.{nat_tests}
use Rattle.cell_list.specs.Listing.{Listing}
use Rattle.cell_list.proofs.Flags.{listed_has_flag}
use Rattle.cell_list.proofs.CellList.contains.Goals as goal

pub returns-else-at-len : goal.returns-else-at-len
returns-else-at-len c =
    let at : ℕ = c.args.at in (
      λ is.
          let less : nat_lt at c.len.result ≡ true = is in
          absurd (grind (arith, nat_tests, less, c.if-at-len.false)),
      λ there.
          let own = subst (λ (list : Listing). Contains list.addresses at) (sym c.self.view_is) there in
          let within = listed_has_flag c.self.inside.listed.items c.self.inside.addresses.items at
          c.self.invariant.told own in
          absurd (omega (arith, within, c.if-at-len.false, c.len.ensures)),
    )
