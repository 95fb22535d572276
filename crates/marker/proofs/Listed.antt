-- A cell is taken off a list.
use Rattle.std.proofs.Common.{◌≡◌, ◌≢◌, ◌↔◌, ℕ, Contains, subst, arith}
use Rattle.cell_list.specs.Listing.{Listing}
use Rattle.core_parts.specs.Lists.{left}
use Rattle.core_parts.proofs.Leaving.{left_from, left_keeps, left_out}
use Rattle.shared_table.specs.declared.overview.Lent.{Lent}
use Rattle.marker.specs.Shading.{HasListed, HasListedOthers}

-- a list that a cell was taken off has the cells that wait but this one
pub others_listed : (before after : Listing) (lent : Lent) (cell : ℕ) → HasListed before lent
    → after.bound ≡ before.bound
    → ((one : ℕ) → Contains after.addresses one ↔ (Contains before.addresses one × (one ≢ cell)))
    → HasListedOthers after lent cell
others_listed before after lent cell listed bound members = record {
  room = omega (arith, listed.room, bound);
  members = λ one. (
    (λ on. let m = (members one).0 on in left_keeps lent.view.grey cell one m.1 ((listed.members one).0 m.0)),
    (λ waits. (members one).1 (
      (listed.members one).1 (left_from lent.view.grey cell one waits),
      λ same. left_out lent.view.grey cell (subst (Contains (left lent.view.grey cell)) same waits),
    )),
  );
}
