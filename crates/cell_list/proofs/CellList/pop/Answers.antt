use Rattle.std.proofs.Common.{◌≡◌, subst, rules, List, ℕ, ◌∷◌, ◌++◌, [], arith}
use Rattle.cell_list.specs.Listing.{Listing, IsListing, pushed}
use Rattle.cell_list.proofs.Flags.{Tell, last_in, listed_has_flag, tell_popped, is_popped}
use Rattle.cell_list.proofs.CellList.pop.Goals as goal

pub index_mut-requires : goal.index_mut-requires
index_mut-requires c =
    let rest : List ℕ = c.pop.new.self.items in
    let at : ℕ = c.in_ok-at.at in
    let items : c.self.inside.addresses.items ≡ rest ++ at ∷ [] = search rules in
    let within = listed_has_flag c.self.inside.listed.items (rest ++ at ∷ []) at
    (subst (Tell c.self.inside.listed.items) items c.self.invariant.told) (last_in rest at) in
    omega (arith, within)

pub invariant_of-self-2 : goal.invariant_of-self-2
invariant_of-self-2 c =
    let flags = c.self.inside.listed.items in
    let rest : List ℕ = c.pop.new.self.items in
    let at : ℕ = c.in_ok-at.at in
    let bound : ℕ = c.self.inside.bound in
    let items : c.self.inside.addresses.items ≡ rest ++ at ∷ [] = search rules in
    let left : Listing = record { bound = bound; addresses = rest } in
    let was : IsListing (pushed left at) =
    subst (λ (all : List ℕ). IsListing (record { bound = bound; addresses = all })) items c.self.invariant.listing in
    let told : Tell flags (rest ++ at ∷ []) = subst (Tell flags) items c.self.invariant.told in
    let below = listed_has_flag flags (rest ++ at ∷ []) at told (last_in rest at) in
    record {
      listing = (is_popped left at was).0;
      room = rw c.pop.ensures.capacity c.self.invariant.room;
      room_for_flags = c.self.invariant.room_for_flags;
      told = tell_popped flags rest at below was.once told;
    }
