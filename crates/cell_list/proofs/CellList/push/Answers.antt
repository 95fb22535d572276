use Rattle.std.proofs.Common.{◌≡◌, ◌∙◌, sym, ap, subst, List, ℕ, ◌∷◌, ◌++◌, ◌<◌, [], Contains, arith}
use Rattle.std.proofs.lemmas.Bool.{false≢true}
use Rattle.cell_list.specs.Listing.{Listing, IsListing}
use Rattle.cell_list.specs.Model.{listing_of}
use Rattle.cell_list.proofs.Flags.{Tell, tell_pushed, is_pushed, pushed_are_few}
use Rattle.cell_list.proofs.CellList.push.Goals as goal

pub push_reserved-requires : goal.push_reserved-requires
push_reserved-requires c =
    let at : ℕ = c.args.at in
    let old : Listing = listing_of c.self.inside in
    let below : at < old.bound = omega (arith, c.requires, ap (λ (one : Listing). one.bound) c.self.view_is) in
    let is = is_pushed old at c.self.invariant.listing below
    (λ there. false≢true (sym c.if-contains.false
    ∙ c.contains.ensures.1 (subst (λ (one : Listing). Contains one.addresses at) c.self.view_is there))) in
    omega (arith, pushed_are_few old at is, c.self.invariant.room)

pub invariant_of-self : goal.invariant_of-self
invariant_of-self c =
    let flags = c.set_flag.new.flags.items in
    let at : ℕ = c.args.at in
    let old : Listing = listing_of c.self.inside in
    let below : at < old.bound = omega (arith, c.requires, ap (λ (one : Listing). one.bound) c.self.view_is) in
    let is = is_pushed old at c.self.invariant.listing below
    (λ there. false≢true (sym c.if-contains.false
    ∙ c.contains.ensures.1 (subst (λ (one : Listing). Contains one.addresses at) c.self.view_is there))) in
    let items : c.push_reserved.new.self.items ≡ old.addresses ++ at ∷ [] = c.push_reserved.ensures.items in
    let told = tell_pushed c.self.inside.listed.items flags old.addresses at c.set_flag.ensures.own
    c.set_flag.ensures.others c.self.invariant.told in
    record {
      listing = subst (λ (all : List ℕ). IsListing (record { bound = old.bound; addresses = all })) (sym items) is;
      room = omega (arith, c.push_reserved.ensures.capacity, c.self.invariant.room);
      room_for_flags = c.set_flag.ensures.room;
      told = subst (Tell flags) (sym items) told;
    }
