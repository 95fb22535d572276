-- One cell more joins at each place.
use Rattle.std.proofs.Common.{refl, ◌∙◌, arith}
use Rattle.cell_list.proofs.Joins.{all_joined, below, joins_more, none_joined}
use Rattle.cell_list.proofs.CellList.join.Goals as goal

pub loop-place-init : goal.loop-place-init
loop-place-init c = record { joined = none_joined c.args.self.now.addresses c.args.others.now.addresses; bound = refl }

pub add-requires : goal.add-requires
add-requires c =
    let low = below c.args.others.now c.get.result c.loop-place.place c.len-place-end.ensures.own c.get.ensures in
    omega (arith, low, c.requires, c.loop-place.invariant.bound)

pub loop-place-preserved : goal.loop-place-preserved
loop-place-preserved c = record {
  joined = joins_more c.args.self.now.addresses c.loop-place.self.addresses c.add.new.self.addresses
      c.args.others.now.addresses c.loop-place.place c.get.result c.get.ensures c.loop-place.invariant.joined
      c.add.ensures.members;
  bound = c.add.ensures.bound ∙ c.loop-place.invariant.bound;
}

pub returns-clause-joined : goal.returns-clause-joined
returns-clause-joined c =
    all_joined c.args.self.now.addresses c.loop-place.self.addresses c.args.others.now.addresses c.loop-place.place
    (omega (arith, c.loop-place-test.false, c.loop-place.auto.place-end, c.len-place-end.ensures.count))
    c.loop-place.invariant.joined
