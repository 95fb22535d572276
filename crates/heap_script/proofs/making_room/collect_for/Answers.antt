use Rattle.std.proofs.Common.{refl}
use Rattle.heap_script.specs.MakingRoom.{FindsFirst}
use Rattle.heap_script.proofs.making_room.collect_for.Goals as goal

pub collect_all-requires : goal.collect_all-requires
collect_all-requires c =
    let (graph, shown) = c.requires.shown in
    record { shown = (graph, c.make_room.ensures.shows graph shown) }

pub returns-clause-way : goal.returns-clause-way
returns-clause-way c =
    let made = c.make_room.ensures in
    let none = c.if-make_room.false in
    FindsFirst.collects c.make_room.new.self refl (made.scavenged none) made.rooms (made.out none) made.shows
    c.collect_all.ensures.collected
