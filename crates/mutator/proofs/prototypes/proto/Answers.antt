-- The prototype is set, or it would close a ring.
use Rattle.std.proofs.Common.{sym, ◌∙◌}
use Rattle.heap_command.specs.declared.command.Operand.TheVariants.{Var}
use Rattle.mutator.proofs.ProtosSet.{linking_read, linking_shown, linking_may_set, proto_carried, proto_stopped}
use Rattle.mutator.proofs.StillShown.{first_still, second_still}
use Rattle.mutator.proofs.prototypes.proto.Goals as goal

pub plain-requires : goal.plain-requires
plain-requires c =
    first_still (Var c.args.x) c.args.v c.operands.ensures.same c.requires.shown c.in_ok-target.ensures.found

pub prototype_in-requires : goal.prototype_in-requires
prototype_in-requires c =
    second_still (Var c.args.x) c.args.v c.operands.ensures.same c.requires.shown c.in_ok-target.ensures.found

pub closes_ring-requires : goal.closes_ring-requires
closes_ring-requires c =
    let (graph, shows) = c.requires.shown in
    linking_shown (linking_read c.args.x c.args.v c.operands.ensures.same shows
    (c.in_ok-target.ensures.found graph shows) (c.in_ok-found.ensures graph) (c.in_ok-next.ensures graph))

pub set_proto-requires : goal.set_proto-requires
set_proto-requires c =
    let (graph, shows) = c.requires.shown in
    let linking = linking_read c.args.x c.args.v c.operands.ensures.same shows
    (c.in_ok-target.ensures.found graph shows) (c.in_ok-found.ensures graph) (c.in_ok-next.ensures graph) in
    record {
      may_set = linking_may_set linking
          (sym (c.closes_ring.ensures graph linking.plain linking.proto linking.shows linking.stands linking.given)
          ∙ c.if-closes_ring.false);
    }

pub returns-then-closes_ring : goal.returns-then-closes_ring
returns-then-closes_ring c = record {
  carried = λ graph names shows.
      let same = c.operands.ensures.same in
      let linking = linking_read c.args.x c.args.v same shows (c.in_ok-target.ensures.found graph shows)
      (c.in_ok-found.ensures graph) (c.in_ok-next.ensures graph) in
      proto_stopped names same linking
      (sym (c.closes_ring.ensures graph linking.plain linking.proto linking.shows linking.stands linking.given)
      ∙ c.if-closes_ring.true);
}

pub returns : goal.returns
returns c = record {
  carried = λ graph names shows.
      let same = c.operands.ensures.same in
      let linking = linking_read c.args.x c.args.v same shows (c.in_ok-target.ensures.found graph shows)
      (c.in_ok-found.ensures graph) (c.in_ok-next.ensures graph) in
      let open_chain =
      sym (c.closes_ring.ensures graph linking.plain linking.proto linking.shows linking.stands linking.given)
      ∙ c.if-closes_ring.false in
      proto_carried names same linking open_chain
      (c.set_proto.ensures graph linking.plain linking.proto linking.shows linking.stands linking.given open_chain);
}
