use Rattle.std.proofs.Common.{◌+◌, ◌-◌, sym, subst, arith}
use Rattle.tagged_word.specs.Cells.{plain_head}
use Rattle.cell_layout.proofs.PlainSlots.{IsRawRun, raw_run, none_are_raw}
use Rattle.cell_layout.proofs.PlainSlots.{first_is_store, first_is_proto, first_of_plain, none_of_plain}
use Rattle.cell_layout.proofs.slots.next_of_plain.Goals as goal

pub returns-then-from-le-STORE_SLOT : goal.returns-then-from-le-STORE_SLOT
returns-then-from-le-STORE_SLOT c = first_is_store c.args.layout c.args.from c.if-from-le-STORE_SLOT.true

pub returns-then-from-le-PROTO_SLOT : goal.returns-then-from-le-PROTO_SLOT
returns-then-from-le-PROTO_SLOT c =
    first_is_proto c.args.layout c.args.from (omega arith) c.if-from-le-PROTO_SLOT.true

pub returns-then-slot-layout : goal.returns-then-slot-layout
returns-then-slot-layout c =
    let slot = c.args.from - plain_head in
    none_of_plain c.args.layout c.args.from slot (omega arith) (none_are_raw c.args.layout slot slot (omega arith))
    c.if-slot-layout.true

pub returns-then-next-layout : goal.returns-then-next-layout
returns-then-next-layout c =
    let slot = c.args.from - plain_head in
    let many = c.trailing_ones.result in
    let run : IsRawRun c.args.layout slot many =
    subst (IsRawRun c.args.layout slot) (sym c.trailing_ones.ensures) (raw_run c.args.layout slot c.requires.has) in
    first_of_plain c.args.layout c.args.from many (slot + many) (omega arith) run (omega arith) c.if-next-layout.true

pub returns-else-next-layout : goal.returns-else-next-layout
returns-else-next-layout c =
    let slot = c.args.from - plain_head in
    let many = c.trailing_ones.result in
    let run : IsRawRun c.args.layout slot many =
    subst (IsRawRun c.args.layout slot) (sym c.trailing_ones.ensures) (raw_run c.args.layout slot c.requires.has) in
    none_of_plain c.args.layout c.args.from (slot + many) (omega arith) run.all c.if-next-layout.false
