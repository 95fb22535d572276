use Rattle.std.proofs.Common.{ℕ, List, Bor, sym, length, map, take, Ok, ap, ◌∙◌, arith}
use Rattle.std.proofs.lemmas.List.{length-set}
use Rattle.std.proofs.lemmas.Result.{err_from_is_err_and}
use Rattle.script_text.specs.Statements.{written_all}
use Rattle.script_text.specs.Shown.{shown}
use Rattle.script_text.proofs.Operands.{Reads-more, Reads-refused, Reads-all}
use Rattle.script_text.proofs.statement.written_all.Goals as goal

pub returns-in_err-operands-clause-refused : goal.returns-in_err-operands-clause-refused
returns-in_err-operands-clause-refused c =
    let stop = err_from_is_err_and c.from_residual.result c.from_residual.ensures.1 in
    let places = c.places-place-items.result.now in
    let refused =
    Reads-refused c.loop-i.operands places c.args.tokens.now c.loop-i.i _ _ _ (omega arith)
    (omega arith) c.in_err-operands.ensures.refused c.loop-i.invariant.reads in
    rw (stop.1, stop.2)
    (ap (λ ps. written_all ps (map (λ token. token.now) c.args.tokens.now))
    (sym c.places-place-items.ensures.all) ∙ refused)

pub loop-i-preserved : goal.loop-i-preserved
loop-i-preserved c = record {
  room = omega (arith, length-set c.loop-i.operands c.loop-i.i c.in_ok-operands.field-0, c.loop-i.invariant.room);
  reads =
      Reads-more c.loop-i.operands c.places-place-items.result.now c.args.tokens.now c.loop-i.i _ _
      c.in_ok-operands.field-0
      (omega arith) (omega arith) (omega arith)
      c.in_ok-operands.ensures.written c.loop-i.invariant.reads;
}

pub returns-clause-statement : goal.returns-clause-statement
returns-clause-statement c =
    let places = c.places-place-items.result.now in
    let tokens = map (λ (token : Bor (List ℕ)). token.now) c.args.tokens.now in
    ap (λ ps. written_all ps tokens) (sym c.places-place-items.ensures.all)
    ∙ Reads-all c.loop-i.operands places c.args.tokens.now c.loop-i.i (omega arith) c.loop-i.invariant.reads
    ∙ ap (λ ps. Ok (map shown (take (length ps) c.loop-i.operands))) c.places-place-items.ensures.all
