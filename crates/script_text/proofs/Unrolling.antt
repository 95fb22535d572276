-- Lines whose blocks are matched are executed as if they stood alone.
use Rattle.std.proofs.Common.{◌≡◌, ℕ, List, [], ◌∷◌, ◌++◌, Some, None, sym, ap, ◌∙◌, append_assoc}
use Rattle.std.proofs.lemmas.List.{append-nil}
use Rattle.heap_command.specs.declared.command.Command.{Command}
use Rattle.heap_command.specs.Executed.{Executed}
use Rattle.script_text.specs.declared.script.Line.{Line}
use Rattle.script_text.specs.Unrolled.{executed, turns, Block, unrolled_from, executed_lines}
use Rattle.script_text.specs.Whole.{run_line, repeat_line, end_line, AreBlocks, none, run, block}

-- what whole lines are executed as
abbrev unrolled_whole : (lines : List Line) → AreBlocks lines → List Executed
unrolled_whole _ none = []
unrolled_whole _ (run number command lines h) = executed number (Some command) ∷ unrolled_whole lines h
unrolled_whole _ (block number times end_at last repeat_at body rest h k) =
    executed number None ∷ (turns times (unrolled_whole body h ++ (executed last None ∷ [])) ++ unrolled_whole rest k)

-- whole lines stand behind those before them, and leave the open blocks as they are
unrolled_from-whole :
    (lines : List Line) (h : AreBlocks lines) (blocks : List Block) (so_far : List Executed) (more : List Line)
    → unrolled_from blocks so_far (lines ++ more) ≡ unrolled_from blocks (so_far ++ unrolled_whole lines h) more
unrolled_from-whole _ none blocks so_far more = ap (λ s. unrolled_from blocks s more) (sym (append-nil so_far))
unrolled_from-whole _ (run number command lines h) blocks so_far more =
    let here = executed number (Some command) in
    unrolled_from-whole lines h blocks (so_far ++ here ∷ []) more
    ∙ ap (λ s. unrolled_from blocks s more) (append_assoc so_far (here ∷ []) (unrolled_whole lines h))
unrolled_from-whole _ (block number times end_at last repeat_at body rest h k) blocks so_far more =
    let opened : Block = record { before = so_far; number = number; times = times } in
    let end = end_line last repeat_at in
    let all = turns times (unrolled_whole body h ++ (executed last None ∷ [])) in
    let behind = so_far ++ (executed number None ∷ all) in
    ap (unrolled_from (opened ∷ blocks) []) (append_assoc body (end ∷ rest) more)
    ∙ unrolled_from-whole body h (opened ∷ blocks) [] (end ∷ (rest ++ more))
    ∙ unrolled_from-whole rest k blocks behind more
    ∙ ap (λ s. unrolled_from blocks s more) (append_assoc so_far (executed number None ∷ all) (unrolled_whole rest k))

-- whole lines alone
executed_lines-whole : (lines : List Line) (h : AreBlocks lines) → executed_lines lines ≡ unrolled_whole lines h
executed_lines-whole lines h = ap executed_lines (sym (append-nil lines)) ∙ unrolled_from-whole lines h [] [] []

-- a command is executed once, and then what follows it
pub unrolls_runs : (number : ℕ) (command : Command) (lines : List Line) → AreBlocks lines
    → executed_lines (run_line number command ∷ lines) ≡ executed number (Some command) ∷ executed_lines lines
unrolls_runs number command lines h =
    executed_lines-whole (run_line number command ∷ lines) (run number command lines h)
    ∙ ap (λ rest. executed number (Some command) ∷ rest) (sym (executed_lines-whole lines h))

-- a block is executed in its turns, and then what follows it
pub unrolls_blocks : (number times end_at last repeat_at : ℕ) (body rest : List Line) → AreBlocks body → AreBlocks rest
    → executed_lines (repeat_line number times end_at ∷ (body ++ (end_line last repeat_at ∷ rest)))
    ≡ executed number None ∷ (turns times (executed_lines body ++ (executed last None ∷ [])) ++ executed_lines rest)
unrolls_blocks number times end_at last repeat_at body rest h k =
    executed_lines-whole (repeat_line number times end_at ∷ (body ++ (end_line last repeat_at ∷ rest)))
    (block number times end_at last repeat_at body rest h k)
    ∙ ap (λ all. executed number None ∷ (turns times (all ++ (executed last None ∷ [])) ++ unrolled_whole rest k))
    (sym (executed_lines-whole body h))
    ∙ ap (λ after. executed number None ∷ (turns times (executed_lines body ++ (executed last None ∷ [])) ++ after))
    (sym (executed_lines-whole rest k))
