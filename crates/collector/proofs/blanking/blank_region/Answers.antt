use Rattle.std.proofs.Common.{◌≡◌, ◌-◌, ◌≤◌, ℕ, length, sym, subst, arith}
use Rattle.std.specs.Prelude.{replicate}
use Rattle.write_barrier.specs.Seats.{heap_words}
use Rattle.write_barrier.specs.MutatorState.{heap_of}
use Rattle.write_barrier.specs.Values.{with_range}
use Rattle.collector.specs.Filling.{BlanksWithin}
use Rattle.collector.proofs.FilledWords.{row_lies_between}
use Rattle.collector.proofs.BlankedWords.{stretch_blanked}
use Rattle.collector.proofs.blanking.blank_region.Goals as goal

pub overflow_sub-end : goal.overflow_sub-end
overflow_sub-end c =
    (row_lies_between (heap_of c.args.main.now) c.args.start c.row_end-behind.result c.args.end c.requires.rows
    c.requires.stands c.row_end-behind.ensures).within

pub blank-requires-clause-within : goal.blank-requires-clause-within
blank-requires-clause-within c =
    let lies = row_lies_between (heap_of c.args.main.now) c.args.start c.row_end-behind.result c.args.end
    c.requires.rows c.requires.stands c.row_end-behind.ensures in
    omega (arith, lies.within, lies.before_marks)

pub returns-clause-blanked : goal.returns-clause-blanked
returns-clause-blanked c =
    let words = heap_words c.args.main.now.seat in
    let behind : ℕ = c.row_end-behind.result in
    let lies = row_lies_between (heap_of c.args.main.now) c.args.start behind c.args.end c.requires.rows
    c.requires.stands c.row_end-behind.ensures in
    let within : c.args.end ≤ length words = omega (arith, lies.before_marks, c.addresses_fit.ensures.heap_counted) in
    let now : heap_words c.blank.new.self.seat ≡ with_range words behind (replicate (c.args.end - behind) 0) =
    c.blank.ensures.heap in
    record {
      row_end = behind;
      ends = c.row_end-behind.ensures;
      blanks = subst (λ new. BlanksWithin words new behind c.args.end) (sym now)
          (stretch_blanked words behind c.args.end lies.within within);
    }
