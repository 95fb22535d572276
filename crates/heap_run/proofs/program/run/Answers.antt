use Rattle.command_line.proofs.AskedSizes.{asked_sizes_are_within}
use Rattle.command_line.proofs.AskedSoaks.{soaked_sizes_are_within, soaked_forms_are_few}
use Rattle.command_line.proofs.AskedForms.{asked_forms_are_few}
use Rattle.std.proofs.Common.{arith, false, true, inl, Some, refl, ap, ◌∙◌, map, string_bytes}
use Rattle.heap_run.specs.declared.last_line.LastLine.TheVariants as last
use Rattle.command_line.specs.Invocations.{asked_run}
use Rattle.command_line.specs.declared.invocation.Invocation.TheVariants.{Soak, Gen}
use Rattle.heap_run.specs.Answers.{Comes, AsksFor}
use Rattle.heap_run.proofs.Answering.{Answers-unopened}
use Rattle.heap_run.proofs.Generating.{Answers-generates}
use Rattle.heap_run.proofs.SoakLines.{Answers-soaks}
use Rattle.heap_run.proofs.program.run.Goals as goal

pub run_read-requires-after_bounds : goal.run_read-requires-after_bounds
run_read-requires-after_bounds g c κs within =
    let asks : AsksFor (map string_bytes c.args.words.now) (asked_run false c.in-Ok-Run.sizes) =
    c.in-Ok-Run.ensures.invocation ∙ ap Some c.in-Ok-Run.field-0-is in
    asked_sizes_are_within (map string_bytes c.args.words.now) false c.in-Ok-Run.sizes 0 asks (omega arith)

pub run_read-requires-in-Ok-Check-after_bounds : goal.run_read-requires-in-Ok-Check-after_bounds
run_read-requires-in-Ok-Check-after_bounds g c κs within =
    let asks : AsksFor (map string_bytes c.args.words.now) (asked_run true c.in-Ok-Check.sizes) =
    c.in-Ok-Check.ensures.invocation ∙ ap Some c.in-Ok-Check.field-0-is in
    asked_sizes_are_within (map string_bytes c.args.words.now) true c.in-Ok-Check.sizes 0 asks (omega arith)

pub write_generated-requires : goal.write_generated-requires
write_generated-requires g c =
    let asks : AsksFor (map string_bytes c.args.words.now) (Gen c.in-Ok-Gen.seed c.in-Ok-Gen.forms) =
    c.in-Ok-Gen.ensures.invocation ∙ ap Some c.in-Ok-Gen.field-0-is in
    asked_forms_are_few (map string_bytes c.args.words.now) c.in-Ok-Gen.seed c.in-Ok-Gen.forms asks

pub returns-in-Ok-Gen : goal.returns-in-Ok-Gen
returns-in-Ok-Gen g c =
    let asks : AsksFor (map string_bytes c.args.words.now) (Gen c.in-Ok-Gen.seed c.in-Ok-Gen.forms) =
    c.in-Ok-Gen.ensures.invocation ∙ ap Some c.in-Ok-Gen.field-0-is in
    record {
      answers = Answers-generates _ _ c.in-Ok-Gen.seed c.in-Ok-Gen.forms _ _ _ _ c.write_generated.result asks refl refl
          c.write_generated.ensures;
    }

pub returns-in-Err-BadWords : goal.returns-in-Err-BadWords
returns-in-Err-BadWords g c =
    let refused = rw c.in-Err-BadWords.field-0-is at c.in-Err-BadWords.ensures in
    record {
      answers = Answers-unopened _ _ _ _ _ _ c.give_up.result last.BadWords c.give_up.ensures.unopened
          (Comes.bad_words (refused.refused refl) refl refl) c.give_up.ensures.taken;
    }

pub returns-in-Err-NoMemory : goal.returns-in-Err-NoMemory
returns-in-Err-NoMemory g c =
    let refused = rw c.in-Err-NoMemory.field-0-is at c.in-Err-NoMemory.ensures in
    let given = c.give_up-in-Err-NoMemory in
    record {
      answers = Answers-unopened _ _ _ _ _ _ given.result last.NoMemory given.ensures.unopened
          (Comes.no_memory (refused.begins_command refl) (inl (refl, refl))) given.ensures.taken;
    }

pub returns-in-Ok-Run : goal.returns-in-Ok-Run
returns-in-Ok-Run g c = record {
  answers = c.run_read.ensures (map string_bytes c.args.words.now) false refl
      (c.in-Ok-Run.ensures.invocation ∙ ap Some c.in-Ok-Run.field-0-is);
}

pub returns-in-Ok-Check : goal.returns-in-Ok-Check
returns-in-Ok-Check g c = record {
  answers = c.run_read-in-Ok-Check.ensures (map string_bytes c.args.words.now) true refl
      (c.in-Ok-Check.ensures.invocation ∙ ap Some c.in-Ok-Check.field-0-is);
}

pub soak-requires-clause-within : goal.soak-requires-clause-within
soak-requires-clause-within g c κs bounds =
    let words = map string_bytes c.args.words.now in
    let asks : AsksFor words (Soak c.in-Ok-Soak.sizes c.in-Ok-Soak.seed c.in-Ok-Soak.forms) =
    c.in-Ok-Soak.ensures.invocation ∙ ap Some c.in-Ok-Soak.field-0-is in
    soaked_sizes_are_within words c.in-Ok-Soak.sizes c.in-Ok-Soak.seed c.in-Ok-Soak.forms 0 asks (omega arith)

pub soak-requires-clause-few : goal.soak-requires-clause-few
soak-requires-clause-few g c κs bounds =
    let words = map string_bytes c.args.words.now in
    let asks : AsksFor words (Soak c.in-Ok-Soak.sizes c.in-Ok-Soak.seed c.in-Ok-Soak.forms) =
    c.in-Ok-Soak.ensures.invocation ∙ ap Some c.in-Ok-Soak.field-0-is in
    soaked_forms_are_few words c.in-Ok-Soak.sizes c.in-Ok-Soak.seed c.in-Ok-Soak.forms asks

pub returns-in-Ok-Soak : goal.returns-in-Ok-Soak
returns-in-Ok-Soak g c =
    let asks : AsksFor (map string_bytes c.args.words.now)
    (Soak c.in-Ok-Soak.sizes c.in-Ok-Soak.seed c.in-Ok-Soak.forms) =
    c.in-Ok-Soak.ensures.invocation ∙ ap Some c.in-Ok-Soak.field-0-is in
    let soak = c.in-Ok-Soak in
    record {
      answers = Answers-soaks _ _ soak.sizes soak.seed soak.forms _ _ _ _ c.soak.result asks refl refl c.soak.ensures;
    }
