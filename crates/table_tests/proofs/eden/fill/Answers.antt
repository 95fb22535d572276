-- The addresses stand before the marks, and the puts leave the list.
use Rattle.std.proofs.Common.{◌≡◌, ◌∙◌, ℕ, ◌+◌, set, replicate, refl, sym, ap, subst, arith}
use Rattle.std.proofs.lemmas.List.{length-replicate}
use Rattle.page_space.specs.Extents.{layouts_start, marks_start}
use Rattle.shared_table.specs.Owned.{Own, zeros}
use Rattle.table_tests.specs.EdenList.{small, HasList}
use Rattle.table_tests.proofs.EdenLists.{put_list, put_words, starts}
use Rattle.table_tests.proofs.eden.fill.Goals as goal

-- a word is put at an address
abbrev with_put : ℕ → ℕ → Own → Own
with_put at word own = record own { words = set own.words at word }

-- a layout word is put
abbrev with_layout : Own → Own
with_layout own = record own { words = set own.words (layouts_start own.space + 1) 2 }

pub put-requires : goal.put-requires
put-requires c = omega (arith, ap (λ (own : Own). marks_start own.space) c.requires, starts.marks)

pub put-requires-2 : goal.put-requires-2
put-requires-2 c =
    let one : c.put.new.self ≡ with_put 2048 6 (zeros small) =
    c.put.ensures ∙ ap (with_put 2048 6) c.requires in
    omega (arith, ap (λ (own : Own). marks_start own.space) one, starts.marks)

pub put-requires-3 : goal.put-requires-3
put-requires-3 c =
    let one : c.put-2.new.self ≡ with_put 2049 8193 (with_put 2048 6 (zeros small)) =
    c.put-2.ensures ∙ ap (with_put 2049 8193) (c.put.ensures ∙ ap (with_put 2048 6) c.requires) in
    let two : c.put_layout.new.self ≡ with_layout (with_put 2049 8193 (with_put 2048 6 (zeros small))) =
    c.put_layout.ensures ∙ ap with_layout one in
    omega (arith, ap (λ (own : Own). marks_start own.space) two, starts.marks)

pub put-requires-4 : goal.put-requires-4
put-requires-4 c =
    let one : c.put-2.new.self ≡ with_put 2049 8193 (with_put 2048 6 (zeros small)) =
    c.put-2.ensures ∙ ap (with_put 2049 8193) (c.put.ensures ∙ ap (with_put 2048 6) c.requires) in
    let two : c.put-3.new.self ≡ with_put 2368 8193 (with_layout (with_put 2049 8193 (with_put 2048 6 (zeros small)))) =
    c.put-3.ensures ∙ ap (with_put 2368 8193) (c.put_layout.ensures ∙ ap with_layout one) in
    omega (arith, ap (λ (own : Own). marks_start own.space) two, starts.marks)

pub returns : goal.returns
returns c =
    let one : c.put-2.new.self ≡ with_put 2049 8193 (with_put 2048 6 (zeros small)) =
    c.put-2.ensures ∙ ap (with_put 2049 8193) (c.put.ensures ∙ ap (with_put 2048 6) c.requires) in
    let two : c.put-3.new.self ≡ with_put 2368 8193 (with_layout (with_put 2049 8193 (with_put 2048 6 (zeros small)))) =
    c.put-3.ensures ∙ ap (with_put 2368 8193) (c.put_layout.ensures ∙ ap with_layout one) in
    let all : c.put-4.new.self ≡ record { space = small; words = put_words (replicate (marks_start small) 0) } =
    c.put-4.ensures ∙ ap (with_put 2370 8193) two in
    subst HasList (sym all)
    (record {
      space = refl;
      words = put_list (replicate (marks_start small) 0) (length-replicate (marks_start
          small) 0);
    })
