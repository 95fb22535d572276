use Rattle.std.proofs.Common.{◌≡◌, ℕ, ◌*◌, arith, ap, ◌∙◌, false, replicate}
use Rattle.std.proofs.lemmas.List.{length-replicate}
use Rattle.page_space.specs.Sizes.{page_words}
use Rattle.remembered_set.specs.Bits.{flags_of}
use Rattle.remembered_set.specs.Model.{shown}
use Rattle.remembered_set.proofs.Slots.{is_recorded}
use Rattle.remembered_set.proofs.Shown.{slots_of-replicate}
use Rattle.remembered_set.proofs.Words.{length-flags_of, flags_of-zeros}
use Rattle.remembered_set.proofs.Pages.{counted_none}
use Rattle.remembered_set.proofs.Remembered.new.Goals as goal

pub invariant_of-result : goal.invariant_of-result
invariant_of-result c =
    let words = 32 * c.args.pages in
    let bits : c.in_ok-bits.bits.items ≡ replicate words 0 =
    c.in_ok-bits.ensures.items_if_clones_equal (λ _ same. same) in
    let counts : c.in_ok-counts.counts.items ≡ replicate c.args.pages 0 =
    c.in_ok-counts.ensures.items_if_clones_equal (λ _ same. same) in
    let flags : flags_of c.in_ok-bits.bits.items ≡ replicate (64 * words) false =
    ap flags_of bits ∙ flags_of-zeros words in
    record {
      recorded = is_recorded (flags_of c.in_ok-bits.bits.items)
          (omega (arith, c.in_ok-bits.ensures.len, length-flags_of c.in_ok-bits.bits.items));
      bound = omega (arith, c.in_ok-bits.ensures.len, length-flags_of c.in_ok-bits.bits.items);
      pages = rw (bits, counts, length-replicate {A = ℕ} words 0, length-replicate {A = ℕ} c.args.pages 0);
      counted = rw (flags, counts) (counted_none (64 * words) c.args.pages);
    }

pub returns : goal.returns
returns c =
    let words = 32 * c.args.pages in
    let bits : c.in_ok-bits.bits.items ≡ replicate words 0 =
    c.in_ok-bits.ensures.items_if_clones_equal (λ _ same. same) in
    let flags : flags_of c.in_ok-bits.bits.items ≡ replicate (64 * words) false =
    ap flags_of bits ∙ flags_of-zeros words in
    let many : 64 * words ≡ page_words * c.args.pages = omega arith in
    ap shown flags ∙ cc (length-replicate (64 * words) false, slots_of-replicate (64 * words), many)
