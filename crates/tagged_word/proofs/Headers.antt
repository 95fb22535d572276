-- Headers: one may be read from its bits.
use Rattle.std.proofs.Common.{ℕ, ◌≡◌, ap, ◌∙◌, arith}
use Rattle.tagged_word.specs.declared.header.Header.{Header}
use Rattle.tagged_word.specs.Headers.{IsHeader, header_bits}

-- a header by its parts
abbrev pub made : ℕ → ℕ → Header
made s o = record { shape = s; object = o }

-- equal parts make one header
pub same_made : (s t o p : ℕ) → s ≡ t → o ≡ p → made s o ≡ made t p
same_made s t o p e f = ap (λ n. made n o) e ∙ ap (λ n. made t n) f

-- headers with the same bits are one header
pub same_header : (a b : Header) → IsHeader a → IsHeader b → header_bits a ≡ header_bits b → a ≡ b
same_header a b is-a is-b e =
    same_made a.shape b.shape a.object b.object
    (omega (arith, is-a.shape, is-b.shape)) (omega (arith, is-a.shape, is-b.shape))
