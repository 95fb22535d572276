-- Stretches one after another: each address is in one of them.
use Rattle.std.proofs.Common.{◌≡◌, ℕ, ◌+◌, ◌<◌, ◌≤◌, List, [], ◌∷◌, Contains, refl, sym, ◌∙◌}
use Rattle.std.proofs.Common.{ap, ⊎_elim, arith}
use Rattle.std.proofs.lemmas.Bool.{cases_lt}
use Rattle.page_space.specs.Extents.{Space, Stretch, Extent, ContainsAddress, words_in, extents_from, extents}
use Rattle.page_space.specs.Extents.{stretches}
use Rattle.page_space.specs.Extents.{words_count}
use Rattle.tagged_word.proofs.Members.{first_in, rest_in, in_cases}
use Rattle.page_space.proofs.Lists.{contains_none}
use Rattle.page_space.proofs.Stretches.{words_in-cons}

-- an extent of stretches from an address on is neither before that address nor behind the last of their words
pub record IsBetween (start end : ℕ) (extent : Extent) : Type 0 where
  pub from : start ≤ extent.start
  pub below : extent.start + extent.words ≤ end

-- so are all extents of the stretches
pub between : (start : ℕ) (xs : List Stretch) (extent : Extent) → Contains (extents_from start xs) extent →
    IsBetween start (start + words_in xs) extent
between start [] extent there = contains_none [] extent refl there
between start (x ∷ xs) extent there =
    ⊎_elim
    (λ first. record {
      from = omega (arith, ap (λ e. e.start) first);
      below = omega (arith, ap (λ e. e.start) first, ap (λ e. e.words) first, words_in-cons x xs);
    })
    (λ later. let rest : IsBetween (start + x.words) (start + x.words + words_in xs) extent =
    between (start + x.words) xs extent later in
    record { from = omega (arith, rest.from); below = omega (arith, rest.below, words_in-cons x xs) })
    (in_cases _ _ extent there)

-- two extents that hold one address are the same
disjoint_from : (start : ℕ) (xs : List Stretch) (one other : Extent) (a : ℕ) → Contains (extents_from start xs) one →
    Contains (extents_from start xs) other → ContainsAddress one a → ContainsAddress other a → one ≡ other
disjoint_from start [] one other a there too holds_one holds_other = contains_none [] one refl there
disjoint_from start (x ∷ xs) one other a there too holds_one holds_other =
    ⊎_elim
    (λ first. ⊎_elim
    (λ first_too. sym first ∙ first_too)
    (λ later. let rest = between (start + x.words) xs other later in
    absurd (omega (
      arith,
      ap (λ e. e.start) first,
      ap (λ e. e.words) first,
      rest.from,
      holds_one.below,
      holds_other.from,
    )))
    (in_cases _ _ other too))
    (λ later. ⊎_elim
    (λ first. let rest = between (start + x.words) xs one later in
    absurd (omega (
      arith,
      ap (λ e. e.start) first,
      ap (λ e. e.words) first,
      rest.from,
      holds_other.below,
      holds_one.from,
    )))
    (λ later_too. disjoint_from (start + x.words) xs one other a later later_too holds_one holds_other)
    (in_cases _ _ other too))
    (in_cases _ _ one there)

-- so it is of the extents of a heap
pub disjoint : (space : Space) (one other : Extent) (a : ℕ) → Contains (extents space) one →
    Contains (extents space) other → ContainsAddress one a → ContainsAddress other a → one ≡ other
unfolding extents
disjoint space one other a there too holds_one holds_other =
    disjoint_from 0 (stretches space) one other a there too holds_one holds_other

-- each address from the first to the last of the words is in an extent
pub record IsHeld (all : List Extent) (a : ℕ) : Type 0 where
  pub extent : Extent
  pub stands : Contains all extent
  pub holds : ContainsAddress extent a

-- so it is of stretches from an address on
held_from : (start : ℕ) (xs : List Stretch) (a : ℕ) → start ≤ a → a < start + words_in xs →
    IsHeld (extents_from start xs) a
held_from start [] a from below = absurd (omega arith)
held_from start (x ∷ xs) a from below =
    let first : Extent = record { region = x.region; start = start; words = x.words } in
    ⊎_elim
    (λ here. record {
      extent = first;
      stands = first_in first (extents_from (start + x.words) xs);
      holds = record { from = from; below = here };
    })
    (λ behind. let rest : IsHeld (extents_from (start + x.words) xs) a =
    held_from (start + x.words) xs a behind (omega (arith, words_in-cons x xs)) in
    record { extent = rest.extent; stands = rest_in first _ rest.extent rest.stands; holds = rest.holds })
    (cases_lt a (start + x.words))

-- and of those of a heap
pub held : (space : Space) (a : ℕ) → a < words_count space → IsHeld (extents space) a
unfolding extents words_count
held space a below = held_from 0 (stretches space) a (omega arith) (omega arith)

-- no extent goes on behind the last word
pub ends_within : (space : Space) (extent : Extent) → Contains (extents space) extent →
    extent.start + extent.words ≤ words_count space
unfolding extents words_count
ends_within space extent there = omega (arith, (between 0 (stretches space) extent there).below)
