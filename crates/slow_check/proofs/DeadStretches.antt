-- Dead words that stand one behind another, as addresses are passed.
use Rattle.std.proofs.Common.{◌≡◌, ℕ, ◌+◌, ◌-◌, ◌<◌, ◌≤◌, ◌↔◌, inl, inr, subst, arith}
use Rattle.std.proofs.lemmas.Bool.{cases_lt}
use Rattle.heap_model.specs.Heaps.{Heap}
use Rattle.heap_model.specs.Wholeness.{HasRows}
use Rattle.live_cells.specs.Exact.{IsDeadWord, Fits}
use Rattle.image_walk.proofs.EachSlot.{each_more}
use Rattle.slow_check.specs.DeadCells.{AreDead, HasDead, BeginsAt, HasPageDead, FitsInPage}

-- The words from one address up to another are dead, and the one before them is not, if it stands behind start or
-- there.
pub record IsStretch (heap : Heap) (start first at : ℕ) : Type 0 where
  pub from : start ≤ first
  pub upto : first ≤ at
  pub dead : AreDead heap first at
  pub broken : (k : ℕ) → start ≤ k → k + 1 ≡ first → IsDeadWord heap k → ⊥

-- at the start no word was passed
pub stretch_at_start : (heap : Heap) (start : ℕ) → IsStretch heap start start start
stretch_at_start heap start = record {
  from = omega arith;
  upto = omega arith;
  dead = λ at from below. absurd (omega (arith, from, below));
  broken = λ k from same dead. omega (arith, from, same);
}

-- one word more was passed
pub stretch_more : {heap : Heap} {start first at begin : ℕ} → IsStretch heap start first at
    → BeginsAt heap first at begin → IsStretch heap start begin (at + 1)
stretch_more {heap} {start} {first} {at} stretch (BeginsAt.dead is) = record {
  from = stretch.from;
  upto = omega (arith, stretch.upto);
  dead = each_more (IsDeadWord heap) first at stretch.dead is;
  broken = stretch.broken;
}
stretch_more {heap} {start} {first} {at} stretch (BeginsAt.alive is) = record {
  from = omega (arith, stretch.from, stretch.upto);
  upto = omega arith;
  dead = λ k from below. absurd (omega (arith, from, below));
  broken = λ k from same dead.
      let here : k ≡ at = omega (arith, same) in
      is (subst (IsDeadWord heap) here dead);
}

-- Where before the last word there were not so many, and the words from begin on are fewer, there are not so many.
pub none_more : (heap : Heap) (start n begin at : ℕ) → (HasDead heap start at n → ⊥)
    → IsStretch heap start begin (at + 1) → at + 1 - begin < n → HasDead heap start (at + 1) n → ⊥
none_more heap start n begin at none stretch fewer has =
    elim (cases_lt at (has.first + n)) [
      | inr early ↦ none (record { first = has.first; from = has.from; below = early; dead = has.dead })
      | inl late ↦
          let before : has.first < begin = omega (arith, fewer, has.below, late, stretch.upto) in
          let k : ℕ = begin - 1 in
          stretch.broken k (omega (arith, before, has.from)) (omega (arith, before))
          (has.dead k (omega (arith, before)) (omega (arith, before, late, stretch.upto)))
    ]

-- where they are as many, there are
pub found_dead : (heap : Heap) (start end n begin at : ℕ) → 1 ≤ n → at < end → IsStretch heap start begin (at + 1)
    → n ≤ at + 1 - begin → HasDead heap start end n
found_dead heap start end n begin at some inside stretch enough = record {
  first = begin;
  from = stretch.from;
  below = omega (arith, enough, stretch.upto, inside);
  dead = λ k from below. stretch.dead k from (omega (arith, below, enough, stretch.upto));
}

-- before the start there are none
pub none_at_start : (heap : Heap) (start n : ℕ) → 1 ≤ n → HasDead heap start start n → ⊥
none_at_start heap start n some has = omega (arith, some, has.from, has.below)

-- nor at the end, where there are not so many before an address that is not before that
pub none_to_end : (heap : Heap) (start end at n : ℕ) → end ≤ at → (HasDead heap start at n → ⊥)
    → HasDead heap start end n → ⊥
none_to_end heap start end at n past none has =
    none (record { first = has.first; from = has.from; below = omega (arith, has.below, past); dead = has.dead })

-- not one of the pages before this one has so many
abbrev pub NoPageTo : Heap → ℕ → ℕ → Type 0
NoPageTo heap n end = (page : ℕ) → page < end → HasPageDead heap n page → ⊥

-- nor this one
pub no_page_more : (heap : Heap) (n page : ℕ) → NoPageTo heap n page → (HasPageDead heap n page → ⊥)
    → NoPageTo heap n (page + 1)
no_page_more heap n page before here other below has =
    elim (cases_lt other page) [
      | inl early ↦ before other early has
      | inr late ↦
          let same : other ≡ page = omega (arith, late, below) in
          here (subst (HasPageDead heap n) same has)
    ]

-- so nothing fits into a page where none of all has so many
pub fits_in_none : (heap : Heap) (n end : ℕ) → heap.space.sizes.pages ≤ end → NoPageTo heap n end → FitsInPage heap n
    → ⊥
fits_in_none heap n end all none fits = none fits.page (omega (arith, all, fits.there)) fits.has

-- what has no room in the young generation is some words
pub some_words : (heap : Heap) (n : ℕ) → HasRows heap
    → (heap.survivors + heap.used + n ≤ heap.space.sizes.young → ⊥) → 1 ≤ n
some_words heap n rows lacks =
    elim (cases_lt 0 n) [
      | inl some ↦ some
      | inr none ↦ absurd (lacks (omega (arith, none, rows.few)))
    ]

-- what fits, but has no room in the young generation, fits into a page
in_page : {heap : Heap} {n : ℕ} → (heap.survivors + heap.used + n ≤ heap.space.sizes.young → ⊥) → Fits heap n
    → FitsInPage heap n
in_page lacks (Fits.young room) = absurd (lacks room)
in_page lacks (Fits.page page first there from below dead) = record {
  page = page;
  there = there;
  has = record { first = first; from = from; below = below; dead = dead };
}

-- so it fits exactly where a page has so many dead words
pub fits_where : (heap : Heap) (n : ℕ) → (heap.survivors + heap.used + n ≤ heap.space.sizes.young → ⊥)
    → FitsInPage heap n ↔ Fits heap n
fits_where heap n lacks = (
  λ fits. Fits.page fits.page fits.has.first fits.there fits.has.from fits.has.below fits.has.dead,
  λ fits. in_page lacks fits,
)
