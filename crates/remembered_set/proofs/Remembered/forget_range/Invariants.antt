use Rattle.std.proofs.Common.{◌≡◌, ℕ, ◌*◌, ◌↔◌, Contains, min}
use Rattle.page_space.specs.Sizes.{page_words}
use Rattle.remembered_set.specs.Recorded.{IsRecorded, IsBetween}
use Rattle.remembered_set.proofs.Remembered.forget_range.Given as goal

abbrev pub invariant-loop-page : goal.invariant-loop-page
invariant-loop-page l = record {
  forgotten : (other : ℕ) → Contains l.self.slots other
      ↔ (Contains l.fn.self.slots other × (¬ IsBetween l.from (min l.to (page_words * l.page)) other));
  bound : l.self.bound ≡ l.fn.self.bound;
  recorded : IsRecorded l.self;
}
