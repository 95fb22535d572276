-- Stretches one after another: how many words they have, and where each of them stands.
use Rattle.std.proofs.Common.{◌≡◌, ℕ, ◌+◌, ◌*◌, ◌<◌, zero, suc, List, [], ◌∷◌, ◌++◌, map, Contains}
use Rattle.std.proofs.Common.{refl, sym, ◌∙◌, ap, subst, ⊎_elim, ◌⊎◌, arith}
use Rattle.std.specs.List.{range_with_len}
use Rattle.std.proofs.lemmas.List.Sums.{sum_by-append, sum_by-cons}
use Rattle.std.proofs.lemmas.List.Elements.{Contains-append_left, Contains-append_right, Contains-append_cases}
use Rattle.page_space.specs.declared.region.Region.{Region}
use Rattle.page_space.specs.Extents.{Stretch, Extent, each_of, words_in, extents_from}
use Rattle.tagged_word.proofs.Members.{first_in, rest_in, in_cases}
use Rattle.page_space.proofs.Lists.{contains_none}

-- the words of stretches, and then of others
pub words_in-append : (xs ys : List Stretch) → words_in (xs ++ ys) ≡ words_in xs + words_in ys
words_in-append xs ys = sum_by-append (λ stretch. stretch.words) xs ys

-- the words of a stretch, and then of others
pub words_in-cons : (x : Stretch) (xs : List Stretch) → words_in (x ∷ xs) ≡ x.words + words_in xs
words_in-cons x xs = sum_by-cons (λ stretch. stretch.words) x xs

-- the stretches for the numbers from one on
abbrev each_from : (ℕ → Region) → ℕ → ℕ → ℕ → List Stretch
each_from region words from count = map (λ n. record { region = region n; words = words }) (range_with_len from count)

-- so many of as many words each have so many times the words
words_in-each_from : (region : ℕ → Region) (words from count : ℕ) →
    words_in (each_from region words from count) ≡ words * count
words_in-each_from region words from zero = omega arith
words_in-each_from region words from (suc count) =
    let first : Stretch = record { region = region from; words = words } in
    words_in-cons first (each_from region words (from + 1) count)
    ∙ ap (λ n. words + n) (words_in-each_from region words (from + 1) count) ∙ grind arith

-- so many stretches of as many words each
pub words_in-each_of : (region : ℕ → Region) (words count : ℕ) → words_in (each_of region words count) ≡ words * count
unfolding each_of
words_in-each_of region words count = words_in-each_from region words 0 count

-- stretches and then others: the others begin where the first ones end
pub extents_from-append : (start : ℕ) (xs ys : List Stretch) →
    extents_from start (xs ++ ys) ≡ extents_from start xs ++ extents_from (start + words_in xs) ys
extents_from-append start [] ys = ap (λ n. extents_from n ys) (omega arith)
extents_from-append start (x ∷ xs) ys =
    let first : Extent = record { region = x.region; start = start; words = x.words } in
    let ends : start + x.words + words_in xs ≡ start + words_in (x ∷ xs) = omega (arith, words_in-cons x xs) in
    ap (λ rest. first ∷ rest)
    (extents_from-append (start + x.words) xs ys
    ∙ ap (λ n. extents_from (start + x.words) xs ++ extents_from n ys) ends)

-- what stands among the first stretches stands among all
pub stands_first : (start : ℕ) (xs ys : List Stretch) (extent : Extent) → Contains (extents_from start xs) extent →
    Contains (extents_from start (xs ++ ys)) extent
stands_first start xs ys extent there =
    let P : List Extent → Type 0 = λ all. Contains all extent in
    subst P (sym (extents_from-append start xs ys)) (Contains-append_left (extents_from start xs) _ extent there)

-- what stands among the others stands among all
pub stands_then : (start : ℕ) (xs ys : List Stretch) (extent : Extent) →
    Contains (extents_from (start + words_in xs) ys) extent → Contains (extents_from start (xs ++ ys)) extent
stands_then start xs ys extent there =
    let P : List Extent → Type 0 = λ all. Contains all extent in
    subst P (sym (extents_from-append start xs ys)) (Contains-append_right (extents_from start xs) _ extent there)

-- what stands among all stands among the first stretches or among the others
pub stands_cases : (start : ℕ) (xs ys : List Stretch) (extent : Extent) →
    Contains (extents_from start (xs ++ ys)) extent →
    Contains (extents_from start xs) extent ⊎ Contains (extents_from (start + words_in xs) ys) extent
stands_cases start xs ys extent there =
    let P : List Extent → Type 0 = λ all. Contains all extent in
    Contains-append_cases (extents_from start xs) (extents_from (start + words_in xs) ys) extent
    (subst P (extents_from-append start xs ys) there)

-- each of the numbered stretches stands where those before it end
stands_from : (region : ℕ → Region) (words from count start place number at : ℕ) → place < count →
    from + place ≡ number → start + words * place ≡ at →
    Contains (extents_from start (each_from region words from count))
    (record { region = region number; start = at; words = words })
stands_from region words from zero start place number at below same begins = absurd (omega arith)
stands_from region words from (suc count) start zero number at below same begins =
    let P : ℕ → ℕ → Type 0 = λ m n. Contains (extents_from start (each_from region words from (suc count)))
    (record { region = region m; start = n; words = words }) in
    let same_number : from ≡ number = omega arith in
    let same_start : start ≡ at = omega arith in
    subst (λ (m : ℕ). P m at) same_number (subst (λ (n : ℕ). P from n) same_start (first_in _ _))
stands_from region words from (suc count) start (suc place) number at below same begins =
    rest_in _ _ _
    (stands_from region words (from + 1) count (start + words) place number at (omega arith)
    (omega arith) (grind arith))

-- so of all that are numbered from 0 on
pub stands_each : (region : ℕ → Region) (words count start number at : ℕ) → number < count →
    start + words * number ≡ at →
    Contains (extents_from start (each_of region words count))
    (record { region = region number; start = at; words = words })
unfolding each_of
stands_each region words count start number at below begins =
    stands_from region words 0 count start number number at below (omega arith) begins

-- the extent is that of one of the numbered stretches
pub record IsNumbered (region : ℕ → Region) (words count start : ℕ) (extent : Extent) : Type 0 where
  pub number : ℕ
  pub below : number < count
  pub of_region : region number ≡ extent.region
  pub begins : start + words * number ≡ extent.start
  pub as_long : words ≡ extent.words

-- what stands among the stretches from a number on is one of them
numbered_from : (region : ℕ → Region) (words from count start : ℕ) (extent : Extent) →
    Contains (extents_from start (each_from region words from count)) extent →
    IsNumbered (λ n. region (from + n)) words count start extent
numbered_from region words from zero start extent there = contains_none [] extent refl there
numbered_from region words from (suc count) start extent there =
    ⊎_elim
    (λ first. record {
      number = 0;
      below = omega arith;
      of_region = ap region (omega arith) ∙ ap (λ e. e.region) first;
      begins = omega (arith, ap (λ e. e.start) first);
      as_long = ap (λ e. e.words) first;
    })
    (λ later. let next = numbered_from region words (from + 1) count (start + words) extent later in
    record {
      number = next.number + 1;
      below = omega (arith, next.below);
      of_region = ap region (omega arith) ∙ next.of_region;
      begins = omega (arith, next.begins);
      as_long = next.as_long;
    })
    (in_cases _ _ extent there)

-- only the numbered stretches stand among them
pub numbered : (region : ℕ → Region) (words count start : ℕ) (extent : Extent) →
    Contains (extents_from start (each_of region words count)) extent → IsNumbered region words count start extent
unfolding each_of
numbered region words count start extent there =
    let found = numbered_from region words 0 count start extent there in
    record {
      number = found.number;
      below = found.below;
      of_region = ap region (omega arith) ∙ found.of_region;
      begins = found.begins;
      as_long = found.as_long;
    }
