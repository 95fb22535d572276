-- The word of a command is found as it, by the versions that have it.
use Rattle.std.proofs.Common.{◌≡◌, inl, inr, ℕ, ◌≤◌, Bool, true, false, cond, ◌&&◌, nat_le, bytes_eq, List, [], ◌∷◌}
use Rattle.std.proofs.Common.{filter, Option, Some, refl, sym, ap, ◌∙◌, subst, arith}
use Rattle.std.proofs.lemmas.Bool.Decides.{nat_tests}
use Rattle.script_text.specs.declared.table.Keyword.{Keyword}
use Rattle.script_text.specs.declared.table.Keyword.TheVariants.{New}
use Rattle.script_text.specs.Table.{keyword_text, keywords, since, keywords_of, keyword_among}
use Rattle.script_text.proofs.Keywords.{filtered}
use Rattle.script_text.proofs.Numbers.{bytes_tell}
use Rattle.script_laws.specs.Words.{KeywordsAreFound, KeywordsAreKnown}

-- no earlier command has the word
in_table : (k : Keyword) → keyword_among keywords (keyword_text k) ≡ Some k
in_table New = refl
in_table other = refl

-- the word of the command that was found
pub keyword_among-text : (ks : List Keyword) (token : List ℕ) (k : Keyword) → keyword_among ks token ≡ Some k
    → keyword_text k ≡ token
keyword_among-text [] token k e = cc
keyword_among-text (first ∷ ks) token k e =
    elim (bytes_tell token (keyword_text first)) [
      | inl h ↦
          let found : Some first ≡ Some k = sym (ap (λ v. cond v (Some first) (keyword_among ks token)) h.0) ∙ e in
          let same : first ≡ k = cc in
          ap keyword_text (sym same) ∙ sym h.1
      | inr h ↦ keyword_among-text ks token k (sym (ap (λ v. cond v (Some first) (keyword_among ks token)) h.0) ∙ e)
    ]

-- both tests pass
both : (b c : Bool) → b ≡ true → c ≡ true → (b && c) ≡ true
both true c b_is c_is = c_is
both false c b_is c_is = b_is

-- the second test fails
not_second : (b c : Bool) → c ≡ false → (b && c) ≡ false
not_second true c c_is = c_is
not_second false c c_is = refl

-- the first test has passed where both have
first_of : (b c : Bool) → (b && c) ≡ true → b ≡ true
first_of true c e = refl
first_of false c e = e

-- the version has the command
has : (version : ℕ) (k : Keyword) → since k ≤ version → nat_le (since k) version ≡ true
has version k le = grind (arith, nat_tests)

-- a command that is found is found among those of a version that has it
found_among : (version : ℕ) (ks : List Keyword) (token : List ℕ) (k : Keyword) → keyword_among ks token ≡ Some k
    → since k ≤ version → keyword_among (filter (λ k. nat_le (since k) version) ks) token ≡ Some k
found_among version [] token k e le = cc
found_among version (first ∷ ks) token k e le =
    let known = nat_le (since first) version in
    let rest = filter (λ (k : Keyword). nat_le (since k) version) ks in
    elim (bytes_tell token (keyword_text first)) [
      | inl h ↦
          let found : Some first ≡ Some k = sym (ap (λ v. cond v (Some first) (keyword_among ks token)) h.0) ∙ e in
          let same : first ≡ k = cc in
          let here = has version first (subst (λ other. since other ≤ version) (sym same) le) in
          filtered known first rest token
          ∙ ap (λ v. cond v (Some first) (keyword_among rest token)) (both known _ here h.0) ∙ found
      | inr h ↦
          let later = sym (ap (λ v. cond v (Some first) (keyword_among ks token)) h.0) ∙ e in
          filtered known first rest token
          ∙ ap (λ v. cond v (Some first) (keyword_among rest token)) (not_second known _ h.0)
          ∙ found_among version ks token k later le
    ]

-- what a test lets through is a command of the version
known_by : (version : ℕ) (first k : Keyword) (is : Bool) (rest : Option Keyword)
    → (is ≡ true → nat_le (since first) version ≡ true) → (rest ≡ Some k → since k ≤ version)
    → cond is (Some first) rest ≡ Some k → since k ≤ version
known_by version first k true rest here later e =
    let same : first ≡ k = cc in
    let le : since first ≤ version = grind (arith, nat_tests, here refl) in
    subst (λ other. since other ≤ version) same le
known_by version first k false rest here later e = later e

-- a command that is found among those of a version is one of it
known_among : (version : ℕ) (ks : List Keyword) (token : List ℕ) (k : Keyword)
    → keyword_among (filter (λ k. nat_le (since k) version) ks) token ≡ Some k → since k ≤ version
known_among version [] token k e = cc
known_among version (first ∷ ks) token k e =
    let known = nat_le (since first) version in
    let rest = filter (λ (k : Keyword). nat_le (since k) version) ks in
    known_by version first k (known && bytes_eq token (keyword_text first)) (keyword_among rest token)
    (first_of known (bytes_eq token (keyword_text first))) (known_among version ks token k)
    (sym (filtered known first rest token) ∙ e)

-- the word of a command is found as it in each version that has the command
pub keywords_are_found : KeywordsAreFound
unfolding keywords_of
keywords_are_found version k le = found_among version keywords (keyword_text k) k (in_table k) le

-- a token that is found as a command is its word, and the version has the command
pub keywords_are_known : KeywordsAreKnown
unfolding keywords_of
keywords_are_known version token k e = (
  sym (keyword_among-text (filter (λ k. nat_le (since k) version) keywords) token k e),
  known_among version keywords token k e,
)
