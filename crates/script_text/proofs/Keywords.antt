-- The commands of a version, one command of the table after another.
use Rattle.std.proofs.Common.{◌≡◌, ℕ, ◌+◌, ◌<◌, ◌≤◌, Bool, true, false, cond, ◌&&◌, nat_le, bytes_eq, List, [], ◌∷◌}
use Rattle.std.proofs.Common.{length, drop, filter, get_or, Option, Some, None, refl, sym, ap, ◌∙◌}
use Rattle.std.proofs.lemmas.List.{drop_all}
use Rattle.script_text.specs.declared.table.Keyword.{Keyword}
use Rattle.script_text.specs.Table.{keyword_text, keywords, since, keywords_of, keyword_among}
use Rattle.script_text.proofs.Lining.{drop-index}

-- the command with this word, if it is one of these, and the version has it
unfoldable pub known_among : ℕ → List Keyword → List ℕ → Option Keyword
known_among version some token = keyword_among (filter (λ k. nat_le (since k) version) some) token

-- all commands are those of the table
pub known_among-all : (version : ℕ) (some : List Keyword) (token : List ℕ) → some ≡ keywords
    → known_among version some token ≡ keyword_among (keywords_of version) token
unfolding known_among keywords_of
known_among-all version some token e = ap (λ ks. keyword_among (filter (λ k. nat_le (since k) version) ks) token) e

-- none is among none
known_among-none : (version : ℕ) (token : List ℕ) → known_among version [] token ≡ None
unfolding known_among
known_among-none version token = refl

-- a command that is not of the version is passed over
pub filtered : (known : Bool) (k : Keyword) (rest : List Keyword) (token : List ℕ)
    → keyword_among (cond known (k ∷ rest) rest) token
    ≡ cond (known && bytes_eq token (keyword_text k)) (Some k) (keyword_among rest token)
filtered true k rest token = refl
filtered false k rest token = refl

-- the first of some commands is the one, or it is among the others
known_among-first : (version : ℕ) (k : Keyword) (rest : List Keyword) (token : List ℕ)
    → known_among version (k ∷ rest) token
    ≡ cond (nat_le (since k) version && bytes_eq token (keyword_text k)) (Some k) (known_among version rest token)
unfolding known_among
known_among-first version k rest token =
    filtered (nat_le (since k) version) k (filter (λ k. nat_le (since k) version) rest) token

-- the first of the commands that are left is the one, or it is among the others
here : (version : ℕ) (some : List Keyword) (i : ℕ) (none : Keyword) (token : List ℕ) (is : Bool)
    (whole : Option Keyword) → i < length some → known_among version (drop i some) token ≡ whole
    → is ≡ (nat_le (since (get_or some i none)) version && bytes_eq token (keyword_text (get_or some i none)))
    → cond is (Some (get_or some i none)) (known_among version (drop (i + 1) some) token) ≡ whole
here version some i none token is whole lt e same =
    let k = get_or some i none in
    ap (λ b. cond b (Some k) (known_among version (drop (i + 1) some) token)) same
    ∙ sym (known_among-first version k (drop (i + 1) some) token)
    ∙ ap (λ ks. known_among version ks token) (sym (drop-index some i none lt)) ∙ e

-- the command is found
pub found : (version : ℕ) (some : List Keyword) (i : ℕ) (none : Keyword) (token : List ℕ) (is : Bool)
    (whole : Option Keyword) → i < length some → known_among version (drop i some) token ≡ whole
    → is ≡ (nat_le (since (get_or some i none)) version && bytes_eq token (keyword_text (get_or some i none)))
    → is ≡ true → Some (get_or some i none) ≡ whole
found version some i none token is whole lt e same is_it =
    sym (ap (λ b. cond b (Some (get_or some i none)) (known_among version (drop (i + 1) some) token)) is_it)
    ∙ here version some i none token is whole lt e same

-- the command is passed
pub passed : (version : ℕ) (some : List Keyword) (i : ℕ) (none : Keyword) (token : List ℕ) (is : Bool)
    (whole : Option Keyword) → i < length some → known_among version (drop i some) token ≡ whole
    → is ≡ (nat_le (since (get_or some i none)) version && bytes_eq token (keyword_text (get_or some i none)))
    → is ≡ false → known_among version (drop (i + 1) some) token ≡ whole
passed version some i none token is whole lt e same is_not =
    sym (ap (λ b. cond b (Some (get_or some i none)) (known_among version (drop (i + 1) some) token)) is_not)
    ∙ here version some i none token is whole lt e same

-- past the last command there is none
pub past : (version : ℕ) (some : List Keyword) (i : ℕ) (token : List ℕ) (whole : Option Keyword)
    → length some ≤ i → known_among version (drop i some) token ≡ whole → None ≡ whole
past version some i token whole end e =
    sym (ap (λ ks. known_among version ks token) (drop_all i some end) ∙ known_among-none version token) ∙ e
