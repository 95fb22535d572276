-- A line of words that say what they should at their places is read as a statement.
use Rattle.std.proofs.Common.{◌≡◌, ℕ, suc, ◌+◌, ◌≤◌, true, cond, eqb, List, [], ◌∷◌, length, Some, Ok, Err}
use Rattle.std.proofs.Common.{refl, sym, ap, ◌∙◌, subst, arith}
use Rattle.std.specs.List.{flat_map}
use Rattle.std.proofs.lemmas.Bool.Decides.{nat_tests}
use Rattle.std.proofs.lemmas.List.{length-append}
use Rattle.script_text.specs.declared.script.Why.TheVariants as why
use Rattle.script_text.specs.declared.table.OperandKind.{OperandKind}
use Rattle.script_text.specs.declared.table.Keyword.{Keyword}
use Rattle.script_text.specs.declared.table.Keyword.TheVariants as keyword
use Rattle.script_text.specs.Lines.{is_blank, is_some_bytes}
use Rattle.script_text.specs.Table.{keyword_text, since, places_of}
use Rattle.script_text.specs.Statements.{Statement, RawOperand, joined, written_all, statement_with, if_command}
use Rattle.script_text.specs.Statements.{statement_of}
use Rattle.script_text.specs.Names.{variable_in, field_in, variables_of, fields_of}
use Rattle.script_text.specs.Grammar.{nest}
use Rattle.script_text.proofs.Scanning.{is_hash}
use Rattle.script_gen.specs.Lines.{Line}
use Rattle.script_laws.specs.Canonical.{spaced_after, spaced}
use Rattle.script_laws.proofs.Spacing.{AllAvoid, AllSome, is_feed}
use Rattle.script_laws.proofs.Words.{keywords_are_found}
use Rattle.script_laws.proofs.GeneratedWords.{known_variables, known_fields, AreKnown, IsToken, IsToken-some, Says}
use Rattle.script_laws.proofs.GeneratedWords.{AreKnown-append, all_plain}

-- The words say what they should at their places. With a space before each they have no more than so many bytes.
record AllSay (places : List OperandKind) (words : List (List ℕ)) (most : ℕ) : Type 0 where
  operands : List RawOperand
  read : written_all places words ≡ Ok operands
  count : length words ≡ length places
  blank : AllAvoid is_blank words
  hash : AllAvoid is_hash words
  feed : AllAvoid is_feed words
  some : AllSome words
  short : length (spaced_after words) ≤ most
  variables : AreKnown known_variables (flat_map variable_in operands)
  fields : AreKnown known_fields (flat_map field_in operands)

-- no words say nothing
none_say : AllSay [] [] 0
none_say =
    record {
      operands = [];
      read = refl;
      count = refl;
      blank = tt;
      hash = tt;
      feed = tt;
      some = tt;
      short = omega arith;
      variables = tt;
      fields = tt;
    }

-- a word more
and_says : (place : OperandKind) (places : List OperandKind) (word : List ℕ) (words : List (List ℕ)) (m n : ℕ)
    → Says place word m → AllSay places words n → AllSay (place ∷ places) (word ∷ words) (suc (m + n))
and_says place places word words m n first more =
    record {
      operands = first.operand ∷ more.operands;
      read = ap (λ read. joined read (written_all places words)) first.read ∙ ap (joined (Ok first.operand)) more.read;
      count = ap suc more.count;
      blank = (first.token.blank, more.blank);
      hash = (first.token.hash, more.hash);
      feed = (first.token.feed, more.feed);
      some = (first.token.some, more.some);
      short = omega (arith, first.short, more.short, length-append word (spaced_after words));
      variables = AreKnown-append known_variables (variable_in first.operand) _ first.variables more.variables;
      fields = AreKnown-append known_fields (field_in first.operand) _ first.fields more.fields;
    }

-- The line is read as a statement that opens and ends no block. It has at most 24 bytes, and its names are known.
pub record IsPlain (line : Line) : Type 0 where
  pub statement : Statement
  pub read : statement_of 1 (line.command ∷ line.operands) ≡ Ok (Some statement)
  pub stays : (number : ℕ) (open' : List ℕ) → nest number open' statement.keyword ≡ Ok open'
  pub blank : AllAvoid is_blank (line.command ∷ line.operands)
  pub hash : AllAvoid is_hash (line.command ∷ line.operands)
  pub feed : AllAvoid is_feed (line.command ∷ line.operands)
  pub some : AllSome (line.command ∷ line.operands)
  pub short : length (spaced (line.command ∷ line.operands)) ≤ 24
  pub variables : AreKnown known_variables (variables_of statement)
  pub fields : AreKnown known_fields (fields_of statement)

-- the word of a command is a token
command_token : (k : Keyword) → IsToken (keyword_text k)
command_token k = IsToken-some (keyword_text k) (has_bytes k) (has_plain_bytes k)
  where
    has_bytes : (k : Keyword) → is_some_bytes (keyword_text k) ≡ true
    has_bytes keyword.New = refl
    has_bytes other = refl

    has_plain_bytes : (k : Keyword) → all_plain (keyword_text k) ≡ true
    has_plain_bytes keyword.New = refl
    has_plain_bytes other = refl

-- a command that opens and ends no block
abbrev pub Stays : Keyword → Type 0
Stays k = (number : ℕ) (open' : List ℕ) → nest number open' k ≡ Ok open'

-- a command with words that say what they should is read
IsPlain-command : (k : Keyword) (words : List (List ℕ)) (most : ℕ) → AllSay (places_of k) words most → since k ≡ 1
    → Stays k → length (keyword_text k) + most ≤ 24 → IsPlain (record { command = keyword_text k; operands = words })
IsPlain-command k words most all first stays few =
    let token = command_token k in
    let counted = counts (length words) (length (places_of k)) all.count in
    record {
      statement = record { keyword = k; operands = all.operands };
      read = ap (if_command words) (keywords_are_found 1 k (omega (arith, first)))
          ∙ ap (λ v. cond v (statement_with k (written_all (places_of k) words)) (Err why.Count)) counted
          ∙ ap (statement_with k) all.read;
      stays = stays;
      blank = (token.blank, all.blank);
      hash = (token.hash, all.hash);
      feed = (token.feed, all.feed);
      some = (token.some, all.some);
      short = omega (arith, all.short, length-append (keyword_text k) (spaced_after words));
      variables = all.variables;
      fields = all.fields;
    }
  where
    counts : (m n : ℕ) → m ≡ n → eqb m n ≡ true
    counts m n e = grind (arith, nat_tests)

-- the line of a command with one word
pub one_word : (k : Keyword) (p : OperandKind) (w : List ℕ) (m : ℕ) → places_of k ≡ p ∷ [] → since k ≡ 1 → Stays k
    → Says p w m → length (keyword_text k) + suc m ≤ 24
    → IsPlain (record { command = keyword_text k; operands = w ∷ [] })
one_word k p w m at first stays h few =
    let all = and_says p [] w [] m 0 h none_say in
    IsPlain-command k (w ∷ []) (suc (m + 0)) (subst (λ ps. AllSay ps (w ∷ []) (suc (m + 0))) (sym at) all) first stays
    (omega arith)

-- with two
pub two_words : (k : Keyword) (p q : OperandKind) (v w : List ℕ) (m n : ℕ) → places_of k ≡ p ∷ q ∷ []
    → since k ≡ 1 → Stays k → Says p v m → Says q w n → length (keyword_text k) + suc m + suc n ≤ 24
    → IsPlain (record { command = keyword_text k; operands = v ∷ w ∷ [] })
two_words k p q v w m n at first stays h i few =
    let all = and_says p (q ∷ []) v (w ∷ []) m (suc (n + 0)) h (and_says q [] w [] n 0 i none_say) in
    let most = suc (m + suc (n + 0)) in
    IsPlain-command k (v ∷ w ∷ []) most (subst (λ ps. AllSay ps (v ∷ w ∷ []) most) (sym at) all) first stays
    (omega arith)

-- with three
pub three_words : (k : Keyword) (p q r : OperandKind) (u v w : List ℕ) (l m n : ℕ) → places_of k ≡ p ∷ q ∷ r ∷ []
    → since k ≡ 1 → Stays k → Says p u l → Says q v m → Says r w n
    → length (keyword_text k) + suc l + suc m + suc n ≤ 24
    → IsPlain (record { command = keyword_text k; operands = u ∷ v ∷ w ∷ [] })
three_words k p q r u v w l m n at first stays g h i few =
    let later = and_says q (r ∷ []) v (w ∷ []) m (suc (n + 0)) h (and_says r [] w [] n 0 i none_say) in
    let all = and_says p (q ∷ r ∷ []) u (v ∷ w ∷ []) l (suc (m + suc (n + 0))) g later in
    let most = suc (l + suc (m + suc (n + 0))) in
    IsPlain-command k (u ∷ v ∷ w ∷ []) most (subst (λ ps. AllSay ps (u ∷ v ∷ w ∷ []) most) (sym at) all) first stays
    (omega arith)

-- the line of a command with no word
pub no_word : (k : Keyword) → places_of k ≡ [] → since k ≡ 1 → Stays k → length (keyword_text k) ≤ 24
    → IsPlain (record { command = keyword_text k; operands = [] })
no_word k at first stays few =
    IsPlain-command k [] 0 (subst (λ ps. AllSay ps [] 0) (sym at) none_say) first stays (omega arith)
