use Rattle.std.proofs.Common.{◌≡◌, ℕ, List, ◌-◌, length, take, drop, slice_get, option_map, sym, ap, ◌∙◌}
use Rattle.std.proofs.lemmas.List.{take_rest}
use Rattle.script_text.specs.Lines.{tokens_of}
use Rattle.script_text.proofs.Scanning.{blanks, no_next, next}
use Rattle.script_text.proofs.cursor.Tokens.take_next.Goals as goal
use Rattle.script_text.proofs.cursor.Tokens.take_next.Goals.{then-end-eq0, else-end-eq0}

-- what has not been read, without the blanks that it begins with
text : goal.Joined-end-eq0 → List ℕ
text c = take (length c.self.inside.rest.now - c.blanks.result) (drop c.blanks.result c.self.inside.rest.now)

text-past_blanks : (c : goal.Joined-end-eq0) → text c ≡ drop (blanks c.self.inside.rest.now) c.self.inside.rest.now
unfolding text
text-past_blanks c =
    take_rest c.self.inside.rest.now c.blanks.result ∙ ap (λ n. drop n c.self.inside.rest.now) c.blanks.ensures.counted

pub returns-clause-taken : goal.returns-clause-taken
unfolding text
returns-clause-taken c =
    let line = c.self.inside.rest.now in
    let end = c.token_len-end.result in
    elim c.if-end-eq0.branch [
      | then-end-eq0 w ↦
          let none = no_next line (text c) end (text-past_blanks c) c.token_len-end.ensures.counted w.if-end-eq0.true in
          ap (option_map (λ token. token.now)) w.result-is
          ∙ ap (λ tokens. slice_get tokens 0) (sym none.0 ∙ c.self.view_is)
      | else-end-eq0 w ↦
          let some = next line (text c) end (text-past_blanks c) c.token_len-end.ensures.counted w.if-end-eq0.false in
          ap (option_map (λ token. token.now)) w.result-is
          ∙ ap (λ tokens. slice_get tokens 0) (sym some ∙ c.self.view_is)
    ]

pub returns-clause-rest : goal.returns-clause-rest
unfolding text
returns-clause-rest c =
    let line = c.self.inside.rest.now in
    let end = c.token_len-end.result in
    elim c.if-end-eq0.branch [
      | then-end-eq0 w ↦
          let none = no_next line (text c) end (text-past_blanks c) c.token_len-end.ensures.counted w.if-end-eq0.true in
          ap tokens_of (take_rest (text c) end) ∙ none.1 ∙ ap (drop 1) (sym none.0 ∙ c.self.view_is)
      | else-end-eq0 w ↦
          let some = next line (text c) end (text-past_blanks c) c.token_len-end.ensures.counted w.if-end-eq0.false in
          ap tokens_of (take_rest (text c) end) ∙ ap (drop 1) (sym some ∙ c.self.view_is)
    ]
