-- Lines that each end with a line feed are the lines of their text.
use Rattle.std.proofs.Common.{◌≡◌, ℕ, Bool, true, false, cond, List, [], ◌∷◌, ◌++◌, refl, ap}
use Rattle.std.proofs.Common.{◌∙◌, append_assoc}
use Rattle.script_text.specs.Lines.{onto_first, lines_of}
use Rattle.script_laws.specs.Canonical.{ended}
use Rattle.script_laws.proofs.Spacing.{Avoids, AllAvoid, AllAvoid-onto_first, is_feed}

-- a line and a line feed
lines_of-line : (line rest : List ℕ) → Avoids is_feed line → lines_of (line ++ 10 ∷ rest) ≡ line ∷ lines_of rest
lines_of-line [] rest h = refl
lines_of-line (b ∷ bs) rest h =
    ap (λ v. cond v ([] ∷ lines_of (bs ++ 10 ∷ rest)) (onto_first b (lines_of (bs ++ 10 ∷ rest)))) h.0
    ∙ ap (onto_first b) (lines_of-line bs rest h.1)

-- lines that each end with a line feed are the lines of their text
pub lines_of-ended : (lines : List (List ℕ)) → AllAvoid is_feed lines → lines_of (ended lines) ≡ lines
lines_of-ended [] h = refl
lines_of-ended (line ∷ lines) h =
    ap lines_of (append_assoc line (10 ∷ []) (ended lines)) ∙ lines_of-line line (ended lines) h.0
    ∙ ap (λ rest. line ∷ rest) (lines_of-ended lines h.1)

-- a line feed ends a line, and any other byte belongs to one
feed-test : (b : ℕ) (v : Bool) (lines : List (List ℕ)) → is_feed b ≡ v → AllAvoid is_feed lines
    → AllAvoid is_feed (cond v ([] ∷ lines) (onto_first b lines))
feed-test b true lines e h = (tt, h)
feed-test b false lines e h = AllAvoid-onto_first is_feed b lines e h

-- a line has no line feed
pub feed-lines_of : (source : List ℕ) → AllAvoid is_feed (lines_of source)
feed-lines_of [] = tt
feed-lines_of (b ∷ bs) = feed-test b (is_feed b) (lines_of bs) refl (feed-lines_of bs)
