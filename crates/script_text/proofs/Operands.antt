-- The operands of a statement, one token after another.
use Rattle.std.proofs.Common.{◌≡◌, ℕ, suc, ◌+◌, ◌<◌, List, [], ◌∷◌, ◌++◌, length, map, take, drop, set}
use Rattle.std.proofs.Common.{get_or, drop-cons, Result, Ok, Err, Bor, refl, sym, ap, ◌∙◌, append_assoc, arith}
use Rattle.std.proofs.Math.Seq.{drop-length}
use Rattle.std.proofs.lemmas.List.{append-nil, map-append, take_more_set}
use Rattle.script_text.specs.declared.script.Why.{Why}
use Rattle.script_text.specs.declared.table.OperandKind.{OperandKind}
use Rattle.script_text.specs.declared.statement.RawOperand.{RawOperand as Slice}
use Rattle.script_text.specs.Statements.{RawOperand, written_at, written_all, joined}
use Rattle.script_text.specs.Shown.{shown}

-- what was written, and then the rest
abbrev pub after : List RawOperand → Result (List RawOperand) Why → Result (List RawOperand) Why
after done (Ok more) = Ok (done ++ more)
after done (Err why) = Err why

-- an operand before the rest comes after what was written
after-joined : (done : List RawOperand) (written : RawOperand) (rest : Result (List RawOperand) Why)
    → after done (joined (Ok written) rest) ≡ after (done ++ written ∷ []) rest
after-joined done written (Err why) = refl
after-joined done written (Ok more) = ap Ok (sym (append_assoc done (written ∷ []) more))

-- one more operand was written
pub after-more :
    (done : List RawOperand) (place : OperandKind) (token : List ℕ) (written : RawOperand) (places : List OperandKind)
    (tokens : List (List ℕ))
    → written_at place token ≡ Ok written
    → after done (written_all (place ∷ places) (token ∷ tokens))
    ≡ after (done ++ written ∷ []) (written_all places tokens)
after-more done place token written places tokens e =
    ap (λ first. after done (joined first (written_all places tokens))) e
    ∙ after-joined done written (written_all places tokens)

-- an operand may not stand at its place
pub after-refused :
    (done : List RawOperand) (place : OperandKind) (token : List ℕ) (why : Why) (places : List OperandKind)
    (tokens : List (List ℕ))
    → written_at place token ≡ Err why
    → after done (written_all (place ∷ places) (token ∷ tokens)) ≡ Err why
after-refused done place token why places tokens e =
    ap (λ first. after done (joined first (written_all places tokens))) e

-- the bytes of tokens
abbrev bytes_of : List (Bor (List ℕ)) → List (List ℕ)
bytes_of tokens = map (λ token. token.now) tokens

-- what is said of operands where so many were written: with those of the rest they are all
abbrev pub Reads : List Slice → List OperandKind → List (Bor (List ℕ)) → ℕ → Type 0
Reads operands places tokens i =
    after (map shown (take i operands)) (written_all (drop i places) (map (λ token. token.now) (drop i tokens)))
    ≡ written_all places (map (λ token. token.now) tokens)

-- the places and the tokens from one on
read-cons :
    (done : List RawOperand) (places : List OperandKind) (tokens : List (Bor (List ℕ))) (i : ℕ) (place : OperandKind)
    (token : Bor (List ℕ))
    → i < length places → i < length tokens
    → after done (written_all (drop i places) (bytes_of (drop i tokens)))
    ≡ after done
    (written_all (get_or places i place ∷ drop (i + 1) places)
    ((get_or tokens i token).now ∷ bytes_of (drop (i + 1) tokens)))
read-cons done places tokens i place token lt below =
    let next : suc i ≡ i + 1 = omega arith in
    ap (λ ps. after done (written_all ps (bytes_of (drop i tokens)))) (drop-cons places i place lt)
    ∙ ap (λ ts. after done (written_all (get_or places i place ∷ drop (suc i) places) (bytes_of ts)))
    (drop-cons tokens i token below)
    ∙ ap (λ n. after done
    (written_all (get_or places i place ∷ drop n places) ((get_or tokens i token).now ∷ bytes_of (drop n tokens)))) next

-- one more operand was written
pub Reads-more : (operands : List Slice) (places : List OperandKind) (tokens : List (Bor (List ℕ))) (i : ℕ)
    (place : OperandKind)
    (token : Bor (List ℕ)) (written : Slice)
    → i < length places → i < length tokens → i < length operands
    → written_at (get_or places i place) (get_or tokens i token).now ≡ Ok (shown written)
    → Reads operands places tokens i → Reads (set operands i written) places tokens (i + 1)
Reads-more operands places tokens i place token written lt below room e h =
    let done = map shown (take i operands) in
    let rest = written_all (drop (i + 1) places) (bytes_of (drop (i + 1) tokens)) in
    ap (λ some. after (map shown some) rest) (take_more_set operands i written room)
    ∙ ap (λ some. after some rest) (map-append shown (take i operands) (written ∷ []))
    ∙ sym (after-more done (get_or places i place) (get_or tokens i token).now (shown written) (drop (i + 1) places)
    (bytes_of (drop (i + 1) tokens)) e)
    ∙ sym (read-cons done places tokens i place token lt below) ∙ h

-- an operand may not stand at its place
pub Reads-refused : (operands : List Slice) (places : List OperandKind) (tokens : List (Bor (List ℕ))) (i : ℕ)
    (place : OperandKind) (token : Bor (List ℕ)) (why : Why)
    → i < length places → i < length tokens → written_at (get_or places i place) (get_or tokens i token).now ≡ Err why
    → Reads operands places tokens i → written_all places (bytes_of tokens) ≡ Err why
Reads-refused operands places tokens i place token why lt below e h =
    let done = map shown (take i operands) in
    sym h ∙ read-cons done places tokens i place token lt below
    ∙ after-refused done (get_or places i place) (get_or tokens i token).now why (drop (i + 1) places)
    (bytes_of (drop (i + 1) tokens)) e

-- all operands were written
pub Reads-all : (operands : List Slice) (places : List OperandKind) (tokens : List (Bor (List ℕ))) (i : ℕ)
    → i ≡ length places
    → Reads operands places tokens i
    → written_all places (bytes_of tokens) ≡ Ok (map shown (take (length places) operands))
Reads-all operands places tokens i e h =
    let rest = bytes_of (drop i tokens) in
    sym h
    ∙ ap (λ ps. after (map shown (take i operands)) (written_all ps rest))
    (ap (λ n. drop n places) e ∙ drop-length places)
    ∙ ap Ok (append-nil (map shown (take i operands))) ∙ ap (λ n. Ok (map shown (take n operands))) e
