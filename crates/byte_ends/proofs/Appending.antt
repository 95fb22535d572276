-- How the bytes of several writes join, and what is left of them where one fails.
use Rattle.std.proofs.Common.{◌≡◌, ℕ, ◌+◌, ◌<◌, ◌≤◌, List, [], ◌++◌, length, take, drop, sym, ap, subst}
use Rattle.std.proofs.Common.{◌∙◌, append_assoc, arith, length-append}
use Rattle.std.proofs.Math.Seq.{take-add, take-append-add}
use Rattle.std.proofs.lemmas.List.{append-nil, take-append-le}
use Rattle.byte_ends.specs.Sink.{Takes, TakesNothing, Appends, AppendsSome}

-- the same bytes under another name
pub Appends-along : {old new : List ℕ → Type 0} {a b : List ℕ} → a ≡ b → Appends old new a → Appends old new b
Appends-along {old = old} {new = new} e p = let P : List ℕ → Type 0 = λ xs. Appends old new xs in subst P e p

-- no bytes are appended where nothing changes
pub Appends-none : (taken : List ℕ → Type 0) → Appends taken taken []
Appends-none taken = record {
  appended = λ before h. let P : List ℕ → Type 0 = λ xs. taken xs in subst P (sym (append-nil before)) h;
}

-- these bytes, and then nothing more
pub Appends-keeps : {old mid new : List ℕ → Type 0} {bytes : List ℕ}
    → Appends old mid bytes → TakesNothing mid new → Appends old new bytes
Appends-keeps {bytes = bytes} p k = record { appended = λ before h. k.kept (before ++ bytes) (p.appended before h) }

-- one piece behind another
pub Appends-append : {old mid new : List ℕ → Type 0} {a b : List ℕ}
    → Appends old mid a → Appends mid new b → Appends old new (a ++ b)
Appends-append {new = new} {a = a} {b = b} p q = record {
  appended = λ before h. let P : List ℕ → Type 0 = λ xs. new xs in
      subst P (append_assoc before a b) (q.appended (before ++ a) (p.appended before h));
}

-- a write more of what follows in the piece
pub Appends-takes : {old mid new : List ℕ → Type 0} (piece rest : List ℕ) (i : ℕ) {n : ℕ}
    → Appends old mid (take i piece) → rest ≡ drop i piece → Takes mid new rest n
    → Appends old new (take (i + n) piece)
Appends-takes {mid = mid} {new = new} piece rest i {n = n} p e t =
    let took : Appends mid new (take n rest) = record { appended = t.taken } in
    let whole : take i piece ++ take n rest ≡ take (i + n) piece =
    ap (λ xs. take i piece ++ take n xs) e ∙ sym (take-add i n piece) in
    Appends-along whole (Appends-append p took)

-- a piece of which nothing was taken: its front of no bytes
pub AppendsSome-none : {old new : List ℕ → Type 0} (bytes : List ℕ)
    → 0 < length bytes → TakesNothing old new → AppendsSome old new bytes
AppendsSome-none bytes some k = record { count = 0; short = some; front = Appends-keeps (Appends-none _) k }

-- a front of a piece is a front of whatever begins with the piece
pub AppendsSome-longer : {old new : List ℕ → Type 0} {a : List ℕ} (b : List ℕ)
    → AppendsSome old new a → AppendsSome old new (a ++ b)
AppendsSome-longer {a = a} b s =
    let within : s.count ≤ length a = omega (arith, s.short) in
    record {
      count = s.count;
      short = omega (arith, length-append a b, s.short);
      front = Appends-along (sym (take-append-le s.count a b within)) s.front;
    }

-- a piece whole, and of the next one a front
pub AppendsSome-append : {old mid new : List ℕ → Type 0} {a b : List ℕ}
    → Appends old mid a → AppendsSome mid new b → AppendsSome old new (a ++ b)
AppendsSome-append {a = a} {b = b} p s = record {
  count = length a + s.count;
  short = omega (arith, length-append a b, s.short);
  front = Appends-along (sym (take-append-add a b s.count)) (Appends-append p s.front);
}

-- a piece whole, and none of the next one
pub AppendsSome-whole : {old new : List ℕ → Type 0} {a : List ℕ} (b : List ℕ)
    → 0 < length b → Appends old new a → AppendsSome old new (a ++ b)
AppendsSome-whole {new = new} b some p =
    AppendsSome-append p (AppendsSome-none b some (record { kept = λ before h. h }))

-- the outcomes of writes joined, as a set for tactics
pub ruleset joins = (Appends-none, Appends-append, AppendsSome-longer, AppendsSome-append, AppendsSome-whole)
