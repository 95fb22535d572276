-- Bytes that are handed on and bytes that wait.
use Rattle.std.proofs.Common.{◌≡◌, ℕ, ◌+◌, ◌≤◌, List, [], ◌++◌, length}
use Rattle.std.proofs.Common.{refl, ap, sym, ◌∙◌, subst, append_assoc, append-nil, arith, length-append}
use Rattle.std.proofs.lemmas.List.{take-append-le}
use Rattle.std.proofs.Math.Seq.{take-append-add}
use Rattle.mutator.specs.declared.output.TheConstants.{OUTPUT_BYTES}
use Rattle.byte_ends.specs.Sink.{Appends, AppendsSome}
use Rattle.byte_ends.proofs.Appending.{Appends-along, Appends-none, Appends-append}
use Rattle.heap_script.specs.Runs.{CutsOff}
use Rattle.heap_script.specs.Progress.{Handed}

-- nothing was handed on, and nothing waits
pub Handed-none : (taken : List ℕ → Type 0) → Handed taken taken [] []
Handed-none taken = record { handed = []; taken = Appends-none taken; bytes = refl }

-- all waits as before
pub Handed-waiting : (taken : List ℕ → Type 0) (waiting : List ℕ) → Handed taken taken waiting waiting
Handed-waiting taken waiting = record { handed = []; taken = Appends-none taken; bytes = refl }

-- all that waited was handed on
pub Handed-all : {old new : List ℕ → Type 0} {waiting : List ℕ} → Appends old new waiting → Handed old new [] waiting
Handed-all {waiting = waiting} p = record { handed = waiting; taken = p; bytes = append-nil waiting }

-- more of what waits is handed on
pub Handed-more : {old mid new : List ℕ → Type 0} {waiting rest all : List ℕ}
    → Handed old mid waiting all → Handed mid new rest waiting → Handed old new rest all
Handed-more {rest = rest} h m = record {
  handed = h.handed ++ m.handed;
  taken = Appends-append h.taken m.taken;
  bytes = append_assoc h.handed m.handed rest ∙ ap (λ xs. h.handed ++ xs) m.bytes ∙ h.bytes;
}

-- more is told, and waits
pub Handed-told : {old new : List ℕ → Type 0} {waiting all : List ℕ} (text : List ℕ)
    → Handed old new waiting all → Handed old new (waiting ++ text) (all ++ text)
Handed-told {waiting = waiting} text h = record {
  handed = h.handed;
  taken = h.taken;
  bytes = sym (append_assoc h.handed waiting text) ∙ ap (λ xs. xs ++ text) h.bytes;
}

-- where all that waits is handed on, all is
pub Appends-handed : {old mid new : List ℕ → Type 0} {waiting all : List ℕ}
    → Handed old mid waiting all → Appends mid new waiting → Appends old new all
Appends-handed h p = Appends-along h.bytes (Appends-append h.taken p)

-- bytes whole, and then a front of what follows: how many they are
pub front-behind : {old mid new : List ℕ → Type 0} (a b : List ℕ) → Appends old mid a → (s : AppendsSome mid new b)
    → (some : AppendsSome old new (a ++ b)) × (some.count ≡ length a + s.count)
front-behind a b p s = (
  record {
    count = length a + s.count;
    short = omega (arith, length-append a b, s.short);
    front = Appends-along (sym (take-append-add a b s.count)) (Appends-append p s.front);
  },
  refl,
)

-- a front of bytes, where others follow: how many they are
pub front-longer : {old new : List ℕ → Type 0} (a b : List ℕ) → (s : AppendsSome old new a)
    → (some : AppendsSome old new (a ++ b)) × (some.count ≡ s.count)
front-longer a b s =
    let within : s.count ≤ length a = omega (arith, s.short) in (
      record {
        count = s.count;
        short = omega (arith, length-append a b, s.short);
        front = Appends-along (sym (take-append-le s.count a b within)) s.front;
      },
      refl,
    )

-- where what waits is cut off, so is all
pub CutsOff-handed : {old mid new : List ℕ → Type 0} {waiting all : List ℕ}
    → Handed old mid waiting all → CutsOff mid new waiting → CutsOff old new all
CutsOff-handed {old = old} {new = new} {waiting = waiting} h c =
    let P : List ℕ → Type 0 = λ xs. CutsOff old new xs in
    let (some, count) = front-behind h.handed waiting h.taken c.some in
    let near : length (h.handed ++ waiting) ≤ some.count + OUTPUT_BYTES =
    omega (arith, length-append h.handed waiting, c.near, count) in
    subst P h.bytes (record { some = some; near = near })
