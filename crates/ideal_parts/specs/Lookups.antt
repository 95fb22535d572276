-- What a look-up answers, and how the meaning of the commands sees what it borrows.
use Rattle.std.specs.Prelude.{◌≡◌, Option, Some, None, Result, Ok, Err}
use Rattle.heap_command.specs.declared.command.FaultWord.{FaultWord}
use Rattle.ideal_parts.specs.declared.lookups.Plain.{Plain}
use Rattle.ideal_parts.specs.declared.lookups.List.{List as Listed}
use Rattle.ideal_parts.specs.declared.lookups.Weak.{Weak as Woven}
use Rattle.object_graph.specs.Graphs.{PlainObject, ListObject, WeakObject}

-- What is sought is answered, as the meaning of the commands sees it. Where there is nothing, this fault is answered.
abbrev pub FindsAs : {A B : Type 0} → (A → B) → FaultWord → Option B → Result A FaultWord → Type 0
FindsAs seen word sought (Ok found) = sought ≡ Some (seen found)
FindsAs seen word sought (Err stop) = (sought ≡ None) × (stop ≡ word)

-- what is sought is answered, and where there is nothing this fault
abbrev pub IsLookup : {A : Type 0} → FaultWord → Option A → Result A FaultWord → Type 0
IsLookup word sought answer = FindsAs (λ found. found) word sought answer

-- a borrowed plain object, as the meaning of the commands sees it
abbrev pub seen_plain : Plain → PlainObject
seen_plain plain = record {
  number = plain.number;
  cap = plain.cap;
  proto = plain.proto;
  fields = plain.fields.now;
}

-- a borrowed list
abbrev pub seen_list : Listed → ListObject
seen_list list = record { number = list.number; elements = list.elements.now }

-- a borrowed weak map
abbrev pub seen_weak : Woven → WeakObject
seen_weak weak = record { number = weak.number; entries = weak.entries.now }
