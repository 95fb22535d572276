-- Which numbers a command names, and how the faults are written.
use Rattle.std.specs.Prelude.{ℕ, ◌<◌, ◌≤◌, codes}
use Rattle.std.specs.Prelude.{List as Row}
use Rattle.heap_command.specs.declared.command.Operand.{Operand}
use Rattle.heap_command.specs.declared.command.Operand.TheVariants.{Int, Undefined, Var}
use Rattle.heap_command.specs.declared.command.Command.{Command}
use Rattle.heap_command.specs.declared.command.Command.TheVariants.{New, List, Weak, LetValue, DropVar, Add, Set, Get}
use Rattle.heap_command.specs.declared.command.Command.TheVariants.{Del, Proto, Push, Put, At, Shift, Trunc, WPut, WGet}
use Rattle.heap_command.specs.declared.command.Command.TheVariants.{WDel, Print, Same, Alike, Shape, Scavenge, Mark}
use Rattle.heap_command.specs.declared.command.Command.TheVariants.{Finish, Gc, Census}
use Rattle.heap_command.specs.declared.command.FaultWord.{FaultWord}
use Rattle.heap_command.specs.declared.command.FaultWord.TheVariants.{Unbound, NotObject, NotList, NotWeak, NotInt}
use Rattle.heap_command.specs.declared.command.FaultWord.TheVariants.{BadKey, Range, Overflow, FieldsFull, ListFull}
use Rattle.heap_command.specs.declared.command.FaultWord.TheVariants.{WeakFull, ShapesFull, Ring}

-- a variable that the operand names is below this count
abbrev pub NamesBelow : ℕ → Operand → Type 0
NamesBelow variables (Int v) = Unit {0}
NamesBelow variables Undefined = Unit {0}
NamesBelow variables (Var x) = x < variables

-- the most slots of its own that a command gives an object, which is the most that an object may have
abbrev pub cap_most : ℕ
cap_most = 8

-- the variables and the fields that the command names are below these counts, and a cap is within its limit
abbrev pub IsWithin : ℕ → ℕ → Command → Type 0
IsWithin variables fields (New x cap) = (x < variables) × (cap ≤ cap_most)
IsWithin variables fields (List x) = x < variables
IsWithin variables fields (Weak x) = x < variables
IsWithin variables fields (LetValue x v) = (x < variables) × NamesBelow variables v
IsWithin variables fields (DropVar x) = x < variables
IsWithin variables fields (Add x v) = (x < variables) × NamesBelow variables v
IsWithin variables fields (Set x f v) = (x < variables) × (f < fields) × NamesBelow variables v
IsWithin variables fields (Get y x f) = (y < variables) × (x < variables) × (f < fields)
IsWithin variables fields (Del x f) = (x < variables) × (f < fields)
IsWithin variables fields (Proto x v) = (x < variables) × NamesBelow variables v
IsWithin variables fields (Push x v) = (x < variables) × NamesBelow variables v
IsWithin variables fields (Put x i v) = (x < variables) × NamesBelow variables i × NamesBelow variables v
IsWithin variables fields (At y x i) = (y < variables) × (x < variables) × NamesBelow variables i
IsWithin variables fields (Shift x n) = (x < variables) × NamesBelow variables n
IsWithin variables fields (Trunc x n) = (x < variables) × NamesBelow variables n
IsWithin variables fields (WPut m k v) = (m < variables) × NamesBelow variables k × NamesBelow variables v
IsWithin variables fields (WGet y m k) = (y < variables) × (m < variables) × NamesBelow variables k
IsWithin variables fields (WDel m k) = (m < variables) × NamesBelow variables k
IsWithin variables fields (Print v) = NamesBelow variables v
IsWithin variables fields (Same a b) = NamesBelow variables a × NamesBelow variables b
IsWithin variables fields (Alike x y) = (x < variables) × (y < variables)
IsWithin variables fields (Shape x) = x < variables
IsWithin variables fields Scavenge = Unit {0}
IsWithin variables fields Mark = Unit {0}
IsWithin variables fields Finish = Unit {0}
IsWithin variables fields Gc = Unit {0}
IsWithin variables fields Census = Unit {0}

-- a fault as it is written
abbrev pub fault_text : FaultWord → Row ℕ
fault_text Unbound = codes "unbound"
fault_text NotObject = codes "notobject"
fault_text NotList = codes "notlist"
fault_text NotWeak = codes "notweak"
fault_text NotInt = codes "notint"
fault_text BadKey = codes "badkey"
fault_text Range = codes "range"
fault_text Overflow = codes "overflow"
fault_text FieldsFull = codes "fieldsfull"
fault_text ListFull = codes "listfull"
fault_text WeakFull = codes "weakfull"
fault_text ShapesFull = codes "shapesfull"
fault_text Ring = codes "ring"
