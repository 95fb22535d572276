-- The table of the commands: the word of each, and what its operands are.
use Rattle.std.specs.Prelude.{ℕ, Option, Some, None, codes, bytes_eq, nat_le, filter, if◌then◌else◌, List as Row, []}
use Rattle.std.specs.Prelude.{◌∷◌}
use Rattle.heap_command.specs.Commands.{cap_most}
use Rattle.script_text.specs.Limits.{turns_most}
use Rattle.script_text.specs.declared.table.Keyword.{Keyword}
use Rattle.script_text.specs.declared.table.Keyword.TheVariants.{New, List, Weak, Let, Drop, Add, Set, Get, Del}
use Rattle.script_text.specs.declared.table.Keyword.TheVariants.{Proto, Push, Put, At, Shift, Trunc, WPut, WGet, WDel}
use Rattle.script_text.specs.declared.table.Keyword.TheVariants.{Print, Same, Alike, Shape, Repeat, End, Scavenge, Mark}
use Rattle.script_text.specs.declared.table.Keyword.TheVariants.{Finish, Gc, Census}
use Rattle.script_text.specs.declared.table.OperandKind.{OperandKind}
use Rattle.script_text.specs.declared.table.OperandKind.TheVariants.{Variable, Field, Value, Literal}

-- the word of a command
abbrev pub keyword_text : Keyword → Row ℕ
keyword_text New = codes "new"
keyword_text List = codes "list"
keyword_text Weak = codes "weak"
keyword_text Let = codes "let"
keyword_text Drop = codes "drop"
keyword_text Add = codes "add"
keyword_text Set = codes "set"
keyword_text Get = codes "get"
keyword_text Del = codes "del"
keyword_text Proto = codes "proto"
keyword_text Push = codes "push"
keyword_text Put = codes "put"
keyword_text At = codes "at"
keyword_text Shift = codes "shift"
keyword_text Trunc = codes "trunc"
keyword_text WPut = codes "wput"
keyword_text WGet = codes "wget"
keyword_text WDel = codes "wdel"
keyword_text Print = codes "print"
keyword_text Same = codes "same"
keyword_text Alike = codes "alike"
keyword_text Shape = codes "shape"
keyword_text Repeat = codes "repeat"
keyword_text End = codes "end"
keyword_text Scavenge = codes "scavenge"
keyword_text Mark = codes "mark"
keyword_text Finish = codes "finish"
keyword_text Gc = codes "gc"
keyword_text Census = codes "census"

-- all commands
abbrev pub keywords : Row Keyword
keywords =
    New ∷ List ∷ Weak ∷ Let ∷ Drop ∷ Add ∷ Set ∷ Get ∷ Del ∷ Proto ∷ Push ∷ Put ∷ At ∷ Shift ∷ Trunc
    ∷ WPut ∷ WGet ∷ WDel ∷ Print
    ∷ Same ∷ Alike ∷ Shape ∷ Repeat ∷ End ∷ Scavenge ∷ Mark ∷ Finish ∷ Gc ∷ Census ∷ []

-- the first version that has the command
abbrev pub since : Keyword → ℕ
since New = 1
since List = 1
since Weak = 1
since Let = 1
since Drop = 1
since Add = 1
since Set = 1
since Get = 1
since Del = 1
since Proto = 2
since Push = 1
since Put = 1
since At = 1
since Shift = 1
since Trunc = 1
since WPut = 1
since WGet = 1
since WDel = 1
since Print = 1
since Same = 1
since Alike = 1
since Shape = 1
since Repeat = 1
since End = 1
since Scavenge = 1
since Mark = 1
since Finish = 1
since Gc = 1
since Census = 1

-- the commands of a version
unfoldable pub keywords_of : ℕ → Row Keyword
keywords_of version = filter (λ keyword. nat_le (since keyword) version) keywords

-- what the operands of a command are, in order
abbrev pub places_of : Keyword → Row OperandKind
places_of New = Variable ∷ Literal cap_most ∷ []
places_of List = Variable ∷ []
places_of Weak = Variable ∷ []
places_of Let = Variable ∷ Value ∷ []
places_of Drop = Variable ∷ []
places_of Add = Variable ∷ Value ∷ []
places_of Set = Variable ∷ Field ∷ Value ∷ []
places_of Get = Variable ∷ Variable ∷ Field ∷ []
places_of Del = Variable ∷ Field ∷ []
places_of Proto = Variable ∷ Value ∷ []
places_of Push = Variable ∷ Value ∷ []
places_of Put = Variable ∷ Value ∷ Value ∷ []
places_of At = Variable ∷ Variable ∷ Value ∷ []
places_of Shift = Variable ∷ Value ∷ []
places_of Trunc = Variable ∷ Value ∷ []
places_of WPut = Variable ∷ Value ∷ Value ∷ []
places_of WGet = Variable ∷ Variable ∷ Value ∷ []
places_of WDel = Variable ∷ Value ∷ []
places_of Print = Value ∷ []
places_of Same = Value ∷ Value ∷ []
places_of Alike = Variable ∷ Variable ∷ []
places_of Shape = Variable ∷ []
places_of Repeat = Literal turns_most ∷ []
places_of _ = []

-- the command with this word, if it is one of these
abbrev pub keyword_among : Row Keyword → Row ℕ → Option Keyword
keyword_among [] token = None
keyword_among (keyword ∷ more) token =
    if bytes_eq token (keyword_text keyword) then Some keyword else keyword_among more token
