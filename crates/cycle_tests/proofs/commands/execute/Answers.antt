-- Each command leaves the heap ready, and the phase as it was.
use Rattle.std.proofs.Common.{refl}
use Rattle.heap_command.specs.declared.command.Command.TheVariants as command
use Rattle.cycle_tests.proofs.Carried.{kept_ready, made_ready}
use Rattle.cycle_tests.proofs.commands.execute.Goals as goal

pub new_plain-requires-clause-shown : goal.new_plain-requires-clause-shown
new_plain-requires-clause-shown c = (c.requires.ready.graph, c.requires.ready.shows, c.requires.ready.counted)

pub new_list-requires-clause-shown : goal.new_list-requires-clause-shown
new_list-requires-clause-shown c = (c.requires.ready.graph, c.requires.ready.shows, c.requires.ready.counted)

pub new_weak-requires-clause-shown : goal.new_weak-requires-clause-shown
new_weak-requires-clause-shown c = (c.requires.ready.graph, c.requires.ready.shows, c.requires.ready.counted)

pub let_value-requires-clause-shown : goal.let_value-requires-clause-shown
let_value-requires-clause-shown c = (c.requires.ready.graph, c.requires.ready.shows)

pub drop_var-requires-clause-shown : goal.drop_var-requires-clause-shown
drop_var-requires-clause-shown c = (c.requires.ready.graph, c.requires.ready.shows)

pub set-requires-clause-shown : goal.set-requires-clause-shown
set-requires-clause-shown c = (c.requires.ready.graph, c.requires.ready.shows)

pub get-requires-clause-shown : goal.get-requires-clause-shown
get-requires-clause-shown c = (c.requires.ready.graph, c.requires.ready.shows)

pub del-requires-clause-shown : goal.del-requires-clause-shown
del-requires-clause-shown c = (c.requires.ready.graph, c.requires.ready.shows)

pub proto-requires-clause-shown : goal.proto-requires-clause-shown
proto-requires-clause-shown c = (c.requires.ready.graph, c.requires.ready.shows)

pub push-requires-clause-shown : goal.push-requires-clause-shown
push-requires-clause-shown c = (c.requires.ready.graph, c.requires.ready.shows)

pub put-requires-clause-shown : goal.put-requires-clause-shown
put-requires-clause-shown c = (c.requires.ready.graph, c.requires.ready.shows)

pub at-requires-clause-shown : goal.at-requires-clause-shown
at-requires-clause-shown c = (c.requires.ready.graph, c.requires.ready.shows)

pub shift-requires-clause-shown : goal.shift-requires-clause-shown
shift-requires-clause-shown c = (c.requires.ready.graph, c.requires.ready.shows)

pub trunc-requires-clause-shown : goal.trunc-requires-clause-shown
trunc-requires-clause-shown c = (c.requires.ready.graph, c.requires.ready.shows)

pub wput-requires-clause-shown : goal.wput-requires-clause-shown
wput-requires-clause-shown c = (c.requires.ready.graph, c.requires.ready.shows)

pub wget-requires-clause-shown : goal.wget-requires-clause-shown
wget-requires-clause-shown c = (c.requires.ready.graph, c.requires.ready.shows)

pub wdel-requires-clause-shown : goal.wdel-requires-clause-shown
wdel-requires-clause-shown c = (c.requires.ready.graph, c.requires.ready.shows)

pub returns-in-New-clause-ready : goal.returns-in-New-clause-ready
returns-in-New-clause-ready c =
    (made_ready c.args.main.now c.new_plain.new.main c.args.objects.now c.counted.new.objects
    (command.New c.in-New.x c.in-New.cap) c.new_plain.result refl c.counted.ensures.counted c.requires.ready
    c.new_plain.ensures.carried).ready

pub returns-in-New-clause-phase : goal.returns-in-New-clause-phase
returns-in-New-clause-phase c =
    (made_ready c.args.main.now c.new_plain.new.main c.args.objects.now c.counted.new.objects
    (command.New c.in-New.x c.in-New.cap) c.new_plain.result refl c.counted.ensures.counted c.requires.ready
    c.new_plain.ensures.carried).phase

pub returns-in-List-clause-ready : goal.returns-in-List-clause-ready
returns-in-List-clause-ready c =
    (made_ready c.args.main.now c.new_list.new.main c.args.objects.now c.counted-in-List.new.objects
    (command.List c.in-List.x) c.new_list.result refl c.counted-in-List.ensures.counted c.requires.ready
    c.new_list.ensures.carried).ready

pub returns-in-List-clause-phase : goal.returns-in-List-clause-phase
returns-in-List-clause-phase c =
    (made_ready c.args.main.now c.new_list.new.main c.args.objects.now c.counted-in-List.new.objects
    (command.List c.in-List.x) c.new_list.result refl c.counted-in-List.ensures.counted c.requires.ready
    c.new_list.ensures.carried).phase

pub returns-in-Weak-clause-ready : goal.returns-in-Weak-clause-ready
returns-in-Weak-clause-ready c =
    (made_ready c.args.main.now c.new_weak.new.main c.args.objects.now c.counted-in-Weak.new.objects
    (command.Weak c.in-Weak.x) c.new_weak.result refl c.counted-in-Weak.ensures.counted c.requires.ready
    c.new_weak.ensures.carried).ready

pub returns-in-Weak-clause-phase : goal.returns-in-Weak-clause-phase
returns-in-Weak-clause-phase c =
    (made_ready c.args.main.now c.new_weak.new.main c.args.objects.now c.counted-in-Weak.new.objects
    (command.Weak c.in-Weak.x) c.new_weak.result refl c.counted-in-Weak.ensures.counted c.requires.ready
    c.new_weak.ensures.carried).phase

pub returns-in-LetValue-clause-ready : goal.returns-in-LetValue-clause-ready
returns-in-LetValue-clause-ready c =
    (kept_ready c.args.main.now c.let_value.new.main c.args.objects.now
    (command.LetValue c.in-LetValue.x c.in-LetValue.v) c.let_value.result refl
    c.requires.ready c.let_value.ensures.carried).ready

pub returns-in-LetValue-clause-phase : goal.returns-in-LetValue-clause-phase
returns-in-LetValue-clause-phase c =
    (kept_ready c.args.main.now c.let_value.new.main c.args.objects.now
    (command.LetValue c.in-LetValue.x c.in-LetValue.v) c.let_value.result refl
    c.requires.ready c.let_value.ensures.carried).phase

pub returns-in-DropVar-clause-ready : goal.returns-in-DropVar-clause-ready
returns-in-DropVar-clause-ready c =
    (kept_ready c.args.main.now c.drop_var.new.main c.args.objects.now
    (command.DropVar c.in-DropVar.x) c.drop_var.result refl c.requires.ready c.drop_var.ensures.carried).ready

pub returns-in-DropVar-clause-phase : goal.returns-in-DropVar-clause-phase
returns-in-DropVar-clause-phase c =
    (kept_ready c.args.main.now c.drop_var.new.main c.args.objects.now
    (command.DropVar c.in-DropVar.x) c.drop_var.result refl c.requires.ready c.drop_var.ensures.carried).phase

pub returns-in-Set-clause-ready : goal.returns-in-Set-clause-ready
returns-in-Set-clause-ready c =
    (kept_ready c.args.main.now c.set.new.main c.args.objects.now
    (command.Set c.in-Set.x c.in-Set.f c.in-Set.v) c.set.ensures.carried.0 refl
    c.requires.ready c.set.ensures.carried.2).ready

pub returns-in-Set-clause-phase : goal.returns-in-Set-clause-phase
returns-in-Set-clause-phase c =
    (kept_ready c.args.main.now c.set.new.main c.args.objects.now
    (command.Set c.in-Set.x c.in-Set.f c.in-Set.v) c.set.ensures.carried.0 refl
    c.requires.ready c.set.ensures.carried.2).phase

pub returns-in-Get-clause-ready : goal.returns-in-Get-clause-ready
returns-in-Get-clause-ready c =
    (kept_ready c.args.main.now c.get.new.main c.args.objects.now
    (command.Get c.in-Get.y c.in-Get.x c.in-Get.f) c.get.ensures.carried.0 refl
    c.requires.ready c.get.ensures.carried.2).ready

pub returns-in-Get-clause-phase : goal.returns-in-Get-clause-phase
returns-in-Get-clause-phase c =
    (kept_ready c.args.main.now c.get.new.main c.args.objects.now
    (command.Get c.in-Get.y c.in-Get.x c.in-Get.f) c.get.ensures.carried.0 refl
    c.requires.ready c.get.ensures.carried.2).phase

pub returns-in-Del-clause-ready : goal.returns-in-Del-clause-ready
returns-in-Del-clause-ready c =
    (kept_ready c.args.main.now c.del.new.main c.args.objects.now
    (command.Del c.in-Del.x c.in-Del.f) c.del.result refl c.requires.ready c.del.ensures.carried).ready

pub returns-in-Del-clause-phase : goal.returns-in-Del-clause-phase
returns-in-Del-clause-phase c =
    (kept_ready c.args.main.now c.del.new.main c.args.objects.now
    (command.Del c.in-Del.x c.in-Del.f) c.del.result refl c.requires.ready c.del.ensures.carried).phase

pub returns-in-Proto-clause-ready : goal.returns-in-Proto-clause-ready
returns-in-Proto-clause-ready c =
    (kept_ready c.args.main.now c.proto.new.main c.args.objects.now
    (command.Proto c.in-Proto.x c.in-Proto.v) c.proto.result refl c.requires.ready c.proto.ensures.carried).ready

pub returns-in-Proto-clause-phase : goal.returns-in-Proto-clause-phase
returns-in-Proto-clause-phase c =
    (kept_ready c.args.main.now c.proto.new.main c.args.objects.now
    (command.Proto c.in-Proto.x c.in-Proto.v) c.proto.result refl c.requires.ready c.proto.ensures.carried).phase

pub returns-in-Push-clause-ready : goal.returns-in-Push-clause-ready
returns-in-Push-clause-ready c =
    (kept_ready c.args.main.now c.push.new.main c.args.objects.now
    (command.Push c.in-Push.x c.in-Push.v) c.push.result refl c.requires.ready c.push.ensures.carried).ready

pub returns-in-Push-clause-phase : goal.returns-in-Push-clause-phase
returns-in-Push-clause-phase c =
    (kept_ready c.args.main.now c.push.new.main c.args.objects.now
    (command.Push c.in-Push.x c.in-Push.v) c.push.result refl c.requires.ready c.push.ensures.carried).phase

pub returns-in-Put-clause-ready : goal.returns-in-Put-clause-ready
returns-in-Put-clause-ready c =
    (kept_ready c.args.main.now c.put.new.main c.args.objects.now
    (command.Put c.in-Put.x c.in-Put.i c.in-Put.v) c.put.result refl c.requires.ready c.put.ensures.carried).ready

pub returns-in-Put-clause-phase : goal.returns-in-Put-clause-phase
returns-in-Put-clause-phase c =
    (kept_ready c.args.main.now c.put.new.main c.args.objects.now
    (command.Put c.in-Put.x c.in-Put.i c.in-Put.v) c.put.result refl c.requires.ready c.put.ensures.carried).phase

pub returns-in-At-clause-ready : goal.returns-in-At-clause-ready
returns-in-At-clause-ready c =
    (kept_ready c.args.main.now c.at.new.main c.args.objects.now
    (command.At c.in-At.y c.in-At.x c.in-At.i) c.at.result refl c.requires.ready c.at.ensures.carried).ready

pub returns-in-At-clause-phase : goal.returns-in-At-clause-phase
returns-in-At-clause-phase c =
    (kept_ready c.args.main.now c.at.new.main c.args.objects.now
    (command.At c.in-At.y c.in-At.x c.in-At.i) c.at.result refl c.requires.ready c.at.ensures.carried).phase

pub returns-in-Shift-clause-ready : goal.returns-in-Shift-clause-ready
returns-in-Shift-clause-ready c =
    (kept_ready c.args.main.now c.shift.new.main c.args.objects.now
    (command.Shift c.in-Shift.x c.in-Shift.n) c.shift.result refl c.requires.ready c.shift.ensures.carried).ready

pub returns-in-Shift-clause-phase : goal.returns-in-Shift-clause-phase
returns-in-Shift-clause-phase c =
    (kept_ready c.args.main.now c.shift.new.main c.args.objects.now
    (command.Shift c.in-Shift.x c.in-Shift.n) c.shift.result refl c.requires.ready c.shift.ensures.carried).phase

pub returns-in-Trunc-clause-ready : goal.returns-in-Trunc-clause-ready
returns-in-Trunc-clause-ready c =
    (kept_ready c.args.main.now c.trunc.new.main c.args.objects.now
    (command.Trunc c.in-Trunc.x c.in-Trunc.n) c.trunc.result refl c.requires.ready c.trunc.ensures.carried).ready

pub returns-in-Trunc-clause-phase : goal.returns-in-Trunc-clause-phase
returns-in-Trunc-clause-phase c =
    (kept_ready c.args.main.now c.trunc.new.main c.args.objects.now
    (command.Trunc c.in-Trunc.x c.in-Trunc.n) c.trunc.result refl c.requires.ready c.trunc.ensures.carried).phase

pub returns-in-WPut-clause-ready : goal.returns-in-WPut-clause-ready
returns-in-WPut-clause-ready c =
    (kept_ready c.args.main.now c.wput.new.main c.args.objects.now
    (command.WPut c.in-WPut.m c.in-WPut.k c.in-WPut.v) c.wput.result refl c.requires.ready c.wput.ensures.carried).ready

pub returns-in-WPut-clause-phase : goal.returns-in-WPut-clause-phase
returns-in-WPut-clause-phase c =
    (kept_ready c.args.main.now c.wput.new.main c.args.objects.now
    (command.WPut c.in-WPut.m c.in-WPut.k c.in-WPut.v) c.wput.result refl c.requires.ready c.wput.ensures.carried).phase

pub returns-in-WGet-clause-ready : goal.returns-in-WGet-clause-ready
returns-in-WGet-clause-ready c =
    (kept_ready c.args.main.now c.wget.new.main c.args.objects.now
    (command.WGet c.in-WGet.y c.in-WGet.m c.in-WGet.k) c.wget.result refl c.requires.ready c.wget.ensures.carried).ready

pub returns-in-WGet-clause-phase : goal.returns-in-WGet-clause-phase
returns-in-WGet-clause-phase c =
    (kept_ready c.args.main.now c.wget.new.main c.args.objects.now
    (command.WGet c.in-WGet.y c.in-WGet.m c.in-WGet.k) c.wget.result refl c.requires.ready c.wget.ensures.carried).phase

pub returns-in-WDel-clause-ready : goal.returns-in-WDel-clause-ready
returns-in-WDel-clause-ready c =
    (kept_ready c.args.main.now c.wdel.new.main c.args.objects.now
    (command.WDel c.in-WDel.m c.in-WDel.k) c.wdel.result refl c.requires.ready c.wdel.ensures.carried).ready

pub returns-in-WDel-clause-phase : goal.returns-in-WDel-clause-phase
returns-in-WDel-clause-phase c =
    (kept_ready c.args.main.now c.wdel.new.main c.args.objects.now
    (command.WDel c.in-WDel.m c.in-WDel.k) c.wdel.result refl c.requires.ready c.wdel.ensures.carried).phase
