use Rattle.std.proofs.Common.{refl}
use Rattle.heap_script.proofs.Trying.{made_lent, some_lent}
use Rattle.heap_script.proofs.Executed.{executes, executes_making, executes_put}
use Rattle.heap_script.proofs.commands.execute.Goals as goal

pub new_plain-requires-clause-shown : goal.new_plain-requires-clause-shown
new_plain-requires-clause-shown g c = made_lent c.main_mut-main.ensures.main c.requires.shown

pub new_list-requires-clause-shown : goal.new_list-requires-clause-shown
new_list-requires-clause-shown g c = made_lent c.main_mut-main.ensures.main c.requires.shown

pub new_weak-requires-clause-shown : goal.new_weak-requires-clause-shown
new_weak-requires-clause-shown g c = made_lent c.main_mut-main.ensures.main c.requires.shown

pub let_value-requires-clause-shown : goal.let_value-requires-clause-shown
let_value-requires-clause-shown g c = some_lent c.main_mut-main.ensures.main c.requires.shown

pub drop_var-requires-clause-shown : goal.drop_var-requires-clause-shown
drop_var-requires-clause-shown g c = some_lent c.main_mut-main.ensures.main c.requires.shown

pub add-requires-clause-shown : goal.add-requires-clause-shown
add-requires-clause-shown g c = some_lent c.main_mut-main.ensures.main c.requires.shown

pub set-requires-clause-shown : goal.set-requires-clause-shown
set-requires-clause-shown g c = some_lent c.main_mut-main.ensures.main c.requires.shown

pub get-requires-clause-shown : goal.get-requires-clause-shown
get-requires-clause-shown g c = some_lent c.main_mut-main.ensures.main c.requires.shown

pub del-requires-clause-shown : goal.del-requires-clause-shown
del-requires-clause-shown g c = some_lent c.main_mut-main.ensures.main c.requires.shown

pub proto-requires-clause-shown : goal.proto-requires-clause-shown
proto-requires-clause-shown g c = some_lent c.main_mut-main.ensures.main c.requires.shown

pub push-requires-clause-shown : goal.push-requires-clause-shown
push-requires-clause-shown g c = some_lent c.main_mut-main.ensures.main c.requires.shown

pub put-requires-clause-shown : goal.put-requires-clause-shown
put-requires-clause-shown g c = some_lent c.main_mut-main.ensures.main c.requires.shown

pub at-requires-clause-shown : goal.at-requires-clause-shown
at-requires-clause-shown g c = some_lent c.main_mut-main.ensures.main c.requires.shown

pub shift-requires-clause-shown : goal.shift-requires-clause-shown
shift-requires-clause-shown g c = some_lent c.main_mut-main.ensures.main c.requires.shown

pub trunc-requires-clause-shown : goal.trunc-requires-clause-shown
trunc-requires-clause-shown g c = some_lent c.main_mut-main.ensures.main c.requires.shown

pub wput-requires-clause-shown : goal.wput-requires-clause-shown
wput-requires-clause-shown g c = some_lent c.main_mut-main.ensures.main c.requires.shown

pub wget-requires-clause-shown : goal.wget-requires-clause-shown
wget-requires-clause-shown g c = some_lent c.main_mut-main.ensures.main c.requires.shown

pub wdel-requires-clause-shown : goal.wdel-requires-clause-shown
wdel-requires-clause-shown g c = some_lent c.main_mut-main.ensures.main c.requires.shown

pub returns-in-New-clause-executed : goal.returns-in-New-clause-executed
returns-in-New-clause-executed g c = (
  c.new_plain.result,
  c.counted.ensures.says,
  rw c.in-New.is
      (executes_making c.main_mut-main.ensures.main refl refl refl c.counted.ensures.counted
      c.new_plain.ensures.carried),
)

pub returns-in-List-clause-executed : goal.returns-in-List-clause-executed
returns-in-List-clause-executed g c = (
  c.new_list.result,
  c.counted-in-List.ensures.says,
  rw c.in-List.is
      (executes_making c.main_mut-main.ensures.main refl refl refl c.counted-in-List.ensures.counted
      c.new_list.ensures.carried),
)

pub returns-in-Weak-clause-executed : goal.returns-in-Weak-clause-executed
returns-in-Weak-clause-executed g c = (
  c.new_weak.result,
  c.counted-in-Weak.ensures.says,
  rw c.in-Weak.is
      (executes_making c.main_mut-main.ensures.main refl refl refl c.counted-in-Weak.ensures.counted
      c.new_weak.ensures.carried),
)

pub returns-in-LetValue-clause-executed : goal.returns-in-LetValue-clause-executed
returns-in-LetValue-clause-executed g c = (
  c.let_value.result,
  c.of.ensures,
  rw c.in-LetValue.is
      (executes c.main_mut-main.ensures.main refl refl refl c.let_value.ensures.carried),
)

pub returns-in-DropVar-clause-executed : goal.returns-in-DropVar-clause-executed
returns-in-DropVar-clause-executed g c = (
  c.drop_var.result,
  c.of-in-DropVar.ensures,
  rw c.in-DropVar.is
      (executes c.main_mut-main.ensures.main refl refl refl c.drop_var.ensures.carried),
)

pub returns-in-Add-clause-executed : goal.returns-in-Add-clause-executed
returns-in-Add-clause-executed g c =
    let (came, says, carries, binds) = c.add.ensures.carried in
    (came, says, rw c.in-Add.is (executes c.main_mut-main.ensures.main refl refl refl carries))

pub returns-in-Set-clause-executed : goal.returns-in-Set-clause-executed
returns-in-Set-clause-executed g c =
    let (came, says, carries) = c.set.ensures.carried in
    (came, says, rw c.in-Set.is (executes c.main_mut-main.ensures.main refl refl refl carries))

pub returns-in-Get-clause-executed : goal.returns-in-Get-clause-executed
returns-in-Get-clause-executed g c =
    let (came, says, carries, binds) = c.get.ensures.carried in
    (came, says, rw c.in-Get.is (executes c.main_mut-main.ensures.main refl refl refl carries))

pub returns-in-Del-clause-executed : goal.returns-in-Del-clause-executed
returns-in-Del-clause-executed g c = (
  c.del.result,
  c.of-in-Del.ensures,
  rw c.in-Del.is
      (executes c.main_mut-main.ensures.main refl refl refl c.del.ensures.carried),
)

pub returns-in-Proto-clause-executed : goal.returns-in-Proto-clause-executed
returns-in-Proto-clause-executed g c = (
  c.proto.result,
  c.of-in-Proto.ensures,
  rw c.in-Proto.is
      (executes c.main_mut-main.ensures.main refl refl refl c.proto.ensures.carried),
)

pub returns-in-Push-clause-executed : goal.returns-in-Push-clause-executed
returns-in-Push-clause-executed g c = (
  c.push.result,
  c.of-in-Push.ensures,
  rw c.in-Push.is
      (executes c.main_mut-main.ensures.main refl refl refl c.push.ensures.carried),
)

pub returns-in-Put-clause-executed : goal.returns-in-Put-clause-executed
returns-in-Put-clause-executed g c = (
  c.put.result,
  c.of-in-Put.ensures,
  rw c.in-Put.is
      (executes c.main_mut-main.ensures.main refl refl refl c.put.ensures.carried),
)

pub returns-in-At-clause-executed : goal.returns-in-At-clause-executed
returns-in-At-clause-executed g c = (
  c.at.result,
  c.of-in-At.ensures,
  rw c.in-At.is
      (executes c.main_mut-main.ensures.main refl refl refl c.at.ensures.carried),
)

pub returns-in-Shift-clause-executed : goal.returns-in-Shift-clause-executed
returns-in-Shift-clause-executed g c = (
  c.shift.result,
  c.of-in-Shift.ensures,
  rw c.in-Shift.is
      (executes c.main_mut-main.ensures.main refl refl refl c.shift.ensures.carried),
)

pub returns-in-Trunc-clause-executed : goal.returns-in-Trunc-clause-executed
returns-in-Trunc-clause-executed g c = (
  c.trunc.result,
  c.of-in-Trunc.ensures,
  rw c.in-Trunc.is
      (executes c.main_mut-main.ensures.main refl refl refl c.trunc.ensures.carried),
)

pub returns-in-WPut-clause-executed : goal.returns-in-WPut-clause-executed
returns-in-WPut-clause-executed g c = (
  c.wput.result,
  c.of-in-WPut.ensures,
  rw c.in-WPut.is (executes_put c.main_mut-main.ensures.main refl refl c.wput.ensures.carried c.wput.ensures.asks),
)

pub returns-in-WGet-clause-executed : goal.returns-in-WGet-clause-executed
returns-in-WGet-clause-executed g c = (
  c.wget.result,
  c.of-in-WGet.ensures,
  rw c.in-WGet.is
      (executes c.main_mut-main.ensures.main refl refl refl c.wget.ensures.carried),
)

pub returns-in-WDel-clause-executed : goal.returns-in-WDel-clause-executed
returns-in-WDel-clause-executed g c = (
  c.wdel.result,
  c.of-in-WDel.ensures,
  rw c.in-WDel.is
      (executes c.main_mut-main.ensures.main refl refl refl c.wdel.ensures.carried),
)
