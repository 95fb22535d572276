-- A field of a new name is added to a plain object.
use Rattle.std.proofs.Common.{◌≡◌, ◌≤◌, ℕ, List, length, arith, subst, sym, ap, Err}
use Rattle.tagged_word.specs.Shapes.{first_path_shape}
use Rattle.heap_model.specs.Types.{Path, Held}
use Rattle.shape_tree.specs.Shapes.{IsPathShape, shape_path}
use Rattle.object_cells.specs.HeldValues.{IsValueHeld}
use Rattle.shape_change.specs.FieldChanges.{IsShownSetting}
use Rattle.shape_change.specs.declared.stop.FieldStop.TheVariants as stop
use Rattle.shape_change.proofs.SetsTold.{not_plain, plain_sets}
use Rattle.shape_change.proofs.ShownFields.{shown_shape, name_is_new}
use Rattle.shape_change.proofs.add_field.add_sought.Goals as goal

pub returns-then-header-lt-PATHS : goal.returns-then-header-lt-PATHS
returns-then-header-lt-PATHS o c = (
  Err stop.NotPlain,
  c.refused.ensures,
  not_plain c.args.main.now c.args.object c.args.header c.args.name c.args.value
      (omega (arith, c.if-header-lt-PATHS.true)),
)

-- the shape is that of a path among these
path : {paths shapes : List Path} {shape : ℕ} → shapes ≡ paths → IsPathShape paths shape → IsPathShape shapes shape
path {shape = shape} same is = subst (λ (all : List Path). IsPathShape all shape) (sym same) is

pub fields-requires : goal.fields-requires
fields-requires o c =
    let setting = c.requires.may.plain (omega (arith, c.if-header-lt-PATHS.false)) in
    path c.shapes-shapes.ensures (shown_shape setting.shows setting.is c.requires.may.headed)

pub cap-requires : goal.cap-requires
cap-requires o c =
    let setting = c.requires.may.plain (omega (arith, c.if-header-lt-PATHS.false)) in
    path c.shapes-shapes.ensures (shown_shape setting.shows setting.is c.requires.may.headed)

pub add_in_object-requires-clause-own : goal.add_in_object-requires-clause-own
add_in_object-requires-clause-own o c =
    let counts = ap (λ (all : List Path). length (shape_path all c.args.header.shape).fields) c.shapes-shapes.ensures in
    let caps = ap (λ (all : List Path). (shape_path all c.args.header.shape).cap) c.shapes-shapes.ensures in
    omega (arith, c.fields.ensures.counted, c.cap.ensures.cap, c.if-fields-cap.true, counts, caps)

pub returns-then-fields-cap : goal.returns-then-fields-cap
returns-then-fields-cap o c =
    let from : first_path_shape ≤ c.args.header.shape = omega (arith, c.if-header-lt-PATHS.false) in (
      c.add_in_object.result,
      c.told.ensures,
      plain_sets c.add_in_object.result from (λ held gives graph plain what shows is holds.
          c.add_in_object.ensures held gives graph plain what shows is holds
          (name_is_new shows is c.requires.may.headed c.args.name (c.requires.is_new from))),
    )

pub add_in_store-requires-clause-shown : goal.add_in_store-requires-clause-shown
add_in_store-requires-clause-shown o c =
    subst (λ (held : Held). IsShownSetting c.args.main.now c.args.object held)
    (sym (c.held.ensures c.requires.may.held c.requires.may.gives))
    (c.requires.may.plain (omega (arith, c.if-header-lt-PATHS.false)))

pub add_in_store-requires-clause-behind : goal.add_in_store-requires-clause-behind
add_in_store-requires-clause-behind o c =
    let counts = ap (λ (all : List Path). length (shape_path all c.args.header.shape).fields) c.shapes-shapes.ensures in
    let caps = ap (λ (all : List Path). (shape_path all c.args.header.shape).cap) c.shapes-shapes.ensures in
    omega (arith, c.fields.ensures.counted, c.cap.ensures.cap, c.if-fields-cap.false, counts, caps)

pub returns-else-fields-cap : goal.returns-else-fields-cap
returns-else-fields-cap o c =
    let from : first_path_shape ≤ c.args.header.shape = omega (arith, c.if-header-lt-PATHS.false) in (
      c.add_in_store.result,
      c.told-else-fields-cap.ensures,
      plain_sets c.add_in_store.result from (λ held gives graph plain what shows is holds.
          c.add_in_store.ensures graph plain what shows is
          (subst (λ (h : Held). IsValueHeld c.args.main.now graph h what) (sym (c.held.ensures held gives)) holds)
          (name_is_new shows is c.requires.may.headed c.args.name (c.requires.is_new from))),
    )
