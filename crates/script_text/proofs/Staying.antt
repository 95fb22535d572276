-- A name that has a number keeps it when more names get numbers.
use Rattle.std.proofs.Common.{◌≡◌, inl, inr, ℕ, ◌≤◌, cond, List, [], ◌∷◌, ◌++◌, length, map, fold, Option}
use Rattle.std.proofs.Common.{Some, None, suc, take, unwrap_or, option_map, slice_get, refl, sym, ap, ◌∙◌, subst, arith}
use Rattle.std.specs.List.{Contains, flat_map}
use Rattle.std.proofs.lemmas.List.{length-map}
use Rattle.std.proofs.lemmas.List.Sums.{fold-append}
use Rattle.std.proofs.lemmas.Option.{slice_get-map}
use Rattle.script_text.specs.declared.commands.Argument.{Argument}
use Rattle.script_text.specs.declared.commands.Argument.TheVariants.{Value}
use Rattle.heap_command.specs.declared.command.Operand.TheVariants.{Undefined, Var}
use Rattle.script_text.specs.declared.commands.Argument.TheVariants as argument
use Rattle.script_text.specs.declared.table.Keyword.{Keyword}
use Rattle.script_text.specs.declared.table.Keyword.TheVariants as keyword
use Rattle.script_text.specs.declared.table.OperandKind.{OperandKind}
use Rattle.script_text.specs.declared.table.OperandKind.TheVariants as place
use Rattle.script_text.specs.Table.{places_of}
use Rattle.script_text.specs.Fitting.{Fits, AllFit, IsOfKind, AreOfKinds}
use Rattle.script_text.specs.Statements.{RawOperand, variable, field, literal, integer, undefined, bound}
use Rattle.script_text.specs.Names.{position_of_name, number_of_name, with_name, names_at, variable_in, field_in}
use Rattle.script_text.specs.Scripts.{argument_of, argument_at}
use Rattle.script_text.proofs.Numbers.{known_or_new, bytes_tell, Contains-with_name, Contains-fold}
use Rattle.script_text.proofs.Pushing.{position_of_name-push}
use Rattle.script_text.proofs.Within.{AreIn, AreIn-left, AreIn-right}

-- one name more leaves the place of a name
position_of_name-with_name : (names : List (List ℕ)) (new name : List ℕ) → Contains names name
    → position_of_name (with_name names new) name ≡ position_of_name names name
position_of_name-with_name names new name h =
    elim (known_or_new names new) [
      | inl e ↦ ap (λ all. position_of_name all name) e.same
      | inr e ↦ ap (λ all. position_of_name all name) e.ends ∙ position_of_name-push names new name e.none
          ∙ (elim (bytes_tell new name) [
            | inl same ↦ absurd (e.absent (subst (Contains names) (sym same.1) h))
            | inr other ↦ ap (λ b. cond b (Some (length names)) (position_of_name names name)) other.0
          ])
    ]

-- more names leave its number
number_of_name-fold : (names more : List (List ℕ)) (name : List ℕ) → Contains names name
    → number_of_name (fold with_name names more) name ≡ number_of_name names name
number_of_name-fold names [] name h = refl
number_of_name-fold names (new ∷ more) name h =
    number_of_name-fold (with_name names new) more name (Contains-with_name names new name h)
    ∙ ap (λ place. unwrap_or place 0) (position_of_name-with_name names new name h)

-- the only name of these
only_name : (names : List (List ℕ)) (token : List ℕ) → AreIn names (token ∷ []) → Contains names token
only_name names token h = h.each token (0, omega arith, refl)

-- more names leave the argument that an operand is
argument_of-fold : (vs fs more others : List (List ℕ)) (written : RawOperand) → AreIn vs (variable_in written)
    → AreIn fs (field_in written)
    → argument_of vs fs written ≡ argument_of (fold with_name vs more) (fold with_name fs others) written
argument_of-fold vs fs more others (variable token) h k =
    ap argument.Variable (sym (number_of_name-fold vs more token (only_name vs token h)))
argument_of-fold vs fs more others (field token) h k =
    ap argument.Field (sym (number_of_name-fold fs others token (only_name fs token k)))
argument_of-fold vs fs more others (bound token) h k =
    ap (λ n. Value (Var n)) (sym (number_of_name-fold vs more token (only_name vs token h)))
argument_of-fold vs fs more others written h k = refl

-- so they do of operands whose names have numbers
pub arguments-fold : (vs fs more others : List (List ℕ)) (operands : List RawOperand)
    → AreIn vs (flat_map variable_in operands) → AreIn fs (flat_map field_in operands)
    → map (argument_of vs fs) operands ≡ map (argument_of (fold with_name vs more) (fold with_name fs others)) operands
arguments-fold vs fs more others [] h k = refl
arguments-fold vs fs more others (written ∷ operands) h k =
    let later_vs = flat_map variable_in operands in
    let later_fs = flat_map field_in operands in
    ap (λ a. a ∷ map (argument_of vs fs) operands)
    (argument_of-fold vs fs more others written (AreIn-left vs (variable_in written) later_vs h)
    (AreIn-left fs (field_in written) later_fs k))
    ∙ ap (λ rest. argument_of (fold with_name vs more) (fold with_name fs others) written ∷ rest)
    (arguments-fold vs fs more others operands (AreIn-right vs (variable_in written) later_vs h)
    (AreIn-right fs (field_in written) later_fs k))

-- names that were numbered are in the list
pub AreIn-fold : (names uses : List (List ℕ)) → AreIn (fold with_name names uses) uses
AreIn-fold names uses = record { each = λ name h. Contains-fold uses names name (inr h) }

-- the argument of an operand, where there is one
argument_at-some : (make : RawOperand → Argument) (operands : List RawOperand) (at : ℕ) (written : RawOperand)
    → slice_get operands at ≡ Some written
    → argument_at (map make operands) at ≡ make written
argument_at-some make operands at written e =
    ap (λ o. unwrap_or o (Value Undefined)) (slice_get-map make operands at ∙ ap (option_map make) e)

-- `undefined` past the last
argument_at-none : (make : RawOperand → Argument) (operands : List RawOperand) (at : ℕ) → slice_get operands at ≡ None
    → argument_at (map make operands) at ≡ Value Undefined
argument_at-none make operands at e =
    ap (λ o. unwrap_or o (Value Undefined)) (slice_get-map make operands at ∙ ap (option_map make) e)

-- a command has at most three operands
pub few_places : (k : Keyword) → length (places_of k) ≤ 3
few_places keyword.New = omega arith
few_places other = omega arith

-- the names of at most three operands get numbers one after another
fold-three : (names_in : RawOperand → List (List ℕ)) (names : List (List ℕ)) (operands : List RawOperand)
    → length operands ≤ 3
    → fold with_name names (flat_map names_in operands)
    ≡ fold with_name (fold with_name (fold with_name names (names_at names_in (slice_get operands 0)))
    (names_at names_in (slice_get operands 1))) (names_at names_in (slice_get operands 2))
fold-three names_in names [] h = refl
fold-three names_in names (a ∷ []) h = fold-append with_name names (names_in a) []
fold-three names_in names (a ∷ b ∷ []) h =
    fold-append with_name names (names_in a) (names_in b ++ [])
    ∙ fold-append with_name (fold with_name names (names_in a)) (names_in b) []
fold-three names_in names (a ∷ b ∷ c ∷ []) h =
    fold-append with_name names (names_in a) (names_in b ++ (names_in c ++ []))
    ∙ fold-append with_name (fold with_name names (names_in a)) (names_in b) (names_in c ++ [])
    ∙ fold-append with_name (fold with_name (fold with_name names (names_in a)) (names_in b)) (names_in c) []
fold-three names_in names (a ∷ b ∷ c ∷ d ∷ more) h = absurd (omega arith)

-- an operand was entered: its name has got a number, and this is its argument
pub record Enters (operands : List RawOperand) (at : ℕ) (vs fs vs' fs' : List (List ℕ))
    (argument : Argument) : Type 0 where
  pub variables_are : vs' ≡ fold with_name vs (names_at variable_in (slice_get operands at))
  pub fields_are : fs' ≡ fold with_name fs (names_at field_in (slice_get operands at))
  pub argument_is : argument ≡ argument_at (map (argument_of vs' fs') operands) at

-- its argument stays when more names get numbers
Enters-stays :
    (operands : List RawOperand) (at : ℕ) (vs fs vs' fs' : List (List ℕ)) (argument : Argument)
    (more others : List (List ℕ))
    → Enters operands at vs fs vs' fs' argument
    → argument ≡ argument_at (map (argument_of (fold with_name vs' more) (fold with_name fs' others)) operands) at
Enters-stays operands at vs fs vs' fs' argument more others h = h.argument_is ∙ stays (slice_get operands at) refl
  where
    stays : (here : Option RawOperand) → slice_get operands at ≡ here
        → argument_at (map (argument_of vs' fs') operands) at ≡ argument_at
        (map (argument_of (fold with_name vs' more) (fold with_name fs' others)) operands) at
    stays None here =
        argument_at-none (argument_of vs' fs') operands at here
        ∙ sym (argument_at-none (argument_of (fold with_name vs' more) (fold with_name fs' others)) operands at here)
    stays (Some written) here =
        let vs_are = h.variables_are ∙ ap (λ o. fold with_name vs (names_at variable_in o)) here in
        let fs_are = h.fields_are ∙ ap (λ o. fold with_name fs (names_at field_in o)) here in
        argument_at-some (argument_of vs' fs') operands at written here
        ∙ argument_of-fold vs' fs' more others written
        (subst (λ names. AreIn names (variable_in written)) (sym vs_are) (AreIn-fold vs (variable_in written)))
        (subst (λ names. AreIn names (field_in written)) (sym fs_are) (AreIn-fold fs (field_in written)))
        ∙ sym (argument_at-some (argument_of (fold with_name vs' more) (fold with_name fs' others))
        operands at written here)

-- all operands of a statement were entered
pub record AllEnter (operands : List RawOperand) (vs fs vs' fs' : List (List ℕ)) (a b c : Argument) : Type 0 where
  pub variables_are : vs' ≡ fold with_name vs (flat_map variable_in operands)
  pub fields_are : fs' ≡ fold with_name fs (flat_map field_in operands)
  pub first : a ≡ argument_at (map (argument_of vs' fs') operands) 0
  pub second : b ≡ argument_at (map (argument_of vs' fs') operands) 1
  pub third : c ≡ argument_at (map (argument_of vs' fs') operands) 2

-- at most three operands are entered one after another
pub three_enter : (operands : List RawOperand) (vs fs vs1 fs1 vs2 fs2 vs3 fs3 : List (List ℕ)) (a b c : Argument)
    → length operands ≤ 3
    → Enters operands 0 vs fs vs1 fs1 a → Enters operands 1 vs1 fs1 vs2 fs2 b → Enters operands 2 vs2 fs2 vs3 fs3 c
    → AllEnter operands vs fs vs3 fs3 a b c
three_enter operands vs fs vs1 fs1 vs2 fs2 vs3 fs3 a b c few one two three =
    let v = λ (at : ℕ). names_at variable_in (slice_get operands at) in
    let f = λ (at : ℕ). names_at field_in (slice_get operands at) in
    let vs_on : vs3 ≡ fold with_name vs1 (v 1 ++ v 2) =
    three.variables_are ∙ ap (λ names. fold with_name names (v 2)) two.variables_are
    ∙ sym (fold-append with_name vs1 (v 1) (v 2)) in
    let fs_on : fs3 ≡ fold with_name fs1 (f 1 ++ f 2) =
    three.fields_are ∙ ap (λ names. fold with_name names (f 2)) two.fields_are
    ∙ sym (fold-append with_name fs1 (f 1) (f 2)) in
    record {
      variables_are =
          vs_on ∙ ap (λ names. fold with_name names (v 1 ++ v 2)) one.variables_are
          ∙ fold-append with_name (fold with_name vs (v 0)) (v 1) (v 2)
          ∙ sym (fold-three variable_in vs operands few);
      fields_are =
          fs_on ∙ ap (λ names. fold with_name names (f 1 ++ f 2)) one.fields_are
          ∙ fold-append with_name (fold with_name fs (f 0)) (f 1) (f 2)
          ∙ sym (fold-three field_in fs operands few);
      first =
          Enters-stays operands 0 vs fs vs1 fs1 a (v 1 ++ v 2) (f 1 ++ f 2) one
          ∙ ap (λ names. argument_at (map (argument_of names (fold with_name fs1 (f 1 ++ f 2))) operands) 0) (sym vs_on)
          ∙ ap (λ names. argument_at (map (argument_of vs3 names) operands) 0) (sym fs_on);
      second =
          Enters-stays operands 1 vs1 fs1 vs2 fs2 b (v 2) (f 2) two
          ∙ ap (λ names. argument_at (map (argument_of names (fold with_name fs2 (f 2))) operands) 1)
          (sym three.variables_are)
          ∙ ap (λ names. argument_at (map (argument_of vs3 names) operands) 1) (sym three.fields_are);
      third = three.argument_is;
    }

-- the arguments of operands that fit their places are what these want
pub arguments_of_kinds : (vs fs : List (List ℕ)) (places : List OperandKind) (operands : List RawOperand)
    → AllFit places operands → AreOfKinds places (map (argument_of vs fs) operands)
arguments_of_kinds vs fs [] [] fit = tt
arguments_of_kinds vs fs [] (written ∷ operands) fit = absurd fit
arguments_of_kinds vs fs (place ∷ places) [] fit = absurd fit
arguments_of_kinds vs fs (first ∷ places) (written ∷ operands) fit =
    (of_kind first written fit.0, arguments_of_kinds vs fs places operands fit.1)
  where
    of_kind : (kind : OperandKind) (written : RawOperand) → Fits kind written
        → IsOfKind kind (argument_of vs fs written)
    of_kind place.Variable (variable token) fit = tt
    of_kind place.Field (field token) fit = tt
    of_kind (place.Literal most) (literal n) fit = tt
    of_kind place.Value (integer v) fit = tt
    of_kind place.Value undefined fit = tt
    of_kind place.Value (bound token) fit = tt
    of_kind kind written fit = absurd fit

-- there is an operand for each place
length-AllFit : (places : List OperandKind) (operands : List RawOperand) → AllFit places operands
    → length places ≡ length operands
length-AllFit [] [] fit = refl
length-AllFit [] (written ∷ operands) fit = absurd fit
length-AllFit (place ∷ places) [] fit = absurd fit
length-AllFit (place ∷ places) (written ∷ operands) fit = ap suc (length-AllFit places operands fit.1)

-- at most three arguments are those at the first places
taken_arguments : (arguments : List Argument) → length arguments ≤ 3
    → take (length arguments) (argument_at arguments 0 ∷ argument_at arguments 1 ∷ argument_at arguments 2 ∷ [])
    ≡ arguments
taken_arguments [] few = refl
taken_arguments (a ∷ []) few = refl
taken_arguments (a ∷ b ∷ []) few = refl
taken_arguments (a ∷ b ∷ c ∷ []) few = refl
taken_arguments (a ∷ b ∷ c ∷ d ∷ more) few = absurd (omega (arith, few))

-- so are those of operands that were entered
pub entered_arguments : (places : List OperandKind) (operands : List RawOperand) (vs fs vs' fs' : List (List ℕ))
    (a b c : Argument) → length operands ≤ 3 → AllFit places operands → AllEnter operands vs fs vs' fs' a b c
    → take (length places) (a ∷ b ∷ c ∷ []) ≡ map (argument_of vs' fs') operands
entered_arguments places operands vs fs vs' fs' a b c few fit all =
    let arguments = map (argument_of vs' fs') operands in
    let count : length arguments ≡ length operands = length-map operands (argument_of vs' fs') in
    ap (λ n. take n (a ∷ b ∷ c ∷ [])) (length-AllFit places operands fit ∙ sym count)
    ∙ ap (λ x. take (length arguments) (x ∷ b ∷ c ∷ [])) all.first
    ∙ ap (λ x. take (length arguments) (argument_at arguments 0 ∷ x ∷ c ∷ [])) all.second
    ∙ ap (λ x. take (length arguments) (argument_at arguments 0 ∷ argument_at arguments 1 ∷ x ∷ [])) all.third
    ∙ taken_arguments arguments (omega (arith, count, few))
