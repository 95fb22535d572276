use Rattle.std.proofs.Common.{rules, arith, ◌≡◌, ◌∙◌, ◌-◌, ℕ, List, length, take, drop, length-drop, to_z, of_z, w64}
use Rattle.std.proofs.lemmas.List.{take_all}
use Rattle.object_graph.specs.declared.value.Value.{Value}
use Rattle.ideal_graph.proofs.ideal.Ideal.shift.Goals as goal

-- all that is left behind a place
rest_all : (n : ℕ) (xs : List Value) → take (length xs - n) (drop n xs) ≡ drop n xs
rest_all n xs = take_all (length xs - n) (drop n xs) (omega (arith, length-drop n xs))

pub returns : goal.returns
returns c =
    let same : to_z w64 (of_z w64 c.in_ok-count-2.count) ≡ c.in_ok-count-2.count = search rules in
    let gone = rw same at c.in_ok-gone.ensures.found in
    let rest = c.in_ok-elements.ensures.items ∙ rest_all c.in_ok-gone.gone c.in_ok-list.list.elements.now in
    rw (c.in_ok-target.ensures, c.in_ok-count.ensures, c.in_ok-list.ensures.found, c.in_ok-count-2.ensures, gone)
    (rw rest at c.relist.ensures)
