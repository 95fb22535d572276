-- A loop over all objects, each with its mark: what one object more adds.
use Rattle.std.proofs.Common.{◌≡◌, ℕ, ◌+◌, ◌<◌, ◌≤◌, Bool, ◌&&◌, List, length, get_or, take, sym, ap}
use Rattle.std.proofs.Common.{◌∙◌, arith}
use Rattle.std.specs.List.{list_any, sum_by, zip}
use Rattle.std.proofs.lemmas.List.{take_all}
use Rattle.std.proofs.lemmas.List.Sums.{sum_by_more}
use Rattle.std.proofs.lemmas.Slice.Zip.{get_or-zip, length-zip}
use Rattle.object_graph.specs.declared.object.Object.{Object}
use Rattle.object_graph.specs.Reach.{links, is_linked, entries_if}
use Rattle.object_graph.specs.Marks.{MarksAlso}
use Rattle.object_graph.proofs.Marking.{MarksAlso-more, MarksAlso-all}

-- each object has a mark, and this one stands at its number with its own
pub record Stands (marks : List Bool) (objects : List Object) (holder : ℕ) (mark : Bool)
    (object : Object) : Type 0 where
  pub long : length marks ≡ length objects
  pub within : holder < length objects
  pub marked : get_or marks holder mark ≡ mark
  pub there : object ≡ get_or objects holder object

-- whether the object of the pair is marked and links to the number
abbrev links_of : List Bool → ℕ → Bool × Object → Bool
links_of marks number pair = pair.0 && links marks pair.1 number

-- whether one of the first objects, so many of them, is marked and links to the number
abbrev pub is_linked_by : List Bool → List Object → ℕ → ℕ → Bool
is_linked_by marks objects count number = list_any (links_of marks number) (take count (zip marks objects))

-- the entries that the object of the pair counts for
abbrev entries_of : List Bool → Bool × Object → ℕ
entries_of marks pair = entries_if marks pair.0 pair.1

-- the entries that the first objects, so many of them, count for
abbrev pub entries_by : List Bool → List Object → ℕ → ℕ
entries_by marks objects count = sum_by (entries_of marks) (take count (zip marks objects))

-- an object with its mark is one of the pairs
pair_at : (marks : List Bool) (objects : List Object) (holder : ℕ) (mark : Bool) (object : Object)
    → Stands marks objects holder mark object → (mark, object) ≡ get_or (zip marks objects) holder (mark, object)
pair_at marks objects holder mark object at =
    let in_marks : holder < length marks = omega (arith, at.long) in
    sym (get_or-zip marks objects holder (mark, object) in_marks at.within ∙ (λ i. (at.marked i, sym at.there i)))

-- there are as many pairs as objects
pair_within : (marks : List Bool) (objects : List Object) (holder : ℕ) (mark : Bool) (object : Object)
    → Stands marks objects holder mark object → holder < length (zip marks objects)
pair_within marks objects holder mark object at = omega (arith, length-zip marks objects, at.long, at.within)

-- an object more, whose links were added if it is marked
pub links_more : (marks : List Bool) (objects : List Object) (holder : ℕ) (mark : Bool) (object : Object)
    (between new : List Bool)
    → Stands marks objects holder mark object
    → MarksAlso marks between (is_linked_by marks objects holder)
    → MarksAlso between new (λ number. mark && links marks object number)
    → MarksAlso marks new (is_linked_by marks objects (holder + 1))
links_more marks objects holder mark object between new at first second =
    MarksAlso-more (links_of marks) (zip marks objects) holder (mark, object) marks between new
    (pair_within marks objects holder mark object at) (pair_at marks objects holder mark object at) first second

-- all objects are those that marked ones are linked by
pub links_all : (marks : List Bool) (objects : List Object) (holder : ℕ) (next : List Bool)
    → length objects ≤ holder → MarksAlso marks next (is_linked_by marks objects holder)
    → MarksAlso marks next (is_linked objects marks)
links_all marks objects holder next past grown =
    MarksAlso-all (links_of marks) (zip marks objects) holder marks next (omega (arith, length-zip marks objects)) grown

-- an object more adds the entries that it counts for
pub entries_more : (marks : List Bool) (objects : List Object) (holder : ℕ) (mark : Bool) (object : Object)
    → Stands marks objects holder mark object
    → entries_by marks objects (holder + 1) ≡ entries_by marks objects holder + entries_if marks mark object
entries_more marks objects holder mark object at =
    sum_by_more (entries_of marks) (zip marks objects) holder (mark, object)
    (pair_within marks objects holder mark object at)
    ∙ ap (λ pair. entries_by marks objects holder + entries_of marks pair)
    (sym (pair_at marks objects holder mark object at))

-- all objects count for what all pairs do
pub entries_all : (marks : List Bool) (objects : List Object) (holder : ℕ) → length objects ≤ holder
    → entries_by marks objects holder ≡ sum_by (λ pair. entries_if marks pair.0 pair.1) (zip marks objects)
entries_all marks objects holder past =
    ap (sum_by (entries_of marks)) (take_all holder (zip marks objects) (omega (arith, length-zip marks objects)))
