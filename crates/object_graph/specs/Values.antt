-- Representations of values, and their order.
use Rattle.std.specs.Prelude.{ℕ, Bool, nat_le, ◌==◌, if◌then◌else◌}
use Rattle.tagged_word.specs.Words.{small}
use Rattle.object_graph.specs.declared.value.Value.{Value}
use Rattle.object_graph.specs.declared.value.Value.TheVariants.{Int, Undefined, Ref}
use Rattle.object_graph.specs.declared.value.Rep.{Rep}
use Rattle.object_graph.specs.declared.value.Rep.TheVariants.{Small, Wide, Tagged}

-- small for an integer of the small range, wide for another integer, and else tagged
abbrev pub rep_of : Value → Rep
rep_of (Int v) = if small v then Small else Wide
rep_of Undefined = Tagged
rep_of (Ref object) = Tagged

-- a representation's place in the order small, wide, tagged
abbrev pub rank : Rep → ℕ
rank Small = 0
rank Wide = 1
rank Tagged = 2

-- the greater of two
abbrev pub join : Rep → Rep → Rep
join a b = if nat_le (rank a) (rank b) then b else a

-- two representations are one
abbrev pub same_rep : Rep → Rep → Bool
same_rep a b = rank a == rank b
