-- The numbers of shapes: the fixed ones, one for each kind but plain, and those of the field paths.
use Rattle.std.specs.Prelude.{ℕ, List, [], ◌∷◌, map}
use Rattle.tagged_word.specs.declared.layout.Kind.{Kind}
use Rattle.tagged_word.specs.declared.layout.Kind.TheVariants as kind
use Rattle.tagged_word.specs.Layouts.{kind_number}

-- the shape of lists
abbrev pub list_shape : ℕ
list_shape = 1

-- the shape of weak maps
abbrev pub weak_shape : ℕ
weak_shape = 2

-- the shape of the property stores and of the elements of lists
abbrev pub store_shape : ℕ
store_shape = 3

-- the shape of the tables of weak maps
abbrev pub table_shape : ℕ
table_shape = 4

-- the shape of the boxes of large integers
abbrev pub box_shape : ℕ
box_shape = 5

-- the shape of fillers, each of one free word
abbrev pub filler_shape : ℕ
filler_shape = 6

-- the shape of gaps, each of two free words or more
abbrev pub gap_shape : ℕ
gap_shape = 7

-- the shape of the first field path; those of the others follow
abbrev pub first_path_shape : ℕ
first_path_shape = 8

-- how many shapes there may be, shape 0 among them, which is not used
abbrev pub shapes_most : ℕ
shapes_most = 8200

-- the kinds of the shapes 1 to 7
abbrev pub fixed_kinds : List Kind
fixed_kinds =
    kind.List ∷ kind.Weak ∷ kind.Store ∷ kind.Table ∷ kind.Boxed ∷ kind.Filler ∷ kind.Gap ∷ []

-- the layout words of the shapes 0 to 7: 0 for the one that is not used, then the words of the fixed kinds
abbrev pub fixed_layout_words : List ℕ
fixed_layout_words = 0 ∷ map kind_number fixed_kinds
