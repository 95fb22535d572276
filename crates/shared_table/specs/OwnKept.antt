-- What the own words of a seat keep in their fields.
use Rattle.std.specs.Prelude.{◌≡◌, length}
use Rattle.page_space.specs.Extents.{marks_start}
use Rattle.shared_table.specs.declared.own_words.OwnWords.TheInside.{Inside}
use Rattle.shared_table.specs.Owned.{Own}

-- the regions, and the words
abbrev pub own_of : Inside → Own
own_of own = record { space = own.regions; words = own.items.items }

-- there is a word for each address before the marks, and their count is kept
pub record IsKept (own : Inside) : Type 0 where
  pub counted : length own.items.items ≡ marks_start own.regions
  pub heap_count : own.heap_count ≡ marks_start own.regions
