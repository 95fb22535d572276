-- Laws of where the regions of a heap stand.
use Rattle.std.specs.Prelude.{◌≡◌, ℕ, ◌+◌, ◌*◌, ◌<◌, ◌≤◌, Contains}
use Rattle.tagged_word.specs.Shapes.{shapes_most}
use Rattle.page_space.specs.declared.region.Region.{Region}
use Rattle.page_space.specs.declared.region.Region.TheVariants.{Page, Eden, Segment, Root, Layout, Mark, Board}
use Rattle.page_space.specs.Sizes.{page_words, AreWithin}
use Rattle.page_space.specs.Extents.{Space, Extent, ContainsAddress, IsIn, StartsAt, IsRegion, root_words, board_words}
use Rattle.page_space.specs.Extents.{mark_words, words_count, words_most, eden_start, segments_start, half_segments}
use Rattle.page_space.specs.Extents.{roots_start, layouts_start, marks_start, board_start, extents}

-- the space has no size that is not within its limits
abbrev pub IsSpace : Space → Type 0
IsSpace space = AreWithin space.sizes space.variables

-- two extents that hold one address are the same
abbrev pub ExtentsAreDisjoint : Type 0
ExtentsAreDisjoint =
    (space : Space) (one other : Extent) (a : ℕ) → Contains (extents space) one → Contains (extents space) other
    → ContainsAddress one a → ContainsAddress other a → one ≡ other

-- each region has one extent
abbrev pub RegionsStandOnce : Type 0
RegionsStandOnce =
    (space : Space) (one other : Extent) → Contains (extents space) one → Contains (extents space) other
    → one.region ≡ other.region → one ≡ other

-- each address of a word is held by an extent
abbrev pub ExtentsCover : Type 0
ExtentsCover = (space : Space) (a : ℕ) → a < words_count space → (region : Region) × IsIn space a region

-- no extent goes on behind the last word
abbrev pub ExtentsEnd : Type 0
ExtentsEnd =
    (space : Space) (extent : Extent) → Contains (extents space) extent
    → extent.start + extent.words ≤ words_count space

-- each region of the heap stands somewhere
abbrev pub RegionsStand : Type 0
RegionsStand = (space : Space) (region : Region) → IsRegion space region → (a : ℕ) × StartsAt space region a

-- what stands is a region of the heap
abbrev pub ExtentsAreOfRegions : Type 0
ExtentsAreOfRegions = (space : Space) (extent : Extent) → Contains (extents space) extent → IsRegion space extent.region

-- an address is in one region at most
abbrev pub AddressesAreInOne : Type 0
AddressesAreInOne = (space : Space) (a : ℕ) (one other : Region) → IsIn space a one → IsIn space a other → one ≡ other

-- the address that a region begins at is in it
abbrev pub StartsAreInside : Type 0
StartsAreInside =
    (space : Space) (region : Region) (a : ℕ) → IsSpace space → StartsAt space region a → IsIn space a region

-- where each region begins, as a number
pub record StandsByNumber (space : Space) : Type 0 where
  pub pages : (page : ℕ) → page < space.sizes.pages → StartsAt space (Page page) (page_words * page)
  pub eden : StartsAt space Eden (eden_start space)
  pub segments : (half worker : ℕ) → half < 2 → worker ≤ space.sizes.helpers →
      StartsAt space (Segment half worker)
      (segments_start space + space.sizes.young * (half * half_segments space + worker))
  pub roots : (variable : ℕ) → variable < space.variables →
      StartsAt space (Root variable) (roots_start space + root_words * variable)
  pub layouts : (shape : ℕ) → shape < shapes_most → StartsAt space (Layout shape) (layouts_start space + shape)
  pub marks : (mark : ℕ) → mark < mark_words space.sizes.pages → StartsAt space (Mark mark) (marks_start space + mark)
  pub board : (place : ℕ) → place < board_words → StartsAt space (Board place) (board_start space + place)

-- and where each kind of region begins
pub record KindsByNumber (space : Space) : Type 0 where
  pub roots : roots_start space ≡ segments_start space + 2 * (half_segments space * space.sizes.young)
  pub layouts : layouts_start space ≡ roots_start space + root_words * space.variables
  pub marks : marks_start space ≡ layouts_start space + shapes_most
  pub board : board_start space ≡ marks_start space + mark_words space.sizes.pages
  pub count : words_count space ≡ board_start space + board_words

-- every heap has its regions where their numbers say
abbrev pub RegionsStandByNumber : Type 0
RegionsStandByNumber = (space : Space) → StandsByNumber space

-- and its kinds of regions
abbrev pub KindsStandByNumber : Type 0
KindsStandByNumber = (space : Space) → KindsByNumber space

-- there are never more words than the largest sizes make
abbrev pub WordsAreFew : Type 0
WordsAreFew = (space : Space) → IsSpace space → words_count space ≤ words_most
