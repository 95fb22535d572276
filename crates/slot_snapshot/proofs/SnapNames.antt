-- What a snap names once its header, its layout word and its length were read.
use Rattle.std.proofs.Common.{◌≡◌, ℕ, Bool, true, false, Option, Some, None}
use Rattle.std.proofs.Common.{IsTrue, IsSome, IsSomeAnd, refl, sym, ap, subst, ◌∙◌, if◌then◌else◌}
use Rattle.std.specs.Option.{option_and_then, option_map}
use Rattle.tagged_word.specs.Cells.{marks_by_length}
use Rattle.tagged_word.specs.Readings.{given, header_in, layout_in}
use Rattle.mark_laws.specs.Types.{Header, HelperView, LayoutWord, Snap}
use Rattle.mark_world.specs.Naming.{Named, is_in_page, is_shape, known_size, named, named_headed, named_laid}
use Rattle.mark_world.specs.Naming.{named_long}
use Rattle.mark_world.specs.Naming.{named_shaped, named_slots, named_unread}
use Rattle.mark_world.specs.declared.event.Event.TheVariants as event
use Rattle.mark_world.specs.Conditions.{AwaitsLayout, AwaitsLength, MayHelper}
use Rattle.mark_world.specs.Steps.{snap_begun, with_length}
use Rattle.mark_laws.proofs.Slots.{and_some}
use Rattle.shared_table.specs.HelperTold.{HasReadShape}
use Rattle.shared_table.specs.Seats.{Helping}
use Rattle.slot_snapshot.specs.Loads.{IsLaid, reading, shape_in}

-- where a test gives no shape, nothing is named by it
given_none : (b : Bool) (shape : ℕ) (name : Named) → given b shape ≡ None → (if b then name else Named.no_cell) ≡
    Named.no_cell
given_none true shape name e = cc
given_none false shape name e = refl

-- where it gives one, it passed, and the shape is its value
given_some : (b : Bool) (value shape : ℕ) → given b value ≡ Some shape → (b ≡ true) × (value ≡ shape)
given_some true value shape e = (refl, cc)
given_some false value shape e = cc

-- a header of no shape that there may be names no cell
no_shape : (o : Option Header) (start : ℕ) (layout long : Option ℕ)
    → option_and_then (λ header. given (is_shape header) header.shape) o ≡ None
    → named_headed start layout long o ≡ Named.no_cell
no_shape None start layout long e = refl
no_shape (Some header) start layout long e =
    given_none (is_shape header) header.shape (named_shaped start long layout) e

-- so does one of a snap that has just begun
pub unshaped : (cell header : ℕ) → shape_in header ≡ None → named (snap_begun cell header) ≡ Named.no_cell
unshaped cell header e = no_shape (header_in header) cell None None e

-- a header with a shape that there may be
pub record HasShape (o : Option Header) (shape : ℕ) : Type 0 where
  pub header : Header
  pub is_header : o ≡ Some header
  pub known : is_shape header ≡ true
  pub is : header.shape ≡ shape

-- a header whose shape is taken has that shape
has_shape : (o : Option Header) (shape : ℕ)
    → option_and_then (λ header. given (is_shape header) header.shape) o ≡ Some shape → HasShape o shape
has_shape None shape e = cc
has_shape (Some header) shape e =
    let g = given_some (is_shape header) header.shape shape e in
    record { header = header; is_header = refl; known = g.0; is = g.1 }

-- so has the header that a word is
pub shaped : (word shape : ℕ) → shape_in word ≡ Some shape → HasShape (header_in word) shape
shaped word shape e = has_shape (header_in word) shape e

-- so the layout word may be loaded
pub may_lay : (view : HelperView) (cell header shape : ℕ) → view.snap ≡ Some (snap_begun cell header)
    → shape_in header ≡ Some shape → MayHelper view (event.LoadLayout 0) × HasReadShape view shape
may_lay view cell header shape has e =
    let h = shaped header shape e in (
      and_some AwaitsLayout view.snap (snap_begun cell header) has (record {
        unread = refl;
        shape = and_some (λ (one : Header). IsTrue (is_shape one)) (header_in header) h.header h.is_header h.known;
      }),
      and_some (λ (snap : Snap). IsSomeAnd (header_in snap.header) (λ one. one.shape ≡ shape)) view.snap
          (snap_begun cell header) has
          (and_some (λ (one : Header). one.shape ≡ shape) (header_in header) h.header h.is_header h.is),
    )

-- what is named then, by the layout word
pub laid_names : (snap : Snap) (shape word : ℕ) → shape_in snap.header ≡ Some shape → snap.layout ≡ Some word
    → named snap ≡ named_laid snap.cell snap.length (layout_in word)
laid_names snap shape word e read =
    let h = shaped snap.header shape e in
    ap (λ (o : Option Header). named_headed snap.cell snap.layout snap.length o) h.is_header
    ∙ (ap (λ (b : Bool). if b then named_shaped snap.cell snap.length snap.layout else Named.no_cell) h.known
    ∙ ap (λ (o : Option ℕ). named_shaped snap.cell snap.length o) read)

-- a cell whose slots are not counted by its length
pub short_names : (start : ℕ) (long : Option ℕ) (o : Option LayoutWord) (layout : LayoutWord) → o ≡ Some layout
    → marks_by_length layout.kind ≡ false → named_laid start long o ≡ named_slots start layout 0
short_names start long o layout is short =
    ap (named_laid start long) is
    ∙ ap (λ (b : Bool). if b then named_long start layout long else named_slots start layout 0) short

-- and one whose slots are
pub long_names : (start : ℕ) (long : Option ℕ) (o : Option LayoutWord) (layout : LayoutWord) → o ≡ Some layout
    → marks_by_length layout.kind ≡ true → named_laid start long o ≡ named_long start layout long
long_names start long o layout is by_length =
    ap (named_laid start long) is
    ∙ ap (λ (b : Bool). if b then named_long start layout long else named_slots start layout 0) by_length

-- a snap of which the header and the layout word are read names what is named where the length is not read
pub laid_unread : (view : HelperView) (cell : ℕ) (layout : LayoutWord) (is : IsLaid view cell layout)
    → named is.snap ≡ named_unread cell layout
laid_unread view cell layout is =
    laid_names is.snap is.shape is.word is.is_shape is.read
    ∙ (long_names is.snap.cell is.snap.length (layout_in is.word) layout is.is_layout is.long
    ∙ (ap (λ (o : Option ℕ). named_long is.snap.cell layout o) is.unread
    ∙ ap (λ (at : ℕ). named_unread at layout) is.of))

-- so its length may be loaded, if the shortest such cell ends in the page
pub may_measure : (view : HelperView) (cell : ℕ) (layout : LayoutWord) (is : IsLaid view cell layout)
    → IsTrue (is_in_page cell (known_size layout 0)) → MayHelper view (event.LoadLength 0)
may_measure view cell layout is inside =
    let in_page : is_in_page cell (known_size layout 0) ≡ true = inside in
    and_some AwaitsLength view.snap is.snap is.has (record {
      layout = subst IsSome (sym is.read) refl;
      unread = is.unread;
      asked = laid_unread view cell layout is
          ∙ ap (λ (b : Bool). if b then Named.unread else Named.no_cell) in_page;
    })

-- what is named with the length
pub measured_names : (view : HelperView) (cell : ℕ) (layout : LayoutWord) (is : IsLaid view cell layout) (long : ℕ)
    → named (with_length long is.snap) ≡ named_slots cell layout long
measured_names view cell layout is long =
    laid_names (with_length long is.snap) is.shape is.word is.is_shape is.read
    ∙ (long_names is.snap.cell (Some long) (layout_in is.word) layout is.is_layout is.long
    ∙ ap (λ (at : ℕ). named_slots at layout long) is.of)

-- a test that fails
fails : (b : Bool) (name : Named) → (IsTrue b → ⊥) → (if b then name else Named.no_cell) ≡ Named.no_cell
fails true name never = absurd (never refl)
fails false name never = refl

-- where the shortest cell passes the page, no cell is named
pub past_page : (view : HelperView) (cell : ℕ) (layout : LayoutWord) (is : IsLaid view cell layout)
    → (IsTrue (is_in_page cell (known_size layout 0)) → ⊥) → named is.snap ≡ Named.no_cell
past_page view cell layout is outside =
    laid_unread view cell layout is ∙ fails (is_in_page cell (known_size layout 0)) Named.unread outside

-- a step of the seat puts the snap that it makes
pub puts_snap : (before : Helping) (snap next : Snap) (step : Snap → Snap)
    → before.lent.view.snap ≡ Some snap → step snap ≡ next
    → record before {
      lent = record before.lent {
        view = record before.lent.view {
          snap = option_map step
              before.lent.view.snap;
        };
      };
    }
    ≡ record before { lent = reading before.lent next }
puts_snap before snap next step has is =
    ap (λ (o : Option Snap). record before {
      lent = record before.lent { view = record before.lent.view { snap = o } };
    })
    (ap (option_map step) has ∙ ap (λ (s : Snap). Some s) is)

-- a seat that learns nothing reads what it read
pub reads_on : (before : Helping) (snap : Snap) → before.lent.view.snap ≡ Some snap
    → before ≡ record before { lent = reading before.lent snap }
reads_on before snap has =
    ap (λ (o : Option Snap). record before {
      lent = record before.lent { view = record before.lent.view { snap = o } };
    }) has
