-- Layouts of paths, and the layout words of shapes.
use Rattle.std.proofs.Common.{◌≡◌, ℕ, ◌+◌, ◌*◌, ◌-◌, ◌<◌, ◌≤◌, ◌^◌, List, [], ◌∷◌}
use Rattle.std.proofs.Common.{◌++◌, length, get_or, map, take, refl, sym, ap, ◌∙◌, subst}
use Rattle.std.proofs.Common.{arith, length-append, append_assoc, Some, lit<, pow-suc, inl, inr}
use Rattle.std.proofs.lemmas.List.{length-map, map-append, get_or-map, get_or_append_left, get_or-append_right}
use Rattle.std.proofs.lemmas.List.{take_all, take-append-le, length-take}
use Rattle.std.proofs.lemmas.Option.{unwrap_or-slice_get}
use Rattle.std.proofs.lemmas.Bool.{cases_lt}
use Rattle.tagged_word.specs.declared.layout.LayoutWord.{LayoutWord}
use Rattle.tagged_word.specs.declared.layout.Kind.TheVariants.{Plain}
use Rattle.tagged_word.specs.Layouts.{layout_bits, IsLayout}
use Rattle.tagged_word.specs.Shapes.{first_path_shape, fixed_layout_words}
use Rattle.object_graph.specs.declared.path.Path.{Path}
use Rattle.object_graph.specs.declared.path.PathField.{PathField}
use Rattle.object_graph.specs.declared.value.Rep.{Rep}
use Rattle.object_graph.specs.declared.value.Rep.TheVariants.{Small, Wide, Tagged}
use Rattle.heap_command.specs.Commands.{cap_most}
use Rattle.object_graph.specs.Paths.{missing}
use Rattle.object_graph.specs.Limits.{paths_most}
use Rattle.object_graph.proofs.AddedPaths.{with_path-is}
use Rattle.shape_tree.specs.Shapes.{IsPathShape, Leads, shape_path}
use Rattle.shape_tree.specs.Growth.{extended}
use Rattle.shape_tree.specs.ShapeLayouts.{IsInUse, layout_of, layout_word, layout_words, in_object_fields, raw_bit}
use Rattle.shape_tree.specs.ShapeLayouts.{raw_mask}

-- the layout word of a path
abbrev word_of : Path → ℕ
word_of path = layout_bits (layout_of path)

-- the layout words of shapes in use are one more than the paths are, and 8
length-layout_words : (paths : List Path) → length (layout_words paths) ≡ first_path_shape + length paths
length-layout_words paths =
    let eight : length fixed_layout_words ≡ first_path_shape = refl in
    omega (arith, length-append fixed_layout_words (map word_of paths), length-map paths word_of)

-- paths that are added come with their words behind the others
layout_words-append : (paths more : List Path) → layout_words (paths ++ more) ≡ layout_words paths ++ map word_of more
layout_words-append paths more =
    ap (λ words. fixed_layout_words ++ words) (map-append word_of paths more)
    ∙ sym (append_assoc fixed_layout_words (map word_of paths) (map word_of more))

-- so a shape in use keeps its word
pub layout_word-append : (paths more : List Path) (shape : ℕ) → IsInUse paths shape
    → layout_word (paths ++ more) shape ≡ layout_word paths shape
layout_word-append paths more shape is =
    let inside : shape < length (layout_words paths) = omega (arith, length-layout_words paths, is.below) in
    unwrap_or-slice_get (layout_words (paths ++ more)) shape 0
    ∙ ap (λ words. get_or words shape 0) (layout_words-append paths more)
    ∙ get_or_append_left (layout_words paths) (map word_of more) 0 shape inside
    ∙ sym (unwrap_or-slice_get (layout_words paths) shape 0)

-- the same after a change of fields
pub layout_word-after : (old new : List Path) (path : Path) (next shape : ℕ) → Leads old new path next
    → IsInUse old shape → layout_word new shape ≡ layout_word old shape
layout_word-after old new path next shape leads is =
    subst (λ paths. layout_word paths shape ≡ layout_word old shape)
    (with_path-is (Some paths_most) old new path leads.added)
    (layout_word-append old (missing old path) shape is)

-- the layout word of a path's shape is that of the path
pub layout_word-path : (paths : List Path) (shape : ℕ) → IsPathShape paths shape
    → layout_word paths shape ≡ layout_bits (layout_of (shape_path paths shape))
layout_word-path paths shape is =
    let eight : length fixed_layout_words ≡ first_path_shape = refl in
    unwrap_or-slice_get (layout_words paths) shape 0
    ∙ get_or-append_right fixed_layout_words (map word_of paths) first_path_shape shape 0 eight is.from
    ∙ get_or-map word_of paths (shape - first_path_shape) _ 0 (omega (arith, is.below, is.from))

-- a bit stands for one field at most
raw_bit-le : (rep : Rep) → raw_bit rep ≤ 1
raw_bit-le Small = omega arith
raw_bit-le Wide = omega arith
raw_bit-le Tagged = omega arith

-- the mask has a bit for these fields alone
pub raw_mask-lt : (fields : List PathField) → raw_mask fields < 2 ^ length fields
raw_mask-lt [] = lit< tt
raw_mask-lt (field ∷ fields) =
    omega (arith, raw_bit-le field.rep, raw_mask-lt fields, pow-suc 2 (length fields))

-- the layout of a path is one
pub IsLayout-path : (path : Path) → path.cap ≤ cap_most → IsLayout (layout_of path)
IsLayout-path path capped =
    record {
      cap = capped;
      used = omega (arith, length-take path.cap path.fields);
      raw = raw_mask-lt (in_object_fields path);
    }

-- twice a product
times_two : (a b : ℕ) → a * (b * 2) ≡ 2 * (a * b)
times_two a b = omega arith

-- a field more brings its bit
raw_mask-push : (fields : List PathField) (field : PathField)
    → raw_mask (fields ++ field ∷ []) ≡ raw_mask fields + raw_bit field.rep * 2 ^ length fields
raw_mask-push [] field = omega arith
raw_mask-push (first ∷ fields) field =
    let more = raw_mask-push fields field in
    let twice : raw_bit field.rep * 2 ^ length (first ∷ fields) ≡ 2 * (raw_bit field.rep * 2 ^ length fields) =
    ap (λ n. raw_bit field.rep * n) (pow-suc 2 (length fields)) ∙ times_two (raw_bit field.rep) (2 ^ length fields) in
    omega (arith, more, twice)

-- the layout of a path with a field more, which does not stand in the object
layout_of-full : (path : Path) (field : PathField) → path.cap ≤ length path.fields
    → layout_of (extended path (field ∷ [])) ≡ layout_of path
layout_of-full path field full =
    let word : List PathField → LayoutWord = λ fields.
    record { kind = Plain; cap = path.cap; used = length fields; raw = raw_mask fields } in
    ap word (take-append-le path.cap path.fields (field ∷ []) full)

-- and of one that does
layout_of-more : (path : Path) (field : PathField) → length path.fields < path.cap
    → layout_of (extended path (field ∷ []))
    ≡ record (layout_of path) {
      used = length path.fields + 1;
      raw = (layout_of path).raw + raw_bit field.rep * 2 ^ length path.fields;
    }
layout_of-more path field room =
    let more = path.fields ++ field ∷ [] in
    let bit = raw_bit field.rep * 2 ^ length path.fields in
    let word : ℕ → ℕ → LayoutWord = λ used raw. record { kind = Plain; cap = path.cap; used = used; raw = raw } in
    let long : length more ≡ length path.fields + 1 = omega (arith, length-append path.fields (field ∷ [])) in
    let whole : take path.cap more ≡ more = take_all path.cap more (omega (arith, long)) in
    let own : take path.cap path.fields ≡ path.fields = take_all path.cap path.fields (omega arith) in
    let raw : raw_mask (take path.cap more) ≡ raw_mask (take path.cap path.fields) + bit =
    ap raw_mask whole ∙ raw_mask-push path.fields field ∙ ap (λ fields. raw_mask fields + bit) (sym own) in
    ap (λ used. word used (raw_mask (take path.cap more))) (ap length whole ∙ long)
    ∙ ap (word (length path.fields + 1)) raw

-- the layout that is made of that of a path is that of the path with a field more
pub layout_of-grown : (path : Path) (field : PathField) (layout made : LayoutWord) (count : ℕ) → layout ≡ layout_of path
    → count ≡ length path.fields → (layout.cap ≤ count → made ≡ layout)
    → (count < layout.cap → made ≡ record layout { used = count + 1; raw = layout.raw + raw_bit field.rep * 2 ^ count })
    → made ≡ layout_of (extended path (field ∷ []))
layout_of-grown path field layout made count is long full more =
    let caps : layout.cap ≡ path.cap = ap (λ (l : LayoutWord). l.cap) is in
    elim (cases_lt count layout.cap) [
      | inl room ↦
          let word : LayoutWord → ℕ → LayoutWord = λ l n.
          record l { used = n + 1; raw = l.raw + raw_bit field.rep * 2 ^ n } in
          more room ∙ ap (λ l. word l count) is ∙ ap (word (layout_of path)) long
          ∙ sym (layout_of-more path field (omega arith))
      | inr behind ↦ full behind ∙ is ∙ sym (layout_of-full path field (omega arith))
    ]

-- the mask of a path that has room for one field more in the object has no bit so high
pub raw-lt : (path : Path) (layout : LayoutWord) (count : ℕ) → layout ≡ layout_of path → count ≡ length path.fields
    → count < layout.cap → layout.raw < 2 ^ count
raw-lt path layout count is long room =
    let caps : layout.cap ≡ path.cap = ap (λ (l : LayoutWord). l.cap) is in
    let raws : layout.raw ≡ raw_mask (in_object_fields path) = ap (λ (l : LayoutWord). l.raw) is in
    let own : length (in_object_fields path) ≡ count = omega (arith, length-take path.cap path.fields) in
    let low : raw_mask (in_object_fields path) < 2 ^ count =
    subst (λ n. raw_mask (in_object_fields path) < 2 ^ n) own (raw_mask-lt (in_object_fields path)) in
    omega (arith, raws, low)
