-- The look-up cache that a tree keeps.
use Rattle.std.proofs.Common.{◌≡◌, ℕ, ◌<◌, List, ◌++◌, length, get_or, sym, ap, ◌∙◌, subst, Bool, Option}
use Rattle.std.proofs.Common.{true, false, refl, arith}
use Rattle.std.specs.Prelude.{replicate, ◌==◌, ◌↔◌, IfSome, IsNone}
use Rattle.std.specs.Cmp.{nat_eq_equiv}
use Rattle.std.proofs.lemmas.List.{length-set, length-replicate, get_or-set_same, get_or_default}
use Rattle.std.proofs.lemmas.List.Elements.{All-set, All-replicate}
use Rattle.std.proofs.lemmas.List.Folds.{list_any_at}
use Rattle.std.proofs.lemmas.Option.{slice_get_within, get_or_from_slice_get}
use Rattle.object_graph.specs.declared.path.Path.{Path}
use Rattle.object_graph.specs.declared.path.PathField.{PathField}
use Rattle.object_graph.specs.declared.value.Rep.{Rep}
use Rattle.shape_tree.specs.declared.located.Located.{Located}
use Rattle.shape_tree.specs.declared.look_ups.LookUp.{LookUp}
use Rattle.shape_tree.specs.declared.look_ups.Site.{Site}
use Rattle.shape_tree.specs.declared.look_ups.Site.TheVariants.{Own, Stored, Other}
use Rattle.shape_tree.specs.Shapes.{IsPathShape, IsLocated, has_name, shape_path}
use Rattle.shape_tree.specs.Nodes.{IsLookedUp, AreLookedUp, HasLocated, HasWord, TellsOf, Keeps, found_in, cached_in}
use Rattle.shape_tree.specs.Nodes.{look_up_entries, no_look_up}
use Rattle.shape_tree.specs.CachedSlots.{HasWordField, IsCachedSlot}
use Rattle.shape_tree.proofs.ShapePaths.{IsPathShape-append, shape_path-append}

-- what stands for none tells of no path
IsLookedUp-none : (paths : List Path) → IsLookedUp paths no_look_up
IsLookedUp-none paths = record { tells = λ some. absurd (omega arith); sited = tt }

-- the cache of the first tree tells of none
pub none_looked_up : (paths : List Path) → AreLookedUp paths (replicate look_up_entries no_look_up)
none_looked_up paths = record {
  counted = length-replicate look_up_entries no_look_up;
  each = All-replicate (IsLookedUp paths) look_up_entries no_look_up (IsLookedUp-none paths);
}

-- an entry tells of its path after paths were added
IsLookedUp-append : (paths more : List Path) (look_up : LookUp) → IsLookedUp paths look_up
    → IsLookedUp (paths ++ more) look_up
IsLookedUp-append paths more look_up is = record {
  tells = λ some.
      let here = is.tells some in (
        IsPathShape-append paths more look_up.shape here.0,
        subst (λ path. TellsOf path look_up) (sym (shape_path-append paths more look_up.shape here.0)) here.1,
      );
  sited = is.sited;
}

-- where paths are added each entry still tells of a path, or of nothing
pub AreLookedUp-append : (paths more : List Path) (cache : List LookUp) → AreLookedUp paths cache
    → AreLookedUp (paths ++ more) cache
AreLookedUp-append paths more cache are = record {
  counted = are.counted;
  each = λ k d below. IsLookedUp-append paths more (get_or cache k d) (are.each k d below);
}

-- so it does after an entry came to tell of the path of a shape
pub AreLookedUp-kept : (paths : List Path) (old new : List LookUp) (entry : ℕ) (path : Path) (shape name : ℕ)
    → AreLookedUp paths old → Keeps old new entry path shape name → IsPathShape paths shape
    → path ≡ shape_path paths shape → AreLookedUp paths new
AreLookedUp-kept paths old new entry path shape name are keeps is own =
    let look_up = keeps.look_up in
    let same = own ∙ ap (shape_path paths) (sym keeps.of_shape) in
    let told : IsLookedUp paths look_up = record {
      tells = λ some.
          (subst (IsPathShape paths) (sym keeps.of_shape) is, subst (λ p. TellsOf p look_up) same keeps.tells);
      sited = keeps.sited (omega (arith, is.from));
    } in
    subst (AreLookedUp paths) (sym keeps.kept) (record {
      counted = length-set old entry look_up ∙ are.counted;
      each = All-set (IsLookedUp paths) old entry look_up told are.each;
    })

-- the entry that came to tell of a name tells of it
pub told : (old new : List LookUp) (entry : ℕ) (path : Path) (shape name : ℕ) (look_up : LookUp)
    → Keeps old new entry path shape name → entry < length old → look_up ≡ get_or new entry look_up
    → (look_up.shape ≡ shape) × (look_up.name ≡ name)
told old new entry path shape name look_up keeps within at =
    let same : look_up ≡ keeps.look_up =
    at ∙ ap (λ cache. get_or cache entry look_up) keeps.kept
    ∙ get_or-set_same old entry keeps.look_up look_up within in
    (ap (λ (l : LookUp). l.shape) same ∙ keeps.of_shape, ap (λ (l : LookUp). l.name) same ∙ keeps.of_name)

-- the entry that told of a name tells of it where it is read again
pub still_told : (cache : List LookUp) (entry shape name : ℕ) (held look_up : LookUp) → entry < length cache
    → held ≡ get_or cache entry held → look_up ≡ get_or cache entry look_up
    → (held.shape ≡ shape) × (held.name ≡ name) → (look_up.shape ≡ shape) × (look_up.name ≡ name)
still_told cache entry shape name held look_up within first again =
    let same : held ≡ look_up = first ∙ get_or_default cache entry held look_up within ∙ sym again in
    subst (λ (l : LookUp). (l.shape ≡ shape) × (l.name ≡ name)) same

-- a path has the name of a field that stands in it
has_name-located : (path : Path) (found : Located) → HasLocated path found → has_name path found.name ≡ true
has_name-located path found is =
    let field : PathField = record { name = found.name; rep = found.rep } in
    let test = λ (f : PathField). f.name == found.name in
    list_any_at test path.fields found.at field (slice_get_within path.fields found.at field is.field)
    (ap test (get_or_from_slice_get path.fields found.at field field is.field) ∙ nat_eq_equiv.refl found.name)

-- what was found is where the field of this name stands in the path of this shape, or there is none
pub record Answers (paths : List Path) (shape name : ℕ) (found : Option Located) : Type 0 where
  pub there : IfSome found (λ l. IsLocated paths l × (l.shape ≡ shape) × (l.name ≡ name))
  pub none : IsNone found ↔ (has_name (shape_path paths shape) name ≡ false)

-- an entry of these parts
abbrev entry_of : (shape name at cap : ℕ) (rep : Rep) (is_there : Bool) (site : Site) (slot : ℕ) → LookUp
entry_of shape name at cap rep is_there site slot = record {
  shape = shape;
  name = name;
  at = at;
  cap = cap;
  rep = rep;
  is_there = is_there;
  site = site;
  slot = slot;
}

-- a look-up that tells of the path of its shape answers so, by whether its field is there
answers_by : (paths : List Path) (shape name at cap : ℕ) (rep : Rep) (is_there : Bool) (site : Site) (slot : ℕ)
    → IsPathShape paths shape
    → TellsOf (shape_path paths shape) (entry_of shape name at cap rep is_there site slot)
    → Answers paths shape name (found_in (entry_of shape name at cap rep is_there site slot))
answers_by paths shape name at cap rep true site slot is tells =
    let found : Located = record { shape = shape; name = name; at = at; cap = cap; rep = rep } in
    let here : HasLocated (shape_path paths shape) found = tells in
    let has = has_name-located (shape_path paths shape) found here in
    record {
      there = (record { is_shape = is; field = here.field; cap = here.cap }, refl, refl);
      none = (λ not. absurd (cc), λ none. absurd (cc (has, none)));
    }
answers_by paths shape name at cap rep false site slot is tells =
    record { there = tt; none = (λ not. tells, λ none. refl) }

-- each entry of the cache tells of a path, or of nothing
entry_at : (paths : List Path) (cache : List LookUp) (entry : ℕ) (look_up : LookUp) → AreLookedUp paths cache
    → entry < look_up_entries → look_up ≡ get_or cache entry look_up → IsLookedUp paths look_up
entry_at paths cache entry look_up are within at =
    let below : entry < length cache = omega (arith, are.counted) in
    subst (IsLookedUp paths) (sym at) (are.each entry look_up below)

-- so what an entry for a shape and name found answers for them
pub looked_up_at : (paths : List Path) (cache : List LookUp) (entry shape name : ℕ) (look_up : LookUp)
    → AreLookedUp paths cache → entry < look_up_entries → look_up ≡ get_or cache entry look_up
    → IsPathShape paths shape → look_up.shape ≡ shape → look_up.name ≡ name
    → Answers paths shape name (found_in look_up)
looked_up_at paths cache entry shape name look_up are within at is same called =
    let tells = (entry_at paths cache entry look_up are within at).tells (omega (arith, is.from, same)) in
    let found = answers_by paths look_up.shape look_up.name look_up.at look_up.cap look_up.rep look_up.is_there
    look_up.site look_up.slot tells.0 tells.1 in
    subst (λ s. Answers paths s name (found_in look_up)) same
    (subst (λ n. Answers paths look_up.shape n (found_in look_up)) called found)

-- where an entry has a field's word, a path has the field, and it is no wide one
has_word : (paths : List Path) (look_up : LookUp) → IsLookedUp paths look_up → HasWord look_up
    → HasWordField paths look_up.shape look_up.name (record {
      shape = look_up.shape;
      name = look_up.name;
      at = look_up.at;
      cap = look_up.cap;
      rep = look_up.rep;
    })
has_word paths look_up is word =
    let tells = is.tells word.of_shape in
    let here = rw word.there at tells.1 in
    record {
      located = record { is_shape = tells.0; field = here.field; cap = here.cap };
      of_shape = refl;
      of_name = refl;
      not_wide = word.not_wide;
    }

-- what an entry has of its shape and name is true of them, by its site
cached_by : (paths : List Path) (shape name at cap : ℕ) (rep : Rep) (is_there : Bool) (site : Site) (slot : ℕ)
    → IsLookedUp paths (entry_of shape name at cap rep is_there site slot)
    → IsCachedSlot paths shape name (cached_in (entry_of shape name at cap rep is_there site slot))
cached_by paths shape name at cap rep is_there Own slot is =
    let word = has_word paths (entry_of shape name at cap rep is_there Own slot) is is.sited.0 in
    (_, word, refl, sym is.sited.1, omega (arith, is.sited.1, is.sited.2))
cached_by paths shape name at cap rep is_there Stored slot is =
    let word = has_word paths (entry_of shape name at cap rep is_there Stored slot) is is.sited.0 in
    (_, word, refl, is.sited.1)
cached_by paths shape name at cap rep true Other slot is = tt
cached_by paths shape name at cap rep false Other slot is = is.tells

-- so what an entry for a shape and name has is true of them
pub cached_at : (paths : List Path) (cache : List LookUp) (entry shape name : ℕ) (look_up : LookUp)
    → AreLookedUp paths cache → entry < look_up_entries → look_up ≡ get_or cache entry look_up
    → look_up.shape ≡ shape → look_up.name ≡ name → IsCachedSlot paths shape name (cached_in look_up)
cached_at paths cache entry shape name look_up are within at same called =
    let cached = cached_by paths look_up.shape look_up.name look_up.at look_up.cap look_up.rep look_up.is_there
    look_up.site look_up.slot (entry_at paths cache entry look_up are within at) in
    subst (λ s. IsCachedSlot paths s name (cached_in look_up)) same
    (subst (λ n. IsCachedSlot paths look_up.shape n (cached_in look_up)) called cached)
