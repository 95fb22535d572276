-- The cache of alterations that a tree keeps.
use Rattle.std.proofs.Common.{◌≡◌, ℕ, ◌<◌, List, ◌++◌, length, get_or, sym, ◌∙◌, subst}
use Rattle.std.proofs.Common.{arith}
use Rattle.std.specs.Prelude.{replicate, set}
use Rattle.std.proofs.lemmas.List.{length-set, length-replicate}
use Rattle.std.proofs.lemmas.List.Elements.{All-set, All-replicate}
use Rattle.object_graph.specs.declared.path.Path.{Path}
use Rattle.shape_tree.specs.declared.alterations.Altered.{Altered}
use Rattle.shape_tree.specs.declared.alterations.Alteration.{Alteration}
use Rattle.shape_tree.specs.declared.tree.ShapeTree.TheInside.{Inside}
use Rattle.shape_tree.specs.Shapes.{IsShapeOf, Leads, shape_path}
use Rattle.shape_tree.specs.Nodes.{altered, IsAlteration, IsAltered, AreAltered, alteration_entries, no_alteration}
use Rattle.shape_tree.specs.Trees.{IsTree, paths_of}
use Rattle.shape_tree.proofs.ShapePaths.{IsPathShape-append, IsShapeOf-append, shape_path-append}
use Rattle.shape_tree.proofs.LedPaths.{leads_there}

-- the path to which an alteration leads
abbrev pub altered_path : List Path → Alteration → Path
altered_path paths alteration = altered (shape_path paths alteration.shape) alteration.at alteration.becomes

-- an alteration stays one where paths are added
IsAlteration-append : (paths more : List Path) (alteration : Alteration) (shape : ℕ)
    → IsAlteration paths alteration shape → IsAlteration (paths ++ more) alteration shape
IsAlteration-append paths more alteration shape is =
    let same = sym (shape_path-append paths more alteration.shape is.starts) in
    record {
      starts = IsPathShape-append paths more alteration.shape is.starts;
      there = subst (λ (path : Path). alteration.at < length path.fields) same is.there;
      leads = subst (λ (path : Path). IsShapeOf (paths ++ more) (altered path alteration.at alteration.becomes) shape)
          same (IsShapeOf-append paths more (altered_path paths alteration) shape is.leads);
    }

-- what stands for none is no alteration
IsAltered-none : (paths : List Path) → IsAltered paths no_alteration
IsAltered-none paths = λ some. absurd (omega arith)

-- the cache of the first tree has no alteration
pub none_altered : (paths : List Path) → AreAltered paths (replicate alteration_entries no_alteration)
none_altered paths = record {
  counted = length-replicate alteration_entries no_alteration;
  each = All-replicate (IsAltered paths) alteration_entries no_alteration (IsAltered-none paths);
}

-- where paths are added each entry still has an alteration or none
pub AreAltered-append : (paths more : List Path) (cache : List Altered) → AreAltered paths cache
    → AreAltered (paths ++ more) cache
AreAltered-append paths more cache are = record {
  counted = are.counted;
  each = λ k d below. λ some. IsAlteration-append paths more (get_or cache k d).alteration (get_or cache k d).shape
      (are.each k d below some);
}

-- so it has after an alteration was put at an entry
pub AreAltered-kept : (paths : List Path) (cache : List Altered) (entry : ℕ) (kept : Altered) → AreAltered paths cache
    → IsAlteration paths kept.alteration kept.shape → AreAltered paths (set cache entry kept)
AreAltered-kept paths cache entry kept are is = record {
  counted = length-set cache entry kept ∙ are.counted;
  each = All-set (IsAltered paths) cache entry kept (λ some. is) are.each;
}

-- an alteration that a tree has at an entry leads to its path with nothing added
pub kept_leads : (tree : Inside) (paths : List Path) (entry : ℕ) (kept : Altered) (alteration : Alteration)
    → IsTree tree → paths_of tree ≡ paths → entry < alteration_entries
    → kept ≡ get_or tree.alterations.items entry kept → 0 < kept.shape → kept.alteration ≡ alteration
    → Leads paths paths (altered_path paths alteration) kept.shape
kept_leads tree paths entry kept alteration is shown within at some same =
    let own = paths_of tree in
    let below : entry < length tree.alterations.items = omega (arith, is.altered.counted) in
    let here : IsAltered own kept = subst (IsAltered own) (sym at) (is.altered.each entry kept below) in
    let found : IsAlteration own alteration kept.shape =
    subst (λ a. IsAlteration own a kept.shape) same (here some) in
    subst (λ ps. Leads ps ps (altered_path ps alteration) kept.shape) shown
    (leads_there own (altered_path own alteration) kept.shape is.shapes found.leads)
