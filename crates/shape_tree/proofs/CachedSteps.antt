-- The cache of transitions that a tree keeps.
use Rattle.std.proofs.Common.{ℕ, List, ◌++◌, get_or, ◌∙◌}
use Rattle.std.proofs.Common.{arith}
use Rattle.std.specs.Prelude.{replicate, set}
use Rattle.std.proofs.lemmas.List.{length-set, length-replicate}
use Rattle.std.proofs.lemmas.List.Elements.{All-set, All-replicate}
use Rattle.object_graph.specs.declared.path.Path.{Path}
use Rattle.shape_tree.specs.declared.cached.Cached.{Cached}
use Rattle.shape_tree.specs.Nodes.{cache_entries, empty_entry, IsCached, AreCached}
use Rattle.shape_tree.proofs.FoundSteps.{IsTransition-append}

-- an empty entry has no transition to be one
IsCached-empty : (paths : List Path) → IsCached paths empty_entry
IsCached-empty paths = λ some. absurd (omega arith)

-- a cached step stays a transition where paths are added
IsCached-append : (paths more : List Path) (cached : Cached) → IsCached paths cached
    → IsCached (paths ++ more) cached
IsCached-append paths more cached is =
    λ some. IsTransition-append paths more cached.step cached.shape (is some)

-- the cache of the first tree has no transition
pub empty_cache : (paths : List Path) → AreCached paths (replicate cache_entries empty_entry)
empty_cache paths = record {
  counted = length-replicate cache_entries empty_entry;
  each = All-replicate (IsCached paths) cache_entries empty_entry (IsCached-empty paths);
}

-- after a path was added and the step to it put at an entry, each entry still has a transition or none
pub cache_grown : (paths more : List Path) (cache : List Cached) (entry : ℕ) (cached : Cached)
    → AreCached paths cache → IsCached (paths ++ more) cached
    → AreCached (paths ++ more) (set cache entry cached)
cache_grown paths more cache entry cached are is = record {
  counted = length-set cache entry cached ∙ are.counted;
  each = All-set (IsCached (paths ++ more)) cache entry cached is
      (λ k d below. IsCached-append paths more (get_or cache k d) (are.each k d below));
}
