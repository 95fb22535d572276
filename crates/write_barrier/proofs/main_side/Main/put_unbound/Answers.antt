-- One variable more is bound to nothing.
use Rattle.std.proofs.Common.{◌≡◌, ◌<◌, ◌∙◌, ℕ, ap, arith, length}
use Rattle.std.specs.Prelude.{slice_set}
use Rattle.page_space.specs.Extents.{Space, roots_start, layouts_start, marks_start}
use Rattle.page_space.proofs.Starts.{layouts_start_is, marks_start_is}
use Rattle.handle_roots.specs.declared.held.Held.TheVariants.{Unbound}
use Rattle.handle_roots.specs.Roots.{root_at, first_word}
use Rattle.write_barrier.specs.Seats.{heap_words}
use Rattle.write_barrier.proofs.Changes.{root_before_marks, put_changes, changes_then, roots_more, seconds_stay}
use Rattle.write_barrier.proofs.main_side.Main.put_unbound.Goals as goal

pub root_of-root-requires : goal.root_of-root-requires
root_of-root-requires c =
    let same = ap (λ (s : Space). s.variables) c.loop-variable.invariant.changes.seat.space in
    omega (arith, same, ap (λ (s : Space). s.variables) c.regions-regions.ensures.regions)

pub loop-variable-preserved : goal.loop-variable-preserved
loop-variable-preserved c =
    let space = c.args.self.now.seat.space in
    let old = c.loop-variable.self in
    let new = c.put_own.new.self in
    let variable = c.loop-variable.variable in
    let known : variable < space.variables =
    omega (arith, ap (λ (s : Space). s.variables) c.regions-regions.ensures.regions) in
    let at : c.root_of-root.result ≡ root_at space variable =
    c.root_of-root.ensures.at
    ∙ ap (λ (s : Space). root_at s variable) c.loop-variable.invariant.changes.seat.space in
    let heap : heap_words new.seat ≡ slice_set (heap_words old.seat) (root_at space variable) (first_word Unbound) =
    c.put_own.ensures.heap
    ∙ ap (λ (a : ℕ). slice_set (heap_words old.seat) a c.odd.result.0) at
    ∙ ap (λ (word : ℕ). slice_set (heap_words old.seat) (root_at space variable) word) c.odd.ensures in
    let within : root_at space variable < length (heap_words old.seat) =
    omega (
      arith,
      root_before_marks space variable known,
      c.loop-variable.invariant.changes.count,
      c.regions-regions.ensures.heap_counted,
    ) in
    record {
      changes = changes_then c.args.self.now old new (roots_start space) (layouts_start space) (roots_start space)
          (layouts_start space) c.loop-variable.invariant.changes
          (put_changes old new c.root_of-root.result c.odd.result.0 (roots_start space) (layouts_start space)
          c.put_own.ensures.put c.put_own.ensures.heap (omega (arith, at)) (omega (arith, at, layouts_start_is space))
          (omega (arith, marks_start_is space, ap marks_start c.loop-variable.invariant.changes.seat.space)))
          (omega arith) (omega arith);
      firsts = roots_more space (heap_words old.seat) (heap_words new.seat) variable (first_word Unbound) heap within
          c.loop-variable.invariant.firsts;
      seconds = λ other below.
          seconds_stay space (heap_words old.seat) (heap_words new.seat) variable other (first_word Unbound) heap
          ∙ c.loop-variable.invariant.seconds other below;
    }
