use Rattle.std.proofs.Common.{sym, subst, rules, refl}
use denote.Enum.Bare.{same_true, same_false}
use Rattle.tagged_word.specs.contracts.layout.Kind.{the_type}
use Rattle.heap_model.specs.Images.{image_heap}
use Rattle.heap_model.specs.Heaps.{words_of_cell}
use Rattle.image_walk.specs.Sorts.{IsSort}
use Rattle.image_walk.specs.Spans.{IsStoreKind, IsBeside}
use Rattle.image_walk.proofs.StoreSlots.{store_has_head, none_beside, store_beside, wrong_beside, no_beside}
use Rattle.image_walk.proofs.stores.slots_beside.Goals as goal

pub behind_head-requires-clause-long : goal.behind_head-requires-clause-long
behind_head-requires-clause-long c =
    let other = subst (IsSort (image_heap c.args.image.now) c.args.word) c.in-Other.is c.requires.stands in
    let cell = c.in-Other.cell in
    let is = same_true the_type (search rules) cell.layout.kind c.args.kind (sym c.if-eq.ensures) in
    store_has_head (image_heap c.args.image.now) cell other.refers.has
    (subst IsStoreKind (sym is) c.requires.of_stores)

pub returns-in-Undefined-clause-spans : goal.returns-in-Undefined-clause-spans
returns-in-Undefined-clause-spans c =
    none_beside (image_heap c.args.image.now) c.args.kind c.args.word
    (subst (IsSort (image_heap c.args.image.now) c.args.word) c.in-Undefined.is c.requires.stands)

pub returns-in-Undefined-clause-beside : goal.returns-in-Undefined-clause-beside
returns-in-Undefined-clause-beside c =
    IsBeside.none (subst (IsSort (image_heap c.args.image.now) c.args.word) c.in-Undefined.is c.requires.stands) refl
    refl

pub returns-then-eq-clause-spans : goal.returns-then-eq-clause-spans
returns-then-eq-clause-spans c =
    let other = subst (IsSort (image_heap c.args.image.now) c.args.word) c.in-Other.is c.requires.stands in
    let cell = c.in-Other.cell in
    let is = same_true the_type (search rules) cell.layout.kind c.args.kind (sym c.if-eq.ensures) in
    store_beside (image_heap c.args.image.now) c.args.kind c.args.word cell c.behind_head.result
    other.refers is c.behind_head.ensures.slots c.behind_head.ensures.is

pub returns-then-eq-clause-beside : goal.returns-then-eq-clause-beside
returns-then-eq-clause-beside c =
    let other = subst (IsSort (image_heap c.args.image.now) c.args.word) c.in-Other.is c.requires.stands in
    let cell = c.in-Other.cell in
    let is = same_true the_type (search rules) cell.layout.kind c.args.kind (sym c.if-eq.ensures) in
    IsBeside.store cell (words_of_cell (image_heap c.args.image.now) cell) other.refers is
    c.behind_head.ensures.from c.behind_head.ensures.end

pub returns-else-eq-clause-spans : goal.returns-else-eq-clause-spans
returns-else-eq-clause-spans c =
    let other = subst (IsSort (image_heap c.args.image.now) c.args.word) c.in-Other.is c.requires.stands in
    wrong_beside (image_heap c.args.image.now) c.args.kind c.args.word c.in-Other.cell other
    (same_false the_type c.in-Other.cell.layout.kind c.args.kind (sym c.if-eq.ensures))

pub returns-in_default-clause-spans : goal.returns-in_default-clause-spans
returns-in_default-clause-spans c =
    no_beside (image_heap c.args.image.now) c.args.kind c.args.word c.args.referent c.requires.of_stores
    c.requires.stands c.in_default.not-Undefined c.in_default.not-Other
