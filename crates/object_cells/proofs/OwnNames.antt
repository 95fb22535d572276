-- What the slots of an object name whose cells changed: each named the same before, or names what stands where no cell
-- began but a filler; and no two name one. So the change of cells is the object's own.
use Rattle.std.proofs.Common.{◌≡◌, ℕ, ◌+◌, List, ◌∷◌, ◌++◌, Contains, ◌⊎◌, inl, inr, refl, sym, ◌∙◌, ap, subst}
use Rattle.tagged_word.specs.declared.layout.Kind.TheVariants as kind
use Rattle.heap_model.specs.Types.{Kind, Cell}
use Rattle.tagged_word.specs.Cells.{store_slot, has_length}
use Rattle.std.proofs.lemmas.Bool.{false≢true}
use Rattle.std.proofs.lemmas.Option.{same_Some}
use Rattle.tagged_word.proofs.Members.{first_in, rest_in}
use Rattle.std.proofs.lemmas.List.Elements.{Contains-append_right}
use Rattle.heap_model.specs.Heaps.{Heap, HasCell, words_of_cell}
use Rattle.heap_model.specs.Slots.{RefersTo}
use Rattle.heap_model.specs.Kinds.{HasWord, IsSoundCell}
use Rattle.heap_model.specs.Wholeness.{Whole, HasSlotAt, NamesFrom, IsOwnedKind}
use Rattle.heap_model.specs.Changes.{IsNewPlace, IsOwnChange}
use Rattle.heap_model.proofs.WordClasses.{same_reference}
use Rattle.heap_model.proofs.CellOutcomes.{owned_is_no_filler}
use Rattle.heap_model.proofs.CellsApart.{one_at, one_words}
use Rattle.heap_model.proofs.ObjectSlots.{store_slot_at}
use Rattle.heap_model.proofs.NamedBefore.{slot_named_before}
use Rattle.object_cells.specs.CellWrites.{Owns, WritesOwnCells}
use Rattle.object_cells.specs.OwnSlots.{ComesFrom, StoreComes, Refills}
use Rattle.object_cells.proofs.SlotNumbers.{IsSlotOf, HasNumbers}
use Rattle.object_cells.proofs.OwnSteps.{OwnWriting, own_writing, stood, stands, came_object, objects_stay, came_stood}
use Rattle.object_cells.proofs.OwnSteps.{own_places_stay, went_own, boxes_came}

-- a cell that is no box stands where none began but a filler
pub record IsNewStore (old new : Heap) (at : ℕ) : Type 0 where
  pub cell : Cell
  pub words : List ℕ
  pub has : HasCell new cell words
  pub no_box : cell.layout.kind ≡ kind.Boxed → ⊥
  pub place : cell.at ≡ at
  pub is_new : IsNewPlace old at

-- The slots of an object by their numbers, in the old heap and in the new one, and where the word of each comes from.
pub record Renames (old new : Heap) (cell came : Cell) (others beside made : List Cell)
    (was was_at is is_at : ℕ → ℕ → Type 0) : Type 0 where
  pub writing : OwnWriting old new cell came others beside made
  pub numbers : HasNumbers old new cell came was was_at is is_at
  -- from which slot each comes; no two come from one
  pub origin : ℕ → ℕ
  pub apart : (k other word another : ℕ) → is k word → is other another → origin k ≡ origin other → k ≡ other
  pub one : ℕ
  pub each : (k word : ℕ) → is k word → ComesFrom new was made (origin k) one k word
  -- the slot for the store or table
  pub store : (word : ℕ) (named : Cell) (words : List ℕ) → HasWord (words_of_cell new came) store_slot word
      → RefersTo new word named words → HasWord (words_of_cell old cell) store_slot word ⊎ IsNewStore old new named.at

module _ {old new : Heap} {cell came : Cell} {others beside made : List Cell} {was was_at is is_at : ℕ → ℕ → Type 0}
    (renames : Renames old new cell came others beside made was was_at is is_at) where
  -- A slot of the object has what stood at the place: the slot of the store its own, a numbered one that of the number
  -- from which it comes.
  data IsFrom (slot place : ℕ) : Type 0 where
    of_store : slot ≡ came.at + store_slot → place ≡ cell.at + store_slot → IsFrom slot place
    of_number : (k word : ℕ) → is k word → is_at k slot → was_at (renames.origin k) place → IsFrom slot place

  -- A slot of the object names what stands at a new place: that of the store a store or table, and a numbered one a
  -- box, if it is the one that may.
  data IsToNew (slot at : ℕ) : Type 0 where
    of_store : slot ≡ came.at + store_slot → IsNewStore old new at → IsToNew slot at
    of_number : is_at renames.one slot → (box : Cell) → Contains made box
        → box.layout.kind ≡ kind.Boxed → box.at ≡ at → IsToNew slot at

  -- What a slot of the object names it named before, from the place from which the slot comes; or it is new.
  data Source (slot at : ℕ) : Type 0 where
    before : (place : ℕ) → NamesFrom old cell place at → IsFrom slot place → Source slot at
    fresh : IsToNew slot at → Source slot at

  -- what a slot of the object held that names something named the same before
  named_before : {named : Cell} {words : List ℕ} {place : ℕ} (word : ℕ)
      → HasSlotAt old cell (words_of_cell old cell) place word → RefersTo new word named words
      → IsOwnedKind named.layout.kind → NamesFrom old cell place named.at
  named_before word at refers owned =
      slot_named_before renames.writing.step.whole (own_places_stay renames.writing.step) (stood renames.writing.step)
      renames.writing.step.object at refers owned

  -- where the word of the object's store comes from
  store_source : {named : Cell} {words : List ℕ} {slot : ℕ} (word : ℕ) → slot ≡ came.at + store_slot
      → HasWord (words_of_cell new came) store_slot word → RefersTo new word named words
      → IsOwnedKind named.layout.kind → Source slot named.at
  store_source {named} {words} word is_store holds refers owned = elim (renames.store word named words holds refers) [
    | inl held ↦
        let at = store_slot_at word renames.writing.step.object held in
        Source.before (cell.at + store_slot) (named_before word at refers owned) (IsFrom.of_store is_store refl)
    | inr new_store ↦ Source.fresh (IsToNew.of_store is_store new_store)
  ]

  -- where the word of a numbered slot comes from
  number_source : {named : Cell} {words : List ℕ} {slot : ℕ} (k word : ℕ) → is k word → is_at k slot
      → ComesFrom new was made (renames.origin k) renames.one k word → RefersTo new word named words
      → IsOwnedKind named.layout.kind → Source slot named.at
  number_source k word holds numbered (ComesFrom.moved held) refers owned =
      let before = renames.numbers.were (renames.origin k) word held in
      Source.before before.at (named_before word before.slot refers owned)
      (IsFrom.of_number k word holds numbered before.numbered)
  number_source {named} {words} k word holds numbered (ComesFrom.none none) refers owned =
      absurd (none named words refers owned)
  number_source {named} {slot = slot} k word holds numbered (ComesFrom.of_made box there is_box to_box the_one) refers
      owned =
      let same = same_reference box.at named.at (sym to_box ∙ refers.refers) in
      Source.fresh (IsToNew.of_number (subst (λ n. is_at n slot) the_one numbered) box there is_box same)

  -- where what the object's cell names comes from
  cell_source : (slot at : ℕ) → NamesFrom new came slot at → Source slot at
  cell_source slot at names =
      let has_slot : HasSlotAt new came (words_of_cell new came) slot names.word =
      subst (λ all. HasSlotAt new came all slot names.word) (one_words names.has (stands renames.writing.step))
      names.of_owner in
      let found : Source slot names.cell.at =
      elim (renames.numbers.are slot names.word names.cell names.others has_slot names.refers names.owned) [
        | IsSlotOf.of_store is_store holds ↦ store_source names.word is_store holds names.refers names.owned
        | IsSlotOf.of_number k holds numbered ↦
            number_source k names.word holds numbered (renames.each k names.word holds) names.refers names.owned
      ] in
      subst (Source slot) names.at found

  -- where what one of the cells that came or were made names comes from
  owner_source : (owner : Cell) (slot at : ℕ) → Contains (came ∷ (beside ++ made)) owner → NamesFrom new owner slot at
      → Source slot at
  owner_source owner slot at there names =
      let same = came_object renames.writing owner there names.object in
      cell_source slot at (subst (λ (one : Cell). NamesFrom new one slot at) (sym same) names)

  -- no cell but a filler began where a slot names what is new
  to_new_is_new : {slot at : ℕ} → IsToNew slot at → IsNewPlace old at
  to_new_is_new (IsToNew.of_store is_store new_store) = new_store.is_new
  to_new_is_new (IsToNew.of_number numbered box there of_kind place) = λ other words has stands_there.
      renames.writing.step.cells.new_places box other words there has (stands_there ∙ sym place)

  -- what a cell that came or was made names was named before by one that went, or is new
  renamed : (owner : Cell) (slot at : ℕ) → Contains (came ∷ (beside ++ made)) owner → NamesFrom new owner slot at
      → ((one : Cell) × ((place : ℕ) × Contains (cell ∷ others) one × NamesFrom old one place at)) ⊎ IsNewPlace old at
  renamed owner slot at there names = elim (owner_source owner slot at there names) [
    | Source.before place named from ↦ inl (cell, (place, first_in cell others, named))
    | Source.fresh names_new ↦ inr (to_new_is_new names_new)
  ]

  -- two slots that come from one place are one
  from_one : (slot other place : ℕ) → IsFrom slot place → IsFrom other place → slot ≡ other
  from_one slot other place (IsFrom.of_store is_store from) (IsFrom.of_store is_store' from') = is_store ∙ sym is_store'
  from_one slot other place (IsFrom.of_store is_store from) (IsFrom.of_number k word holds numbered origin) =
      absurd (renames.numbers.not_store (renames.origin k) place origin from)
  from_one slot other place (IsFrom.of_number k word holds numbered origin) (IsFrom.of_store is_store from) =
      absurd (renames.numbers.not_store (renames.origin k) place origin from)
  from_one slot other place (IsFrom.of_number k word holds numbered origin)
      (IsFrom.of_number k' word' holds' numbered' origin') =
      let origins = renames.numbers.one_number (renames.origin k) (renames.origin k') place origin origin' in
      let same : k ≡ k' = renames.apart k k' word word' holds holds' origins in
      renames.numbers.one_address k' slot other (subst (λ n. is_at n slot) same numbered) numbered'

  -- no new store is a box that was made
  store_is_no_box : {at : ℕ} (box : Cell) → IsNewStore old new at → Contains made box → box.layout.kind ≡ kind.Boxed
      → box.at ≡ at → ⊥
  store_is_no_box box store there is_box same =
      let has = renames.writing.step.cells.comes box (rest_in came (beside ++ made) box
      (Contains-append_right beside made box there)) in
      let one : store.cell ≡ box = one_at store.has has (store.place ∙ sym same) in
      store.no_box (ap (λ (c : Cell). c.layout.kind) one ∙ is_box)

  -- two slots that name one new cell are one
  to_one : (slot other at : ℕ) → IsToNew slot at → IsToNew other at → slot ≡ other
  to_one slot other at (IsToNew.of_store is_store store) (IsToNew.of_store is_store' store') = is_store ∙ sym is_store'
  to_one slot other at (IsToNew.of_store is_store store) (IsToNew.of_number numbered box there of_kind same) =
      absurd (store_is_no_box box store there of_kind same)
  to_one slot other at (IsToNew.of_number numbered box there of_kind same) (IsToNew.of_store is_store store) =
      absurd (store_is_no_box box store there of_kind same)
  to_one slot other at (IsToNew.of_number numbered box there of_kind same)
      (IsToNew.of_number numbered' box' there' of_kind' same') =
      renames.numbers.one_address renames.one slot other numbered numbered'

  -- what was named before is not new
  named_not_new : {place slot at : ℕ} → NamesFrom old cell place at → IsToNew slot at → ⊥
  named_not_new names names_new =
      owned_is_no_filler names.cell.layout.kind names.owned
      (to_new_is_new names_new names.cell names.others names.refers.has names.at)

  -- two slots with one source are one
  one_source : (slot other at : ℕ) → Source slot at → Source other at → slot ≡ other
  one_source slot other at (Source.before place names from) (Source.before place' names' from') =
      let same : place' ≡ place = sym (renames.writing.step.whole.owned cell cell place place' at names names') in
      from_one slot other place from (subst (IsFrom other) same from')
  one_source slot other at (Source.before place names from) (Source.fresh names_new) =
      absurd (named_not_new names names_new)
  one_source slot other at (Source.fresh names_new) (Source.before place names from) =
      absurd (named_not_new names names_new)
  one_source slot other at (Source.fresh names_new) (Source.fresh names_new') =
      to_one slot other at names_new names_new'

  -- so the change of cells is the object's own, where what came or was made is sound
  pub renamed_own : ((one : Cell) → Contains (came ∷ (beside ++ made)) one
      → IsSoundCell new one (words_of_cell new one))
      → IsOwnChange old new (cell ∷ others) (came ∷ beside) made
  renamed_own sound = record {
    own = λ one there. went_own renames.writing one there;
    objects_stay = λ one there object. objects_stay renames.writing.step one there object;
    objects_stood = λ one there object. came_stood renames.writing one there object;
    boxes_stay = λ one there box. boxes_came renames.writing.step one there box;
    sound = sound;
    named = renamed;
    once = λ owner another slot other at there there_too names names_too.
        one_source slot other at (owner_source owner slot at there names)
        (owner_source another other at there_too names_too);
  }

-- Words of an object's own cells were written, and where the word of each of its slots comes from is told: so these
-- name what they named before, or what was made.
pub refills_rename : {owner owned : Kind} {old new : Heap} {cell came : Cell} {others made : List Cell}
    {was was_at is is_at : ℕ → ℕ → Type 0} (owns : Owns owner owned) (whole : Whole old)
    (writes : WritesOwnCells owner owned old new cell came others made)
    → Refills owned old new cell came others made was is → HasNumbers old new cell came was was_at is is_at
    → Renames old new cell came others others made was was_at is is_at
refills_rename {owned = owned} {old} {new} {cell} {came} {others} {made} owns whole writes refills numbers =
    let writing = own_writing owns whole writes refills.belong refills.kinds in
    record {
      writing = writing;
      numbers = numbers;
      origin = refills.origin;
      apart = refills.apart;
      one = refills.one;
      each = refills.each_slot;
      store = λ word named words holds refers.
          let same : refills.store ≡ word = same_Some refills.store word (sym refills.has_store ∙ holds) in
          let comes = subst (StoreComes owned old cell made) same refills.store_comes in
          elim comes [
            | inl held ↦ inl held
            | inr there ↦
                let has = writing.step.cells.comes there.0 (rest_in came (others ++ made) there.0
                (Contains-append_right others made there.0 there.1)) in
                inr (record {
                  cell = there.0;
                  words = words_of_cell new there.0;
                  has = has;
                  no_box = λ box. false≢true (ap has_length (sym box ∙ there.2) ∙ owns.long);
                  place = same_reference there.0.at named.at (sym there.3 ∙ refers.refers);
                  is_new = λ other others_words has_other stands_there.
                      writing.step.cells.new_places there.0 other others_words there.1 has_other
                      (stands_there ∙ same_reference named.at there.0.at (sym refers.refers ∙ there.3));
                })
          ];
    }
