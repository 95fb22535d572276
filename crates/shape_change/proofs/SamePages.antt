-- The words of pages where no word before the layout words changes.
use Rattle.std.proofs.Common.{◌≡◌, ℕ, ◌<◌, List, Option, length, take, slice_get, unwrap_or, sym, ◌∙◌, ap, arith}
use Rattle.std.proofs.lemmas.List.{ext_get_or, get_or-take, length-take}
use Rattle.std.proofs.lemmas.Option.{unwrap_or-slice_get}
use Rattle.page_space.specs.Extents.{Space, eden_start, layouts_start}
use Rattle.page_space.proofs.Starts.{layouts_start_is, roots_start_is}
use Rattle.cycle_state.specs.Cycles.{words_of_pages}
use Rattle.write_barrier.specs.MutatorState.{Mutator, heap_of}
use Rattle.write_barrier.specs.Seats.{heap_words}

-- words that agree up to an address are the same up to it
same_up_to : (many : ℕ) (words others : List ℕ) → length others ≡ length words
    → ((a : ℕ) → a < many → slice_get others a ≡ slice_get words a) → take many others ≡ take many words
same_up_to many words others counted same =
    let were = length-take many words in
    let are = length-take many others in
    ext_get_or 0 (take many others) (take many words) (omega (arith, were, are, counted)) (λ a below.
    let few : a < many = omega (arith, below, are) in
    get_or-take many others a 0 few
    ∙ sym (unwrap_or-slice_get others a 0) ∙ ap (λ (o : Option ℕ). unwrap_or o 0) (same a few)
    ∙ unwrap_or-slice_get words a 0
    ∙ sym (get_or-take many words a 0 few))

-- so the pages have the words that they had
pub pages_same : (old new : Mutator) → new.seat.space ≡ old.seat.space
    → length (heap_words new.seat) ≡ length (heap_words old.seat)
    → ((a : ℕ) → a < layouts_start old.seat.space
    → slice_get (heap_words new.seat) a ≡ slice_get (heap_words old.seat) a)
    → words_of_pages (heap_of new) ≡ words_of_pages (heap_of old)
pages_same old new space counted same =
    let old_space : Space = old.seat.space in
    ap (λ (one : Space). take (eden_start one) (heap_words new.seat)) space
    ∙ same_up_to (eden_start old_space) (heap_words old.seat) (heap_words new.seat) counted (λ a below.
    same a (omega (arith, below, roots_start_is old_space, layouts_start_is old_space)))
