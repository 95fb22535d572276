-- The box that is made stands in the words that were reserved; the pair's words are slots, and the count is none.
use Rattle.std.proofs.Common.{◌≡◌, ◌+◌, ◌<◌, sym, ap, ◌∙◌, subst, arith, rules}
use Rattle.page_space.specs.Extents.{Space, marks_start}
use Rattle.write_barrier.specs.Seats.{RestStays}
use Rattle.write_barrier.specs.Staying.{rest_stays_again}
use Rattle.write_barrier.specs.MutatorState.{Mutator}
use Rattle.write_barrier.specs.Recording.{Touches}
use Rattle.write_barrier.specs.Storing.{IsMadeYoung, StoresOn}
use Rattle.write_barrier.proofs.Recording.{then_touch}
use Rattle.write_barrier.proofs.StoresOn.{made_young_stays, stores_on_again, stores_on_itself}
use Rattle.object_cells.specs.declared.content.SlotContent.{SlotContent}
use Rattle.object_cells.specs.Contents.{next_at}
use Rattle.object_cells.specs.Made.{content_need, content_touch, store_content}
use Rattle.object_cells.proofs.RestOfWords.{reserved_rest, put_rest}
use Rattle.object_cells.proofs.TouchedWords.{content_reserved, then_wiped}
use Rattle.object_cells.proofs.UnusedWords.{run_before_layouts}
use Rattle.ephemeron_table.proofs.ClaimedMaps.{count_may_put, count_stores_on, map_may_still, pairs_may_still}
use Rattle.ephemeron_table.proofs.ClaimedMaps.{used_stores_on}
use Rattle.ephemeron_table.proofs.putting.put_in_table.Goals as goal

pub boxed_word-word-requires-clause-within : goal.boxed_word-word-requires-clause-within
boxed_word-word-requires-clause-within c v boxed =
    let need : c.need_of.result ≡ 2 = c.need_of.ensures ∙ ap content_need boxed in
    let space = ap (λ (main : Mutator). main.seat.space) c.in_ok-box_at.ensures.reserved in
    let before = run_before_layouts c.args.main.now c.need_of.result c.in_ok-box_at.box_at
    c.room_for.new.main.seat.space c.requires.tied c.in_ok-box_at.ensures.room
    (c.in_ok-box_at.ensures.at (omega arith)) space in
    omega (arith, before, need)

pub boxed_word-word-requires-clause-young : goal.boxed_word-word-requires-clause-young
boxed_word-word-requires-clause-young c v boxed =
    let need : c.need_of.result ≡ 2 = c.need_of.ensures ∙ ap content_need boxed in
    let used : StoresOn c.args.main.now c.room_for.new.main =
    used_stores_on c.need_of.result c.in_ok-box_at.ensures.reserved (stores_on_itself c.room_for.new.main) in
    made_young_stays used
    (subst (IsMadeYoung c.args.main.now) (sym (c.in_ok-box_at.ensures.at (omega arith))) c.requires.young)

pub put_pair-requires-clause-may : goal.put_pair-requires-clause-may
put_pair-requires-clause-may c =
    pairs_may_still (used_stores_on _ c.in_ok-box_at.ensures.reserved c.boxed_word-word.ensures.stores) c.requires.may

pub write_slot-requires-clause-may_store : goal.write_slot-requires-clause-may_store
write_slot-requires-clause-may_store c =
    count_may_put _ (map_may_still (stores_on_again (used_stores_on _ c.in_ok-box_at.ensures.reserved
    c.boxed_word-word.ensures.stores) c.put_pair.ensures.stores) c.requires.counts)

pub returns-clause-ok : goal.returns-clause-ok
returns-clause-ok c =
    let old : Mutator = c.args.main.now in
    let boxed : Mutator = c.boxed_word-word.new.main in
    let put : Mutator = c.put_pair.new.main in
    let holds = store_content c.args.value in
    let is : c.content_for-content.result ≡ holds = c.content_for-content.ensures in
    let need : c.need_of.result ≡ content_need holds = c.need_of.ensures ∙ ap content_need is in
    let reached : RestStays old.seat put.seat =
    rest_stays_again old.seat boxed.seat put.seat
    (rest_stays_again old.seat c.room_for.new.main.seat boxed.seat
    (reserved_rest old c.need_of.result c.in_ok-box_at.ensures.reserved) c.boxed_word-word.ensures.made.beside)
    c.put_pair.ensures.puts.beside in
    let before : c.args.map + 2 < marks_start put.seat.space =
    omega (arith, c.requires.map, ap (λ (s : Space). marks_start s) reached.space) in
    let first : Touches old boxed (content_touch holds (next_at old)) =
    content_reserved holds c.in_ok-box_at.box_at c.need_of.result c.in_ok-box_at.ensures.reserved
    (λ some. c.in_ok-box_at.ensures.at (omega (arith, some, need)))
    (subst (λ (one : SlotContent). Touches c.room_for.new.main boxed (content_touch one c.in_ok-box_at.box_at)) is
    c.boxed_word-word.ensures.touches) in
    record {
      room = search rules;
      words = record {
        beside = put_rest (c.args.map + 2) _ reached (ap (λ (main : Mutator). main.seat) c.write_slot.ensures.written)
            before;
        paths = search rules;
        young = search rules;
        heap = search rules;
      };
      touches = then_wiped (c.args.map + 2) (c.args.count + 1) (then_touch first c.put_pair.ensures.touches)
          c.write_slot.ensures.written before;
      stores = count_stores_on _ c.requires.counts (stores_on_again (used_stores_on _ c.in_ok-box_at.ensures.reserved
          c.boxed_word-word.ensures.stores) c.put_pair.ensures.stores) c.write_slot.ensures.written;
    }
