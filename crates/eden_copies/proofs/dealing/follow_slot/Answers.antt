-- The word that is read is the one at the slot.
use Rattle.std.proofs.Common.{◌≡◌, ℕ, sym, subst}
use Rattle.std.proofs.lemmas.Option.{get_or_from_slice_get}
use Rattle.eden_copies.specs.Eden.{word_at}
use Rattle.eden_copies.specs.Steps.{HasFollowed, MayFollow}
use Rattle.eden_copies.proofs.dealing.follow_slot.Goals as goal

pub follow-now-requires-clause-may : goal.follow-now-requires-clause-may
follow-now-requires-clause-may g c =
    let own = c.args.words.now in
    let is : word_at own c.args.slot ≡ c.word-word.result =
    get_or_from_slice_get own.words c.args.slot c.word-word.result 0 c.word-word.ensures.of_heap in
    subst (λ (word : ℕ). MayFollow own c.args.worker.now c.args.seat.now word) is c.requires.may

pub returns : goal.returns
returns g c =
    let own = c.args.words.now in
    let is : word_at own c.args.slot ≡ c.word-word.result =
    get_or_from_slice_get own.words c.args.slot c.word-word.result 0 c.word-word.ensures.of_heap in
    record {
      now = c.follow-now.result;
      followed = subst (λ (word : ℕ). HasFollowed own c.args.worker.now c.follow-now.new.worker c.args.seat.now
          c.follow-now.new.seat word c.follow-now.result) (sym is) c.follow-now.ensures;
    }
