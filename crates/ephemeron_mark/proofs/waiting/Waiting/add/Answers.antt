-- A pair that comes is the last that waits for its key.
use Rattle.std.proofs.Common.{◌≡◌, ◌+◌, ◌⊎◌, ◌∷◌, ◌++◌, [], List, length, inl, inr, sym, ◌∙◌, ap, subst, arith}
use Rattle.std.proofs.lemmas.List.{length-append}
use Rattle.cell_list.specs.Listing.{Listing}
use Rattle.cell_list.proofs.Flags.{listed_are_few}
use Rattle.ephemeron_mark.specs.declared.waiting.WaitingPair.{WaitingPair}
use Rattle.ephemeron_mark.specs.Pairs.{Waits, WaitsFor}
use Rattle.ephemeron_mark.specs.Model.{keys_of, waits_of, AreTold}
use Rattle.ephemeron_mark.proofs.LastPairs.{as_many_keys, keys_with}
use Rattle.ephemeron_mark.proofs.AddedPairs.{told_added}
use Rattle.ephemeron_mark.proofs.AddedWaits.{push_of_new, push_of_listed, listed_waits, added_waits, added_kept}
use Rattle.ephemeron_mark.proofs.AddedWaits.{added_only, as_with_pair}
use Rattle.ephemeron_mark.proofs.waiting.Waiting.add.Goals as goal

pub returns-then-not-push-clause-waits : goal.returns-then-not-push-clause-waits
returns-then-not-push-clause-waits c =
    let old = c.self.inside in
    let waits : Waits = waits_of old in
    let listed = push_of_listed old.slots c.push.new.self c.args.slot c.push.result c.if-not-push.true
    c.push.ensures.value c.push.ensures.was_new in
    let found : WaitsFor waits c.args.key c.args.slot =
    listed_waits waits c.args.key c.args.slot (as_many_keys old.pairs.items ∙ c.self.invariant.as_many) listed.1
    (λ other one. c.requires.one other
    (subst (λ (w : Waits). WaitsFor w other c.args.slot) c.self.view_is one)) in
    subst (λ (list : Listing). WaitsFor (waits_of (record old { slots = list })) c.args.key c.args.slot)
    (sym listed.0) found

pub overflow_cast-count : goal.overflow_cast-count
overflow_cast-count c =
    omega (
      arith,
      listed_are_few c.push.new.self c.len-count.ensures.own,
      c.len-count.ensures.count,
      c.push.ensures.bound,
      c.self.invariant.fits,
    )

pub push_reserved-requires : goal.push_reserved-requires
push_reserved-requires c =
    let old = c.self.inside in
    let new = push_of_new old.slots c.push.new.self c.args.slot c.push.result c.if-not-push.false
    c.push.ensures.value in
    let more = ap (λ (list : Listing). length list.addresses) new in
    omega (
      arith,
      more,
      length-append old.slots.addresses (c.args.slot ∷ []),
      listed_are_few c.push.new.self c.len-count.ensures.own,
      c.push.ensures.bound,
      c.self.invariant.as_many,
      c.self.invariant.room,
    )

pub invariant_of-self-2 : goal.invariant_of-self-2
invariant_of-self-2 c =
    let old = c.self.inside in
    let last = old.last.items in
    let pairs : List WaitingPair = old.pairs.items in
    let pair : WaitingPair = record { key = c.args.key; earlier = c.tell_last-earlier.result } in
    let new = push_of_new old.slots c.push.new.self c.args.slot c.push.result c.if-not-push.false
    c.push.ensures.value in
    let more = ap (λ (list : Listing). length list.addresses) new in
    let long = length-append old.slots.addresses (c.args.slot ∷ []) in
    let items : c.push_reserved.new.self.items ≡ pairs ++ pair ∷ [] = c.push_reserved.ensures.items in
    let count : c.len-count.result ≡ length pairs + 1 =
    omega (arith, c.len-count.ensures.count, more, long, c.self.invariant.as_many) in
    let told = told_added pairs pair last c.tell_last-earlier.new.last.items c.self.invariant.told
    c.tell_last-earlier.ensures.before (c.tell_last-earlier.ensures.own ∙ count) c.tell_last-earlier.ensures.others in
    record {
      fits = omega (arith, c.push.ensures.bound, c.self.invariant.fits);
      as_many = omega (
        arith,
        ap (λ (all : List WaitingPair). length all) items,
        length-append pairs (pair ∷ []),
        more,
        long,
        c.self.invariant.as_many,
      );
      room = omega (arith, c.push.ensures.bound, c.push_reserved.ensures.capacity, c.self.invariant.room);
      room_for_last = omega (
        arith,
        c.push.ensures.bound,
        c.tell_last-earlier.ensures.capacity,
        c.self.invariant.room_for_last,
      );
      told = subst (AreTold c.tell_last-earlier.new.last.items) (sym items) told;
    }

pub returns-clause-waits : goal.returns-clause-waits
returns-clause-waits c =
    let old = c.self.inside in
    let pair : WaitingPair = record { key = c.args.key; earlier = c.tell_last-earlier.result } in
    let new = push_of_new old.slots c.push.new.self c.args.slot c.push.result c.if-not-push.false
    c.push.ensures.value in
    let items : c.push_reserved.new.self.items ≡ old.pairs.items ++ pair ∷ [] = c.push_reserved.ensures.items in
    let many = as_many_keys old.pairs.items ∙ c.self.invariant.as_many in
    as_with_pair (waits_of old) c.push.new.self.bound c.args.key c.args.slot many
    (λ (w : Waits). WaitsFor w c.args.key c.args.slot) c.push.new.self.addresses
    (keys_of c.push_reserved.new.self.items)
    (ap (λ (list : Listing). list.addresses) new) (ap keys_of items ∙ keys_with old.pairs.items pair)
    (added_waits (waits_of old) c.push.new.self.bound c.args.key c.args.slot many)

pub returns-clause-kept : goal.returns-clause-kept
returns-clause-kept c other at one =
    let old = c.self.inside in
    let pair : WaitingPair = record { key = c.args.key; earlier = c.tell_last-earlier.result } in
    let new = push_of_new old.slots c.push.new.self c.args.slot c.push.result c.if-not-push.false
    c.push.ensures.value in
    let items : c.push_reserved.new.self.items ≡ old.pairs.items ++ pair ∷ [] = c.push_reserved.ensures.items in
    let many = as_many_keys old.pairs.items ∙ c.self.invariant.as_many in
    let before : WaitsFor (waits_of old) other at =
    subst (λ (w : Waits). WaitsFor w other at) (sym c.self.view_is) one in
    as_with_pair (waits_of old) c.push.new.self.bound c.args.key c.args.slot many
    (λ (w : Waits). WaitsFor w other at) c.push.new.self.addresses (keys_of c.push_reserved.new.self.items)
    (ap (λ (list : Listing). list.addresses) new) (ap keys_of items ∙ keys_with old.pairs.items pair)
    (added_kept (waits_of old) c.push.new.self.bound c.args.key c.args.slot many other at before)

pub returns-clause-only : goal.returns-clause-only
returns-clause-only c other at =
    let old = c.self.inside in
    let pair : WaitingPair = record { key = c.args.key; earlier = c.tell_last-earlier.result } in
    let new = push_of_new old.slots c.push.new.self c.args.slot c.push.result c.if-not-push.false
    c.push.ensures.value in
    let items : c.push_reserved.new.self.items ≡ old.pairs.items ++ pair ∷ [] = c.push_reserved.ensures.items in
    let many = as_many_keys old.pairs.items ∙ c.self.invariant.as_many in
    let Only : Waits → Type 0 = λ w. WaitsFor w other at
    → WaitsFor c.args.self.now other at ⊎ ((other ≡ c.args.key) × (at ≡ c.args.slot)) in
    as_with_pair (waits_of old) c.push.new.self.bound c.args.key c.args.slot many
    Only c.push.new.self.addresses (keys_of c.push_reserved.new.self.items)
    (ap (λ (list : Listing). list.addresses) new) (ap keys_of items ∙ keys_with old.pairs.items pair)
    (λ one. elim (added_only (waits_of old) c.push.new.self.bound c.args.key c.args.slot many other at one) [
      | inl before ↦ inl (subst (λ (w : Waits). WaitsFor w other at) c.self.view_is before)
      | inr last ↦ inr last
    ])
