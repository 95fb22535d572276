-- Each turn reads a slot or passes it over.
use Rattle.std.proofs.Common.{◌≡◌, ◌∙◌, ℕ, ◌+◌, ◌++◌, ◌∷◌, [], List, map, Contains, true, false, length, refl, sym, ap}
use Rattle.std.proofs.Common.{subst, arith, rules}
use Rattle.std.proofs.lemmas.List.{length-append}
use Rattle.tagged_word.specs.Cells.{tagged_offsets}
use Rattle.mark_laws.specs.Types.{SnapSlot}
use Rattle.mark_world.specs.declared.event.Event.TheVariants as event
use Rattle.mark_world.specs.Conditions.{MayHelper}
use Rattle.shared_table.specs.Seats.{Helping}
use Rattle.shared_table.specs.HelperTold.{learned}
use Rattle.slot_snapshot.specs.Loads.{offset_of, with_slots, HasReadBelow}
use Rattle.slot_snapshot.proofs.ReadSlots.{all_read, begins, may_read, passes, reads_more, reads_slot, starts}
use Rattle.slot_snapshot.proofs.visits.Helper.read_slots.Goals.{then-is_tagged, else-is_tagged}
use Rattle.slot_snapshot.proofs.visits.Helper.read_slots.Goals as goal

pub loop-offset-init : goal.loop-offset-init
loop-offset-init c =
    let lent = c.args.seat.now.lent in
    let slots = c.args.slots in
    record {
      seat = ap (λ l. record c.args.seat.now { lent = l })
          (starts lent c.args.cell slots c.requires.awaits
          ∙ ap (λ (items : List SnapSlot). with_slots lent items) (sym c.requires.none));
      read = subst (λ (items : List SnapSlot). HasReadBelow (tagged_offsets slots.layout slots.length) 1 (map offset_of
          items))
          (sym c.requires.none) (begins lent c.args.cell slots c.requires.awaits c.requires.slots);
      few = omega (arith, ap (λ (items : List SnapSlot). length items) c.requires.none);
    }

pub load_slot-word-requires-clause-may : goal.load_slot-word-requires-clause-may
load_slot-word-requires-clause-may c =
    let tagged : Contains (tagged_offsets c.args.slots.layout c.args.slots.length) c.loop-offset.offset =
    search rules in
    subst (λ (h : Helping). MayHelper h.lent.view (event.LoadSlot 0 c.loop-offset.offset)) (sym
    c.loop-offset.invariant.seat)
    (may_read c.args.seat.now.lent c.args.cell c.args.slots c.requires.awaits c.loop-offset.self.slots.items
    c.loop-offset.offset tagged c.loop-offset.invariant.read)

pub loop-offset-preserved : goal.loop-offset-preserved
loop-offset-preserved c =
    let lent = c.args.seat.now.lent in
    let offsets : List ℕ = tagged_offsets c.args.slots.layout c.args.slots.length in
    let items : List SnapSlot = c.loop-offset.self.slots.items in
    let inv = c.loop-offset.invariant in
    let offset = c.loop-offset.offset in
    let entry : Helping = c.args.seat.now in
    elim c.if-is_tagged.branch [
      | then-is_tagged w ↦
          let word = w.load_slot-word.result in
          let slot : SnapSlot = record { offset = offset; word = word } in
          let more : c.if-is_tagged.self.slots.items ≡ items ++ slot ∷ [] =
          ap (λ s. s.slots.items) w.self-is ∙ w.push_reserved.ensures.items in
          let tagged : Contains offsets offset = w.if-is_tagged.ensures.0 refl in
          record {
            seat = w.seat-is
                ∙ (w.load_slot-word.ensures
                ∙ (ap (λ (h : Helping). record h { lent = learned h.lent (event.LoadSlot 0 offset) word }) inv.seat
                ∙ (ap (λ l. record entry { lent = l })
                (reads_slot lent c.args.cell c.args.slots c.requires.awaits items offset word)
                ∙ ap (λ (xs : List SnapSlot). record entry { lent = with_slots lent xs }) (sym more))));
            read = subst (λ (xs : List SnapSlot). HasReadBelow offsets (offset + 1) (map offset_of xs)) (sym more)
                (reads_more offsets offset word items tagged inv.read);
            few = omega (arith, inv.few, ap (λ (xs : List SnapSlot). length xs) more, length-append items (slot ∷ []));
          }
      | else-is_tagged w ↦
          let same : c.if-is_tagged.self.slots.items ≡ items = ap (λ s. s.slots.items) w.self-is in
          let other : Contains offsets offset → ⊥ =
          λ has. let yes : c.is_tagged.result ≡ true = c.is_tagged.ensures.1 has in
          let no_tag : c.is_tagged.result ≡ false = w.if-is_tagged.false in absurd cc in
          record {
            seat = w.seat-is
                ∙ (inv.seat ∙ ap (λ (xs : List SnapSlot). record entry { lent = with_slots lent xs }) (sym same));
            read = subst (λ (xs : List SnapSlot). HasReadBelow offsets (offset + 1) (map offset_of xs)) (sym same)
                (passes offsets offset (map offset_of items) other inv.read);
            few = omega (arith, inv.few, ap (λ (xs : List SnapSlot). length xs) same);
          }
    ]

pub returns-clause-read : goal.returns-clause-read
returns-clause-read c =
    all_read c.args.slots c.requires.slots c.loop-offset.offset (map offset_of c.loop-offset.self.slots.items)
    (omega (arith, c.loop-offset-test.false)) c.loop-offset.invariant.read
