-- The next copy begins behind those before it; there are no more copies than places.
use Rattle.std.proofs.Common.{◌≡◌, ◌∙◌, ℕ, ◌<◌, ◌≤◌, List, length, get_or, sym, ap, subst, arith}
use Rattle.std.proofs.lemmas.List.{length-append}
use Rattle.std.proofs.lemmas.Option.{get_or_from_slice_get}
use Rattle.scav_copy.specs.declared.places.Home.{Home}
use Rattle.eden_copies.specs.Copied.{IsCopying}
use Rattle.eden_copies.proofs.Stepping.{copies_fit, goes_again}
use Rattle.eden_copies.proofs.CopySteps.{front_at, begins_at, ends_at, next_front}
use Rattle.eden_copies.proofs.scanning.scan.Goals as goal

pub scan_copy-requires-clause-copying : goal.scan_copy-requires-clause-copying
scan_copy-requires-clause-copying g c =
    let (deal, may, begun) = c.requires.copying in
    let own = c.args.words.now in
    let worker = c.copies.worker in
    let copying = c.copies.invariant.copying deal may begun in
    let inside : c.copies.next < length worker.copies = omega (arith, c.copies-test.true, c.count.ensures) in
    let is : get_or worker.copies c.copies.next c.copy-home.result ≡ c.copy-home.result =
    get_or_from_slice_get worker.copies c.copies.next c.copy-home.result c.copy-home.result c.copy-home.ensures in (
      deal,
      may,
      subst (λ (n : ℕ). IsCopying own deal n worker c.copies.seat)
          (sym (begins_at own deal (front_at own worker c.copies.next) worker c.copies.seat copying c.copies.next
          c.copy-home.result inside is)) copying,
    )

pub copies-smaller : goal.copies-smaller
copies-smaller g c =
    let (deal, may, begun) = c.requires.copying in
    let own = c.args.words.now in
    let worker = c.copies.worker in
    let goes = c.copies.invariant.goes in
    let few : length worker.copies ≤ worker.most =
    copies_fit own deal (front_at own worker c.copies.next) worker c.copies.seat may c.count-count.ensures.counted
    (goes.most ∙ c.requires.ready.most) (c.copies.invariant.copying deal may begun) in
    omega (arith, few, goes.most, c.copies-test.true, c.count.ensures)

pub copies-preserved : goal.copies-preserved
copies-preserved g c =
    let own = c.args.words.now in
    let worker = c.copies.worker in
    let seat = c.copies.seat in
    let next : ℕ = c.copies.next in
    let home : Home = c.copy-home.result in
    let inv = c.copies.invariant in
    let goes = c.scan_copy.ensures.goes in
    let inside : next < length worker.copies = omega (arith, c.copies-test.true, c.count.ensures) in
    let is : get_or worker.copies next home ≡ home =
    get_or_from_slice_get worker.copies next home home c.copy-home.ensures in
    record {
      copying = λ deal may begun.
          let copying = inv.copying deal may begun in
          let at : home.to ≡ front_at own worker next =
          begins_at own deal (front_at own worker next) worker seat copying next home inside is in
          subst (λ (n : ℕ). IsCopying own deal n c.scan_copy.new.worker c.scan_copy.new.seat)
          (next_front own worker c.scan_copy.new.worker seat c.scan_copy.new.seat next home goes inside is at)
          (c.scan_copy.ensures.copying deal may
          (subst (λ (n : ℕ). IsCopying own deal n worker seat) (sym at) copying));
      goes = goes_again c.args.worker.now worker c.scan_copy.new.worker c.args.seat.now seat c.scan_copy.new.seat
          inv.goes goes;
      counted = omega (
        arith,
        inside,
        ap (λ (homes : List Home). length homes) goes.copies,
        length-append worker.copies goes.more,
      );
    }

pub returns-clause-copying : goal.returns-clause-copying
returns-clause-copying g c = λ deal may begun.
    let own = c.args.words.now in
    let worker = c.copies.worker in
    let copying = c.copies.invariant.copying deal may begun in
    let all : length worker.copies ≤ c.copies.next = omega (arith, c.copies-test.false, c.count.ensures) in
    subst (λ (n : ℕ). IsCopying own deal n worker c.copies.seat)
    (ends_at own deal (front_at own worker c.copies.next) worker c.copies.seat copying c.copies.next all) copying
