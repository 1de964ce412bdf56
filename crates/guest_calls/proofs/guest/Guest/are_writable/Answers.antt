use Rattle.std.proofs.Common.{get_or, refl, sym, ◌∙◌, ap}
use Rattle.rrv_model.specs.Memory.{writable}
use Rattle.guest_calls.specs.Guest.{GuestValue, state_of}
use Rattle.guest_calls.proofs.CloneParts.{next_writable, unwritable_at, all_tested}
use Rattle.guest_calls.proofs.guest.Guest.are_writable.Goals as goal

pub loop-place-init : goal.loop-place-init
loop-place-init c = refl

pub returns-then-not-is_writable : goal.returns-then-not-is_writable
returns-then-not-is_writable c =
    let m = (state_of c.args.self.now).memory in
    let place = get_or c.args.places.now c.loop-place.place-index 0 in
    unwritable_at m c.args.places.now c.loop-place.place-index c.loop-place-test.true
    (ap (λ (g : GuestValue). writable (state_of g).memory place 4) (sym c.self.view_is) ∙ sym c.is_writable.ensures
    ∙ c.if-not-is_writable.true) c.loop-place.invariant

pub loop-place-preserved : goal.loop-place-preserved
loop-place-preserved c =
    let m = (state_of c.args.self.now).memory in
    let place = get_or c.args.places.now c.loop-place.place-index 0 in
    next_writable m c.args.places.now c.loop-place.place-index c.loop-place-test.true
    (ap (λ (g : GuestValue). writable (state_of g).memory place 4) (sym c.self.view_is) ∙ sym c.is_writable.ensures
    ∙ c.if-not-is_writable.false) c.loop-place.invariant

pub returns : goal.returns
returns c = all_tested (state_of c.args.self.now).memory c.args.places.now c.loop-place.place-index c.loop-place-test.false
    c.loop-place.invariant
