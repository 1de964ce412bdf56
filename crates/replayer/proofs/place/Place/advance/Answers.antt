use Rattle.std.proofs.Common.{◌<◌, arith, subst, sym}
use Rattle.rrv_model.specs.StateAt.{total}
use Rattle.replayer.specs.Places.{PlaceValue}
use Rattle.replayer.proofs.place.Place.advance.Goals as goal

pub overflow_add-next : goal.overflow_add-next
overflow_add-next c =
    let before = subst (λ (p : PlaceValue). p.at < total p.verified.frames) (sym c.self.view_is) c.requires in
    omega (arith, before, c.total-next.ensures, c.total-next.type_inv)
