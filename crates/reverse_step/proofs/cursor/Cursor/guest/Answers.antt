use Rattle.std.proofs.Common.{subst}
use Rattle.rrv_model.specs.StateAt.{StateAt}
use Rattle.guest_calls.specs.Guest.{state_of}
use Rattle.reverse_step.specs.Cursors.{CursorValue}
use Rattle.reverse_step.proofs.cursor.Cursor.guest.Goals as goal

pub returns-clause-state : goal.returns-clause-state
returns-clause-state c =
    subst (λ (v : CursorValue). StateAt v.verified.opening v.verified.frames v.place (state_of c.guest.result.now)) c.self.view_is
    c.guest.ensures.state
