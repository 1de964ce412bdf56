use Rattle.std.proofs.Common.{◌∙◌, ap, subst, sym}
use Rattle.std.specs.Prelude.{OnOk}
use Rattle.std.specs.Io.KnownBytes.{Appends}
use Rattle.guest_calls.specs.Guest.{GuestValue, state_of}
use Rattle.replayer.specs.Verified.{VerifiedValue}
use Rattle.rrv_model.specs.StateAt.{StateAt, total}
use Rattle.changes.specs.Printed.{ranges_lines}
use Rattle.changes.proofs.Texts.{state_printed}
use Rattle.changes.proofs.printing.print_state.Goals as goal

pub returns-clause-printed : goal.returns-clause-printed
returns-clause-printed g c =
    let v = c.args.cursor.now.verified in
    let contents = g.W.Write.contents in
    let made = c.new-lines.ensures in
    let same = sym made.guest in
    state_printed c.print_ranges.result v.opening v.frames c.args.ranges.now (state_of c.new-lines.result.guest.now)
    c.args.cursor.now.place
    _ _ _ _ _
    (subst (λ (x : GuestValue). StateAt v.opening v.frames c.args.cursor.now.place (state_of x)) same c.guest-guest.ensures.state)
    (made.place ∙ c.place.ensures.place)
    (made.total ∙ c.total.ensures ∙ ap (λ (x : VerifiedValue). total x.frames) c.verified.ensures)
    c.in_ok-print_text.ensures.printed
    (subst (λ (x : GuestValue). OnOk c.print_ranges.result
    (Appends (contents c.print_text.new.out) (contents c.print_ranges.new.out) (ranges_lines (state_of x).memory c.args.ranges.now)))
    same c.print_ranges.ensures.printed)
