use Rattle.std.proofs.Common.{◌≡◌, ◌∙◌, ◌<◌, ℕ, subst}
use Rattle.asking.specs.Places.{RunsNext, shown_place}
use Rattle.guest_calls.specs.Guest.{state_of}
use Rattle.guest_pages.specs.Space.{memory_of}
use Rattle.replayer.specs.Verified.{VerifiedValue}
use Rattle.rrv_model.specs.State.{thread_at}
use Rattle.rrv_model.specs.StateAt.{StateAt, total}
use Rattle.changes.specs.Texts.{change_line, value_text}
use Rattle.changes.proofs.Texts.{line_printed, output_refused, runs_there}
use Rattle.changes.proofs.printing.print_line.Goals as goal

pub returns-clause-printed : goal.returns-clause-printed
returns-clause-printed g c =
    let old = c.args.cursor.now in
    let frames = old.verified.frames in
    let now = c.value_after.new.cursor in
    let moved = c.in_ok-after.ensures in
    let guest = c.guest-guest.result.now in
    let tid = c.first_thread-tid.result in
    let made = c.new-line.ensures in
    let place : c.place-place.result ≡ old.place = c.place-place.ensures.place ∙ moved.at in
    let is_at =
    subst (λ (n : ℕ). StateAt old.verified.opening frames n (state_of guest)) moved.at
    (subst (λ (v : VerifiedValue). StateAt v.opening v.frames now.place (state_of guest)) moved.verified c.guest-guest.ensures.state) in
    let shown =
    subst (λ (n : ℕ). 0 < total frames → RunsNext frames (shown_place (total frames) n) tid) place
    (subst (λ (v : VerifiedValue). 0 < total v.frames → RunsNext v.frames (shown_place (total v.frames) c.place-place.result) tid)
    (c.verified.ensures ∙ moved.verified) c.first_thread-tid.ensures.shown) in
    let value = made.after ∙ c.as_str.ensures.value ∙ moved.after.text_is in
    line_printed c.print_ranges.result old.verified.opening frames c.args.watched c.args.ranges.now (state_of guest) moved.after.state
    old.place tid _ _ _ _ is_at moved.after.is_at (runs_there frames old.place tid c.requires shown)
    (λ i. change_line ((made.place ∙ place) i) (made.tid i) (thread_at (state_of (made.guest i)) (made.tid i))
    (value_text (memory_of (made.guest i).space) (made.watched i)) (value i))
    c.in_ok-print_text.ensures.printed c.print_ranges.ensures.printed

pub returns-clause-refused : goal.returns-clause-refused
returns-clause-refused g c = output_refused c.print_ranges.result c.print_ranges.ensures.refused
