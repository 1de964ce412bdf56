use Rattle.std.proofs.Common.{◌∙◌, ℕ, ap, subst}
use Rattle.guest_calls.specs.Guest.{state_of}
use Rattle.guest_pages.specs.Space.{SpaceValue, memory_of}
use Rattle.replayer.specs.Verified.{VerifiedValue}
use Rattle.rrv_model.specs.StateAt.{StateAt}
use Rattle.command_line.specs.declared.request.Watched.{Watched}
use Rattle.changes.specs.Texts.{value_text}
use Rattle.changes.proofs.printing.value_after.Goals as goal

pub returns-clause-after : goal.returns-clause-after
returns-clause-after c =
    let old = c.args.cursor.now in
    let now = c.step_on.new.cursor in
    let moved = c.in_ok-step_on.ensures in
    let guest = c.guest.result.now in
    let made = c.new-value.ensures in
    let w = c.args.watched in
    let there = subst (λ (v : VerifiedValue). StateAt v.opening v.frames now.place (state_of guest)) moved.verified c.guest.ensures.state in
    record {
      state = state_of guest;
      is_at = subst (λ (n : ℕ). StateAt old.verified.opening old.verified.frames n (state_of guest)) moved.at there;
      text_is = c.in_ok-text.ensures.ok
          ∙ ap (λ (x : SpaceValue). value_text (memory_of x) c.new-value.result.watched) (made.space ∙ c.space.ensures)
          ∙ ap (λ (x : Watched). value_text (memory_of guest.space) x) made.watched;
    }
