use Rattle.std.proofs.Common.{◌+◌, List, [], ◌∷◌, sym, subst, ap, ◌∙◌, length, length-append}
use Rattle.guest_calls.specs.Guest.{state_of}
use Rattle.rrv_model.specs.declared.record.Frame.{Frame}
use Rattle.rrv_model.specs.StateAt.{StateAtFrom, total}
use Rattle.rrv_model.proofs.RunLaws.{at_total_append}
use Rattle.rates.proofs.runs.record_frames.Goals as goal

pub loop-preserved : goal.loop-preserved
loop-preserved c = (
  subst (λ (frames : List Frame). StateAtFrom (state_of c.args.guest.now) frames (total frames) (state_of c.slice.new.guest))
      (sym c.in-Ok-push.ensures.items)
      (at_total_append c.loop.frames.items (state_of c.args.guest.now) (state_of c.loop.guest) (state_of c.slice.new.guest) c.in-Ok.frame
      c.loop.invariant.0 c.in-Ok.ensures.is_slice.is_frame.frame),
  ap length c.in-Ok-push.ensures.items ∙ length-append c.loop.frames.items (c.in-Ok.frame ∷ []) ∙ ap (λ n. n + 1) c.loop.invariant.1,
)
