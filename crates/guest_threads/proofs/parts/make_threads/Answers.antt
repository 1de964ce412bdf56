use Rattle.std.proofs.Common.{◌∙◌, sym, arith}
use Rattle.std.proofs.lemmas.Bool.{false≢true}
use Rattle.guest_threads.proofs.ThreadsOfParts.{makes, few, rise, all_fit, ordered}
use Rattle.guest_threads.proofs.parts.make_threads.Goals as goal

pub returns-then-threads-live_threads : goal.returns-then-threads-live_threads
returns-then-threads-live_threads c = (
  λ t. absurd (false≢true t),
  λ h. absurd (omega (
    arith,
    few c.args.version c.args.threads.now c.args.waiting.now c.args.next_tid h,
    c.if-threads-live_threads.true,
    c.live_threads.ensures,
  )),
)

pub returns-then-next_tid-lt1 : goal.returns-then-next_tid-lt1
returns-then-next_tid-lt1 c = (λ t. absurd (false≢true t), λ h. absurd (omega (arith, h.rules.first, c.if-next_tid-lt1.true)))

pub returns-then-next_tid : goal.returns-then-next_tid
returns-then-next_tid c = (λ t. absurd (false≢true t), λ h. absurd (omega (arith, h.rules.next_tid, c.if-next_tid.true)))

pub returns-then-not-tids_rise : goal.returns-then-not-tids_rise
returns-then-not-tids_rise c = (
  λ t. absurd (false≢true t),
  λ h. sym c.if-not-tids_rise.true ∙ c.tids_rise.ensures ∙ rise c.args.version c.args.threads.now c.args.waiting.now c.args.next_tid h,
)

pub returns-then-not-threads_fit : goal.returns-then-not-threads_fit
returns-then-not-threads_fit c = (
  λ t. absurd (false≢true t),
  λ h. sym c.if-not-threads_fit.true
      ∙ c.threads_fit.ensures.1 (all_fit c.args.version c.args.threads.now c.args.waiting.now c.args.next_tid h),
)

pub returns : goal.returns
returns c = (
  λ t. makes c.args.version c.args.threads.now c.args.waiting.now c.args.next_tid
      (omega (arith, c.if-threads-live_threads.false, c.live_threads.ensures)) c.if-next_tid-lt1.false c.if-next_tid.false
      (sym c.tids_rise.ensures ∙ c.if-not-tids_rise.false) (c.threads_fit.ensures.0 c.if-not-threads_fit.false)
      (sym c.order_fits.ensures ∙ t),
  λ h. c.order_fits.ensures ∙ ordered c.args.version c.args.threads.now c.args.waiting.now c.args.next_tid h,
)
