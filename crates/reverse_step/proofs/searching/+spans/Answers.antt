use Rattle.std.proofs.Common.{arith, Option, Result, ℕ, subst}
use Rattle.std.specs.Prelude.{IfOk}
use Rattle.replayer.specs.Changes.{IsLastIn}
use Rattle.rrv_model.specs.declared.refusal.Memory.{Memory}
use Rattle.reverse_step.proofs.Changed.{early_alone}
use Rattle.reverse_step.proofs.searching.+spans.Goals as goal

pub returns-in-None : goal.returns-in-None
returns-in-None g t c =
    let v = c.args.verified.now in
    let a = c.args.address in
    let middle = c.parting-middle.result in
    let within = c.parting-middle.ensures in
    let late : IfOk c.join-early.result.1 (IsLastIn v.opening v.frames a middle c.args.end) = c.join-early.ensures.second in
    let found : IsLastIn v.opening v.frames a middle c.args.end c.in_ok-t.field-0 =
    subst (λ (r : Result (Option ℕ) Memory). IfOk r (IsLastIn v.opening v.frames a middle c.args.end)) c.in_ok-t.was late in
    let none = subst (λ (f : Option ℕ). IsLastIn v.opening v.frames a middle c.args.end f) c.in-None.is found in
    early_alone v.opening v.frames a c.args.start middle c.args.end c.join-early.result.0 (omega (arith, c.if-middle-start.false)) within
    c.join-early.ensures.first none
