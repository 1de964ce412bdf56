use Rattle.std.proofs.Common.{◌≡◌, ◌+◌, ◌-◌, ◌*◌, ◌%◌, ◌<◌, ◌^◌, Ok, refl, ap, ◌∙◌, arith}
use Rattle.guest_pages.specs.Space.{memory_of}
use Rattle.rv_machine.specs.declared.flow.Flow.TheVariants as flows
use Rattle.rv_machine.specs.Flows.{place_after, stepped_of}
use Rattle.rv_machine.specs.Outcome.{hart}
use Rattle.rrv_model.specs.Words.{plus}
use Rattle.rv_machine.specs.declared.Stepped.TheVariants as stepped
use Rattle.rv_machine.proofs.HartSteps.{no_steps_at, one_more_at, runs_to}
use Rattle.rv_machine.proofs.KeptPages.{address_in_page, does_at, goes_on_in, next_aligned, page_once}
use Rattle.rv_machine.proofs.run.run_page.Goals as goal
use Rattle.rv_machine.proofs.run.run_page.Goals.{then-this-eq-PAGE_INSTRS, else-this-eq-PAGE_INSTRS+then-index-end}

pub loop-instrs-init : goal.loop-instrs-init
loop-instrs-init g c = record {
  regs = c.requires.regs;
  steps = no_steps_at _ _ _ (omega arith) (omega (arith, c.requires.place, c.requires.aligned));
  snapshots = refl;
  low = omega (arith, c.min-end.ensures);
  high = omega (arith, c.min-end.ensures);
  within = omega (arith, c.min-end.ensures);
  left = omega arith;
  whole = λ e. omega (arith, c.min-end.ensures, c.requires.limit, e);
  some = λ e. omega (arith, c.min-end.ensures, c.requires.some, c.requires.limit);
}

pub loop-instrs-preserved-in-Next-1 : goal.loop-instrs-preserved-in-Next-1
loop-instrs-preserved-in-Next-1 g c =
    let now = c.loop-instrs.invariant in
    let did = c.perform-flow.ensures in
    let next : stepped_of c.in-Ok-Next.field-0 ≡ stepped.Next = grind arith in
    let place : place_after (c.args.page.now.number * 4096 + c.loop-instrs.index * 4) c.in-Ok-Next.field-0
    ≡ plus (c.args.page.now.number * 4096 + c.loop-instrs.index * 4) 4 = grind arith in
    let goes = goes_on_in _ c.loop-instrs.index _ _ _ c.args.page.now c.index-instrs-index.result c.in-Ok-Next.field-0 c.perform-flow.result
    c.requires.decoded now.steps (omega arith) (rw c.as_slice-instrs.ensures.value at c.index-instrs-index.is) c.in-Ok-Next.is next did in
    let within = goes.within in
    let low : c.loop-instrs.index < c.loop-instrs.end = elim c.if-this-eq-PAGE_INSTRS.branch [
      | then-this-eq-PAGE_INSTRS w ↦ omega (arith, within, now.whole w.if-this-eq-PAGE_INSTRS.true)
      | else-this-eq-PAGE_INSTRS+then-index-end w ↦ w.if-index-end.true
    ] in
    record {
      regs = did.regs;
      steps = one_more_at _ _ _ _ _ _
          (hart c.perform-flow.new.regs (memory_of c.perform-flow.new.space) c.perform-flow.new.reservation) (omega arith) (omega arith)
          now.steps goes.step;
      snapshots = did.snapshots ∙ now.snapshots;
      low = omega arith;
      high = now.high;
      within = now.within;
      left = omega arith;
      whole = now.whole;
      some = λ e. absurd (omega arith);
    }

pub loop-instrs-preserved-then-left_at : goal.loop-instrs-preserved-then-left_at
loop-instrs-preserved-then-left_at g c =
    let now = c.loop-instrs.invariant in
    let did = c.perform-flow.ensures in
    let is : c.perform-flow.result ≡ Ok (flows.In c.in-Ok-In.to) =
    c.in-Ok-In.is ∙ ap Ok (rw c.in-Ok-In.is at c.in-Ok-In.field-0-is) in
    let goes = goes_on_in _ c.loop-instrs.index _ _ _ c.args.page.now c.index-instrs-index.result (flows.In c.in-Ok-In.to)
    c.perform-flow.result
    c.requires.decoded now.steps (omega arith) (rw c.as_slice-instrs.ensures.value at c.index-instrs-index.is) is refl did in
    let within = goes.within in
    let low : c.in-Ok-In.to.index < 1024 = c.in-Ok-In.to.low in
    record {
      regs = did.regs;
      steps = one_more_at _ _ _ _ _ _
          (hart c.perform-flow.new.regs (memory_of c.perform-flow.new.space) c.perform-flow.new.reservation) (omega arith)
          (omega (arith, low)) now.steps goes.step;
      snapshots = did.snapshots ∙ now.snapshots;
      low = omega (arith, c.min-end-in-Ok-In.ensures);
      high = omega (arith, c.min-end-in-Ok-In.ensures);
      within = omega (arith, c.min-end-in-Ok-In.ensures);
      left = omega arith;
      whole = λ e. omega (arith, c.min-end-in-Ok-In.ensures, c.if-left_at.true, e);
      some = λ e. omega (arith, c.min-end-in-Ok-In.ensures, c.if-left_at.true, c.requires.some);
    }

pub loop-instrs-preserved : goal.loop-instrs-preserved
loop-instrs-preserved g c =
    let now = c.loop-instrs.invariant in
    let did = c.perform-flow.ensures in
    let is : c.perform-flow.result ≡ Ok (flows.Jump c.in-Ok-Jump.target) =
    c.in-Ok-Jump.is ∙ ap Ok (rw c.in-Ok-Jump.is at c.in-Ok-Jump.field-0-is) in
    let goes = goes_on_in _ c.loop-instrs.index _ _ _ c.args.page.now c.index-instrs-index.result (flows.Jump c.in-Ok-Jump.target)
    c.perform-flow.result
    c.requires.decoded now.steps (omega arith) (rw c.as_slice-instrs.ensures.value at c.index-instrs-index.is) is refl did in
    let within = goes.within in
    let fits : c.in-Ok-Jump.target < 2 ^ 32 = let told = rw is at c.perform-flow.type_inv in omega (arith, told) in
    let here : (c.args.page.now.number * 4096 + c.loop-instrs.index * 4) % 4 ≡ 0 = omega arith in
    let aligned : c.in-Ok-Jump.target % 4 ≡ 0 = next_aligned _ _ here goes.step in
    record {
      regs = did.regs;
      steps = one_more_at _ _ _ _ _ _
          (hart c.perform-flow.new.regs (memory_of c.perform-flow.new.space) c.perform-flow.new.reservation) (omega arith)
          (omega (arith, aligned, c.if-target-base-lt4096.true)) now.steps goes.step;
      snapshots = did.snapshots ∙ now.snapshots;
      low = omega (arith, c.min-end-in-Ok-Jump.ensures);
      high = omega (arith, c.min-end-in-Ok-Jump.ensures);
      within = omega (arith, c.min-end-in-Ok-Jump.ensures);
      left = omega arith;
      whole = λ e. omega (arith, c.min-end-in-Ok-Jump.ensures, c.if-left_at-2.true, e);
      some = λ e. omega (arith, c.min-end-in-Ok-Jump.ensures, c.if-left_at-2.true, c.requires.some);
    }

pub returns-in_default-2 : goal.returns-in_default-2
returns-in_default-2 g c =
    let now = c.loop-instrs.invariant in
    let within : c.loop-instrs.index < 1024 = omega (arith, now.low, now.high, c.if-index-eq-PAGE_INSTRS.false) in
    let did = does_at (c.args.page.now.number * 4096 + c.loop-instrs.index * 4) _ _ c.perform-flow.result _ _
    (address_in_page c.args.page.now.number c.loop-instrs.index within) c.perform-flow.ensures in
    let low : c.loop-instrs.index < c.loop-instrs.end = elim c.if-this-eq-PAGE_INSTRS.branch [
      | then-this-eq-PAGE_INSTRS w ↦ omega (arith, within, now.whole w.if-this-eq-PAGE_INSTRS.true)
      | else-this-eq-PAGE_INSTRS+then-index-end w ↦ w.if-index-end.true
    ] in
    let once = page_once _ c.loop-instrs.index _ _ _ c.args.page.now c.index-instrs-index.result c.perform-flow.result c.requires.decoded
    now.steps
    within (rw c.as_slice-instrs.ensures.value at c.index-instrs-index.is) did in
    let here : c.address_in.result ≡ c.args.page.now.number * 4096 + c.loop-instrs.index * 4 =
    c.address_in.ensures ∙ address_in_page c.args.page.now.number c.loop-instrs.index within in
    let left : c.left_at-in_default-2.result ≡ c.loop-instrs.until - c.loop-instrs.index = omega (arith, c.left_at-in_default-2.ensures) in
    let fits : c.args.page.now.number * 4096 + c.loop-instrs.index * 4 < 2 ^ 32 = omega arith in
    rw (c.leave.ensures.run, c.leave.ensures.place, here, left)
    (runs_to _ _ _ _ _ _ (omega arith) (record { pc = fits; registers = now.regs.registers; zero = now.regs.zero }) now.steps once
    (rw (c.leave.ensures.place, here) at c.leave.ensures.regs) (did.snapshots ∙ now.snapshots))
