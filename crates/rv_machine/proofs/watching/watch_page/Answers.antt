use Rattle.std.proofs.Common.{◌≡◌, ◌≢◌, ℕ, ◌+◌, ◌-◌, ◌*◌, ◌%◌, ◌<◌, ◌^◌, Ok, refl, sym, ap, ◌∙◌, arith}
use Rattle.std.specs.Option.{option_map}
use Rattle.guest_pages.specs.Space.{memory_of}
use Rattle.rv_machine.specs.declared.flow.Flow.TheVariants as flows
use Rattle.rv_machine.specs.Flows.{answer_of, hart_at, place_of}
use Rattle.rv_machine.specs.Outcome.{hart}
use Rattle.rv_machine.proofs.HartSteps.{no_steps_at, one_more_at, runs_to}
use Rattle.rv_machine.proofs.KeptPages.{address_in_page, does_at, goes_on_in, next_aligned, page_once}
use Rattle.rv_machine.proofs.Watches.{last_watched, looks_at, none_stored, stays_at, watched_at}
use Rattle.rv_machine.proofs.watching.watch_page.Goals as goal
use Rattle.rv_machine.proofs.watching.watch_page.Goals.{then-this-eq-PAGE_INSTRS, else-this-eq-PAGE_INSTRS+then-index-end, in_default-via-in-Ok-Jump+then-target-base-lt4096+else-left_at-2, in_default-via-in-Ok-In+else-left_at, in_default-via-in-Ok-Jump+else-target-base-lt4096, in_default-via-in-Ok+in_default, in_default-via-in_default}

pub loop-instrs-init : goal.loop-instrs-init
loop-instrs-init g c = record {
  regs = c.requires.regs;
  steps = no_steps_at _ _ _ (omega arith) (omega (arith, c.requires.place, c.requires.aligned));
  snapshots = refl;
  low = omega (arith, c.min-end.ensures);
  high = omega (arith, c.min-end.ensures);
  within = omega (arith, c.min-end.ensures);
  left = omega arith;
  whole = λ e. omega (arith, c.min-end.ensures, c.requires.limit, e);
  some = λ e. omega (arith, c.min-end.ensures, c.requires.some, c.requires.limit);
  address = refl;
  watched = λ first watched. watched_at _ _ _ _ first _ (omega arith) (omega (arith, c.requires.place, c.requires.aligned)) watched;
}

pub loop-instrs-preserved-in-Next-1 : goal.loop-instrs-preserved-in-Next-1
loop-instrs-preserved-in-Next-1 g c =
    let now = c.loop-instrs.invariant in
    let did = c.perform-flow.ensures in
    let is : c.perform-flow.result ≡ Ok flows.Next = c.in-Ok-Next.is ∙ ap Ok (rw c.in-Ok-Next.is at c.in-Ok-Next.field-0-is) in
    let goes = goes_on_in _ c.loop-instrs.index _ _ _ c.args.page.now c.index-instrs-index.result flows.Next c.perform-flow.result
    c.requires.decoded now.steps (omega arith) (rw c.as_slice-instrs.ensures.value at c.index-instrs-index.is) is refl did in
    let within = goes.within in
    let low : c.loop-instrs.index < c.loop-instrs.end = elim c.if-this-eq-PAGE_INSTRS.branch [
      | then-this-eq-PAGE_INSTRS w ↦ omega (arith, within, now.whole w.if-this-eq-PAGE_INSTRS.true)
      | else-this-eq-PAGE_INSTRS+then-index-end w ↦ w.if-index-end.true
    ] in
    let kept = did.stays c.loop-instrs.watch.address (rw is refl) in
    record {
      regs = did.regs;
      steps = one_more_at _ _ _ _ _ _
          (hart c.perform-flow.new.regs (memory_of c.perform-flow.new.space) c.perform-flow.new.reservation) (omega arith) (omega arith)
          now.steps goes.step;
      snapshots = did.snapshots ∙ now.snapshots;
      low = omega arith;
      high = now.high;
      within = now.within;
      left = omega arith;
      whole = now.whole;
      some = λ e. absurd (omega arith);
      address = now.address;
      watched = λ first watched. stays_at _ _ _ _ _ first _
          (hart c.perform-flow.new.regs (memory_of c.perform-flow.new.space) c.perform-flow.new.reservation) (omega arith) (omega arith)
          goes.step kept (now.watched first watched);
    }

pub loop-instrs-preserved-in-Stored-1 : goal.loop-instrs-preserved-in-Stored-1
loop-instrs-preserved-in-Stored-1 g c =
    let now = c.loop-instrs.invariant in
    let did = c.perform-flow.ensures in
    let is : c.perform-flow.result ≡ Ok (flows.Stored c.in-Ok-Stored.stored) =
    c.in-Ok-Stored.is ∙ ap Ok (rw c.in-Ok-Stored.is at c.in-Ok-Stored.field-0-is) in
    let goes = goes_on_in _ c.loop-instrs.index _ _ _ c.args.page.now c.index-instrs-index.result
    (flows.Stored c.in-Ok-Stored.stored) c.perform-flow.result c.requires.decoded now.steps (omega arith)
    (rw c.as_slice-instrs.ensures.value at c.index-instrs-index.is) is refl did in
    let within = goes.within in
    let low : c.loop-instrs.index < c.loop-instrs.end = elim c.if-this-eq-PAGE_INSTRS.branch [
      | then-this-eq-PAGE_INSTRS w ↦ omega (arith, within, now.whole w.if-this-eq-PAGE_INSTRS.true)
      | else-this-eq-PAGE_INSTRS+then-index-end w ↦ w.if-index-end.true
    ] in
    record {
      regs = did.regs;
      steps = one_more_at _ _ _ _ _ _
          (hart c.perform-flow.new.regs (memory_of c.perform-flow.new.space) c.perform-flow.new.reservation) (omega arith) (omega arith)
          now.steps goes.step;
      snapshots = did.snapshots ∙ now.snapshots;
      low = omega arith;
      high = now.high;
      within = now.within;
      left = omega arith;
      whole = now.whole;
      some = λ e. absurd (omega arith);
      address = c.look_after.ensures.address ∙ now.address;
      watched = λ first watched.
          let was = now.watched first watched in
          let looks = c.look_after.ensures.looks (λ outside. was.byte ∙ ap (option_map (λ c. c.byte))
          (sym (did.stays c.loop-instrs.watch.address (rw is outside)))) in
          looks_at _ _ _ _ _ _ _ first _
          (hart c.perform-flow.new.regs (memory_of c.perform-flow.new.space) c.perform-flow.new.reservation)
          (omega (arith, c.left_at.ensures)) (omega (arith, c.left_at.ensures)) (omega arith) goes.step looks was;
    }

pub loop-instrs-preserved-then-left_at : goal.loop-instrs-preserved-then-left_at
loop-instrs-preserved-then-left_at g c =
    let now = c.loop-instrs.invariant in
    let did = c.perform-flow.ensures in
    let is : c.perform-flow.result ≡ Ok (flows.In c.in-Ok-In.to) =
    c.in-Ok-In.is ∙ ap Ok (rw c.in-Ok-In.is at c.in-Ok-In.field-0-is) in
    let goes = goes_on_in _ c.loop-instrs.index _ _ _ c.args.page.now c.index-instrs-index.result (flows.In c.in-Ok-In.to)
    c.perform-flow.result
    c.requires.decoded now.steps (omega arith) (rw c.as_slice-instrs.ensures.value at c.index-instrs-index.is) is refl did in
    let within = goes.within in
    let low : c.in-Ok-In.to.index < 1024 = c.in-Ok-In.to.low in
    let kept = did.stays c.loop-instrs.watch.address (rw is refl) in
    record {
      regs = did.regs;
      steps = one_more_at _ _ _ _ _ _
          (hart c.perform-flow.new.regs (memory_of c.perform-flow.new.space) c.perform-flow.new.reservation) (omega arith)
          (omega (arith, low)) now.steps goes.step;
      snapshots = did.snapshots ∙ now.snapshots;
      low = omega (arith, c.min-end-in-Ok-In.ensures);
      high = omega (arith, c.min-end-in-Ok-In.ensures);
      within = omega (arith, c.min-end-in-Ok-In.ensures);
      left = omega arith;
      whole = λ e. omega (arith, c.min-end-in-Ok-In.ensures, c.if-left_at.true, e);
      some = λ e. omega (arith, c.min-end-in-Ok-In.ensures, c.if-left_at.true, c.requires.some);
      address = now.address;
      watched = λ first watched. stays_at _ _ _ _ _ first _
          (hart c.perform-flow.new.regs (memory_of c.perform-flow.new.space) c.perform-flow.new.reservation) (omega arith)
          (omega (arith, low)) goes.step kept (now.watched first watched);
    }

pub loop-instrs-preserved : goal.loop-instrs-preserved
loop-instrs-preserved g c =
    let now = c.loop-instrs.invariant in
    let did = c.perform-flow.ensures in
    let is : c.perform-flow.result ≡ Ok (flows.Jump c.in-Ok-Jump.target) =
    c.in-Ok-Jump.is ∙ ap Ok (rw c.in-Ok-Jump.is at c.in-Ok-Jump.field-0-is) in
    let goes = goes_on_in _ c.loop-instrs.index _ _ _ c.args.page.now c.index-instrs-index.result (flows.Jump c.in-Ok-Jump.target)
    c.perform-flow.result
    c.requires.decoded now.steps (omega arith) (rw c.as_slice-instrs.ensures.value at c.index-instrs-index.is) is refl did in
    let within = goes.within in
    let fits : c.in-Ok-Jump.target < 2 ^ 32 = let told = rw is at c.perform-flow.type_inv in omega (arith, told) in
    let here : (c.args.page.now.number * 4096 + c.loop-instrs.index * 4) % 4 ≡ 0 = omega arith in
    let aligned : c.in-Ok-Jump.target % 4 ≡ 0 = next_aligned _ _ here goes.step in
    let kept = did.stays c.loop-instrs.watch.address (rw is refl) in
    record {
      regs = did.regs;
      steps = one_more_at _ _ _ _ _ _
          (hart c.perform-flow.new.regs (memory_of c.perform-flow.new.space) c.perform-flow.new.reservation) (omega arith)
          (omega (arith, aligned, c.if-target-base-lt4096.true)) now.steps goes.step;
      snapshots = did.snapshots ∙ now.snapshots;
      low = omega (arith, c.min-end-in-Ok-Jump.ensures);
      high = omega (arith, c.min-end-in-Ok-Jump.ensures);
      within = omega (arith, c.min-end-in-Ok-Jump.ensures);
      left = omega arith;
      whole = λ e. omega (arith, c.min-end-in-Ok-Jump.ensures, c.if-left_at-2.true, e);
      some = λ e. omega (arith, c.min-end-in-Ok-Jump.ensures, c.if-left_at-2.true, c.requires.some);
      address = now.address;
      watched = λ first watched. stays_at _ _ _ _ _ first _
          (hart c.perform-flow.new.regs (memory_of c.perform-flow.new.space) c.perform-flow.new.reservation) (omega arith)
          (omega (arith, aligned, c.if-target-base-lt4096.true)) goes.step kept (now.watched first watched);
    }

pub returns-in_default-2 : goal.returns-in_default-2
returns-in_default-2 g c =
    let now = c.loop-instrs.invariant in
    let within : c.loop-instrs.index < 1024 = omega (arith, now.low, now.high, c.if-index-eq-PAGE_INSTRS.false) in
    let did = does_at (c.args.page.now.number * 4096 + c.loop-instrs.index * 4) _ _ c.perform-flow.result _ _
    (address_in_page c.args.page.now.number c.loop-instrs.index within) c.perform-flow.ensures in
    let low : c.loop-instrs.index < c.loop-instrs.end = elim c.if-this-eq-PAGE_INSTRS.branch [
      | then-this-eq-PAGE_INSTRS w ↦ omega (arith, within, now.whole w.if-this-eq-PAGE_INSTRS.true)
      | else-this-eq-PAGE_INSTRS+then-index-end w ↦ w.if-index-end.true
    ] in
    let once = page_once _ c.loop-instrs.index _ _ _ c.args.page.now c.index-instrs-index.result c.perform-flow.result c.requires.decoded
    now.steps
    within (rw c.as_slice-instrs.ensures.value at c.index-instrs-index.is) did in
    let here : c.address_in.result ≡ c.args.page.now.number * 4096 + c.loop-instrs.index * 4 =
    c.address_in.ensures ∙ address_in_page c.args.page.now.number c.loop-instrs.index within in
    let left : c.left_at-in_default-2.result ≡ c.loop-instrs.until - c.loop-instrs.index = omega (arith, c.left_at-in_default-2.ensures) in
    let fits : c.args.page.now.number * 4096 + c.loop-instrs.index * 4 < 2 ^ 32 = omega arith in
    let other : (stored : ℕ) → c.perform-flow.result ≢ Ok (flows.Stored stored) = λ stored e. elim c.in_default.branch [
      | in_default-via-in-Ok-Jump+then-target-base-lt4096+else-left_at-2 w ↦ grind arith
      | in_default-via-in-Ok-In+else-left_at w ↦ grind arith
      | in_default-via-in-Ok-Jump+else-target-base-lt4096 w ↦ grind arith
      | in_default-via-in-Ok+in_default w ↦ grind arith
      | in_default-via-in_default w ↦ grind arith
    ] in
    let kept = did.stays c.loop-instrs.watch.address (none_stored c.perform-flow.result c.loop-instrs.watch.address other) in
    record {
      runs = rw (c.leave.ensures.run, c.leave.ensures.place, here, left)
          (runs_to _ _ _ _ _ _ (omega arith) (record { pc = fits; registers = now.regs.registers; zero = now.regs.zero }) now.steps once
          (rw (c.leave.ensures.place, here) at c.leave.ensures.regs) (did.snapshots ∙ now.snapshots));
      address = now.address;
      watches = rw (c.leave.ensures.run, c.leave.ensures.place, here, left)
          (λ e first watched. last_watched _ _ (answer_of c.perform-flow.result) _ first _
          (hart_at (place_of (c.args.page.now.number * 4096 + c.loop-instrs.index * 4) c.perform-flow.result)
          (hart c.perform-flow.new.regs (memory_of c.perform-flow.new.space) c.perform-flow.new.reservation)) e kept once
          (now.watched first watched));
    }
