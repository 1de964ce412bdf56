use Rattle.std.proofs.Common.{◌≡◌, refl, ◌%◌, arith}
use Rattle.guest_pages.specs.Space.{memory_of}
use Rattle.rv_machine.specs.Decoded.{instr_at}
use Rattle.rv_machine.specs.Outcome.{hart}
use Rattle.rv_machine.proofs.HartSteps.{StepsOnce}
use Rattle.rv_machine.proofs.KeptPages.{address_of_pc, does_at, no_word_step, word_once}
use Rattle.rv_machine.proofs.hart.step.Goals as goal

pub returns-in_default-clause-step : goal.returns-in_default-clause-step
returns-in_default-clause-step c =
    let aligned : c.args.regs.now.pc % 4 ≡ 0 = omega arith in
    no_word_step (hart c.args.regs.now (memory_of c.args.space.now) c.args.reservation.now) aligned c.in_default.ensures.none

pub returns : goal.returns
returns c =
    let aligned : c.args.regs.now.pc % 4 ≡ 0 = omega arith in
    let did = does_at c.args.regs.now.pc _ _ c.perform-flow.result _ _
    (address_of_pc _ c.args.regs.now.pc aligned refl) c.perform-flow.ensures in
    let once : StepsOnce c.go_on.result (hart c.args.regs.now (memory_of c.args.space.now) c.args.reservation.now)
    (hart c.go_on.new.regs (memory_of c.perform-flow.new.space) c.perform-flow.new.reservation) =
    rw (c.go_on.ensures.answer, c.go_on.ensures.place)
    (word_once c.args.regs.now.pc (hart c.args.regs.now (memory_of c.args.space.now) c.args.reservation.now)
    (hart c.perform-flow.new.regs (memory_of c.perform-flow.new.space) c.perform-flow.new.reservation)
    (instr_at c.args.regs.now.pc c.in-Some.decoded)
    c.perform-flow.result aligned c.in-Some.ensures.fetches c.in-Some.ensures.decodes did) in
    record {
      step = once.step;
      fault = once.fault;
      refused = once.refused;
      takes = once.takes;
      regs = c.go_on.ensures.regs;
      snapshots = did.snapshots;
    }
