use Rattle.checkpoint.specs.declared.fault.ApplyFault.TheVariants as faults
use Rattle.checkpoint.specs.Applies.{RefusesApply}
use Rattle.guest_calls.specs.Guest.{state_of}
use Rattle.replayer.proofs.Described.{err_of, none_described}
use Rattle.replayer.proofs.opened.put_parts.Goals as goal

pub returns-clause-bad : goal.returns-clause-bad
returns-clause-bad c = λ is s h.
    none_described (state_of c.args.guest.now) s c.args.parts.now faults.BadPart (λ e. cc)
    (err_of c.apply.result (RefusesApply (state_of c.args.guest.now) c.args.parts.now) faults.BadPart c.apply.ensures.refused is) h

pub returns-clause-many : goal.returns-clause-many
returns-clause-many c = λ is s h.
    none_described (state_of c.args.guest.now) s c.args.parts.now faults.TooManyPages (λ e. cc)
    (err_of c.apply.result (RefusesApply (state_of c.args.guest.now) c.args.parts.now) faults.TooManyPages c.apply.ensures.refused is) h
