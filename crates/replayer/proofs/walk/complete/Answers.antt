use Rattle.std.proofs.Common.{List, subst}
use Rattle.std.proofs.lemmas.Result.{err_from_is_err_and}
use Rattle.rrv_model.specs.declared.record.Part.{Part}
use Rattle.guest_calls.specs.Guest.{state_of}
use Rattle.replayer.specs.Refusals.{CheckpointRefused}
use Rattle.replayer.proofs.walk.complete.Goals as goal

pub returns-in_err-pass-clause-refused : goal.returns-in_err-pass-clause-refused
returns-in_err-pass-clause-refused c =
    let pair = c.args.walk.now.pair in
    let fault = c.in_err-pass.field-0.0 in
    let p = err_from_is_err_and c.from_residual.result c.from_residual.ensures.1 in
    rw (p.1, p.2)
    (subst (λ (ps : List Part). CheckpointRefused fault c.args.index (state_of pair.base) ps (state_of pair.guest))
    c.as_slice.ensures.value c.in_err-pass.ensures.refused)
