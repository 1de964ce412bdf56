use Rattle.line_io.proofs.Sources.{failure_told}
use Rattle.line_io.proofs.store.looked.Goals as goal

pub returns-in-Err-clause-sound : goal.returns-in-Err-clause-sound
returns-in-Err-clause-sound g c = λ bodies records honest store recovered.
    failure_told c.from.result c.in-Err.fault c.from.ensures ((c.in-Err.ensures.outcome honest).reads bodies store records recovered)
