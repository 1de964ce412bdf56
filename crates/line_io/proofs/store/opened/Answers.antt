use Rattle.line_io.proofs.Sources.{failure_told}
use Rattle.line_io.proofs.store.opened.Goals as goal

pub returns-clause-sound : goal.returns-clause-sound
returns-clause-sound g c = λ bodies records honest store recovered.
    failure_told c.from.result c.in-Err.fault c.from.ensures ((c.in-Err.ensures.outcome honest).opens bodies store records recovered)
