use Rattle.std.specs.Io.KnownBytes.{Keeps}
use Rattle.host.proofs.patient.PatientWrite.write.Given as goal

abbrev pub invariant-tries : goal.invariant-tries
invariant-tries g l = Keeps (g.W.Write.contents l.fn.self.inner) (g.W.Write.contents l.self.inner)
