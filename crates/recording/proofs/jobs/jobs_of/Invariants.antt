use Rattle.recording.specs.Jobs.{AreJobs, terms_of}
use Rattle.recording.proofs.jobs.jobs_of.Given as goal

abbrev pub invariant-loop-image : goal.invariant-loop-image
invariant-loop-image g l =
    (goal.iterator-loop-image g).can_next l.image-iterator ×
    (goal.iterator-loop-image g).is_finite l.image-iterator ×
    AreJobs (terms_of l.shared) 0 l.yielded
    l.jobs.items
