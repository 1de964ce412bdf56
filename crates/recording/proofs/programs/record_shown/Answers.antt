use Rattle.recording.proofs.programs.record_shown.Goals as goal

pub invariant_of-shared : goal.invariant_of-shared
invariant_of-shared g c = record { fits = c.requires.quantum }
