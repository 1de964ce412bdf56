use Rattle.choices.proofs.Again.{recordings_follow, run_again_is_alike, run_again_is_same, run_again_is_whole}
use Rattle.choices.proofs.OwnRun.{frames_run_again}
use Rattle.choices.proofs.laws.run_again_is_same.Goals as goal

pub returns-clause-allowed : goal.returns-clause-allowed
returns-clause-allowed c = frames_run_again

pub returns-clause-alike : goal.returns-clause-alike
returns-clause-alike c = run_again_is_alike

pub returns-clause-same : goal.returns-clause-same
returns-clause-same c = run_again_is_same

pub returns-clause-whole : goal.returns-clause-whole
returns-clause-whole c = run_again_is_whole

pub returns-clause-recordings : goal.returns-clause-recordings
returns-clause-recordings c = recordings_follow
