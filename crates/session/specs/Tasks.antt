-- Lists of tasks, and of what came of them.
use Rattle.std.specs.Prelude.{List, [], ◌∷◌, ◌++◌, map, Option, Some, None}
use Rattle.guest_calls.specs.Guest.{GuestValue}
use Rattle.commit_group.specs.Seats.{RecorderValue}
use Rattle.faults.specs.declared.session.SessionFault.{SessionFault}
use Rattle.session.specs.declared.job.Job.{Job}
use Rattle.session.specs.declared.task.Task.{Task}
use Rattle.session.specs.declared.task.Worked.{Worked}

abbrev pub seats_of : {C O S : Type 0} → List (Task C O S) → List RecorderValue
seats_of tasks = map (λ task. task.seat) tasks

abbrev pub jobs_of : {C O S : Type 0} → List (Task C O S) → List (Job C O S)
jobs_of tasks = map (λ task. task.job) tasks

abbrev pub seats_worked : {C O S : Type 0} → List (Worked C O S) → List RecorderValue
seats_worked done = map (λ worked. worked.seat) done

abbrev pub jobs_worked : {C O S : Type 0} → List (Worked C O S) → List (Job C O S)
jobs_worked done = map (λ worked. worked.job) done

abbrev pub once : Option GuestValue → List GuestValue
once None = []
once (Some guest) = guest ∷ []

abbrev pub states_worked : {C O S : Type 0} → List (Worked C O S) → List GuestValue
states_worked [] = []
states_worked (worked ∷ rest) = once worked.guest ++ states_worked rest

abbrev pub met_once : Option SessionFault → List SessionFault
met_once None = []
met_once (Some fault) = fault ∷ []

-- those that are faults
abbrev pub all_met : List (Option SessionFault) → List SessionFault
all_met [] = []
all_met (met ∷ rest) = met_once met ++ all_met rest

-- the faults that the workers met, in order
abbrev pub faults_met : {C O S : Type 0} → List (Worked C O S) → List SessionFault
faults_met [] = []
faults_met (worked ∷ rest) = met_once worked.fault ++ faults_met rest
