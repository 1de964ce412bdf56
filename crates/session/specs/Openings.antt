-- Which jobs start a guest.
use Rattle.std.specs.Prelude.{◌≡◌, ◌⊎◌, ◌≤◌, ℕ, List, length, slice_get, take, vec_items, Some, None}
use Rattle.std.specs.List.{AllByRecursion}
use Rattle.elf_load.specs.Refusals.{IsPastRefusal}
use Rattle.rrv_model.specs.declared.limits.TheConstants.{MAX_ELF}
use Rattle.rrv_model.specs.declared.machine.Version.TheVariants.{One, Two}
use Rattle.rrv_model.specs.Elf.{refusal}
use Rattle.rrv_model.specs.Opening.{IsName}
use Rattle.faults.specs.declared.session.SessionFault.{SessionFault}
use Rattle.faults.specs.declared.session.SessionFault.TheVariants as faults
use Rattle.session.specs.declared.job.Job.{Job}

-- its file is accepted, and its name is one
pub record StartsGuest {C O S : Type 0} (job : Job C O S) : Type 0 where
  pub accepted : refusal (vec_items job.elf) ≡ None
  pub named : IsName (vec_items job.name)

-- To tell whether it starts a guest memory is wanted: its name is one, its file is within its limit, and none of the
-- loader's first twelve tests refuses it.
abbrev pub WantsMemory : {C O S : Type 0} → Job C O S → Type 0
WantsMemory job = IsName (vec_items job.name)
    × IsPastRefusal 12 (vec_items job.elf) × (length (vec_items job.elf) ≤ MAX_ELF)

-- there was no memory for the job at this place, or it starts no guest
abbrev pub RefusesJob : {C O S : Type 0} → ℕ → Job C O S → SessionFault → Type 0
RefusesJob place job fault = ((fault ≡ faults.Memory) × WantsMemory job)
    ⊎ ((fault ≡ faults.BadOpening place) × (StartsGuest job → ⊥))

-- so of one of the jobs, and those before it start guests
pub record RefusesJobs {C O S : Type 0} (jobs : List (Job C O S)) (fault : SessionFault) : Type 0 where
  pub place : ℕ
  pub job : Job C O S
  pub is_there : slice_get jobs place ≡ Some job
  pub refuses : RefusesJob place job fault
  pub before : AllByRecursion StartsGuest (take place jobs)

-- the job at this place is the first of a guest of version 2
pub record IsFirstNew {C O S : Type 0} (jobs : List (Job C O S)) (place : ℕ) : Type 0 where
  pub job : Job C O S
  pub is_there : slice_get jobs place ≡ Some job
  pub version : job.version ≡ Two
  pub before : AllByRecursion (λ j. j.version ≡ One) (take place jobs)

-- none of the jobs is of a guest of version 2
abbrev pub AreOld : {C O S : Type 0} → List (Job C O S) → Type 0
AreOld jobs = AllByRecursion (λ j. j.version ≡ One) jobs

-- the job at this place is the first that starts no guest
pub record IsFirstBad {C O S : Type 0} (jobs : List (Job C O S)) (place : ℕ) : Type 0 where
  pub job : Job C O S
  pub is_there : slice_get jobs place ≡ Some job
  pub starts_none : StartsGuest job → ⊥
  pub before : AllByRecursion StartsGuest (take place jobs)

-- one of the jobs up to this place wants memory to be looked at
pub record OneWantsMemory {C O S : Type 0} (jobs : List (Job C O S)) (last : ℕ) : Type 0 where
  pub place : ℕ
  pub up_to : place ≤ last
  pub job : Job C O S
  pub is_there : slice_get jobs place ≡ Some job
  pub wants : WantsMemory job
