-- The jobs of a recording.
use Rattle.std.specs.Prelude.{◌≡◌, ◌==◌, ℕ, Bool, true, false, zero, suc, ◌+◌, List, [], ◌∷◌, length, map, if◌then◌else◌, Option, Some, None, Vec, vec_items}
use Rattle.std.specs.declared.alloc.Global.{Global}
use Rattle.choices.specs.Schedule.{Plan, plan}
use Rattle.command_line.specs.declared.request.Then.{Then}
use Rattle.command_line.specs.declared.request.Then.TheVariants as thens
use Rattle.host.specs.Seen.{Seen}
use Rattle.host.specs.Stream.{opening_bytes}
use Rattle.rrv_model.specs.declared.machine.Version.{Version}
use Rattle.rrv_model.specs.declared.machine.Version.TheVariants.{One, Two}
use Rattle.rrv_model.specs.declared.record.Choice.{Choice}
use Rattle.session.specs.declared.job.Job.{Job}
use Rattle.recorder.specs.declared.every.Every.{Every}
use Rattle.recorder.specs.declared.every.Every.TheVariants as everys
use Rattle.command_line.specs.declared.request.Every.{Every as Asked}
use Rattle.command_line.specs.declared.request.Every.TheVariants as asked
use Rattle.recording.specs.declared.shared.Shared.{Shared}
use Rattle.recording.specs.declared.names.Names.{Names}
use Rattle.recording.specs.Limits.{Limit, may_expire}
use Rattle.recording.specs.Names.{name_by}

-- what the guests of a recording share
pub record Terms : Type 0 where
  pub version : Version
  pub input : List ℕ
  pub seed : List ℕ
  pub names : Names
  pub quantum : ℕ
  pub every : Every
  pub choices : List (List Choice)
  pub after : Then
  pub limit : Option ℕ

abbrev pub lists_of : List (Vec Choice Global) → List (List Choice)
lists_of choices = map vec_items choices

abbrev pub terms_of : {R : Type 0} → Shared R → Terms
terms_of shared = record {
  version = shared.version;
  input = shared.input.now;
  seed = shared.seed;
  names = shared.names;
  quantum = shared.quantum;
  every = shared.every;
  choices = lists_of shared.choices.now;
  after = shared.then;
  limit = shared.limit;
}

-- how far apart checkpoints are, by what the line asks for
abbrev pub distance_of : Asked → Every
distance_of (asked.Instructions n) = everys.Instructions n
distance_of asked.Auto = everys.Auto

-- guests are of version 2 in a store that holds the Mark, and of version 1 in any other
abbrev pub version_in : (marked : Bool) → Version
version_in true = Two
version_in false = One

-- the list at a place, if there is one
abbrev pub list_at : List (List Choice) → ℕ → List Choice
list_at [] place = []
list_at (list ∷ lists) zero = list
list_at (list ∷ lists) (suc place) = list_at lists place

-- the choices of the guest at a place of the line: the only list is everyone's
abbrev pub choices_at : List (List Choice) → ℕ → List Choice
choices_at lists place = list_at lists (if length lists == 1 then 0 else place)

-- what goes on after the choices: turns of a quantum, or nothing
abbrev pub turns_after : Then → ℕ → Option ℕ
turns_after thens.Turns quantum = Some quantum
turns_after thens.Nothing quantum = None

-- how the threads of the guest at a place of the line are chosen
abbrev pub plan_at : Terms → ℕ → Plan
plan_at terms place = plan (choices_at terms.choices place) (turns_after terms.after terms.quantum)

-- so up to the limit of instructions, if there is one
abbrev pub limit_at : Terms → ℕ → Limit
limit_at terms place = record {
  plan = plan_at terms place;
  limit = terms.limit;
  is_over = false;
  expires = may_expire terms.version;
  given = None;
}

-- The job of the program at this place of the line: its version is that of all, its file, its name, its random bytes and its choices are those of the place,
-- and it reads the input from its start.
pub record IsJob {S : Type 0} (terms : Terms) (place : ℕ) (file : List ℕ) (job : Job Limit Seen S) : Type 0 where
  pub version_is : job.version ≡ terms.version
  pub file_is : vec_items job.elf ≡ file
  pub name_is : vec_items job.name ≡ name_by terms.names place
  pub random_is : job.random ≡ opening_bytes terms.seed place
  pub every_is : job.every ≡ terms.every
  pub chooser_is : job.chooser ≡ limit_at terms place
  pub outside_is : job.outside ≡ record { input = terms.input; seed = terms.seed; guest = place; place = 0; last = 0 }

-- the jobs of the programs, from the one at this place of the line on
abbrev pub AreJobs : {S : Type 0} → Terms → ℕ → (files : List (List ℕ)) → List (Job Limit Seen S) → Type 0
AreJobs terms place [] [] = Unit {0}
AreJobs terms place [] (job ∷ jobs) = ⊥
AreJobs terms place (file ∷ files) [] = ⊥
AreJobs terms place (file ∷ files) (job ∷ jobs) = IsJob terms place file job × AreJobs terms (place + 1) files jobs
