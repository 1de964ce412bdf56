-- Which task a worker works on.
use Rattle.std.specs.Prelude.{◌≡◌, ◌+◌, ◌≤◌, false, true, [], length, Vec, vec_capacity, vec_items}
use Rattle.std.specs.List.{AllByRecursion}
use Rattle.std.specs.declared.alloc.Global.{Global}
use Rattle.trace_log.specs.Kept.{LogValue}
use Rattle.commit_group.specs.Seats.{FlusherValue}
use Rattle.session.specs.declared.task.Task.{Task}
use Rattle.session.specs.declared.task.Worked.{Worked}
use Rattle.session.specs.declared.worker.Worker.{Worker}
use Rattle.session.specs.declared.worker.Worker.TheVariants.{Running, Ended}
use Rattle.session.specs.Works.{Choosers, Sinks, HasWorked, IsFresh}

-- the worker works on this task, or has
abbrev pub WorksOn : {C O S : Type 0} → Choosers C → Sinks S → Task C O S → Worker C O S → Type 0
WorksOn choosers sinks task (Running handle) = handle.promise.0.value ≡ task
WorksOn choosers sinks task (Ended worked) = HasWorked choosers sinks task worked

-- the worker has ended before the flusher began, since no thread could be made for it
abbrev pub HasEnded : {C O S : Type 0} → Worker C O S → Type 0
HasEnded (Running handle) = ⊥
HasEnded (Ended worked) = Unit {0}

-- where it has, the group is halted
abbrev pub HaltsFor : {C O S : Type 0} → FlusherValue → Worker C O S → Type 0
HaltsFor flusher worker = HasEnded worker → flusher.halted ≡ true

-- the tasks are fresh, there is room for as many workers and as many results, and the log takes all guests
pub record CanRun {C O S D : Type 0} (tasks : Vec (Task C O S) Global) (workers : Vec (Worker C O S) Global)
    (done : Vec (Worked C O S) Global) (flusher : FlusherValue) (log : LogValue D) : Type 0 where
  pub fresh : AllByRecursion IsFresh (vec_items tasks)
  pub no_workers : vec_items workers ≡ []
  pub room : length (vec_items tasks) ≤ vec_capacity workers
  pub none_done : vec_items done ≡ []
  pub space : length (vec_items tasks) ≤ vec_capacity done
  pub whole : log.is_broken ≡ false
  pub numbers : log.next_guest + flusher.group.guests ≤ 4294967295
