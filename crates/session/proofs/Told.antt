-- What a session tells of its disk, of its sinks, and of a job that starts no guest.
use Rattle.std.proofs.Common.{◌≡◌, ◌≢◌, ◌⊎◌, inl, inr, ℕ, zero, suc, List, [], ◌∷◌, ◌++◌, take, ◌≤◌, refl, sym, ap, ◌∙◌, subst, arith}
use Rattle.std.proofs.lemmas.List.Elements.{Contains-append_cases, Contains-append_right}
use Rattle.std.specs.Prelude.{Option, Some, None, Result, Ok, Err, IfErr, IsErrAnd, MatchOption, slice_get, unwrap_or}
use Rattle.std.specs.List.{AllByRecursion, Contains}
use Rattle.outcomes.specs.Failures.{HasFailed}
use Rattle.trace_log.specs.Kept.{LogValue}
use Rattle.commit_group.specs.declared.fault.FlushFault.{FlushFault}
use Rattle.commit_group.specs.declared.fault.FlushFault.TheVariants as flushes
use Rattle.commit_group.specs.Seats.{AllNew, GroupId}
use Rattle.faults.specs.declared.session.SessionFault.{SessionFault}
use Rattle.faults.specs.declared.session.SessionFault.TheVariants as faults
use Rattle.session.specs.declared.job.Job.{Job}
use Rattle.session.specs.declared.task.Task.{Task}
use Rattle.session.specs.declared.task.Worked.{Worked}
use Rattle.session.specs.Faults.{IsLowest, IsNoLater, IsSessions, flusher_met, guest_of, rank}
use Rattle.session.specs.Gains.{TellsDisk}
use Rattle.rrv_model.specs.declared.machine.Version.TheVariants.{One, Two}
use Rattle.session.specs.Openings.{AreOld, IsFirstBad, IsFirstNew, RefusesJobs, StartsGuest}
use Rattle.session.specs.Pairs.{ArePairs}
use Rattle.session.specs.Sessions.{TellsBadJob, TellsDevice, TellsSinks}
use Rattle.session.specs.Tasks.{faults_met, jobs_of, jobs_worked, met_once, seats_of, seats_worked}
use Rattle.session.specs.Works.{AreMet, Choosers, FaultTellsSink, HasWorked, IsMet, Sinks}
use Rattle.session.proofs.Refusals.{first_of_all, none_in, only_one}
use Rattle.session.proofs.Tasks.{all_of}

-- ---- lists

contained : {A : Type 0} (P : A → Type 0) (xs : List A) (x : A) → AllByRecursion P xs → Contains xs x → P x
contained P [] x all (k, low, is) = absurd (omega (arith, low))
contained P (y ∷ xs) x all (zero, low, is) = subst P is all.0
contained P (y ∷ xs) x all (suc k, low, is) = contained P xs x all.1 (k, omega (arith, low), is)

pub none_there : {A : Type 0} (k : ℕ) (x : A) → slice_get [] k ≡ Some x → ⊥
none_there {A = A} k x at = subst (λ (o : Option A). MatchOption o (Unit {0}) (λ _. ⊥)) at tt

same_there : {A : Type 0} (xs : List A) (k : ℕ) (x y : A) → slice_get xs k ≡ Some x → slice_get xs k ≡ Some y → x ≡ y
same_there {A = A} xs k x y one other = ap (λ (o : Option A). unwrap_or o x) (sym one ∙ other)

-- ---- the disk

other_rank : (fault : SessionFault) → (rank fault ≡ 1 → ⊥) → fault ≢ faults.DeviceFailed
other_rank fault other is = other (ap rank is)

pub steady_told : (T : Type 0) (fault : SessionFault) (old new : ℕ) → fault ≢ faults.DeviceFailed → new ≡ old →
    TellsDevice {T = T} (Err fault) old new
steady_told T faults.DeviceFailed old new other same = absurd (other refl)
steady_told T (faults.SinkFailed guest) old new other same = same
steady_told T (faults.Held guest) old new other same = same
steady_told T faults.Memory old new other same = same
steady_told T faults.TooManyGuests old new other same = same
steady_told T faults.StoreFull old new other same = same
steady_told T (faults.BadOpening guest) old new other same = same
steady_told T (faults.NeedsMark guest) old new other same = same

-- where another fault is the lowest no call of the disk failed
steady_unless : (flushed : Result (Unit {0}) FlushFault) (rest : List SessionFault) (fault : SessionFault) (old new : ℕ) →
    TellsDisk flushed old new
    → IsLowest (flusher_met flushed ++ rest) (Some fault) → fault ≢ faults.DeviceFailed → new ≡ old
steady_unless (Ok u) rest fault old new h lowest other = h
steady_unless (Err flushes.DeviceFailed) rest fault old new h lowest other = absurd (other (first_of_all fault lowest.1.0))
steady_unless (Err flushes.Halted) rest fault old new h lowest other = h
steady_unless (Err flushes.TooLong) rest fault old new h lowest other = h
steady_unless (Err flushes.NeedsMark) rest fault old new h lowest other = h
steady_unless (Err flushes.Memory) rest fault old new h lowest other = h

-- a failed call of the disk is the flusher's to meet
by_flusher : (flushed : Result (Unit {0}) FlushFault) (old new : ℕ) → TellsDisk flushed old new →
    Contains (flusher_met flushed) faults.DeviceFailed → HasFailed old new
by_flusher (Ok u) old new h there = absurd (none_in faults.DeviceFailed there)
by_flusher (Err flushes.DeviceFailed) old new h there = h
by_flusher (Err flushes.Halted) old new h there = absurd (let e = ap rank (only_one faults.Memory faults.DeviceFailed there) in omega arith)
by_flusher (Err flushes.TooLong) old new h there =
    absurd (let e = ap rank (only_one faults.StoreFull faults.DeviceFailed there) in omega arith)
by_flusher (Err flushes.NeedsMark) old new h there =
    absurd (let e = ap rank (only_one (faults.NeedsMark 0) faults.DeviceFailed there) in omega arith)
by_flusher (Err flushes.Memory) old new h there = absurd (let e = ap rank (only_one faults.Memory faults.DeviceFailed there) in omega arith)

no_worker_meets : (guest : ℕ) → IsMet guest faults.DeviceFailed → ⊥
no_worker_meets guest met = elim met [
  | inl sink ↦ let e = ap rank sink in omega arith
  | inr more ↦ elim more [ inl held ↦ (let e = ap rank held in omega arith) | inr memory ↦ (let e = ap rank memory in omega arith) ]
]

module _ (flushed : Result (Unit {0}) FlushFault) (rest : List SessionFault) (old new : ℕ) (h : TellsDisk flushed old new)
    (not_theirs : Contains rest faults.DeviceFailed → ⊥) where
  pub device_told : (T : Type 0) (fault : SessionFault) → IsLowest (flusher_met flushed ++ rest) (Some fault) →
      TellsDevice {T = T} (Err fault) old new
  device_told T faults.DeviceFailed lowest = elim (Contains-append_cases (flusher_met flushed) rest faults.DeviceFailed lowest.0) [
    | inl flusher ↦ by_flusher flushed old new h flusher
    | inr worker ↦ absurd (not_theirs worker)
  ]
  device_told T (faults.SinkFailed guest) lowest =
      steady_unless flushed rest (faults.SinkFailed guest) old new h lowest (other_rank (faults.SinkFailed guest) (λ e. omega (arith, e)))
  device_told T (faults.Held guest) lowest =
      steady_unless flushed rest (faults.Held guest) old new h lowest (other_rank (faults.Held guest) (λ e. omega (arith, e)))
  device_told T faults.Memory lowest =
      steady_unless flushed rest faults.Memory old new h lowest (other_rank faults.Memory (λ e. omega (arith, e)))
  device_told T faults.TooManyGuests lowest =
      steady_unless flushed rest faults.TooManyGuests old new h lowest (other_rank faults.TooManyGuests (λ e. omega (arith, e)))
  device_told T faults.StoreFull lowest =
      steady_unless flushed rest faults.StoreFull old new h lowest (other_rank faults.StoreFull (λ e. omega (arith, e)))
  device_told T (faults.BadOpening guest) lowest =
      steady_unless flushed rest (faults.BadOpening guest) old new h lowest (other_rank (faults.BadOpening guest) (λ e. omega (arith, e)))
  device_told T (faults.NeedsMark guest) lowest =
      steady_unless flushed rest (faults.NeedsMark guest) old new h lowest (other_rank (faults.NeedsMark guest) (λ e. omega (arith, e)))

-- ---- which worker works on which job

-- the worker of the guest at this place, and what it gave back
record IsWorker {C O S : Type 0} (choosers : Choosers C) (sinks : Sinks S) (tasks : List (Task C O S)) (done : List (Worked C O S))
    (k : ℕ) : Type 0 where
  task : Task C O S
  worked : Worked C O S
  works : HasWorked choosers sinks task worked
  job : slice_get (jobs_of tasks) k ≡ Some task.job
  job' : slice_get (jobs_worked done) k ≡ Some worked.job
  seat : slice_get (seats_worked done) k ≡ Some worked.seat
  meets : (fault : SessionFault) → worked.fault ≡ Some fault → Contains (faults_met done) fault

once_there : (met : Option SessionFault) (rest : List SessionFault) (fault : SessionFault) → met ≡ Some fault →
    Contains (met_once met ++ rest) fault
once_there met rest fault is = subst (λ (o : Option SessionFault). Contains (met_once o ++ rest) fault) (sym is) (0, omega arith, refl)

met_by : (met : Option SessionFault) (fault : SessionFault) → Contains (met_once met) fault → met ≡ Some fault
met_by None fault there = absurd (none_in fault there)
met_by (Some a) fault there = ap (λ (f : SessionFault). Some f) (only_one a fault there)

module _ {C O S : Type 0} (choosers : Choosers C) (sinks : Sinks S) where
  further : (t : Task C O S) (d : Worked C O S) (tasks : List (Task C O S)) (done : List (Worked C O S)) (k : ℕ) →
      IsWorker choosers sinks tasks done k → IsWorker choosers sinks (t ∷ tasks) (d ∷ done) (suc k)
  further t d tasks done k w = record {
    task = w.task;
    worked = w.worked;
    works = w.works;
    job = w.job;
    job' = w.job';
    seat = w.seat;
    meets = λ fault is. Contains-append_right (met_once d.fault) (faults_met done) fault (w.meets fault is);
  }

  here : (t : Task C O S) (d : Worked C O S) (tasks : List (Task C O S)) (done : List (Worked C O S)) → HasWorked choosers sinks t d →
      IsWorker choosers sinks (t ∷ tasks) (d ∷ done) 0
  here t d tasks done works = record {
    task = t;
    worked = d;
    works = works;
    job = refl;
    job' = refl;
    seat = refl;
    meets = λ fault is. once_there d.fault (faults_met done) fault is;
  }

  -- of each job there is one
  worker_at : (tasks : List (Task C O S)) (done : List (Worked C O S)) (k : ℕ) (job : Job C O S) →
      ArePairs (HasWorked choosers sinks) tasks done → slice_get (jobs_of tasks) k ≡ Some job
      → IsWorker choosers sinks tasks done k
  worker_at [] [] k job pairs at = absurd (none_there k job at)
  worker_at [] (d ∷ done) k job pairs at = elim pairs [ ]
  worker_at (t ∷ tasks) [] k job pairs at = elim pairs [ ]
  worker_at (t ∷ tasks) (d ∷ done) zero job pairs at = here t d tasks done pairs.0
  worker_at (t ∷ tasks) (d ∷ done) (suc k) job pairs at = further t d tasks done k (worker_at tasks done k job pairs.1 at)

  -- of each fault one that met it
  worker_of : (tasks : List (Task C O S)) (done : List (Worked C O S)) (fault : SessionFault) →
      ArePairs (HasWorked choosers sinks) tasks done → Contains (faults_met done) fault
      → (k : ℕ) × (w : IsWorker choosers sinks tasks done k) × (w.worked.fault ≡ Some fault)
  unfolding here further
  worker_of [] [] fault pairs there = absurd (none_in fault there)
  worker_of [] (d ∷ done) fault pairs there = elim pairs [ ]
  worker_of (t ∷ tasks) [] fault pairs there = elim pairs [ ]
  worker_of (t ∷ tasks) (d ∷ done) fault pairs there = elim (Contains-append_cases (met_once d.fault) (faults_met done) fault there) [
    | inl now ↦ (0, here t d tasks done pairs.0, met_by d.fault fault now)
    | inr later ↦ let w = worker_of tasks done fault pairs.1 later in (suc w.0, further t d tasks done w.0 w.1, w.2)
  ]

  pub none_meets : (tasks : List (Task C O S)) (done : List (Worked C O S)) → ArePairs (HasWorked choosers sinks) tasks done →
      Contains (faults_met done) faults.DeviceFailed → ⊥
  none_meets tasks done pairs there =
      let w = worker_of tasks done faults.DeviceFailed pairs there in
      no_worker_meets w.1.worked.seat.guest (subst (λ (o : Option SessionFault). AreMet w.1.worked.seat.guest o) w.2 w.1.works.faults)

-- ---- sinks

-- a sink that a worker found to refuse is its own
own_sink : (guest other : ℕ) → IsMet guest (faults.SinkFailed other) → other ≡ guest
own_sink guest other met = elim met [
  | inl sink ↦ ap guest_of sink
  | inr more ↦
      elim more [ inl held ↦ absurd (let e = ap rank held in omega arith) | inr memory ↦ absurd (let e = ap rank memory in omega arith) ]
]

module _ {C O S T : Type 0} (choosers : Choosers C) (sinks : Sinks S) (group : GroupId) (tasks : List (Task C O S))
    (done : List (Worked C O S))
    (new : AllNew group (seats_of tasks)) (pairs : ArePairs (HasWorked choosers sinks) tasks done) (result : Result T SessionFault)
    (lowest : (fault : SessionFault) → Contains (faults_met done) fault → IsErrAnd result (λ first. IsNoLater first fault))
    (met : IfErr result (λ fault. (guest : ℕ) → fault ≡ faults.SinkFailed guest → Contains (faults_met done) fault)) where
  place : (k : ℕ) (w : IsWorker choosers sinks tasks done k) → w.worked.seat.guest ≡ k
  place k w = (all_of choosers sinks group tasks done new pairs k w.worked.seat w.seat).1

  -- it is told, or a lower fault
  rises_by : (k : ℕ) (w : IsWorker choosers sinks tasks done k) (old new : ℕ) (met : Option SessionFault) → w.worked.fault ≡ met →
      AreMet w.worked.seat.guest met → FaultTellsSink met old new
      → (new ≡ old) ⊎ (HasFailed old new × IsErrAnd result (λ first. IsNoLater first (faults.SinkFailed k)))
  rises_by k w old new None is own h = inl h
  rises_by k w old new (Some faults.DeviceFailed) is own h = inl h
  rises_by k w old new (Some (faults.Held guest)) is own h = inl h
  rises_by k w old new (Some faults.Memory) is own h = inl h
  rises_by k w old new (Some faults.TooManyGuests) is own h = inl h
  rises_by k w old new (Some faults.StoreFull) is own h = inl h
  rises_by k w old new (Some (faults.BadOpening guest)) is own h = inl h
  rises_by k w old new (Some (faults.NeedsMark guest)) is own h = inl h
  rises_by k w old new (Some (faults.SinkFailed guest)) is own h =
      let at : guest ≡ k = own_sink w.worked.seat.guest guest own ∙ place k w in
      inr (
        h,
        subst (λ (g : ℕ). IsErrAnd result (λ first. IsNoLater first (faults.SinkFailed g))) at
            (lowest (faults.SinkFailed guest) (w.meets (faults.SinkFailed guest) is)),
      )

  rises_at : (k : ℕ) (w : IsWorker choosers sinks tasks done k) (a b : Job C O S) → w.task.job ≡ a → w.worked.job ≡ b
      → (sinks.faults b.sink ≡ sinks.faults a.sink) ⊎
      (HasFailed (sinks.faults a.sink) (sinks.faults b.sink) × IsErrAnd result (λ first. IsNoLater first (faults.SinkFailed k)))
  rises_at k w a b is is' =
      let one = rises_by k w (sinks.faults w.task.job.sink) (sinks.faults w.worked.job.sink) w.worked.fault refl w.works.faults
      w.works.sink in
      subst (λ (x : Job C O S × Job C O S). (sinks.faults x.1.sink ≡ sinks.faults x.0.sink) ⊎
      (HasFailed (sinks.faults x.0.sink) (sinks.faults x.1.sink) × IsErrAnd result (λ first. IsNoLater first (faults.SinkFailed k))))
      (λ i. (is i, is' i)) one

  -- the sink of the worker that met the fault failed
  failed_by : (guest : ℕ) (a b : Job C O S) → Contains (faults_met done) (faults.SinkFailed guest) →
      slice_get (jobs_of tasks) guest ≡ Some a → slice_get (jobs_worked done) guest ≡ Some b
      → HasFailed (sinks.faults a.sink) (sinks.faults b.sink)
  failed_by guest a b there at at' =
      let found = worker_of choosers sinks tasks done (faults.SinkFailed guest) pairs there in
      let w = found.1 in
      let own = subst (λ (o : Option SessionFault). AreMet w.worked.seat.guest o) found.2 w.works.faults in
      let is : found.0 ≡ guest = sym (place found.0 w) ∙ sym (own_sink w.worked.seat.guest guest own) in
      let one : w.task.job ≡ a =
      same_there (jobs_of tasks) guest w.task.job a (subst (λ (k : ℕ). slice_get (jobs_of tasks) k ≡ Some w.task.job) is w.job) at in
      let other : w.worked.job ≡ b =
      same_there (jobs_worked done) guest w.worked.job b
      (subst (λ (k : ℕ). slice_get (jobs_worked done) k ≡ Some w.worked.job) is w.job') at' in
      let failed =
      subst (λ (o : Option SessionFault). FaultTellsSink o (sinks.faults w.task.job.sink) (sinks.faults w.worked.job.sink)) found.2
      w.works.sink in
      subst (λ (x : Job C O S × Job C O S). HasFailed (sinks.faults x.0.sink) (sinks.faults x.1.sink)) (λ i. (one i, other i)) failed

  pub sinks_told : TellsSinks sinks result (jobs_of tasks) (jobs_worked done)
  sinks_told guest a b at at' =
      let w = worker_at choosers sinks tasks done guest a pairs at in
      record {
        rises = rises_at guest w a b (same_there (jobs_of tasks) guest w.task.job a w.job at)
            (same_there (jobs_worked done) guest w.worked.job b w.job' at');
        failed = by_result result met;
      }
    where
      by_result : (r : Result T SessionFault) →
          IfErr r (λ fault. (guest : ℕ) → fault ≡ faults.SinkFailed guest → Contains (faults_met done) fault)
          → IfErr r (λ fault. fault ≡ faults.SinkFailed guest → HasFailed (sinks.faults a.sink) (sinks.faults b.sink))
      by_result (Ok report) there = tt
      by_result (Err fault) there = λ is. failed_by guest a b (subst (Contains (faults_met done)) is (there guest is)) at at'

-- of jobs that were let be
pub sinks_rest : {C O S T : Type 0} (sinks : Sinks S) (result : Result T SessionFault) (jobs : List (Job C O S)) →
    IfErr result (λ fault. (guest : ℕ) → fault ≢ faults.SinkFailed guest)
    → TellsSinks sinks result jobs jobs
sinks_rest {C = C} {O = O} {S = S} {T = T} sinks result jobs other guest a b at at' = record {
  rises = inl (ap (λ (j : Job C O S). sinks.faults j.sink) (same_there jobs guest b a at' at));
  failed = by_result result other;
}
  where
    by_result : (r : Result T SessionFault) → IfErr r (λ fault. (guest : ℕ) → fault ≢ faults.SinkFailed guest) →
        IfErr r (λ fault. fault ≡ faults.SinkFailed guest → HasFailed (sinks.faults a.sink) (sinks.faults b.sink))
    by_result (Ok report) h = tt
    by_result (Err fault) h = λ is. absurd (h guest is)

pub other_than_sink : (fault : SessionFault) → (rank fault ≡ 2 → ⊥) → (guest : ℕ) → fault ≢ faults.SinkFailed guest
other_than_sink fault other guest is = other (ap rank is)

-- the lowest fault is no later than a worker's
pub lowest_is : (met rest : List SessionFault) (first : SessionFault) → IsLowest (met ++ rest) (Some first) → (fault : SessionFault) →
    Contains rest fault → IsNoLater first fault
lowest_is met rest first lowest fault there =
    contained (IsNoLater first) (met ++ rest) fault lowest.1 (Contains-append_right met rest fault there)

-- a sink's fault is a worker's
pub met_by_worker : (flushed : Result (Unit {0}) FlushFault) (rest : List SessionFault) (first : SessionFault) →
    IsLowest (flusher_met flushed ++ rest) (Some first) → (guest : ℕ)
    → first ≡ faults.SinkFailed guest → Contains rest first
met_by_worker flushed rest first lowest guest is = elim (Contains-append_cases (flusher_met flushed) rest first lowest.0) [
  | inl flusher ↦ absurd (not_flusher flushed (subst (Contains (flusher_met flushed)) is flusher))
  | inr worker ↦ worker
]
  where
    not_flusher : (f : Result (Unit {0}) FlushFault) → Contains (flusher_met f) (faults.SinkFailed guest) → ⊥
    not_flusher (Ok u) there = none_in (faults.SinkFailed guest) there
    not_flusher (Err flushes.DeviceFailed) there = let e =
        ap rank (only_one faults.DeviceFailed (faults.SinkFailed guest) there) in omega arith
    not_flusher (Err flushes.Halted) there = let e = ap rank (only_one faults.Memory (faults.SinkFailed guest) there) in omega arith
    not_flusher (Err flushes.TooLong) there = let e = ap rank (only_one faults.StoreFull (faults.SinkFailed guest) there) in omega arith
    not_flusher (Err flushes.NeedsMark) there = let e =
        ap rank (only_one (faults.NeedsMark 0) (faults.SinkFailed guest) there) in omega arith
    not_flusher (Err flushes.Memory) there = let e = ap rank (only_one faults.Memory (faults.SinkFailed guest) there) in omega arith

-- ---- a job that starts no guest

starts_at : {C O S : Type 0} (jobs : List (Job C O S)) (k : ℕ) (job : Job C O S) → AllByRecursion StartsGuest jobs →
    slice_get jobs k ≡ Some job → StartsGuest job
starts_at [] k job all at = absurd (none_there k job at)
starts_at {C = C} {O = O} {S = S} (x ∷ jobs) zero job all at = subst StartsGuest (ap (λ (o : Option (Job C O S)). unwrap_or o x) at) all.0
starts_at (x ∷ jobs) (suc k) job all at = starts_at jobs k job all.1 at

pub none_is_bad : {C O S : Type 0} (jobs : List (Job C O S)) (guest : ℕ) → AllByRecursion StartsGuest jobs → IsFirstBad jobs guest → ⊥
none_is_bad jobs guest all bad = bad.starts_none (starts_at jobs guest bad.job all bad.is_there)

one_is_not_two : One ≡ Two → ⊥
one_is_not_two e = cc

-- those before a job that starts no guest end with the first such job
first_is : {C O S : Type 0} (jobs : List (Job C O S)) (j k : ℕ) (a b : Job C O S) → slice_get jobs j ≡ Some a → slice_get jobs k ≡ Some b →
    (StartsGuest a → ⊥) → (StartsGuest b → ⊥)
    → AllByRecursion StartsGuest (take j jobs) → AllByRecursion StartsGuest (take k jobs) → j ≡ k
first_is [] j k a b at at' bad bad' before before' = absurd (none_there j a at)
first_is (x ∷ jobs) zero zero a b at at' bad bad' before before' = refl
first_is {C = C} {O = O} {S = S} (x ∷ jobs) zero (suc k) a b at at' bad bad' before before' =
    absurd (bad (subst StartsGuest (ap (λ (o : Option (Job C O S)). unwrap_or o x) at) before'.0))
first_is {C = C} {O = O} {S = S} (x ∷ jobs) (suc j) zero a b at at' bad bad' before before' =
    absurd (bad' (subst StartsGuest (ap (λ (o : Option (Job C O S)). unwrap_or o x) at') before.0))
first_is (x ∷ jobs) (suc j) (suc k) a b at at' bad bad' before before' = ap suc (first_is jobs j k a b at at' bad bad' before.1 before'.1)

-- if those before a place all start guests, a job that starts none isn't one of them
is_behind : {C O S : Type 0} (jobs : List (Job C O S)) (j k : ℕ) (b : Job C O S) → slice_get jobs k ≡ Some b → (StartsGuest b → ⊥) →
    AllByRecursion StartsGuest (take j jobs) → j ≤ k
is_behind [] j k b at bad before = absurd (none_there k b at)
is_behind (x ∷ jobs) zero k b at bad before = omega arith
is_behind {C = C} {O = O} {S = S} (x ∷ jobs) (suc j) zero b at bad before =
    absurd (bad (subst StartsGuest (ap (λ (o : Option (Job C O S)). unwrap_or o x) at) before.0))
is_behind (x ∷ jobs) (suc j) (suc k) b at bad before = let h = is_behind jobs j k b at bad before.1 in omega (arith, h)

pub bad_told : {C O S D : Type 0} (T : Type 0) (log : LogValue D) (jobs : List (Job C O S)) (guest : ℕ) (fault : SessionFault) →
    RefusesJobs jobs fault → IsFirstBad jobs guest → TellsBadJob {T = T} (Err fault) log jobs guest
bad_told T log jobs guest fault h bad = elim h.refuses [
  | inl memory ↦ inr (inl (
    memory.0,
    record {
      place = h.place;
      up_to = is_behind jobs h.place guest bad.job bad.is_there bad.starts_none h.before;
      job = h.job;
      is_there = h.is_there;
      wants = memory.1;
    },
  ))
  | inr refuses ↦
      let is : h.place ≡ guest =
      first_is jobs h.place guest h.job bad.job h.is_there bad.is_there refuses.1 bad.starts_none h.before bad.before in
      inl (refuses.0 ∙ ap (λ (g : ℕ). faults.BadOpening g) is)
]

-- ---- a job of a guest of version 2

-- two places that are the first of one are one place
pub new_once : {C O S : Type 0} (jobs : List (Job C O S)) (j k : ℕ) → IsFirstNew jobs j → IsFirstNew jobs k → j ≡ k
new_once jobs j k h m = at jobs j k h.job m.job h.is_there m.is_there h.version m.version h.before m.before where
  at : {C O S : Type 0} (jobs : List (Job C O S)) (j k : ℕ) (a b : Job C O S) → slice_get jobs j ≡ Some a → slice_get jobs k ≡ Some b →
      a.version ≡ Two → b.version ≡ Two → AreOld (take j jobs) → AreOld (take k jobs) → j ≡ k
  at [] j k a b there there' two two' before before' = absurd (none_there j a there)
  at (x ∷ jobs) zero zero a b there there' two two' before before' = refl
  at {C = C} {O = O} {S = S} (x ∷ jobs) zero (suc k) a b there there' two two' before before' =
      let same : x ≡ a = ap (λ (o : Option (Job C O S)). unwrap_or o x) there in
      absurd (one_is_not_two (sym before'.0 ∙ ap (λ (q : Job C O S). q.version) same ∙ two))
  at {C = C} {O = O} {S = S} (x ∷ jobs) (suc j) zero a b there there' two two' before before' =
      let same : x ≡ b = ap (λ (o : Option (Job C O S)). unwrap_or o x) there' in
      absurd (one_is_not_two (sym before.0 ∙ ap (λ (q : Job C O S). q.version) same ∙ two'))
  at (x ∷ jobs) (suc j) (suc k) a b there there' two two' before before' =
      ap suc (at jobs j k a b there there' two two' before.1 before'.1)

-- there is none where all are of version 1
pub none_is_new : {C O S : Type 0} (jobs : List (Job C O S)) (k : ℕ) → AreOld jobs → IsFirstNew jobs k → ⊥
none_is_new jobs k old h = at jobs k h.job old h.is_there h.version where
  at : {C O S : Type 0} (jobs : List (Job C O S)) (k : ℕ) (a : Job C O S) → AreOld jobs → slice_get jobs k ≡ Some a → a.version ≡ Two → ⊥
  at [] k a old there two = none_there k a there
  at {C = C} {O = O} {S = S} (x ∷ jobs) zero a old there two =
      let same : x ≡ a = ap (λ (o : Option (Job C O S)). unwrap_or o x) there in
      one_is_not_two (sym old.0 ∙ ap (λ (q : Job C O S). q.version) same ∙ two)
  at (x ∷ jobs) (suc k) a old there two = at jobs k a old.1 there two

-- ---- where no fault was met

pub steady_where_none : (flushed : Result (Unit {0}) FlushFault) (rest : List SessionFault) (old new : ℕ) → TellsDisk flushed old new →
    flusher_met flushed ++ rest ≡ [] → new ≡ old
steady_where_none (Ok u) rest old new h none = h
steady_where_none (Err e) rest old new h none = cc

pub none_of_none : (met rest : List SessionFault) → met ++ rest ≡ [] → (fault : SessionFault) → Contains rest fault → ⊥
none_of_none met rest none fault there =
    none_in fault (subst (λ (l : List SessionFault). Contains l fault) none (Contains-append_right met rest fault there))

-- what refuses a job is no fault of a sink, and none of the disk
pub job_is_no_sink : {C O S : Type 0} (jobs : List (Job C O S)) (fault : SessionFault) → RefusesJobs jobs fault → (guest : ℕ) →
    fault ≢ faults.SinkFailed guest
job_is_no_sink jobs fault h guest is = elim h.refuses [
  | inl memory ↦ let e = ap rank (sym memory.0 ∙ is) in omega arith
  | inr bad ↦ let e = ap rank (sym bad.0 ∙ is) in omega arith
]

pub job_is_no_device : {C O S : Type 0} (jobs : List (Job C O S)) (fault : SessionFault) → RefusesJobs jobs fault →
    fault ≢ faults.DeviceFailed
job_is_no_device jobs fault h is = elim h.refuses [
  | inl memory ↦ let e = ap rank (sym memory.0 ∙ is) in omega arith
  | inr bad ↦ let e = ap rank (sym bad.0 ∙ is) in omega arith
]

pub job_is_sessions : {C O S : Type 0} (jobs : List (Job C O S)) (fault : SessionFault) → RefusesJobs jobs fault → IsSessions fault
job_is_sessions jobs fault h = elim h.refuses [
  | inl memory ↦ subst IsSessions (sym memory.0) tt
  | inr bad ↦ subst IsSessions (sym bad.0) tt
]

-- ---- all sinks of a session

module _ {C O S : Type 0} (choosers : Choosers C) (sinks : Sinks S) (group : GroupId) (tasks : List (Task C O S))
    (done : List (Worked C O S))
    (new : AllNew group (seats_of tasks)) (pairs : ArePairs (HasWorked choosers sinks) tasks done) (flushed : Result (Unit {0}) FlushFault)
    (jobs jobs' : List (Job C O S)) (given : jobs_of tasks ≡ jobs) (back : jobs' ≡ jobs_worked done) where
  pub sinks_ok : flusher_met flushed ++ faults_met done ≡ [] → (T : Type 0) (report : T) → TellsSinks {T = T} sinks (Ok report) jobs jobs'
  sinks_ok none T report =
      let result : Result T SessionFault = Ok report in
      let told = sinks_told {T = T} choosers sinks group tasks done new pairs result
      (λ fault there. absurd (none_of_none (flusher_met flushed) (faults_met done) none fault there)) tt in
      subst (λ (x : List (Job C O S) × List (Job C O S)). TellsSinks {T = T} sinks result x.0 x.1) (λ i. (given i, sym back i)) told

  pub sinks_err : (first : SessionFault) → IsLowest (flusher_met flushed ++ faults_met done) (Some first) → (T : Type 0) →
      TellsSinks {T = T} sinks (Err first) jobs jobs'
  sinks_err first lowest T =
      let told = sinks_told {T = T} choosers sinks group tasks done new pairs (Err first)
      (lowest_is (flusher_met flushed) (faults_met done) first lowest) (met_by_worker flushed (faults_met done) first lowest) in
      subst (λ (x : List (Job C O S) × List (Job C O S)). TellsSinks {T = T} sinks (Err first) x.0 x.1) (λ i. (given i, sym back i)) told
