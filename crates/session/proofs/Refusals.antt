-- What the fault of a session tells.
use Rattle.std.proofs.Common.{◌≡◌, ◌≢◌, inl, inr, ℕ, zero, suc, ◌<◌, List, [], ◌∷◌, ◌++◌, length, refl, sym, ◌∙◌, ap, subst, arith, false}
use Rattle.std.proofs.lemmas.List.Elements.{Contains-append_cases}
use Rattle.std.specs.Prelude.{Option, Some, None, Result, Ok, Err, OnOk, IfErr, Vec, vec_items, slice_get}
use Rattle.std.specs.List.{Contains}
use Rattle.std.specs.declared.alloc.Global.{Global}
use Rattle.trace_log.specs.Kept.{LogValue}
use Rattle.commit_group.specs.declared.fault.FlushFault.{FlushFault}
use Rattle.commit_group.specs.declared.fault.FlushFault.TheVariants as flushes
use Rattle.commit_group.specs.Seats.{GroupId}
use Rattle.faults.specs.declared.session.SessionFault.{SessionFault}
use Rattle.faults.specs.declared.session.SessionFault.TheVariants as faults
use Rattle.session.specs.declared.job.Job.{Job}
use Rattle.session.specs.declared.task.Task.{Task}
use Rattle.session.specs.declared.task.Worked.{Worked}
use Rattle.session.specs.Faults.{IsLowest, IsNoLater, flush_told, flusher_met}
use Rattle.session.specs.Gains.{IsLeftBy}
use Rattle.session.specs.Openings.{RefusesJobs}
use Rattle.session.specs.Pairs.{ArePairs}
use Rattle.session.specs.Sessions.{RefusesSession}
use Rattle.session.specs.Tasks.{faults_met, met_once, seats_of, seats_worked}
use Rattle.session.specs.Works.{AreMet, Choosers, HasWorked, IsMet, Sinks}
use Rattle.commit_group.specs.Seats.{AllNew, RecorderValue}
use Rattle.session.proofs.Pairs.{pairs_length}
use Rattle.session.proofs.Tasks.{all_of}

-- ---- lists of faults

pub none_in : (fault : SessionFault) → Contains [] fault → ⊥
none_in fault c = omega (arith, c.1)

pub only_one : (a fault : SessionFault) → Contains (a ∷ []) fault → a ≡ fault
only_one a fault (zero, low, is) = is
only_one a fault (suc k, low, is) = absurd (omega (arith, low))

-- no fault comes before a failed call of the disk
pub first_of_all : (fault : SessionFault) → IsNoLater fault faults.DeviceFailed → fault ≡ faults.DeviceFailed
first_of_all faults.DeviceFailed h = refl
first_of_all (faults.SinkFailed g) h = elim h [ inl l ↦ absurd (omega (arith, l)) | inr e ↦ absurd (omega (arith, e.0)) ]
first_of_all (faults.Held g) h = elim h [ inl l ↦ absurd (omega (arith, l)) | inr e ↦ absurd (omega (arith, e.0)) ]
first_of_all faults.Memory h = elim h [ inl l ↦ absurd (omega (arith, l)) | inr e ↦ absurd (omega (arith, e.0)) ]
first_of_all faults.TooManyGuests h = elim h [ inl l ↦ absurd (omega (arith, l)) | inr e ↦ absurd (omega (arith, e.0)) ]
first_of_all faults.StoreFull h = elim h [ inl l ↦ absurd (omega (arith, l)) | inr e ↦ absurd (omega (arith, e.0)) ]
first_of_all (faults.BadOpening g) h = elim h [ inl l ↦ absurd (omega (arith, l)) | inr e ↦ absurd (omega (arith, e.0)) ]
first_of_all (faults.NeedsMark g) h = elim h [ inl l ↦ absurd (omega (arith, l)) | inr e ↦ absurd (omega (arith, e.0)) ]

module _ {C O S D : Type 0} (log log' : LogValue D) (jobs jobs' : Vec (Job C O S) Global) where
  -- ---- the flusher's

  -- it met no record that needs a Mark that isn't there
  flusher_tells : (e : FlushFault) → IsLeftBy log' e → (e ≡ flushes.NeedsMark → ⊥) → RefusesSession log log' jobs jobs' (flush_told e)
  flusher_tells flushes.DeviceFailed left lacks_none = left
  flusher_tells flushes.Halted left lacks_none = left
  flusher_tells flushes.TooLong left lacks_none = left
  flusher_tells flushes.NeedsMark left lacks_none = absurd (lacks_none refl)
  flusher_tells flushes.Memory left lacks_none = left

  flusher_tells_one : (flushed : Result Unit FlushFault) (fault : SessionFault) → IfErr flushed (IsLeftBy log') →
      (IfErr flushed (IsLeftBy log') → flushed ≡ Err flushes.NeedsMark → ⊥) →
      Contains (flusher_met flushed) fault → RefusesSession log log' jobs jobs' fault
  flusher_tells_one (Ok u) fault left lacks_none there = absurd (none_in fault there)
  flusher_tells_one (Err e) fault left lacks_none there =
      subst (RefusesSession log log' jobs jobs') (only_one (flush_told e) fault there)
      (flusher_tells e left (λ is. lacks_none left (ap (λ (x : FlushFault). Err x) is)))

  -- where another fault is the lowest no call of the disk failed
  whole_unless : (flushed : Result Unit FlushFault) (rest : List SessionFault) (fault : SessionFault) → IfErr flushed (IsLeftBy log') →
      OnOk flushed (log'.is_broken ≡ false)
      → IsLowest (flusher_met flushed ++ rest) (Some fault) → fault ≢ faults.DeviceFailed → log'.is_broken ≡ false
  whole_unless (Ok u) rest fault left whole lowest other = whole
  whole_unless (Err flushes.DeviceFailed) rest fault left whole lowest other = absurd (other (first_of_all fault lowest.1.0))
  whole_unless (Err flushes.Halted) rest fault left whole lowest other = left
  whole_unless (Err flushes.TooLong) rest fault left whole lowest other = left.0
  whole_unless (Err flushes.NeedsMark) rest fault left whole lowest other = left.0
  whole_unless (Err flushes.Memory) rest fault left whole lowest other = left

  -- ---- a worker's

  worker_tells : (g : ℕ) (fault : SessionFault) → g < length (vec_items jobs) → (fault ≢ faults.DeviceFailed → log'.is_broken ≡ false) →
      IsMet g fault → RefusesSession log log' jobs jobs' fault
  worker_tells g fault low whole met = elim met [
    | inl sink ↦ subst (RefusesSession log log' jobs jobs') (sym sink) (low, whole (λ e. absurd (sink_is_not_device (sym sink ∙ e))))
    | inr more ↦ elim more [
      | inl held ↦ subst (RefusesSession log log' jobs jobs') (sym held) (low, whole (λ e. absurd (held_is_not_device (sym held ∙ e))))
      | inr memory ↦ subst (RefusesSession log log' jobs jobs') (sym memory) (whole (λ e. absurd (memory_is_not_device (sym memory ∙ e))))
    ]
  ]
    where
      sink_is_not_device : faults.SinkFailed g ≡ faults.DeviceFailed → ⊥
      sink_is_not_device e = cc

      held_is_not_device : faults.Held g ≡ faults.DeviceFailed → ⊥
      held_is_not_device e = cc

      memory_is_not_device : faults.Memory ≡ faults.DeviceFailed → ⊥
      memory_is_not_device e = cc

-- ---- which worker met it

once_met : (guest : ℕ) (met : Option SessionFault) (fault : SessionFault) → AreMet guest met → Contains (met_once met) fault →
    IsMet guest fault
once_met guest None fault all there = absurd (none_in fault there)
once_met guest (Some a) fault all there = subst (IsMet guest) (only_one a fault there) all

module _ {C O S : Type 0} (choosers : Choosers C) (sinks : Sinks S) where
  of_one : (tasks : List (Task C O S)) (done : List (Worked C O S)) (fault : SessionFault) →
      ArePairs (HasWorked choosers sinks) tasks done → Contains (faults_met done) fault
      → (k : ℕ) × (r : RecorderValue) × (slice_get (seats_worked done) k ≡ Some r) × IsMet r.guest fault × (k < length done)
  of_one [] [] fault pairs there = absurd (none_in fault there)
  of_one [] (d ∷ done) fault pairs there = elim pairs [ ]
  of_one (t ∷ tasks) [] fault pairs there = elim pairs [ ]
  of_one (t ∷ tasks) (d ∷ done) fault pairs there = elim (Contains-append_cases (met_once d.fault) (faults_met done) fault there) [
    | inl now ↦ (0, d.seat, refl, once_met d.seat.guest d.fault fault pairs.0.faults now, omega arith)
    | inr later ↦ let h = of_one tasks done fault pairs.1 later in (suc h.0, h.1, h.2, h.3, (let l = h.4 in omega arith))
  ]

  -- what the lowest of the faults that the flusher and the workers met tells
  pub lowest_tells : {D : Type 0} (log log' : LogValue D) (jobs jobs' : Vec (Job C O S) Global) (group : GroupId)
      (flushed : Result Unit FlushFault)
      (tasks : List (Task C O S)) (done : List (Worked C O S)) (fault : SessionFault)
      → IfErr flushed (IsLeftBy log') → OnOk flushed (log'.is_broken ≡ false)
      → (IfErr flushed (IsLeftBy log') → flushed ≡ Err flushes.NeedsMark → ⊥) → AllNew group (seats_of tasks) →
      ArePairs (HasWorked choosers sinks) tasks done → length tasks ≡ length (vec_items jobs)
      → IsLowest (flusher_met flushed ++ faults_met done) (Some fault) → RefusesSession log log' jobs jobs' fault
  lowest_tells log log' jobs jobs' group flushed tasks done fault left whole lacks_none new pairs count lowest =
      elim (Contains-append_cases (flusher_met flushed) (faults_met done) fault lowest.0) [
        | inl flusher ↦ flusher_tells_one log log' jobs jobs' flushed fault left lacks_none flusher
        | inr worker ↦
            let h = of_one tasks done fault pairs worker in
            let place = (all_of choosers sinks group tasks done new pairs h.0 h.1 h.2).1 in
            let same = pairs_length (HasWorked choosers sinks) tasks done pairs in
            let low = h.4 in
            worker_tells log log' jobs jobs' h.1.guest fault (subst (λ (k : ℕ). k < length (vec_items jobs)) (sym place) (omega arith))
            (λ other. whole_unless log log' jobs jobs' flushed (faults_met done) fault left whole lowest other) h.3
      ]

-- ---- before a thread starts

module _ {C O S D : Type 0} (log : LogValue D) (jobs : Vec (Job C O S) Global) where
  pub job_tells : (fault : SessionFault) → log.is_broken ≡ false → RefusesJobs (vec_items jobs) fault →
      RefusesSession log log jobs jobs fault
  job_tells fault whole h = elim h.refuses [
    | inl memory ↦ subst (RefusesSession log log jobs jobs) (sym memory.0) whole
    | inr bad ↦ subst (RefusesSession log log jobs jobs) (sym bad.0) (
      record { job = h.job; is_there = h.is_there; starts_none = bad.1; before = h.before },
      (refl, refl),
    )
  ]
