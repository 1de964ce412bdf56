-- Calls of a recorder drive it.
use Rattle.std.proofs.Common.{◌≡◌, ◌≢◌, ℕ, ◌-◌, List, [], ◌∷◌, ◌++◌, length, take, refl, sym, ap, ◌∙◌, subst, arith, append_assoc}
use Rattle.std.specs.Prelude.{Result, Ok, Err, IfErr}
use Rattle.std.proofs.lemmas.List.{append-nil}
use Rattle.rrv_model.specs.declared.record.Choice.{Choice}
use Rattle.rrv_model.specs.declared.record.Record.{Record}
use Rattle.outcomes.specs.Failures.{HasFailed}
use Rattle.rrv_model.specs.Recording.{frame_record}
use Rattle.rrv_model.specs.State.{State}
use Rattle.guest_calls.specs.Guest.{state_of}
use Rattle.serial_sched.specs.Asking.{Gives}
use Rattle.commit_group.specs.Seats.{RecorderValue}
use Rattle.recorder.specs.declared.fault.RecorderFault.{RecorderFault}
use Rattle.recorder.specs.declared.fault.RecorderFault.TheVariants as faults
use Rattle.commit_core.specs.Runs.{ItemsPut}
use Rattle.rrv_model.specs.Recording.{items_of}
use Rattle.recorder.specs.Owed.{joined}
use Rattle.recorder.specs.Recorded.{IsFirst}
use Rattle.recorder.specs.declared.checkpoints.Parts.{Parts}
use Rattle.recorder.specs.RecorderCalls.{HasStepped, IsUnmoved, KeepsMade, PutsMore, RefusesRelease, RefusesSettle, RefusesStep, SendsSome, part_records}
use Rattle.recorder.specs.Recorders.{GuestRecorder, HasPut, HasRecorded, made}
use Rattle.recorder.proofs.Made.{keeps_sent, put_stays}
use Rattle.session.specs.declared.rounds.WorkFault.{WorkFault}
use Rattle.session.specs.declared.rounds.WorkFault.TheVariants as work_faults
use Rattle.session.specs.Drives.{CallTellsSink, Drives, GoesOn, IsDriven, WorkTellsSink, fault_told, work_told}
use Rattle.session.specs.Works.{FaultTellsSink, IsRecordedFrom, Sinks}

-- ---- one call behind the other

pub goes_none : (r : GuestRecorder) → GoesOn r r []
goes_none r = record {
  group = refl;
  guest = refl;
  driven = λ opening out h. record { recorded = h.recorded; has_put = subst (HasPut r) (sym (append-nil out)) h.has_put };
}

pub goes_both : (a b c : GuestRecorder) (p q : List (ℕ × ℕ)) → GoesOn a b p → GoesOn b c q → GoesOn a c (p ++ q)
goes_both a b c p q g h = record {
  group = h.group ∙ g.group;
  guest = h.guest ∙ g.guest;
  driven = λ opening out d. subst (IsDriven opening c) (append_assoc out p q) (h.driven opening (out ++ p) (g.driven opening out d));
}

-- ---- calls that keep what was made

same_recording : (a b : GuestRecorder) (opening : Record) → KeepsMade a b →
    IsRecordedFrom opening a.seat.guest (made a) (state_of a.guest) → IsRecordedFrom opening b.seat.guest (made b) (state_of b.guest)
same_recording a b opening keeps h =
    subst (λ (x : ℕ × (List Record × State)). IsRecordedFrom opening x.0 x.1.0 x.1.1)
    (λ i. (sym keeps.place i, (sym keeps.made_is i, state_of (sym keeps.guest i)))) h

pub goes_kept : (a b : GuestRecorder) (put : List (ℕ × ℕ)) → KeepsMade a b → ((out : List (ℕ × ℕ)) → HasPut a out → HasPut b (out ++ put)) →
    GoesOn a b put
goes_kept a b put keeps has_put = record {
  group = keeps.group;
  guest = keeps.place;
  driven = λ opening out d. record { recorded = same_recording a b opening keeps d.recorded; has_put = has_put out d.has_put };
}

pub goes_sent : (a b : GuestRecorder) → SendsSome a b → GoesOn a b []
goes_sent a b h = goes_kept a b [] (keeps_sent a b h) (λ out p. subst (HasPut b) (sym (append-nil out)) (put_stays a b h out p))

-- ---- a step

still_first : (opening : Record) (records more : List Record) → IsFirst opening records → IsFirst opening (records ++ more)
still_first opening records more h = (h.0 ++ more, ap (λ (l : List Record). l ++ more) h.1)

pub goes_stepped : {O : Type 0} (gives : Gives O) (a b : GuestRecorder) (choice : Choice) (outcome : Parts) (before after : O) →
    HasStepped gives a choice outcome b before after → HasRecorded b → GoesOn a b []
goes_stepped gives a b choice outcome before after h recorded =
    let seat : b.seat ≡ a.seat = h.keeps.seat ∙ h.makes.seat in
    let r = frame_record a.seat.guest (length (made a)) h.makes.frame in
    let more = part_records h.between h.keeps.parts in
    let made_is : made b ≡ (made a ++ r ∷ []) ++ more = h.keeps.made_is ∙ ap (λ (l : List Record). l ++ more) h.makes.made_is in
    record {
      group = ap (λ (q : RecorderValue). q.group) seat;
      guest = ap (λ (q : RecorderValue). q.guest) seat;
      driven = λ opening out d. record {
        recorded = record {
          opens = subst (IsFirst opening) (sym made_is)
              (still_first opening (made a ++ r ∷ []) more (still_first opening (made a) (r ∷ []) d.recorded.opens));
          recorded = recorded.recorded;
        };
        has_put = subst (HasPut b) (sym (append-nil out)) (h.keeps.has_put out (h.makes.has_put out d.has_put));
      };
    }

pub goes_unmoved : {O : Type 0} (gives : Gives O) (a b : GuestRecorder) (before after : O) → IsUnmoved gives a b before after →
    GoesOn a b []
goes_unmoved gives a b before after h =
    let same : made b ≡ made a = λ i. (h.seat i).sent ++ h.backlog i in
    record {
      group = ap (λ (q : RecorderValue). q.group) h.seat;
      guest = ap (λ (q : RecorderValue). q.guest) h.seat;
      driven = λ opening out d. record {
        recorded = subst (λ (x : RecorderValue × (List Record × State)). IsRecordedFrom opening x.0.guest x.1.0 x.1.1)
            (λ i. (sym h.seat i, (sym same i, sym h.state i))) d.recorded;
        has_put = subst (HasPut b) (sym (append-nil out)) (record {
          each = λ k low high.
              let s : b.seat.seen ≡ a.seat.seen = ap (λ (q : RecorderValue). q.seen) h.seat in
              let n : length (made b) ≡ length (made a) = ap length same in
              let e = d.has_put.each k (omega arith) (omega arith) in (
                e.0,
                subst (λ (l : List Record). ItemsPut (items_of (take k l)) e.0) (sym same) e.1,
                (λ i. out ++ joined (take (k - h.owed.0 i) (h.owed.1 i))) ∙ e.2,
              );
        });
      };
    }

-- ---- release and settle

pub drives_more : {S : Type 0} (sinks : Sinks S) (a b : GuestRecorder) (s t : S) (result : Result (Unit {0}) RecorderFault) →
    KeepsMade a b → PutsMore sinks.tells sinks.taken a b s t result → Drives sinks a b s t
drives_more sinks a b s t result keeps h =
    record { put = h.put; takes = h.takes; goes = goes_kept a b h.put keeps h.has_put; tells = h.still }

pub drives_none : {S : Type 0} (sinks : Sinks S) (r : GuestRecorder) (s : S) → Drives sinks r r s s
drives_none sinks r s = record { put = []; takes = λ t. sym (append-nil (sinks.taken s)); goes = goes_none r; tells = ((λ t. t), (λ t. t)) }

pub drives_both : {S : Type 0} (sinks : Sinks S) (a b c : GuestRecorder) (s t u : S) → Drives sinks a b s t → Drives sinks b c t u →
    Drives sinks a c s u
drives_both sinks a b c s t u g h = record {
  put = g.put ++ h.put;
  takes = λ tells. h.takes (g.tells.1 tells) ∙ ap (λ (l : List (ℕ × ℕ)). l ++ h.put) (g.takes tells)
      ∙ append_assoc (sinks.taken s) g.put h.put;
  goes = goes_both a b c g.put h.put g.goes h.goes;
  tells = ((λ t. g.tells.0 (h.tells.0 t)), (λ t. h.tells.1 (g.tells.1 t)));
}

-- the sink stays
pub drives_still : {S : Type 0} (sinks : Sinks S) (a b : GuestRecorder) (s : S) → GoesOn a b [] → Drives sinks a b s s
drives_still sinks a b s h = record { put = []; takes = λ t. sym (append-nil (sinks.taken s)); goes = h; tells = ((λ t. t), (λ t. t)) }

-- ---- halts

pub halted_is : (fault : RecorderFault) → (r : Result (Unit {0}) RecorderFault) → r ≡ Err fault → r ≡ Err faults.Halted →
    fault ≡ faults.Halted
halted_is fault r is e = cc

-- ---- what a call tells of its sink

pub call_tells_released : (e : RecorderFault) (old new : ℕ) → RefusesRelease e old new → CallTellsSink (Err e) old new
call_tells_released (faults.SinkFailed taken) old new h = h
call_tells_released faults.Halted old new h = absurd h
call_tells_released faults.Full old new h = absurd h
call_tells_released faults.Memory old new h = absurd h
call_tells_released (faults.Refused fault) old new h = absurd h
call_tells_released faults.TooManyRecords old new h = absurd h
call_tells_released faults.BadOpening old new h = absurd h

-- behind a release that put all out, where a halt alone is told
pub call_tells_sent : (Knows : Type 0) (r : Result (Unit {0}) RecorderFault) (old new : ℕ) → IfErr r (λ e. (e ≡ faults.Halted) × Knows) →
    new ≡ old → CallTellsSink r old new
call_tells_sent Knows (Ok u) old new halted same = same
call_tells_sent Knows (Err e) old new halted same = subst (λ x. CallTellsSink (Err x) old new) (sym halted.0) same

pub call_tells_settled : (r : GuestRecorder) (e : RecorderFault) (old new : ℕ) → RefusesSettle r e old new → CallTellsSink (Err e) old new
call_tells_settled r faults.Halted old new h = h.1
call_tells_settled r (faults.SinkFailed taken) old new h = h
call_tells_settled r faults.Full old new h = absurd h
call_tells_settled r faults.Memory old new h = absurd h
call_tells_settled r (faults.Refused fault) old new h = absurd h
call_tells_settled r faults.TooManyRecords old new h = absurd h
call_tells_settled r faults.BadOpening old new h = absurd h

told_again : (e : RecorderFault) (first old new : ℕ) → CallTellsSink (Err e) old new → old ≡ first →
    WorkTellsSink (Err (work_told e)) first new
told_again faults.Halted first old new h same = h ∙ same
told_again (faults.SinkFailed taken) first old new h same = subst (λ (n : ℕ). HasFailed n new) same h
told_again faults.Full first old new h same = h ∙ same
told_again faults.Memory first old new h same = h ∙ same
told_again (faults.Refused fault) first old new h same = h ∙ same
told_again faults.TooManyRecords first old new h same = h ∙ same
told_again faults.BadOpening first old new h same = h ∙ same

-- a worker tells it so, where nothing was refused before
pub work_tells : (e : RecorderFault) (fault : WorkFault) (first old new : ℕ) → CallTellsSink (Err e) old new → old ≡ first →
    fault ≡ work_told e → WorkTellsSink (Err fault) first new
work_tells e fault first old new h same is =
    subst (λ (f : WorkFault). WorkTellsSink (Err f) first new) (sym is) (told_again e first old new h same)

-- a fault that isn't the sink's
pub work_steady : (fault : WorkFault) (first new : ℕ) → fault ≢ work_faults.SinkFailed → new ≡ first → WorkTellsSink (Err fault) first new
work_steady work_faults.Halted first new other same = same
work_steady work_faults.SinkFailed first new other same = absurd (other refl)
work_steady work_faults.Held first new other same = same
work_steady work_faults.Memory first new other same = same

-- and so does what is told of the worker
pub fault_tells : (guest : ℕ) (fault : WorkFault) (old new : ℕ) → WorkTellsSink (Err fault) old new →
    FaultTellsSink (fault_told guest fault) old new
fault_tells guest work_faults.Halted old new h = h
fault_tells guest work_faults.SinkFailed old new h = h
fault_tells guest work_faults.Held old new h = h
fault_tells guest work_faults.Memory old new h = h

-- ---- a step that is refused

-- is refused for want of memory, as a worker tells it
pub step_tells : (r : GuestRecorder) (choice : Choice) (e : RecorderFault) → RefusesStep r choice e → work_told e ≡ work_faults.Memory
step_tells r choice faults.Halted h = absurd h
step_tells r choice (faults.SinkFailed taken) h = absurd h
step_tells r choice faults.Full h = refl
step_tells r choice faults.Memory h = refl
step_tells r choice (faults.Refused fault) h = refl
step_tells r choice faults.TooManyRecords h = refl
step_tells r choice faults.BadOpening h = absurd h

pub memory_is_no_sink : work_faults.Memory ≡ work_faults.SinkFailed → ⊥
memory_is_no_sink e = cc

pub held_is_no_sink : work_faults.Held ≡ work_faults.SinkFailed → ⊥
held_is_no_sink e = cc
