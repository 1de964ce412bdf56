-- What a worker gives back.
use Rattle.std.proofs.Common.{◌≡◌, ◌⊎◌, inl, inr, ℕ, suc, ◌+◌, ◌*◌, ◌^◌, ◌-◌, ◌<◌, ◌≤◌, List, [], ◌∷◌, ◌++◌, length, length-append, take, None, Option, Some, true, true≢false, refl, sym, ap, ◌∙◌, subst, arith}
use Rattle.std.proofs.lemmas.List.{append-nil, take-append-le, take_all}
use Rattle.std.proofs.lemmas.List.Sums.{sum_by-cons}
use Rattle.std.specs.Prelude.{IsSome}
use Rattle.std.specs.List.{AllByRecursion}
use Rattle.rrv_model.proofs.RecordGrammars.{frame_most}
use Rattle.rrv_model.specs.declared.record.Frame.{Frame}
use Rattle.rrv_model.specs.declared.record.Item.{Item}
use Rattle.rrv_model.specs.declared.record.Item.TheVariants as items
use Rattle.rrv_model.specs.declared.record.Part.{Part}
use Rattle.rrv_model.specs.declared.record.Record.{Record}
use Rattle.rrv_model.specs.RecordText.{HasItemText, HasText}
use Rattle.rrv_model.specs.Recording.{EndsIn, IsNumbered, IsRecording, ItemsFollow, Starts, base_after, frames_of, items_of, row_after}
use Rattle.rrv_model.specs.State.{State}
use Rattle.rrv_model.specs.StateAt.{StateAtFrom, total}
use Rattle.outcomes.proofs.Lists.{AllByRecursion-front}
use Rattle.rrv_model.proofs.RecordingLaws.{beginnings_are_recordings}
use Rattle.rrv_model.proofs.RecoveredLaws.{numbered_front}
use Rattle.rrv_model.proofs.RunLaws.{at_total_of_first}
use Rattle.rrv_model.specs.declared.machine.GuestEnd.{GuestEnd}
use Rattle.guest_calls.specs.Guest.{GuestValue, state_of}
use Rattle.commit_core.specs.Runs.{IsOutput, ItemsPut}
use Rattle.commit_group.specs.Seats.{RecorderValue}
use Rattle.recorder.specs.Recorded.{IsRecorded, opening_of}
use Rattle.recorder.specs.Owed.{Owed, joined, left_of}
use Rattle.recorder.specs.Recorders.{GuestRecorder, IsSettled, made}
use Rattle.recorder.proofs.Released.{output_is_durable, settled_has_put_all}
use Rattle.faults.specs.declared.session.SessionFault.{SessionFault}
use Rattle.faults.specs.declared.session.SessionFault.TheVariants as faults
use Rattle.session.specs.declared.job.Job.{Job}
use Rattle.session.specs.declared.task.Task.{Task}
use Rattle.session.specs.declared.task.Worked.{Worked}
use Rattle.session.proofs.Works.{no_fault, none_put}
use Rattle.session.proofs.Chosen.{chosen_from_start, none_on, sent_on}
use Rattle.session.specs.Chosen.{HasChosenOn, IsAtStart, IsLeftWith, LeavesChooser, MakesChosen, frames_in}
use Rattle.session.specs.Drives.{Drives, HasHalted, IsDone, IsDriven, IsOver, LeavesWith}
use Rattle.session.specs.Works.{AreMet, Choosers, FaultTellsSink, HasChosenAll, HasFinished, IsBehind, HasStopped, HasWorked, IsBegun, IsRecordedFrom, IsSameJob, Sinks, opening_for}

none_left : (o : Owed) (k : ℕ) → k ≤ o.released → left_of o k ≡ []
none_left o k low =
    let none : k - o.released ≡ 0 = omega arith in
    ap (λ (n : ℕ). joined (take n o.owed)) none

-- ---- the front of a recording

follow_ends : (base : State) (parts : List Part) (s : State) (rest : List Item) → ItemsFollow base parts s rest → (last : State) ×
    StateAtFrom s (frames_of rest) (total (frames_of rest)) last
follow_ends base parts s [] h = (s, (refl, refl))
follow_ends base parts s (items.Opening o ∷ rest) h = absurd h
follow_ends base parts s (items.Frame f ∷ rest) h =
    let e = follow_ends base [] h.0 rest h.2 in
    (e.0, at_total_of_first s f (frames_of rest) h.0 e.0 h.1 e.1)
follow_ends base parts s (items.Part p ∷ rest) h = follow_ends (base_after p.rest base s) (row_after p.rest (parts ++ p ∷ [])) s rest h.1

starts_end : (its : List Item) → Starts its → (last : State) × EndsIn its last
starts_end [] h = absurd h
starts_end (items.Opening o ∷ rest) h =
    let e = follow_ends h.0 [] h.0 rest h.2 in
    (e.0, (h.0, h.1, e.1))
starts_end (items.Frame f ∷ rest) h = absurd h
starts_end (items.Part p ∷ rest) h = absurd h

recorded_front : (place : ℕ) (x : Record) (xs ys : List Record) (s : State) → IsRecorded place ((x ∷ xs) ++ ys) s → (last : State) ×
    IsRecorded place (x ∷ xs) last
recorded_front place x xs ys s h =
    let is : IsRecording (x ∷ xs) =
    subst IsRecording
    (ap (λ (l : List Record). x ∷ l) (take-append-le (length xs) xs ys (omega arith) ∙ take_all (length xs) xs (omega arith)))
    (beginnings_are_recordings (x ∷ (xs ++ ys)) (length xs) h.recording) in
    let e = starts_end (items_of (x ∷ xs)) is.starts in (
      e.0,
      record {
        recording = is;
        numbered = numbered_front place 0 (x ∷ xs) ys h.numbered;
        ends = e.1;
        has_text = AllByRecursion-front HasText (x ∷ xs) ys h.has_text;
      },
    )

-- what was sent of a recording is nothing, or a recording too
pub begun_front : (opening : Record) (place : ℕ) (front back : List Record) (s : State) → IsRecordedFrom opening place (front ++ back) s →
    IsBegun opening place front
begun_front opening place [] back s h = inl refl
begun_front opening place (x ∷ xs) back s h =
    let e = recorded_front place x xs back s h.recorded in
    let first : x ≡ opening = head_is x opening (xs ++ back) h.opens.0 h.opens.1 in
    inr (e.0, record { opens = (xs, ap (λ (r : Record). r ∷ xs) first); recorded = e.1 })
  where
    head_of : Record → List Record → Record
    head_of d [] = d
    head_of d (y ∷ ys) = y

    head_is : (x y : Record) (xs ys : List Record) → x ∷ xs ≡ y ∷ ys → x ≡ y
    head_is x y xs ys e = ap (head_of x) e

-- ---- a worker

is_no_none : {A : Type 0} (o : Option A) → IsSome o → o ≡ None → ⊥
is_no_none o some none = true≢false (sym (subst IsSome none some))

same_opening : {C O S : Type 0} (guest guest' : ℕ) (job job' : Job C O S) → guest' ≡ guest → IsSameJob job job' →
    opening_for guest job ≡ opening_for guest' job'
same_opening guest guest' job job' e same =
    λ i. opening_of (sym e i) (sym same.version i) (sym same.elf i) (sym same.name i) (sym same.random i)

-- ---- the steps of a recording

more_counts : (item : Item) (rest : List Item) (n : ℕ) → HasItemText item → total (frames_of rest) ≤ n * 1048576 →
    total (frames_of (item ∷ rest)) ≤ suc n * 1048576
more_counts (items.Opening o) rest n h low = omega arith
more_counts (items.Frame f) rest n h low =
    let few = frame_most f.end f.tid f.count h in
    let sum = sum_by-cons (λ (x : Frame). x.count) f (frames_of rest) in
    omega (arith, few, low, sum)
more_counts (items.Part p) rest n h low = omega arith

low_counts : (records : List Record) → AllByRecursion HasText records → total (frames_in records) ≤ length records * 1048576
low_counts [] h = omega arith
low_counts (r ∷ records) h = more_counts r.item (items_of records) (length records) h.0.item (low_counts records h.1)

few_records : (place index : ℕ) (r : Record) (records : List Record) → IsNumbered place index (r ∷ records) →
    AllByRecursion HasText (r ∷ records) → index + length records ≤ 4294967294
few_records place index r [] numbered h = (let here = numbered.1 in let low = h.0.index in omega arith)
few_records place index r (x ∷ records) numbered h = (let rest = few_records place (index + 1) x records numbered.2 h.1 in omega arith)

low_total : (place : ℕ) (records : List Record) → IsNumbered place 0 records → AllByRecursion HasText records →
    total (frames_in records) < 2 ^ 64
low_total place [] numbered h = omega arith
low_total place (r ∷ records) numbered h =
    let few = few_records place 0 r records numbered h in
    let low = low_counts (r ∷ records) h in
    omega arith

-- the guest comes back behind all that was made of it
left_behind : {C O S : Type 0} (choosers : Choosers C) (job : Job C O S) (old new : GuestRecorder) (opening : Record) (Ends : C → Type 0) →
    IsRecordedFrom opening new.seat.guest (made new) (state_of new.guest) → IsAtStart job old
    → MakesChosen choosers.chooses old job.chooser new Ends → IsBehind (made new) new.guest
left_behind choosers job old new opening Ends recorded start makes =
    let all : frames_in (made new) ≡ makes.frames = makes.made_are ∙ ap (λ (l : List Frame). l ++ makes.frames) start.none in
    let count : total (frames_in (made new)) ≡ total makes.frames = ap (λ (l : List Frame). total l) all in
    let none = start.ran in
    let low = low_total new.seat.guest (made new) recorded.recorded.numbered recorded.recorded.has_text in
    record {
      ends = recorded.recorded.ends;
      ran = makes.ran (omega arith) ∙ omega arith;
    }

-- to the guest's end
chosen_to_end : {C O S : Type 0} (choosers : Choosers C) (job job' : Job C O S) (old new : GuestRecorder) (end : Option GuestEnd) →
    end ≡ (state_of new.guest).ended → IsAtStart job old
    → MakesChosen choosers.chooses old job.chooser new (IsLeftWith choosers.chooses job'.chooser (state_of new.guest)) →
    HasChosenAll choosers job job' (made new) end
chosen_to_end choosers job job' old new end end_is start left =
    let h = chosen_from_start choosers.chooses job old new (IsLeftWith choosers.chooses job'.chooser (state_of new.guest)) start left in
    record {
      state = h.state;
      last = h.last;
      chosen = h.chosen;
      ends = (
        end_is ∙ ap (λ (s : State). s.ended) (sym h.ends.0),
        subst (λ (s : State). IsLeftWith choosers.chooses job'.chooser s h.last) (sym h.ends.0) h.ends.1,
      );
    }

-- what was sent of it
sent_of : {C O S : Type 0} (choosers : Choosers C) (job job' : Job C O S) (old new : GuestRecorder) (fault : Option SessionFault) →
    IsAtStart job old
    → MakesChosen choosers.chooses old job.chooser new (LeavesChooser choosers.chooses fault job'.chooser (state_of new.guest)) →
    HasChosenOn choosers.chooses job new.seat.sent (LeavesChooser choosers.chooses fault job'.chooser)
sent_of choosers job job' old new fault start makes =
    let h = sent_on choosers.chooses job new.seat.sent new.backlog _
    (chosen_from_start choosers.chooses job old new (LeavesChooser choosers.chooses fault job'.chooser (state_of new.guest)) start
    makes) in
    record {
      behind = h.behind;
      state = h.state;
      last = h.last;
      chosen = h.chosen;
      ends = subst (λ (s : State). LeavesChooser choosers.chooses fault job'.chooser s h.last) (sym h.ends.0) h.ends.1;
    }

module _ {C O S : Type 0} (choosers : Choosers C) (sinks : Sinks S) (old new : GuestRecorder) (job job' : Job C O S)
    (begun : IsDriven (opening_for old.seat.guest job) old []) (drives : Drives sinks old new job.sink job'.sink)
    (same : IsSameJob job job')
    (low : new.seat.seen ≤ length new.seat.sent) (start : IsAtStart job old) where
  abbrev opening : Record
  opening = opening_for new.seat.guest job'

  abbrev seat : RecorderValue
  seat = record new.seat { has_left = true }

  driven : IsDriven opening new drives.put
  driven = subst (λ (o : Record). IsDriven o new drives.put) (same_opening old.seat.guest new.seat.guest job job' drives.goes.guest same)
      (drives.goes.driven (opening_for old.seat.guest job) [] begun)

  output : IsOutput drives.put (take new.seat.seen new.seat.sent)
  output = subst (λ (l : List Record). IsOutput drives.put l) (take-append-le new.seat.seen new.seat.sent new.backlog low)
      (output_is_durable new drives.put low driven.has_put)

  pub finished : (guest : Option GuestValue) (end : Option GuestEnd) (fault : Option SessionFault) → guest ≡ Some new.guest →
      end ≡ (state_of new.guest).ended → IsSettled new → IsOver choosers new job'.chooser
      → MakesChosen choosers.chooses old job.chooser new (IsLeftWith choosers.chooses job'.chooser (state_of new.guest)) →
      HasFinished choosers job drives.put (record { seat = seat; job = job'; guest = guest; end = end; fault = fault })
  finished guest end fault guest_is end_is settled over left =
      let whole : made new ≡ new.seat.sent = ap (λ (l : List Record). new.seat.sent ++ l) settled.sent ∙ append-nil new.seat.sent in
      let all = settled_has_put_all new drives.put settled driven.has_put in
      record {
        seen = settled.seen;
        whole = record {
          state = state_of new.guest;
          recorded = subst (λ (l : List Record). IsRecordedFrom opening new.seat.guest l (state_of new.guest)) whole driven.recorded;
          end_is = end_is;
          output = (all.0, subst (λ (l : List Record). ItemsPut (items_of l) all.0) whole all.1, all.2);
          goes_on = λ none. goes_on none over;
        };
        chosen = subst (λ (l : List Record). HasChosenAll choosers job job' l end) whole
            (chosen_to_end choosers job job' old new end end_is start left);
        guest = new.guest;
        guest_is = guest_is;
        behind = subst (λ (l : List Record). IsBehind l new.guest) whole
            (left_behind choosers job old new opening _ driven.recorded start left);
      }
    where
      goes_on : end ≡ None → IsOver choosers new job'.chooser → choosers.is_done job'.chooser ⊎ (length new.seat.sent ≡ 4294967295)
      goes_on none (inl some) = absurd (is_no_none (state_of new.guest).ended some (sym end_is ∙ none))
      goes_on none (inr (inl done)) = inl done
      goes_on none (inr (inr many)) =
          inr (sym (ap length (ap (λ (l : List Record). new.seat.sent ++ l) settled.sent ∙ append-nil new.seat.sent)) ∙ many)

  pub stopped : (guest : Option GuestValue) (end : Option GuestEnd) (fault : Option SessionFault) → HasHalted new →
      HasStopped drives.put (record { seat = seat; job = job'; guest = guest; end = end; fault = fault })
  stopped guest end fault halted =
      let size : length (made new) ≡ length new.seat.sent + length new.backlog = length-append new.seat.sent new.backlog in
      let h = driven.has_put.each new.seat.seen (omega arith) (omega arith) in
      record {
        knows = halted.knows;
        output = (
          h.0,
          subst (λ (l : List Record). ItemsPut (items_of l) h.0) (take-append-le new.seat.seen new.seat.sent new.backlog low) h.1,
          sym (append-nil drives.put) ∙ ap (λ (l : List (ℕ × ℕ)). drives.put ++ l) (sym (none_left new.owed new.seat.seen halted.left))
              ∙ h.2,
        );
      }

  pub has_worked : (guest : Option GuestValue) (end : Option GuestEnd) (fault : Option SessionFault) → AreMet new.seat.guest fault →
      FaultTellsSink fault (sinks.faults job.sink) (sinks.faults job'.sink)
      → MakesChosen choosers.chooses old job.chooser new (LeavesChooser choosers.chooses fault job'.chooser (state_of new.guest))
      → (fault ≡ None → HasStopped drives.put (record { seat = seat; job = job'; guest = guest; end = end; fault = fault }) ⊎
      HasFinished choosers job drives.put (record { seat = seat; job = job'; guest = guest; end = end; fault = fault }))
      → HasWorked choosers sinks (record { seat = old.seat; job = job })
      (record { seat = seat; job = job'; guest = guest; end = end; fault = fault })
  has_worked guest end fault met sink makes done = record {
    group = drives.goes.group;
    guest = drives.goes.guest;
    left = refl;
    job = same;
    sent = begun_front opening new.seat.guest new.seat.sent new.backlog (state_of new.guest) driven.recorded;
    chosen = sent_of choosers job job' old new fault start makes;
    put = drives.put;
    takes = drives.takes;
    output = output;
    sink = sink;
    faults = met;
    finished = done;
  }

-- what leaves of a recorder
abbrev pub left_with : {C O S : Type 0} → GuestRecorder → Job C O S → Option SessionFault → Worked C O S
left_with r job fault =
    record { seat = record r.seat { has_left = true }; job = job; guest = Some r.guest; end = (state_of r.guest).ended; fault = fault }

pub worked : {C O S : Type 0} (choosers : Choosers C) (sinks : Sinks S) (guest : ℕ) (seat : RecorderValue) (old new : GuestRecorder)
    (job job' : Job C O S) (fault : Option SessionFault) (worked : Worked C O S)
    → guest ≡ seat.guest → old.seat ≡ seat → IsDriven (opening_for seat.guest job) old [] → Drives sinks old new job.sink job'.sink →
    IsSameJob job job' → AreMet guest fault → FaultTellsSink fault (sinks.faults job.sink) (sinks.faults job'.sink)
    → IsAtStart job old →
    MakesChosen choosers.chooses old job.chooser new (LeavesChooser choosers.chooses fault job'.chooser (state_of new.guest))
    → (fault ≡ None → HasHalted new ⊎ IsDone choosers new job'.chooser) → LeavesWith new job' fault worked →
    HasWorked choosers sinks (record { seat = seat; job = job }) worked
worked {C = C} {O = O} {S = S} choosers sinks guest seat old new job job' fault out place same_seat begun drives same met sink start makes
    done leaves =
    let begun' : IsDriven (opening_for old.seat.guest job) old [] =
    subst (λ (q : RecorderValue). IsDriven (opening_for q.guest job) old []) (sym same_seat) begun in
    let met' : AreMet new.seat.guest fault =
    subst (λ n. AreMet n fault) (place ∙ ap (λ (q : RecorderValue). q.guest) (sym same_seat) ∙ sym drives.goes.guest) met in
    let end = (state_of new.guest).ended in
    let low = leaves.seen in
    subst (λ (x : RecorderValue × Worked C O S). HasWorked choosers sinks (record { seat = x.0; job = job }) x.1)
    (λ i. (same_seat i, sym leaves.is i))
    (has_worked choosers sinks old new job job' begun' drives same low start (Some new.guest) end fault met' sink makes
    (λ none. finish (done none)
    (subst (λ (o : Option SessionFault). MakesChosen choosers.chooses old job.chooser new
    (LeavesChooser choosers.chooses o job'.chooser (state_of new.guest))) none makes)))
  where
    begun_here : IsDriven (opening_for old.seat.guest job) old []
    begun_here = subst (λ (q : RecorderValue). IsDriven (opening_for q.guest job) old []) (sym same_seat) begun

    finish : HasHalted new ⊎ IsDone choosers new job'.chooser →
        MakesChosen choosers.chooses old job.chooser new (IsLeftWith choosers.chooses job'.chooser (state_of new.guest)) →
        HasStopped drives.put (left_with new job' fault) ⊎ HasFinished choosers job drives.put (left_with new job' fault)
    finish (inl halted) left =
        inl (stopped choosers sinks old new job job' begun_here drives same leaves.seen start (Some new.guest) (state_of new.guest).ended
        fault halted)
    finish (inr done) left =
        inr (finished choosers sinks old new job job' begun_here drives same leaves.seen start (Some new.guest) (state_of new.guest).ended
        fault refl refl done.settled done.over left)

-- a worker that found no memory for its recorder
pub worked_none : {C O S : Type 0} (choosers : Choosers C) (sinks : Sinks S) (task : Task C O S) (seat : RecorderValue) →
    seat ≡ record task.seat { has_left = true } → task.seat.sent ≡ []
    → HasWorked choosers sinks task (record { seat = seat; job = task.job; guest = None; end = None; fault = Some faults.Memory })
worked_none choosers sinks task seat is none =
    let sent : seat.sent ≡ [] = ap (λ (q : RecorderValue). q.sent) is ∙ none in
    record {
      group = ap (λ (q : RecorderValue). q.group) is;
      guest = ap (λ (q : RecorderValue). q.guest) is;
      left = ap (λ (q : RecorderValue). q.has_left) is;
      job = record { version = refl; elf = refl; name = refl; random = refl; every = refl };
      sent = inl sent;
      chosen = subst
          (λ (l : List Record). HasChosenOn choosers.chooses task.job l
          (LeavesChooser choosers.chooses (Some faults.Memory) task.job.chooser)) (sym sent)
          (none_on choosers.chooses task.job (LeavesChooser choosers.chooses (Some faults.Memory) task.job.chooser) (inl refl));
      put = [];
      takes = λ t. sym (append-nil (sinks.taken task.job.sink));
      output = none_put seat.seen seat.sent sent;
      sink = refl;
      faults = inr (inr refl);
      finished = λ e. absurd (no_fault e);
    }
