-- Frames that a chooser chose.
use Rattle.std.proofs.Common.{true, false, true≢false, Option, ◌≡◌, ◌∙◌, inl, inr, ℕ, ◌+◌, ◌<◌, ◌^◌, arith, List, [], ◌∷◌, ◌++◌, length, map, take, drop, refl, sym, ap, subst, append_assoc, length-append}
use denote.Enum.Bare.{sameb}
use Rattle.std.proofs.lemmas.List.{append-nil, take-append-drop}
use Rattle.std.proofs.lemmas.List.Sums.{sum_by-append}
use Rattle.std.specs.Prelude.{◌≢◌, Some, None, Err, vec_items}
use Rattle.rrv_model.specs.declared.record.Choice.{Choice}
use Rattle.rrv_model.specs.declared.record.Frame.{Frame}
use Rattle.rrv_model.specs.declared.record.Item.{Item}
use Rattle.rrv_model.specs.declared.record.Item.TheVariants as items
use Rattle.rrv_model.specs.declared.record.Opening.{Opening}
use Rattle.rrv_model.specs.declared.record.Part.{Part}
use Rattle.rrv_model.specs.declared.record.Record.{Record}
use Rattle.rrv_model.specs.FrameStep.{FrameStep}
use Rattle.rrv_model.specs.Opening.{opening_state}
use Rattle.rrv_model.specs.Recording.{EndsIn, frame_record, frames_of, items_of}
use Rattle.rrv_model.specs.Ends.{is_expiry}
use Rattle.rrv_model.specs.State.{State}
use Rattle.rrv_model.specs.StateAt.{total}
use Rattle.guest_calls.specs.Guest.{GuestValue, counted, state_of}
use Rattle.serial_sched.specs.Asking.{Gives}
use Rattle.serial_sched.specs.Chosen.{AreMade, AreRunning, Choosing, Picks, PicksAmong}
use Rattle.serial_sched.specs.Slices.{FitsChoice, IsAsleep}
use Rattle.serial_sched.proofs.Chosen.{beginnings_are_made, made_on}
use Rattle.commit_core.proofs.Runs.{frames_of-append}
use Rattle.commit_core.specs.World.{opening_record}
use Rattle.commit_group.specs.Numbers.{renumbered}
use Rattle.recorder.specs.declared.checkpoints.Parts.{Parts}
use Rattle.recorder.specs.declared.fault.RecorderFault.{RecorderFault}
use Rattle.recorder.specs.declared.fault.RecorderFault.TheVariants as recorder_faults
use Rattle.recorder.specs.Deadlines.{due}
use Rattle.recorder.specs.RecorderCalls.{HasStepped, IsStep, IsUnmoved, KeepsMade, part_records}
use Rattle.recorder.specs.Recorders.{GuestRecorder, HasRecorded, made, records_from}
use Rattle.session.specs.contracts.rounds.Step.{the_type}
use Rattle.session.specs.declared.job.Job.{Job}
use Rattle.session.specs.declared.rounds.Step.{Step}
use Rattle.session.specs.declared.rounds.Step.TheVariants as turns
use Rattle.session.specs.declared.rounds.WorkFault.{WorkFault}
use Rattle.session.specs.declared.rounds.WorkFault.TheVariants as work_faults
use Rattle.session.specs.Drives.{fault_told, work_told}
use Rattle.session.specs.Chosen.{HasChosen, HasChosenOn, IsAskedOnce, IsAtStart, IsLeftWith, LeavesChooser, MakesChosen, TurnLeaves, WorkLeaves, frames_in, start_of}

-- ---- the frames among records

items_append : (xs ys : List Record) → items_of (xs ++ ys) ≡ items_of xs ++ items_of ys
items_append [] ys = refl
items_append (x ∷ xs) ys = ap (λ (l : List Item). x.item ∷ l) (items_append xs ys)

frames_append : (xs ys : List Record) → frames_in (xs ++ ys) ≡ frames_in xs ++ frames_in ys
frames_append xs ys = ap (λ (l : List Item). frames_of l) (items_append xs ys) ∙ frames_of-append (items_of xs) (items_of ys)

no_frames : (place index : ℕ) (parts : List Part) → frames_in (records_from place index (map items.Part parts)) ≡ []
no_frames place index [] = refl
no_frames place index (p ∷ parts) = no_frames place (index + 1) parts

-- ---- how many steps a guest counts

abbrev Counts : ℕ → ℕ → ℕ → Type 0
Counts before steps after = before + steps < 2 ^ 64 → after ≡ before + steps

counts_none : (n : ℕ) → Counts n 0 n
counts_none n low = omega arith

counts_both : (a b c : ℕ) (fs gs : List Frame) → Counts a (total fs) b → Counts b (total gs) c → Counts a (total (fs ++ gs)) c
counts_both a b c fs gs p q low =
    let sum : total (fs ++ gs) ≡ total fs + total gs = sum_by-append (λ (f : Frame). f.count) fs gs in
    let first : b ≡ a + total fs = p (omega arith) in
    let second : c ≡ b + total gs = q (omega arith) in
    omega arith

counts_one : (a b : ℕ) (f : Frame) → b ≡ counted a f.count → Counts a (total (f ∷ [])) b
counts_one a b f is low = is ∙ omega arith

-- ---- what a recorder makes

-- the frame of a step is the slice of its choice, unless it ends a wait
step_made : {O : Type 0} (gives : Gives O) (old : GuestValue) (choice : Choice) (f : Frame) (new : GuestValue) (tid : Option ℕ)
    (before after : O) →
    IsStep gives old choice f new tid before after
    → FrameStep (state_of old) f (state_of new) × (new.ran ≡ counted old.ran f.count)
    × (is_expiry f.end ≡ false → FitsChoice f.end (state_of old) f choice)
step_made gives old choice f new None before after h = (h.slice.is_frame.frame, h.slice.is_frame.ran, λ _. h.slice.fits)
step_made gives old choice f new (Some tid) before after h = (
  h.0.is_frame.frame,
  h.0.is_frame.ran,
  λ other. absurd (true≢false (sym (ap (λ (g : Frame). is_expiry g.end) h.0.expiry) ∙ other)),
)

-- a step makes a record
pub made_more : {O : Type 0} (gives : Gives O) (a b : GuestRecorder) (choice : Choice) (outcome : Parts) (before after : O) →
    HasStepped gives a choice outcome b before after → length (made a) < length (made b)
made_more gives a b choice outcome before after h =
    let r = frame_record a.seat.guest (length (made a)) h.makes.frame in
    let more = part_records h.between h.keeps.parts in
    let made_is : made b ≡ (made a ++ r ∷ []) ++ more = h.keeps.made_is ∙ ap (λ (l : List Record). l ++ more) h.makes.made_is in
    let grown : length (made b) ≡ length (made a ++ r ∷ []) + length more =
    ap length made_is ∙ length-append (made a ++ r ∷ []) more in
    omega (arith, length-append (made a) (r ∷ []))

module _ {C : Type 0} (chooses : Choosing C) where
  -- no frame
  pub makes_none : (r : GuestRecorder) (c : C) (E : C → Type 0) → E c → MakesChosen chooses r c r E
  makes_none r c E e = record {
    frames = [];
    made_are = sym (append-nil (frames_in (made r)));
    last = c;
    chosen = (refl, refl);
    ran = counts_none r.guest.ran;
    ends = e;
  }

  -- the chooser had no choice left
  pub makes_left : (r : GuestRecorder) (c c' : C) → Picks chooses (state_of r.guest) c None c' →
      MakesChosen chooses r c r (IsLeftWith chooses c' (state_of r.guest))
  makes_left r c c' picks = makes_none r c (IsLeftWith chooses c' (state_of r.guest)) (inr picks)

  pub makes_unmoved : {O : Type 0} (gives : Gives O) (a b : GuestRecorder) (before after : O) (c : C) (E : C → Type 0) → E c →
      IsUnmoved gives a b before after →
      MakesChosen chooses a c b E
  makes_unmoved gives a b before after c E e h = record {
    frames = [];
    made_are = (λ i. frames_in ((h.seat i).sent ++ h.backlog i)) ∙ sym (append-nil (frames_in (made a)));
    last = c;
    chosen = (h.state, refl);
    ran = subst (λ (n : ℕ). Counts a.guest.ran 0 n) (sym h.ran) (counts_none a.guest.ran);
    ends = e;
  }

  pub makes_kept : (o a b : GuestRecorder) (c : C) (E : C → Type 0) → KeepsMade a b → MakesChosen chooses o c a E →
      MakesChosen chooses o c b E
  makes_kept o a b c E keeps p = record {
    frames = p.frames;
    made_are = ap (λ (l : List Record). frames_in l) keeps.made_is ∙ p.made_are;
    last = p.last;
    chosen = subst (λ (g : GuestValue). AreMade chooses (state_of o.guest) c p.frames (state_of g) p.last) (sym keeps.guest) p.chosen;
    ran = subst (λ (g : GuestValue). Counts o.guest.ran (total p.frames) g.ran) (sym keeps.guest) p.ran;
    ends = p.ends;
  }

  pub makes_both : (o a b : GuestRecorder) (c c' : C) (E : C → Type 0) → MakesChosen chooses o c a (λ last. c' ≡ last) →
      MakesChosen chooses a c' b E → MakesChosen chooses o c b E
  makes_both o a b c c' E p q = record {
    frames = p.frames ++ q.frames;
    made_are = q.made_are ∙ ap (λ (l : List Frame). l ++ q.frames) p.made_are ∙ append_assoc (frames_in (made o)) p.frames q.frames;
    last = q.last;
    chosen = made_on chooses p.frames q.frames (state_of o.guest) (state_of a.guest) (state_of b.guest) c c' q.last
        (subst (λ (x : C). AreMade chooses (state_of o.guest) c p.frames (state_of a.guest) x) (sym p.ends) p.chosen) q.chosen;
    ran = counts_both o.guest.ran a.guest.ran b.guest.ran p.frames q.frames p.ran q.ran;
    ends = q.ends;
  }

  -- a step was refused, and its choice is lost
  pub makes_lost : {O : Type 0} (gives : Gives O) (a b : GuestRecorder) (choice : Choice) (before after : O) (c c' : C) →
      IsUnmoved gives a b before after →
      Picks chooses (state_of a.guest) c (Some choice) c'
      → MakesChosen chooses a c b (IsAskedOnce chooses c' (state_of b.guest))
  makes_lost gives a b choice before after c c' h picks =
      makes_unmoved gives a b before after c (IsAskedOnce chooses c' (state_of b.guest))
      (inr (Some choice, subst (λ (s : State). Picks chooses s c (Some choice) c') (sym h.state) picks)) h

  -- no thread runs, so that the chooser isn't asked
  unasked : (s : State) (c c' : C) (choice : Choice) → IsAsleep s → Picks chooses s c (Some choice) c' → c' ≡ c
  unasked s c c' choice asleep picks = at picks.tids picks.running picks.picks where
    at : (tids : List ℕ) → AreRunning s tids → PicksAmong chooses tids c (Some choice) c' → c' ≡ c
    at [] running among = among.1
    at (tid ∷ tids) running among = absurd (asleep.none_running (tid, (running.running tid).0 (0, omega arith, refl)))

  -- a step was refused where all threads wait
  pub makes_asleep : {O : Type 0} (gives : Gives O) (a b : GuestRecorder) (choice : Choice) (before after : O) (c c' : C) →
      IsUnmoved gives a b before after → IsAsleep (state_of a.guest) → Picks chooses (state_of a.guest) c (Some choice) c' →
      MakesChosen chooses a c b (λ last. c' ≡ last)
  makes_asleep gives a b choice before after c c' h asleep picks =
      makes_unmoved gives a b before after c (λ last. c' ≡ last) (unasked (state_of a.guest) c c' choice asleep picks) h

  -- one frame
  pub makes_one : {O : Type 0} (gives : Gives O) (a b : GuestRecorder) (choice : Choice) (outcome : Parts) (before after : O) (c c' : C) →
      HasStepped gives a choice outcome b before after
      → Picks chooses (state_of a.guest) c (Some choice) c' → MakesChosen chooses a c b (λ last. c' ≡ last)
  makes_one gives a b choice outcome before after c c' h picks =
      let f = h.makes.frame in
      let stepped =
      step_made gives a.guest choice f h.between.guest (due a.deadlines h.makes.asked) h.makes.between h.makes.middle h.makes.step in
      let r = frame_record a.seat.guest (length (made a)) f in
      let more = part_records h.between h.keeps.parts in
      let made_is : made b ≡ (made a ++ r ∷ []) ++ more = h.keeps.made_is ∙ ap (λ (l : List Record). l ++ more) h.makes.made_is in
      let none : frames_in more ≡ [] = no_frames h.between.seat.guest (length (made h.between)) h.keeps.parts in
      let step : FrameStep (state_of a.guest) f (state_of b.guest) =
      subst (λ (s : State). FrameStep (state_of a.guest) f s) (sym h.keeps.guest.0) stepped.0 in
      record {
        frames = f ∷ [];
        made_are = ap (λ (l : List Record). frames_in l) made_is ∙ frames_append (made a ++ r ∷ []) more
            ∙ ap (λ (l : List Frame). frames_in (made a ++ r ∷ []) ++ l) none
            ∙ append-nil (frames_in (made a ++ r ∷ [])) ∙ frames_append (made a) (r ∷ []);
        last = c';
        chosen = (
          state_of b.guest,
          c',
          record { step = step; choice = choice; picks = picks; fits = stepped.2 },
          (refl, refl),
        );
        ran = counts_one a.guest.ran b.guest.ran f (h.keeps.guest.1 ∙ stepped.1);
        ends = refl;
      }

  makes_weaker : (o a : GuestRecorder) (c : C) (E F : C → Type 0) → ((last : C) → E last → F last) → MakesChosen chooses o c a E →
      MakesChosen chooses o c a F
  makes_weaker o a c E F weaker p = record {
    frames = p.frames;
    made_are = p.made_are;
    last = p.last;
    chosen = p.chosen;
    ran = p.ran;
    ends = weaker p.last p.ends;
  }

  -- behind a turn that isn't the last the chooser is the one that the frames lead to
  pub goes_round : (turn : Step) (new : C) (s : State) (last : C) → turn ≢ turns.Over → TurnLeaves chooses turn new s last → new ≡ last
  goes_round turns.Over new s last other h = absurd (other refl)
  goes_round turns.Stepped new s last other h = h
  goes_round turns.Held new s last other h = h
  goes_round turns.Waits new s last other h = h
  goes_round turns.Asleep new s last other h = h

  pub makes_round : (a b : GuestRecorder) (c c' : C) (turn : Step) → turn ≢ turns.Over →
      MakesChosen chooses a c b (TurnLeaves chooses turn c' (state_of b.guest)) → MakesChosen chooses a c b (λ last. c' ≡ last)
  makes_round a b c c' turn other =
      makes_weaker a b c (TurnLeaves chooses turn c' (state_of b.guest)) (λ last. c' ≡ last)
      (λ last. goes_round turn c' (state_of b.guest) last other)

  pub makes_over : (a b : GuestRecorder) (c c' : C) (turn : Step) → turn ≡ turns.Over →
      MakesChosen chooses a c b (TurnLeaves chooses turn c' (state_of b.guest))
      → MakesChosen chooses a c b (IsLeftWith chooses c' (state_of b.guest))
  makes_over a b c c' turn over p = subst (λ (t : Step). MakesChosen chooses a c b (TurnLeaves chooses t c' (state_of b.guest))) over p

  -- ---- what is left of the chooser, by what was met

  leaves_same : (e : WorkFault) (new : C) (s : State) (last : C) → new ≡ last → WorkLeaves chooses (Err e) new s last
  leaves_same work_faults.Halted new s last same = inl same
  leaves_same work_faults.SinkFailed new s last same = inl same
  leaves_same work_faults.Held new s last same = same
  leaves_same work_faults.Memory new s last same = inl same

  -- the chooser is the one that the frames lead to
  pub makes_met : (o a : GuestRecorder) (c c' : C) (e : WorkFault) → MakesChosen chooses o c a (λ last. c' ≡ last) →
      MakesChosen chooses o c a (WorkLeaves chooses (Err e) c' (state_of a.guest))
  makes_met o a c c' e p =
      makes_weaker o a c (λ last. c' ≡ last) (WorkLeaves chooses (Err e) c' (state_of a.guest))
      (λ last same. leaves_same e c' (state_of a.guest) last same) p

  pub makes_asked : (o a : GuestRecorder) (c c' : C) (e : WorkFault) → e ≡ work_faults.Memory →
      MakesChosen chooses o c a (IsAskedOnce chooses c' (state_of a.guest))
      → MakesChosen chooses o c a (WorkLeaves chooses (Err e) c' (state_of a.guest))
  makes_asked o a c c' e is p =
      subst (λ (x : WorkFault). MakesChosen chooses o c a (WorkLeaves chooses (Err x) c' (state_of a.guest))) (sym is) p

  asked : (new : C) (s : State) (last : C) → IsLeftWith chooses new s last → IsAskedOnce chooses new s last
  asked new s last left = elim left [ inl same ↦ inl same | inr picks ↦ inr (None, picks) ]

  leaves_left : (e : RecorderFault) (new : C) (s : State) (last : C) → IsLeftWith chooses new s last →
      WorkLeaves chooses (Err (work_told e)) new s last
  leaves_left recorder_faults.Halted new s last left = left
  leaves_left (recorder_faults.SinkFailed taken) new s last left = left
  leaves_left recorder_faults.Full new s last left = asked new s last left
  leaves_left recorder_faults.Memory new s last left = asked new s last left
  leaves_left (recorder_faults.Refused fault) new s last left = asked new s last left
  leaves_left recorder_faults.TooManyRecords new s last left = asked new s last left
  leaves_left recorder_faults.BadOpening new s last left = asked new s last left

  -- a recorder that had no frame to make met a fault
  pub makes_settled : (o a : GuestRecorder) (c c' : C) (e : RecorderFault) (fault : WorkFault) → fault ≡ work_told e →
      MakesChosen chooses o c a (IsLeftWith chooses c' (state_of a.guest))
      → MakesChosen chooses o c a (WorkLeaves chooses (Err fault) c' (state_of a.guest))
  makes_settled o a c c' e fault is p =
      subst (λ (x : WorkFault). MakesChosen chooses o c a (WorkLeaves chooses (Err x) c' (state_of a.guest))) (sym is)
      (makes_weaker o a c (IsLeftWith chooses c' (state_of a.guest)) (WorkLeaves chooses (Err (work_told e)) c' (state_of a.guest))
      (λ last left. leaves_left e c' (state_of a.guest) last left) p)

  pub makes_fault : (o a : GuestRecorder) (c c' : C) (guest : ℕ) (s : State) (e : WorkFault) →
      MakesChosen chooses o c a (WorkLeaves chooses (Err e) c' s)
      → MakesChosen chooses o c a (LeavesChooser chooses (fault_told guest e) c' s)
  makes_fault o a c c' guest s work_faults.Halted p = p
  makes_fault o a c c' guest s work_faults.SinkFailed p = p
  makes_fault o a c c' guest s work_faults.Held p = p
  makes_fault o a c c' guest s work_faults.Memory p = p

pub is_over : (turn : Step) → true ≡ sameb the_type turn turns.Over → turn ≡ turns.Over
is_over turns.Over h = refl
is_over turns.Stepped h = absurd (true≢false h)
is_over turns.Held h = absurd (true≢false h)
is_over turns.Waits h = absurd (true≢false h)
is_over turns.Asleep h = absurd (true≢false h)

pub not_over : (turn : Step) → false ≡ sameb the_type turn turns.Over → turn ≡ turns.Over → ⊥
not_over turn h over = true≢false (sym (h ∙ ap (λ (t : Step). sameb the_type t turns.Over) over))

-- ---- a job's frames

same_items : (b : ℕ) (rs : List Record) → items_of (renumbered b rs) ≡ items_of rs
same_items b [] = refl
same_items b (r ∷ rs) = ap (λ l. r.item ∷ l) (same_items b rs)

module _ {C O S : Type 0} (chooses : Choosing C) (job : Job C O S) where
  pub chosen_from_start : (old new : GuestRecorder) (E : C → Type 0) → IsAtStart job old → MakesChosen chooses old job.chooser new E
      → HasChosen chooses job (made new) (λ s last. (s ≡ state_of new.guest) × E last)
  chosen_from_start old new E start p =
      let same : frames_in (made new) ≡ p.frames = p.made_are ∙ ap (λ (l : List Frame). l ++ p.frames) start.none in
      record {
        state = state_of new.guest;
        last = p.last;
        chosen = subst (λ (x : State × List Frame). AreMade chooses x.0 job.chooser x.1 (state_of new.guest) p.last)
            (λ i. (start.state i, sym same i)) p.chosen;
        ends = (refl, p.ends);
      }

  -- a recorder of the job's opening alone
  pub at_start : (r : GuestRecorder) (guest : ℕ) (o : Opening) → made r ≡ opening_record guest o ∷ [] → HasRecorded r → r.guest.ran ≡ 0 →
      o ≡ record { version = job.version; elf = vec_items job.elf; name = vec_items job.name; random = job.random }
      → IsAtStart job r
  at_start r guest o is recorded ran o_is =
      let e : EndsIn (items_of (opening_record guest o ∷ [])) (state_of r.guest) =
      subst (λ (l : List Record). EndsIn (items_of l) (state_of r.guest)) is recorded.recorded.ends in
      record {
        none = ap (λ (l : List Record). frames_in l) is;
        state = e.2.1 ∙ e.1.state_is ∙ ap (λ (p : Opening). opening_state p.version p.elf p.name p.random) o_is;
        ran = ran;
        recorded = recorded;
      }

  pub none_chosen : HasChosen chooses job [] (λ _ _. Unit {0})
  none_chosen = record { state = start_of job; last = job.chooser; chosen = (refl, refl); ends = tt }

  pub front_chosen : (xs ys : List Record) (E : State → C → Type 0) → HasChosen chooses job (xs ++ ys) E →
      HasChosen chooses job xs (λ _ _. Unit {0})
  front_chosen xs ys E h =
      let r = beginnings_are_made chooses (frames_in xs) (frames_in ys) (start_of job) h.state job.chooser h.last
      (subst (λ (l : List Frame). AreMade chooses (start_of job) job.chooser l h.state h.last) (frames_append xs ys) h.chosen) in
      record { state = r.0; last = r.1; chosen = r.2; ends = tt }

  pub none_on : (E : State → C → Type 0) → E (start_of job) job.chooser → HasChosenOn chooses job [] E
  none_on E e = record { behind = []; state = start_of job; last = job.chooser; chosen = (refl, refl); ends = e }

  pub sent_on : (xs ys : List Record) (E : State → C → Type 0) → HasChosen chooses job (xs ++ ys) E → HasChosenOn chooses job xs E
  sent_on xs ys E h = record {
    behind = frames_in ys;
    state = h.state;
    last = h.last;
    chosen = subst (λ (l : List Frame). AreMade chooses (start_of job) job.chooser l h.state h.last) (frames_append xs ys) h.chosen;
    ends = h.ends;
  }

  pub front_on : (xs : List Record) (E : State → C → Type 0) → HasChosenOn chooses job xs E → HasChosen chooses job xs (λ _ _. Unit {0})
  front_on xs E h =
      let r = beginnings_are_made chooses (frames_in xs) h.behind (start_of job) h.state job.chooser h.last h.chosen in
      record { state = r.0; last = r.1; chosen = r.2; ends = tt }

  pub first_on : (k : ℕ) (xs : List Record) (E : State → C → Type 0) → HasChosenOn chooses job xs E → HasChosenOn chooses job (take k xs) E
  first_on k xs E h =
      let whole : frames_in xs ≡ frames_in (take k xs) ++ frames_in (drop k xs) =
      ap (λ (l : List Record). frames_in l) (sym (take-append-drop k xs)) ∙ frames_append (take k xs) (drop k xs) in
      record {
        behind = frames_in (drop k xs) ++ h.behind;
        state = h.state;
        last = h.last;
        chosen = subst (λ (l : List Frame). AreMade chooses (start_of job) job.chooser l h.state h.last)
            (ap (λ (l : List Frame). l ++ h.behind) whole ∙ append_assoc (frames_in (take k xs)) (frames_in (drop k xs)) h.behind) h.chosen;
        ends = h.ends;
      }

  pub on_again : (b : ℕ) (xs : List Record) (E : State → C → Type 0) → HasChosenOn chooses job xs E →
      HasChosenOn chooses job (renumbered b xs) E
  on_again b xs E h = record {
    behind = h.behind;
    state = h.state;
    last = h.last;
    chosen = subst (λ (l : List Item). AreMade chooses (start_of job) job.chooser (frames_of l ++ h.behind) h.state h.last)
        (sym (same_items b xs)) h.chosen;
    ends = h.ends;
  }

  pub first_chosen : (k : ℕ) (xs : List Record) (E : State → C → Type 0) → HasChosen chooses job xs E →
      HasChosen chooses job (take k xs) (λ _ _. Unit {0})
  first_chosen k xs E h =
      front_chosen (take k xs) (drop k xs) E (subst (λ (l : List Record). HasChosen chooses job l E) (sym (take-append-drop k xs)) h)

  pub chosen_again : (b : ℕ) (xs : List Record) (E : State → C → Type 0) → HasChosen chooses job xs E →
      HasChosen chooses job (renumbered b xs) E
  chosen_again b xs E h = record {
    state = h.state;
    last = h.last;
    chosen = subst (λ (l : List Item). AreMade chooses (start_of job) job.chooser (frames_of l) h.state h.last) (sym (same_items b xs))
        h.chosen;
    ends = h.ends;
  }
