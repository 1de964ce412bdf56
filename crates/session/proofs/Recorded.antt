-- What is committed of each guest of a session.
use Rattle.std.proofs.Common.{◌≡◌, inl, inr, ℕ, zero, suc, ◌+◌, ◌≤◌, List, [], ◌∷◌, ◌++◌, append_assoc, length, length-append, take, drop, refl, sym, ap, ◌∙◌, subst, arith, true, false}
use Rattle.std.proofs.lemmas.List.{length-map, take-append-drop, take-map, take_at}
use Rattle.std.specs.Prelude.{◌⊎◌, Option, Some, None, slice_get}
use Rattle.std.specs.List.{AllByRecursion}
use Rattle.rrv_model.specs.declared.record.Item.{Item}
use Rattle.rrv_model.specs.declared.record.Record.{Record}
use Rattle.rrv_model.specs.Recording.{IsNumbered, IsRecording, EndsIn, Starts, frames_of, items_of}
use Rattle.rrv_model.specs.RecordText.{HasText}
use Rattle.rrv_model.specs.Recovered.{of_guest}
use Rattle.rrv_model.specs.StateAt.{total}
use Rattle.guest_calls.specs.Guest.{GuestValue, state_of}
use Rattle.rrv_model.proofs.RecordingLaws.{beginnings_are_recordings}
use Rattle.rrv_model.proofs.RecoveredLaws.{of_guest-append}
use Rattle.commit_core.specs.Runs.{IsOutput, ItemsPut}
use Rattle.commit_group.specs.Numbers.{base, numbered, renumbered}
use Rattle.commit_group.specs.Seats.{FlusherValue, RecorderValue, committed_of}
use Rattle.commit_group.specs.Turns.{AllCommitted}
use Rattle.commit_group.specs.Reports.{HasEnded}
use Rattle.recorder.specs.Recorded.{IsFirst, opening_of}
use Rattle.faults.specs.declared.session.SessionFault.{SessionFault}
use Rattle.session.specs.declared.job.Job.{Job}
use Rattle.session.specs.declared.task.Task.{Task}
use Rattle.session.specs.declared.task.Worked.{Worked}
use Rattle.session.specs.Chosen.{HasChosen, HasChosenOn, LeavesChooser}
use Rattle.session.specs.Pairs.{ArePairs}
use Rattle.commit_core.proofs.Runs.{output_longer}
use Rattle.session.proofs.Chosen.{chosen_again, first_chosen, first_on, front_on, on_again}
use Rattle.session.specs.Sessions.{AreLeft, AreRecorded, AreReported, HasMet, HasNumber, HasRecorded, HaveMet, IsRecordingOrNone, IsReported, report_of, reports_of}
use Rattle.session.specs.Tasks.{all_met, faults_met, jobs_of, jobs_worked, met_once, once, seats_worked, states_worked}
use Rattle.session.specs.Works.{Choosers, Sinks, HasChosenAll, HasFinished, HasWorked, IsBegun, IsBehind, IsSameJob, IsToItsEnd, opening_for}

-- ---- under other numbers

items_again : (b : ℕ) (rs : List Record) → items_of (renumbered b rs) ≡ items_of rs
items_again b [] = refl
items_again b (r ∷ rs) = ap (λ l. r.item ∷ l) (items_again b rs)

numbered_again : (b guest index : ℕ) (rs : List Record) → IsNumbered guest index rs → IsNumbered (b + guest) index (renumbered b rs)
numbered_again b guest index [] h = tt
numbered_again b guest index (r ∷ rs) h = (ap (λ (n : ℕ). b + n) h.0, h.1, numbered_again b guest (index + 1) rs h.2)

numbered_take : (guest index k : ℕ) (rs : List Record) → IsNumbered guest index rs → IsNumbered guest index (take k rs)
numbered_take guest index zero rs h = tt
numbered_take guest index (suc k) [] h = tt
numbered_take guest index (suc k) (r ∷ rs) h = (h.0, h.1, numbered_take guest (index + 1) k rs h.2)

texts_again : (b guest index : ℕ) (rs : List Record) → b + guest ≤ 4294967294 → IsNumbered guest index rs → AllByRecursion HasText rs →
    AllByRecursion HasText (renumbered b rs)
texts_again b guest index [] room low h = tt
texts_again b guest index (r ∷ rs) room low h = (
  record { guest = (let z = low.0 in omega arith); index = h.0.index; item = h.0.item },
  texts_again b guest (index + 1) rs room low.2 h.1,
)

recording_again : (b : ℕ) (rs : List Record) → IsRecording rs → IsRecording (renumbered b rs)
recording_again b rs h = record {
  guest = b + h.guest;
  numbered = numbered_again b h.guest 0 rs h.numbered;
  starts = subst (λ (l : List Item). Starts l) (sym (items_again b rs)) h.starts;
}

output_again : (b : ℕ) (rs : List Record) (put : List (ℕ × ℕ)) → IsOutput put rs → IsOutput put (renumbered b rs)
output_again b rs put h = (h.0, subst (λ (l : List Item). ItemsPut l h.0) (sym (items_again b rs)) h.1, h.2)

behind_again : (b : ℕ) (rs : List Record) (guest : GuestValue) → IsBehind rs guest → IsBehind (renumbered b rs) guest
behind_again b rs guest h = record {
  ends = subst (λ (l : List Item). EndsIn l (state_of guest)) (sym (items_again b rs)) h.ends;
  ran = subst (λ (l : List Item). guest.ran ≡ total (frames_of l)) (sym (items_again b rs)) h.ran;
}

-- ---- the first of some records

take_nothing : (n : ℕ) → take {A = Record} n [] ≡ []
take_nothing zero = refl
take_nothing (suc n) = refl

take_all : (xs : List Record) → take (length xs) xs ≡ xs
take_all [] = refl
take_all (x ∷ xs) = ap (λ l. x ∷ l) (take_all xs)

take_take : (m n : ℕ) (xs : List Record) → m ≤ n → take m (take n xs) ≡ take m xs
take_take zero n xs l = refl
take_take (suc m) zero xs l = absurd (omega arith)
take_take (suc m) (suc n) [] l = refl
take_take (suc m) (suc n) (x ∷ xs) l = ap (λ (k : List Record). x ∷ k) (take_take m n xs (omega arith))

-- ---- one guest

first_taken : (opening : Record) (c : ℕ) (sent : List Record) → IsFirst opening sent → IsFirst opening (take (suc c) sent)
first_taken opening c sent h = (take c h.0, ap (λ l. take (suc c) l) h.1)

put_again : (first guest seen c : ℕ) (opening : Record) (sent : List Record) (put : List (ℕ × ℕ)) → IsBegun opening guest sent → seen ≤ c →
    IsOutput put (take seen sent)
    → IsOutput put (renumbered first (take c sent))
put_again first guest seen c opening sent put begun le output = output_again first (take c sent) put (elim begun [
  | inl none ↦
      subst (λ l. IsOutput put l) (ap (λ l. take seen l) none ∙ take_nothing seen ∙ sym (take_nothing c) ∙ sym (ap (λ l. take c l) none))
      output
  | inr b ↦ output_longer put seen c sent b.1.recorded.recording le output
])

module _ {C O S : Type 0} where
  opening_again : (first guest : ℕ) (old new : Job C O S) → IsSameJob old new →
      numbered first (opening_for guest new) ≡ opening_for (first + guest) old
  opening_again first guest old new same =
      λ i. opening_of (first + guest) (same.version i) (same.elf i) (same.name i) (same.random i)

  first_again : (first guest : ℕ) (old new : Job C O S) (sent : List Record) → IsSameJob old new → IsFirst (opening_for guest new) sent →
      IsFirst (opening_for (first + guest) old) (renumbered first sent)
  first_again first guest old new sent same h =
      (renumbered first h.0, ap (λ l. renumbered first l) h.1 ∙ ap (λ o. o ∷ renumbered first h.0) (opening_again first guest old new same))

  begun_again : (first guest c : ℕ) (old new : Job C O S) (sent : List Record) → IsSameJob old new →
      IsBegun (opening_for guest new) guest sent
      → IsRecordingOrNone (opening_for (first + guest) old) (first + guest) (renumbered first (take c sent))
  begun_again first guest zero old new sent same begun = inl refl
  begun_again first guest (suc c) old new sent same begun = elim begun [
    | inl none ↦ inl (ap (λ l. renumbered first (take (suc c) l)) none)
    | inr b ↦ inr (
      first_again first guest old new (take (suc c) sent) same (first_taken (opening_for guest new) c sent b.1.opens),
      recording_again first (take (suc c) sent) (beginnings_are_recordings sent c b.1.recorded.recording),
      numbered_again first guest 0 (take (suc c) sent) (numbered_take guest 0 (suc c) sent b.1.recorded.numbered),
    )
  ]

  to_end_again : (choosers : Choosers C) (first guest : ℕ) (old new : Job C O S) (sent : List Record) (put : List (ℕ × ℕ)) (end : Option _)
      → first + guest ≤ 4294967294 → IsSameJob old new
      → IsToItsEnd choosers (opening_for guest new) guest sent put end new →
      IsToItsEnd choosers (opening_for (first + guest) old) (first + guest) (renumbered first sent) put end new
  to_end_again choosers first guest old new sent put end room same w =
      let r = w.recorded.recorded in record {
        state = w.state;
        recorded = record {
          opens = first_again first guest old new sent same w.recorded.opens;
          recorded = record {
            recording = recording_again first sent r.recording;
            numbered = numbered_again first guest 0 sent r.numbered;
            ends = subst (λ (l : List Item). EndsIn l w.state) (sym (items_again first sent)) r.ends;
            has_text = texts_again first guest 0 sent room r.numbered r.has_text;
          };
        };
        end_is = w.end_is;
        output = (w.output.0, subst (λ (l : List Item). ItemsPut l w.output.0) (sym (items_again first sent)) w.output.1, w.output.2);
        goes_on = λ none. elim (w.goes_on none) [
          | inl done ↦ inl done
          | inr full ↦ inr (length-map sent (numbered first) ∙ full)
        ];
      }

-- ---- a seat at its end

-- of these records those of the guest at this place are the first ones that it sent, all that it saw durable among them,
-- under its number in the store
pub record AreFirstSent (records : List Record) (first place : ℕ) (r : RecorderValue) : Type 0 where
  pub place_is : r.guest ≡ place
  pub count : ℕ
  pub own : of_guest (first + r.guest) records ≡ renumbered first (take count r.sent)
  pub seen : r.seen ≤ count

-- what is committed of the guest at this place, under its number in the store
pub record IsEnded (f : FlusherValue) (first place : ℕ) (r : RecorderValue) : Type 0 where
  pub place_is : r.guest ≡ place
  pub count : ℕ
  pub own : of_guest (first + r.guest) f.committed ≡ renumbered first (take count r.sent)
  pub seen : r.seen ≤ count
  pub all : AllCommitted f → count ≡ length r.sent
  pub halt : r.knows_halt ≡ true → f.halted ≡ true

suc_is_not_zero : (n : ℕ) → n + 1 ≡ 0 → ⊥
suc_is_not_zero n e = omega arith

pub ended_at : (f : FlusherValue) (first place sent committed seen : ℕ) (r : RecorderValue) → HasEnded f sent committed seen r →
    r.guest ≡ place → r.guest + 1 ≤ f.group.guests
    → (f.first_guest ≡ Some first) ⊎ (f.committed ≡ []) → IsEnded f first place r
ended_at f first place sent committed seen r h place_is in_group numbers = record {
  place_is = place_is;
  count = committed;
  own = elim numbers [
    | inl some ↦ subst (λ (b : ℕ). of_guest (b + r.guest) f.committed ≡ renumbered b (take committed r.sent)) (ap base some) h.beginning
    | inr none ↦
        ap (λ l. of_guest (first + r.guest) l) none
        ∙ sym (ap (λ n. renumbered first (take n r.sent))
        (h.committed_is ∙ ap (λ l. length (of_guest (base f.first_guest + r.guest) l)) none))
  ];
  seen = (let a = h.seen_of_committed in let b = h.seen_is in omega arith);
  all = λ all.
      let total = all r.guest (omega arith) in
      let left = (h.total (λ none. suc_is_not_zero (committed_of f r.guest) (sym total ∙ none))).1 in
      (let c = h.committed_is in omega arith);
  halt = h.halted;
}

pub first_sent : (f : FlusherValue) (first place : ℕ) (r : RecorderValue) → IsEnded f first place r → AreFirstSent f.committed first place r
first_sent f first place r e = record { place_is = e.place_is; count = e.count; own = e.own; seen = e.seen }

-- the first so many of what waits, behind what is committed
module _ (f : FlusherValue) (first place sent committed seen n : ℕ) (r : RecorderValue) (h : HasEnded f sent committed seen r)
    (place_is : r.guest ≡ place) where
  abbrev own : List Record → List Record
  own records = of_guest (base f.first_guest + r.guest) records

  abbrev front : List Record
  front = f.committed ++ take n f.waiting

  parts : own (f.committed ++ f.waiting) ≡ own front ++ own (drop n f.waiting)
  parts =
      let whole : front ++ drop n f.waiting ≡ f.committed ++ f.waiting =
      append_assoc f.committed (take n f.waiting) (drop n f.waiting)
      ∙ ap (λ (l : List Record). f.committed ++ l) (take-append-drop n f.waiting) in
      ap (λ (l : List Record). own l) (sym whole) ∙ of_guest-append (base f.first_guest + r.guest) front (drop n f.waiting)

  few_are : own front ≡ renumbered (base f.first_guest) (take (length (own front)) r.sent)
  few_are =
      let all = length (own (f.committed ++ f.waiting)) in
      let few = length (own front) in
      let size : all ≡ few + length (own (drop n f.waiting)) = ap length parts ∙ length-append (own front) (own (drop n f.waiting)) in
      let first_are : take few (own (f.committed ++ f.waiting)) ≡ own front =
      ap (λ (l : List Record). take few l) parts ∙ take_at (own front) (own (drop n f.waiting)) few refl in
      sym first_are ∙ ap (λ (l : List Record). take few l) h.received ∙ take-map (numbered (base f.first_guest)) few (take all r.sent)
      ∙ ap (λ (l : List Record). renumbered (base f.first_guest) l) (take_take few all r.sent (omega arith))

  seen_in : r.seen ≤ length (own front)
  seen_in =
      let more : length (own front) ≡ length (own f.committed) + length (own (take n f.waiting)) =
      ap length (of_guest-append (base f.first_guest + r.guest) f.committed (take n f.waiting))
      ∙ length-append (own f.committed) (own (take n f.waiting)) in
      let a = h.seen_of_committed in
      let c = h.committed_is in
      let e = h.seen_is in
      omega arith

  pub first_with : (f.first_guest ≡ Some first) ⊎ ((f.committed ≡ []) × (take n f.waiting ≡ [])) → AreFirstSent front first place r
  first_with numbers = elim numbers [
    | inl some ↦ record {
      place_is = place_is;
      count = length (own front);
      own = subst (λ (o : Option ℕ). of_guest (base o + r.guest) front ≡ renumbered (base o) (take (length (own front)) r.sent)) some
          few_are;
      seen = seen_in;
    }
    | inr none ↦
        let nothing : front ≡ [] = (λ i. none.0 i ++ none.1 i) in
        let unseen : length (own front) ≡ 0 = ap (λ (l : List Record). length (own l)) nothing in
        let s = seen_in in
        record { place_is = place_is; count = 0; own = ap (λ (l : List Record). of_guest (first + r.guest) l) nothing; seen = omega arith }
  ]

-- all that it sent is committed, where all is that was sent
all_own : (f : FlusherValue) (first place : ℕ) (r : RecorderValue) → IsEnded f first place r → AllCommitted f →
    of_guest (first + r.guest) f.committed ≡ renumbered first r.sent
all_own f first place r e all = e.own ∙ ap (λ l. renumbered first l) (ap (λ n. take n r.sent) (e.all all) ∙ take_all r.sent)

-- ---- all guests

-- what each worker met
abbrev pub mets_of : {C O S : Type 0} → List (Worked C O S) → List (Option SessionFault)
mets_of [] = []
mets_of (worked ∷ rest) = worked.fault ∷ mets_of rest

pub mets_are : {C O S : Type 0} (done : List (Worked C O S)) → all_met (mets_of done) ≡ faults_met done
mets_are [] = refl
mets_are (worked ∷ rest) = ap (λ (l : List SessionFault). met_once worked.fault ++ l) (mets_are rest)

none_met : (o : Option SessionFault) (rest : List SessionFault) → met_once o ++ rest ≡ [] → (o ≡ None) × (rest ≡ [])
none_met None rest e = (refl, e)
none_met (Some fault) rest e = cc

true_is_not_false : true ≡ false → ⊥
true_is_not_false e = cc

module _ {C O S : Type 0} (choosers : Choosers C) (sinks : Sinks S) (records : List Record) (first : ℕ) where
  abbrev FirstFrom : ℕ → List (Worked C O S) → Type 0
  FirstFrom n done = (k : ℕ) (r : RecorderValue) → slice_get (seats_worked done) k ≡ Some r → AreFirstSent records first (n + k) r

  first_next : (n : ℕ) (d : Worked C O S) (done : List (Worked C O S)) → FirstFrom n (d ∷ done) → FirstFrom (suc n) done
  first_next n d done each k r at = subst (λ (p : ℕ). AreFirstSent records first p r) (omega arith) (each (suc k) r at)

  recorded_one : (old : Task C O S) (new : Worked C O S) (place : ℕ) → HasWorked choosers sinks old new →
      AreFirstSent records first place new.seat
      → HasRecorded choosers sinks (first + new.seat.guest) records old.job new.job
  recorded_one old new place w e = record {
    job = w.job;
    records = subst (λ l. IsRecordingOrNone (opening_for (first + new.seat.guest) old.job) (first + new.seat.guest) l) (sym e.own)
        (begun_again first new.seat.guest e.count old.job new.job new.seat.sent w.job w.sent);
    chosen = subst (λ (l : List Record). HasChosen choosers.chooses old.job l (λ _ _. Unit {0})) (sym e.own)
        (chosen_again choosers.chooses old.job first (take e.count new.seat.sent) (λ _ _. Unit {0})
        (first_chosen choosers.chooses old.job e.count new.seat.sent (λ _ _. Unit {0})
        (front_on choosers.chooses old.job new.seat.sent _ w.chosen)));
    put = w.put;
    takes = w.takes;
    output = subst (λ l. IsOutput w.put l) (sym e.own)
        (put_again first new.seat.guest new.seat.seen e.count (opening_for new.seat.guest new.job) new.seat.sent w.put w.sent e.seen
        w.output);
  }

  pub all_recorded : (n : ℕ) (tasks : List (Task C O S)) (done : List (Worked C O S)) → ArePairs (HasWorked choosers sinks) tasks done →
      FirstFrom n done
      → AreRecorded choosers sinks records (first + n) (jobs_of tasks) (jobs_worked done)
  all_recorded n [] [] pairs each = tt
  all_recorded n [] (d ∷ done) pairs each = elim pairs [ ]
  all_recorded n (t ∷ tasks) [] pairs each = elim pairs [ ]
  all_recorded n (t ∷ tasks) (d ∷ done) pairs each =
      let e = each 0 d.seat refl in
      let place = e.place_is in (
        subst (λ (m : ℕ). HasRecorded choosers sinks m records t.job d.job) (omega arith) (recorded_one t d (n + 0) pairs.0 e),
        subst (λ (m : ℕ). AreRecorded choosers sinks records m (jobs_of tasks) (jobs_worked done)) (omega arith)
            (all_recorded (suc n) tasks done pairs.1 (first_next n d done each)),
      )

module _ {C O S : Type 0} (choosers : Choosers C) (sinks : Sinks S) (f : FlusherValue) (first : ℕ) where
  abbrev EndsFrom : ℕ → List (Worked C O S) → Type 0
  EndsFrom n done = (k : ℕ) (r : RecorderValue) → slice_get (seats_worked done) k ≡ Some r → IsEnded f first (n + k) r

  ends_next : (n : ℕ) (d : Worked C O S) (done : List (Worked C O S)) → EndsFrom n (d ∷ done) → EndsFrom (suc n) done
  ends_next n d done each k r at = subst (λ (p : ℕ). IsEnded f first p r) (omega arith) (each (suc k) r at)

  -- a worker without a fault has finished, where the flusher has not halted
  has_finished : (old : Task C O S) (new : Worked C O S) (place : ℕ) (w : HasWorked choosers sinks old new) →
      IsEnded f first place new.seat → new.fault ≡ None → f.halted ≡ false
      → HasFinished choosers old.job w.put new
  has_finished old new place w e none here = elim (w.finished none) [
    | inl stopped ↦ absurd (true_is_not_false (sym (e.halt stopped.knows) ∙ here))
    | inr done ↦ done
  ]

  finished_one : (old : Task C O S) (new : Worked C O S) (place : ℕ) → HasWorked choosers sinks old new → IsEnded f first place new.seat →
      new.fault ≡ None → AllCommitted f → f.halted ≡ false
      → first + new.seat.guest ≤ 4294967294 →
      IsReported choosers sinks (first + new.seat.guest) f.committed old.job new.job (report_of first new)
  finished_one old new place w e none all here room =
      let own = all_own f first place new.seat e all in
      let finished = has_finished old new place w e none here in record {
        number_is = refl;
        count = sym (ap length own ∙ length-map new.seat.sent (numbered first));
        put = w.put;
        takes = w.takes;
        whole = subst
            (λ l. IsToItsEnd choosers (opening_for (first + new.seat.guest) old.job) (first + new.seat.guest) l w.put new.end new.job)
            (sym own)
            (to_end_again choosers first new.seat.guest old.job new.job new.seat.sent w.put new.end room w.job finished.whole);
        chosen = subst (λ (l : List Record). HasChosenAll choosers old.job new.job l new.end) (sym own)
            (chosen_again choosers.chooses old.job first new.seat.sent _ finished.chosen);
      }

  pub all_reported : (n : ℕ) (tasks : List (Task C O S)) (done : List (Worked C O S)) → ArePairs (HasWorked choosers sinks) tasks done →
      EndsFrom n done → faults_met done ≡ [] → AllCommitted f → f.halted ≡ false
      → first + n + length done ≤ 4294967295 →
      AreReported choosers sinks f.committed (first + n) (jobs_of tasks) (jobs_worked done) (reports_of first done)
  all_reported n [] [] pairs each met all here room = tt
  all_reported n [] (d ∷ done) pairs each met all here room = elim pairs [ ]
  all_reported n (t ∷ tasks) [] pairs each met all here room = elim pairs [ ]
  all_reported n (t ∷ tasks) (d ∷ done) pairs each met all here room =
      let e = each 0 d.seat refl in
      let place = e.place_is in
      let none = none_met d.fault (faults_met done) met in (
        subst (λ (m : ℕ). IsReported choosers sinks m f.committed t.job d.job (report_of first d)) (omega arith)
            (finished_one t d (n + 0) pairs.0 e none.0 all here (omega arith)),
        subst (λ (m : ℕ). AreReported choosers sinks f.committed m (jobs_of tasks) (jobs_worked done) (reports_of first done)) (omega arith)
            (all_reported (suc n) tasks done pairs.1 (ends_next n d done each) none.1 all here (omega arith)),
      )

  met_one : (others : List SessionFault) (old : Task C O S) (new : Worked C O S) (place : ℕ) → HasWorked choosers sinks old new →
      IsEnded f first place new.seat → (others ≡ [] → AllCommitted f × (f.halted ≡ false))
      → first + new.seat.guest ≤ 4294967294 → HasMet choosers sinks others f.committed first new.seat.guest old.job new.job new.fault
  met_one others old new place w e goes_on room = record {
    is_own = w.faults;
    sink = w.sink;
    whole = λ none no_others. let all = goes_on no_others in (report_of first new, finished_one old new place w e none all.0 all.1 room);
    chosen = subst (λ (l : List Record). HasChosenOn choosers.chooses old.job l (LeavesChooser choosers.chooses new.fault new.job.chooser))
        (sym e.own)
        (on_again choosers.chooses old.job first (take e.count new.seat.sent) _
        (first_on choosers.chooses old.job e.count new.seat.sent _ w.chosen));
  }

  pub have_met : (others : List SessionFault) (n : ℕ) (tasks : List (Task C O S)) (done : List (Worked C O S)) →
      ArePairs (HasWorked choosers sinks) tasks done → EndsFrom n done
      → (others ≡ [] → AllCommitted f × (f.halted ≡ false)) → first + n + length done ≤ 4294967295 →
      HaveMet choosers sinks others f.committed first n (jobs_of tasks) (jobs_worked done) (mets_of done)
  have_met others n [] [] pairs each goes_on room = tt
  have_met others n [] (d ∷ done) pairs each goes_on room = elim pairs [ ]
  have_met others n (t ∷ tasks) [] pairs each goes_on room = elim pairs [ ]
  have_met others n (t ∷ tasks) (d ∷ done) pairs each goes_on room =
      let e = each 0 d.seat refl in
      let place = e.place_is in (
        subst (λ (m : ℕ). HasMet choosers sinks others f.committed first m t.job d.job d.fault) (omega arith)
            (met_one others t d (n + 0) pairs.0 e goes_on (omega arith)),
        subst (λ (m : ℕ). HaveMet choosers sinks others f.committed first m (jobs_of tasks) (jobs_worked done) (mets_of done)) (omega arith)
            (have_met others (suc n) tasks done pairs.1 (ends_next n d done each) goes_on (omega arith)),
      )

  left_one : (old : Task C O S) (new : Worked C O S) (place : ℕ) → HasWorked choosers sinks old new → IsEnded f first place new.seat →
      new.fault ≡ None → AllCommitted f → f.halted ≡ false
      → (guest : GuestValue) × (new.guest ≡ Some guest) × IsBehind (of_guest (first + new.seat.guest) f.committed) guest
  left_one old new place w e none all here =
      let finished = has_finished old new place w e none here in (
        finished.guest,
        finished.guest_is,
        subst (λ l. IsBehind l finished.guest) (sym (all_own f first place new.seat e all))
            (behind_again first new.seat.sent finished.guest finished.behind),
      )

  pub all_left : (n : ℕ) (tasks : List (Task C O S)) (done : List (Worked C O S)) → ArePairs (HasWorked choosers sinks) tasks done →
      EndsFrom n done → faults_met done ≡ [] → AllCommitted f → f.halted ≡ false
      → AreLeft f.committed (first + n) (jobs_worked done) (states_worked done)
  all_left n [] [] pairs each met all here = tt
  all_left n [] (d ∷ done) pairs each met all here = elim pairs [ ]
  all_left n (t ∷ tasks) [] pairs each met all here = elim pairs [ ]
  all_left n (t ∷ tasks) (d ∷ done) pairs each met all here =
      let e = each 0 d.seat refl in
      let place = e.place_is in
      let none = none_met d.fault (faults_met done) met in
      let left = left_one t d (n + 0) pairs.0 e none.0 all here in
      subst (λ (o : Option GuestValue). AreLeft f.committed (first + n) (d.job ∷ jobs_worked done) (once o ++ states_worked done))
      (sym left.1) (
        subst (λ (m : ℕ). IsBehind (of_guest m f.committed) left.0) (omega arith) left.2,
        subst (λ (m : ℕ). AreLeft f.committed m (jobs_worked done) (states_worked done)) (omega arith)
            (all_left (suc n) tasks done pairs.1 (ends_next n d done each) none.1 all here),
      )

-- each guest has a number
pub all_numbered : {C O S : Type 0} (first n : ℕ) (done : List (Worked C O S)) →
    ((k : ℕ) (r : RecorderValue) → slice_get (seats_worked done) k ≡ Some r → r.guest ≡ n + k)
    → first + n + length done ≤ 4294967295 → AllByRecursion (HasNumber first) done
all_numbered first n [] each room = tt
all_numbered first n (d ∷ done) each room = (
  (let place = each 0 d.seat refl in omega arith),
  all_numbered first (suc n) done (λ k r at. each (suc k) r at ∙ omega arith) (omega arith),
)
