-- A session, from what its threads gave to what it gives.
use Rattle.std.proofs.Common.{◌≡◌, inl, inr, ℕ, zero, suc, ◌+◌, ◌≤◌, List, [], ◌∷◌, ◌++◌, append_assoc, drop, max, length, take, refl, sym, ap, ◌∙◌, subst, arith, false}
use Rattle.std.proofs.lemmas.List.{append-nil, length-map, take-append-drop}
use Rattle.std.specs.Prelude.{◌⊎◌, Option, None, Some, Result, Ok, Err, OnOk, slice_get}
use Rattle.rrv_model.specs.declared.record.Record.{Record}
use Rattle.store_model.specs.CrashModel.{Leaves}
use Rattle.rrv_model.specs.Recovered.{next_guest, AreOld, IsOld, IsRecovered}
use Rattle.store_model.proofs.CrashLaws.{started}
use Rattle.outcomes.proofs.Lists.{AllByRecursion-back, AllByRecursion-front}
use Rattle.guest_calls.specs.Guest.{GuestValue}
use Rattle.trace_disk.specs.Devices.{Device}
use Rattle.trace_log.specs.Kept.{Keeps, LogValue}
use Rattle.commit_group.specs.declared.fault.FlushFault.{FlushFault}
use Rattle.commit_group.specs.declared.fault.FlushFault.TheVariants as flushes
use Rattle.commit_group.specs.Flushes.{first_number}
use Rattle.commit_group.specs.Seats.{FlusherValue, GroupId, RecorderValue, new_flusher_seat}
use Rattle.commit_group.specs.Turns.{AllCommitted}
use Rattle.faults.specs.declared.session.SessionFault.{SessionFault}
use Rattle.session.specs.declared.job.Job.{Job}
use Rattle.session.specs.Faults.{IsLowest, IsSessions, flusher_met, told_of}
use Rattle.session.specs.Gains.{HasFlushed, HasGained, HoldsUpTo, StandsIn}
use Rattle.session.specs.Openings.{AreOld as AreOldJobs}
use Rattle.session.specs.Sessions.{AreRecorded, HasRun, IsLeft}
use Rattle.session.specs.Works.{Sinks}
use Rattle.std.specs.Prelude.{MatchOption}
use Rattle.commit_group.specs.Reports.{HasEnded}
use Rattle.commit_group.specs.Numbers.{IsPlaced, base}
use Rattle.commit_group.specs.Seats.{AllNew}
use Rattle.std.specs.List.{AllByRecursion}
use Rattle.session.specs.declared.report.GuestReport.{GuestReport}
use Rattle.session.specs.declared.task.Task.{Task}
use Rattle.session.specs.declared.task.Worked.{Worked}
use Rattle.session.specs.Pairs.{ArePairs}
use Rattle.session.specs.Sessions.{AreLeft, AreReported, HaveMet, TellsFirst, reports_of}
use Rattle.session.specs.Tasks.{all_met, faults_met, jobs_of, jobs_worked, seats_of, seats_worked, states_worked}
use Rattle.session.specs.Works.{Choosers, HasWorked}
use Rattle.session.specs.Chosen.{LeavesChooser}
use Rattle.session.proofs.Chosen.{none_chosen, none_on}
use Rattle.session.proofs.Gained.{leaves_kept}
use Rattle.session.proofs.OldJobs.{each_old, of_each_number}
use Rattle.session.proofs.Recorded.{AreFirstSent, IsEnded, all_left, all_recorded, all_reported, ended_at, first_sent, first_with, have_met, mets_are, mets_of}
use Rattle.session.proofs.Pairs.{pairs_length}
use Rattle.session.proofs.Tasks.{all_of}

module _ {D : Type 0} (device : Device D) where
  -- what a new group's flusher stands in
  pub stands_new : (group : GroupId) (log : LogValue D) (bodies : List (List ℕ)) (earlier : List Record) →
      IsLeft device log bodies earlier → StandsIn device (new_flusher_seat group) log bodies earlier
  stands_new group log bodies earlier left = record {
    is_honest = left.is_honest;
    keeps = left.keeps;
    marked = left.marked;
    recovered = subst (λ (l : List Record). IsRecovered bodies l) (sym (append-nil earlier)) left.recovered;
    below = left.above;
    raised = subst (λ (l : List Record). next_guest l ≤ log.next_guest) (sym (append-nil earlier)) left.above;
  }

  pub session_gained : (group : GroupId) (f g : FlusherValue) (log log' : LogValue D) (flushed : Result Unit FlushFault) →
      f ≡ new_flusher_seat group → (h : HasFlushed device f g log log' flushed)
      → (bodies : List (List ℕ)) (earlier : List Record) → IsLeft device log bodies earlier →
      HasGained device g.committed (take h.count g.waiting) log log' bodies earlier
  session_gained group f g log log' flushed new h bodies earlier left =
      h.gained bodies earlier
      (subst (λ (x : FlusherValue). StandsIn device x log bodies earlier) (sym new) (stands_new group log bodies earlier left))

  pub first_is : (group : GroupId) (f g : FlusherValue) (log log' : LogValue D) (flushed : Result Unit FlushFault) →
      f ≡ new_flusher_seat group → (h : HasFlushed device f g log log' flushed)
      → (g.first_guest ≡ Some log.next_guest) ⊎ ((g.committed ≡ []) × (take h.count g.waiting ≡ []))
  first_is group f g log log' flushed new h = elim h.numbers [
    | inl some ↦ inl (some ∙ ap (λ (x : FlusherValue). Some (first_number x.first_guest log.next_guest)) new)
    | inr none ↦ inr (none.0 ∙ ap (λ (x : FlusherValue). x.committed) new, none.1)
  ]

  -- a new group took these numbers alone
  pub next_is : (group : GroupId) (f g : FlusherValue) (log log' : LogValue D) (flushed : Result Unit FlushFault) →
      f ≡ new_flusher_seat group → HasFlushed device f g log log' flushed
      → log'.next_guest ≡ max log.next_guest (next_guest g.committed)
  next_is group f g log log' flushed new h =
      let committed : g.committed ≡ h.raises.more = h.raises.committed_are ∙ ap (λ (x : FlusherValue). x.committed ++ h.raises.more) new in
      h.raises.next_is ∙ ap (λ (l : List Record). max log.next_guest (next_guest l)) (sym committed)

  -- nothing happened
  none_gained : (log : LogValue D) (bodies : List (List ℕ)) (earlier : List Record) → IsLeft device log bodies earlier →
      HasGained device [] [] log log bodies earlier
  none_gained log bodies earlier left =
      let all : List (List ℕ) × List Record = (bodies ++ [], earlier ++ []) in
      let path : (bodies, earlier) ≡ all = λ i. (sym (append-nil bodies) i, sym (append-nil earlier) i) in
      let recovered = subst (λ (x : List (List ℕ) × List Record). IsRecovered x.0 x.1) path left.recovered in
      record {
        more = [];
        hand = [];
        in_hand = inl (refl, refl);
        recovered = recovered;
        would_be = recovered;
        any_moment = started (device.state log.disk) (HoldsUpTo bodies []) (leaves_kept device log bodies [] left.keeps);
        now = subst (λ (b : List (List ℕ)). Leaves (HoldsUpTo b []) (device.state log.disk).pending) (sym (append-nil bodies))
            (leaves_kept device log bodies [] left.keeps);
        keeps = λ whole. (refl, subst (λ (b : List (List ℕ)). Keeps device.state log b) (sym (append-nil bodies)) left.keeps);
        raised = subst (λ (l : List Record). next_guest l ≤ log.next_guest) (sym (append-nil earlier)) left.above;
      }

  module _ {C O S : Type 0} (choosers : Choosers C) (sinks : Sinks S) where
    none_recorded : (number : ℕ) (jobs : List (Job C O S)) → AreRecorded choosers sinks [] number jobs jobs
    none_recorded number [] = tt
    none_recorded number (job ∷ jobs) = (
      record {
        job = record { version = refl; elf = refl; name = refl; random = refl; every = refl };
        records = inl refl;
        chosen = none_chosen choosers.chooses job;
        put = [];
        takes = λ _. sym (append-nil (sinks.taken job.sink));
        output = ([], refl, ([], refl));
      },
      none_recorded (number + 1) jobs,
    )

    pub nothing_ran : (log : LogValue D) (jobs : List (Job C O S)) → HasRun choosers sinks device [] log log jobs jobs
    nothing_ran log jobs = record {
      batch = [];
      gained = none_gained log;
      next = omega arith;
      marked = refl;
      only = tt;
      recorded = none_recorded log.next_guest jobs;
      in_hand = none_recorded log.next_guest jobs;
    }

    -- no worker met a fault
    abbrev nones : List (Job C O S) → List (Option SessionFault)
    nones [] = []
    nones (job ∷ jobs) = None ∷ nones jobs

    nones_are : (jobs : List (Job C O S)) → all_met (nones jobs) ≡ []
    nones_are [] = refl
    nones_are (job ∷ jobs) = nones_are jobs

    none_met : (others : List SessionFault) → (others ≡ [] → ⊥) → (first place : ℕ) (jobs : List (Job C O S)) →
        HaveMet choosers sinks others [] first place jobs jobs (nones jobs)
    none_met others some first place [] = tt
    none_met others some first place (job ∷ jobs) = (
      record {
        is_own = tt;
        sink = refl;
        whole = λ _ none. absurd (some none);
        chosen = none_on choosers.chooses job (LeavesChooser choosers.chooses None job.chooser) (inl refl);
      },
      none_met others some first (place + 1) jobs,
    )

    -- a fault that was met before a worker began
    pub tells_alone : (T : Type 0) (fault : SessionFault) → IsSessions fault → (first : ℕ) (jobs : List (Job C O S)) →
        TellsFirst {T = T} choosers sinks [] first (Err fault) jobs jobs
    tells_alone T fault is first jobs = record {
      others = fault ∷ [];
      others_are = (is, tt);
      met = nones jobs;
      each = none_met (fault ∷ []) (λ e. cc) first 0 jobs;
      lowest = subst (λ (l : List SessionFault). IsLowest (fault ∷ l) (Some fault)) (sym (nones_are jobs))
          ((0, omega arith, refl), (inr (refl, omega arith), tt));
    }

    pub tells_none : (T : Type 0) (report : T) (first : ℕ) (jobs : List (Job C O S)) → jobs ≡ [] →
        TellsFirst {T = T} choosers sinks [] first (Ok report) jobs jobs
    tells_none T report first jobs none =
        subst (λ (l : List (Job C O S)). TellsFirst {T = T} choosers sinks [] first (Ok report) l l) (sym none)
        (record { others = []; others_are = tt; met = []; each = tt; lowest = refl })

-- where there is no fault the flusher met none
pub flusher_met_none : (flushed : Result Unit FlushFault) (rest : List SessionFault) (P : Type 0) → flusher_met flushed ++ rest ≡ [] →
    OnOk flushed P → P × (rest ≡ [])
flusher_met_none (Ok u) rest P none ok = (ok, none)
flusher_met_none (Err e) rest P none ok = cc

get_low : (xs : List RecorderValue) (k : ℕ) (r : RecorderValue) → slice_get xs k ≡ Some r → suc k ≤ length xs
get_low [] k r at = absurd (subst (λ (o : Option RecorderValue). MatchOption o (Unit {0}) (λ _. ⊥)) at tt)
get_low (x ∷ xs) zero r at = omega arith
get_low (x ∷ xs) (suc k) r at = let l = get_low xs k r at in omega arith

-- what all threads of a session gave, and what was reported of each seat
pub record AreJoined {C O S D : Type 0} (choosers : Choosers C) (sinks : Sinks S) (device : Device D) (group : GroupId)
    (old f : FlusherValue) (log log' : LogValue D)
    (flushed : Result Unit FlushFault) (tasks : List (Task C O S)) (done : List (Worked C O S)) : Type 0 where
  pub new : old ≡ new_flusher_seat group
  pub seats : AllNew group (seats_of tasks)
  pub works : ArePairs (HasWorked choosers sinks) tasks done
  pub flusher : HasFlushed device old f log log' flushed
  pub count : length (seats_worked done) ≡ f.group.guests
  pub placed : AllByRecursion (IsPlaced (base f.first_guest) f.group.guests) (f.committed ++ f.waiting)
  pub each : (k : ℕ) (r : RecorderValue) → slice_get (seats_worked done) k ≡ Some r → (sent : ℕ) × (committed : ℕ) × (seen : ℕ) ×
      HasEnded f sent committed seen r

module _ {C O S D : Type 0} (choosers : Choosers C) (sinks : Sinks S) (device : Device D) (group : GroupId) (old f : FlusherValue)
    (log log' : LogValue D)
    (flushed : Result Unit FlushFault) (tasks : List (Task C O S)) (done : List (Worked C O S)) where
  ends : AreJoined choosers sinks device group old f log log' flushed tasks done → (k : ℕ) (r : RecorderValue) →
      slice_get (seats_worked done) k ≡ Some r → IsEnded f log.next_guest (0 + k) r
  ends j k r at =
      let place = (all_of choosers sinks group tasks done j.seats j.works k r at).1 in
      let low = get_low (seats_worked done) k r at in
      let count = j.count in
      let e = j.each k r at in
      let first : (f.first_guest ≡ Some log.next_guest) ⊎ (f.committed ≡ []) =
      elim (first_is device group old f log log' flushed j.new j.flusher) [ inl some ↦ inl some | inr none ↦ inr none.0 ] in
      ended_at f log.next_guest (0 + k) e.0 e.1 e.2 r e.3 (place ∙ omega arith) (omega arith) first

  -- the first ones of what waits
  abbrev hand_of : AreJoined choosers sinks device group old f log log' flushed tasks done → List Record
  hand_of j = take j.flusher.count f.waiting

  first_in_hand : (j : AreJoined choosers sinks device group old f log log' flushed tasks done) → (k : ℕ) (r : RecorderValue) →
      slice_get (seats_worked done) k ≡ Some r
      → AreFirstSent (f.committed ++ hand_of j) log.next_guest (0 + k) r
  first_in_hand j k r at =
      let place = (all_of choosers sinks group tasks done j.seats j.works k r at).1 in
      let e = j.each k r at in
      first_with f log.next_guest (0 + k) e.0 e.1 e.2 j.flusher.count r e.3 (place ∙ omega arith)
      (first_is device group old f log log' flushed j.new j.flusher)

  -- what is committed, and the first so many of what waits, are of the session's guests alone, where these have their numbers
  of_these : (count n : ℕ) → AreJoined choosers sinks device group old f log log' flushed tasks done → length tasks ≡ count
      → f.first_guest ≡ Some log.next_guest → AllByRecursion (IsPlaced log.next_guest count) (f.committed ++ take n f.waiting)
  of_these count n j given first =
      let all = f.committed ++ take n f.waiting in
      let whole : all ++ drop n f.waiting ≡ f.committed ++ f.waiting =
      append_assoc f.committed (take n f.waiting) (drop n f.waiting)
      ∙ ap (λ (l : List Record). f.committed ++ l) (take-append-drop n f.waiting) in
      let P = IsPlaced (base f.first_guest) f.group.guests in
      let placed = AllByRecursion-front P all (drop n f.waiting) (subst (λ (l : List Record). AllByRecursion P l) (sym whole) j.placed) in
      let guests : f.group.guests ≡ count =
      sym j.count ∙ length-map done (λ worked. worked.seat) ∙ sym (pairs_length (HasWorked choosers sinks) tasks done j.works) ∙ given in
      subst (λ (x : Option ℕ × ℕ). AllByRecursion (IsPlaced (base x.0) x.1) all) (λ i. (first i, guests i)) placed

  -- so is what is in hand
  only_these : (count : ℕ) (j : AreJoined choosers sinks device group old f log log' flushed tasks done) → length tasks ≡ count
      → AllByRecursion (IsPlaced log.next_guest count) (f.committed ++ hand_of j)
  only_these count j given =
      elim (first_is device group old f log log' flushed j.new j.flusher) [
        | inl first ↦ of_these count j.flusher.count j given first
        | inr none ↦ subst (λ (l : List Record). AllByRecursion (IsPlaced log.next_guest count) l) (sym (λ i. none.0 i ++ none.1 i)) tt
      ]

  -- what is so of the records that each seat sent is recorded of the jobs
  of_jobs : (jobs jobs' : List (Job C O S)) → AreJoined choosers sinks device group old f log log' flushed tasks done →
      jobs_of tasks ≡ jobs → jobs' ≡ jobs_worked done → (records : List Record)
      → ((k : ℕ) (r : RecorderValue) → slice_get (seats_worked done) k ≡ Some r → AreFirstSent records log.next_guest (0 + k) r)
      → AreRecorded choosers sinks records log.next_guest jobs jobs'
  of_jobs jobs jobs' j given back records each =
      let all = all_recorded choosers sinks records log.next_guest 0 tasks done j.works each in
      let here = subst (λ (n : ℕ). AreRecorded choosers sinks records n (jobs_of tasks) (jobs_worked done)) (omega arith) all in
      subst (λ (x : List (Job C O S) × List (Job C O S)). AreRecorded choosers sinks records log.next_guest x.0 x.1)
      (λ i. (given i, sym back i)) here

  -- the flusher lacks no Mark where no job is of a guest of version 2
  pub lacks_none : (jobs jobs' : List (Job C O S)) → AreJoined choosers sinks device group old f log log' flushed tasks done →
      jobs_of tasks ≡ jobs → jobs' ≡ jobs_worked done → AreOldJobs jobs → flushed ≡ Err flushes.NeedsMark → ⊥
  lacks_none jobs jobs' j given back are_old told =
      let lacks = j.flusher.lacks told in
      let n = lacks.count in
      let count : length tasks ≡ length jobs = sym (length-map tasks (λ task. task.job)) ∙ ap length given in
      let first : f.first_guest ≡ Some log.next_guest =
      lacks.numbers ∙ ap (λ (x : FlusherValue). Some (first_number x.first_guest log.next_guest)) j.new in
      let recorded : AreRecorded choosers sinks (f.committed ++ take n f.waiting) log.next_guest jobs jobs' =
      of_jobs jobs jobs' j given back (f.committed ++ take n f.waiting)
      (λ k r at. let e = j.each k r at in
      first_with f log.next_guest (0 + k) e.0 e.1 e.2 n r e.3
      ((all_of choosers sinks group tasks done j.seats j.works k r at).1 ∙ omega arith) (inl first)) in
      let all : AreOld (f.committed ++ take n f.waiting) =
      of_each_number (λ r. IsOld r.item) log.next_guest (length jobs) (f.committed ++ take n f.waiting)
      (of_these (length jobs) n j count first)
      (each_old choosers sinks (f.committed ++ take n f.waiting) log.next_guest jobs jobs' recorded are_old) in
      lacks.new (AllByRecursion-back (λ r. IsOld r.item) f.committed (take n f.waiting) all)

  pub has_run : (jobs jobs' : List (Job C O S)) → AreJoined choosers sinks device group old f log log' flushed tasks done →
      jobs_of tasks ≡ jobs → jobs' ≡ jobs_worked done
      → HasRun choosers sinks device f.committed log log' jobs jobs'
  has_run jobs jobs' j given back = record {
    batch = hand_of j;
    gained = session_gained device group old f log log' flushed j.new j.flusher;
    next = next_is device group old f log log' flushed j.new j.flusher;
    marked = j.flusher.marked;
    only = only_these (length jobs) j (sym (length-map tasks (λ task. task.job)) ∙ ap length given);
    recorded = of_jobs jobs jobs' j given back f.committed (λ k r at. first_sent f log.next_guest (0 + k) r (ends j k r at));
    in_hand = of_jobs jobs jobs' j given back (f.committed ++ hand_of j) (first_in_hand j);
  }

  pub tells_first : (T : Type 0) (result : Result T SessionFault) (jobs jobs' : List (Job C O S)) →
      AreJoined choosers sinks device group old f log log' flushed tasks done → jobs_of tasks ≡ jobs → jobs' ≡ jobs_worked done
      → log.next_guest + length done ≤ 4294967295 → IsLowest (flusher_met flushed ++ faults_met done) (told_of result) →
      TellsFirst {T = T} choosers sinks f.committed log.next_guest result jobs jobs'
  tells_first T result jobs jobs' j given back room lowest = record {
    others = flusher_met flushed;
    others_are = flusher_is flushed;
    met = mets_of done;
    each = subst
        (λ (x : List (Job C O S) × List (Job C O S)). HaveMet choosers sinks (flusher_met flushed) f.committed log.next_guest 0 x.0 x.1
        (mets_of done)) (λ i. (given i, sym back i))
        (have_met choosers sinks f log.next_guest (flusher_met flushed) 0 tasks done j.works (ends j) goes_on (omega arith));
    lowest = subst (λ (l : List SessionFault). IsLowest (flusher_met flushed ++ l) (told_of result)) (sym (mets_are done)) lowest;
  }
    where
      flusher_is : (r : Result Unit FlushFault) → AllByRecursion IsSessions (flusher_met r)
      flusher_is (Ok u) = tt
      flusher_is (Err flushes.DeviceFailed) = (tt, tt)
      flusher_is (Err flushes.Halted) = (tt, tt)
      flusher_is (Err flushes.TooLong) = (tt, tt)
      flusher_is (Err flushes.NeedsMark) = (tt, tt)
      flusher_is (Err flushes.Memory) = (tt, tt)

      goes_on : flusher_met flushed ≡ [] → AllCommitted f × (f.halted ≡ false)
      goes_on none =
          (flusher_met_none flushed [] (AllCommitted f × (f.halted ≡ false)) (append-nil (flusher_met flushed) ∙ none) j.flusher.all).0

  pub has_reported : (jobs jobs' : List (Job C O S)) (first : ℕ) (reports : List GuestReport) →
      AreJoined choosers sinks device group old f log log' flushed tasks done → jobs_of tasks ≡ jobs → jobs' ≡ jobs_worked done
      → first ≡ log.next_guest → reports ≡ reports_of first done → flusher_met flushed ++ faults_met done ≡ [] →
      log.next_guest + length done ≤ 4294967295
      → AreReported choosers sinks f.committed log.next_guest jobs jobs' reports
  has_reported jobs jobs' first reports j given back is all_are none room =
      let met = flusher_met_none flushed (faults_met done) (AllCommitted f × (f.halted ≡ false)) none j.flusher.all in
      subst (λ l. AreReported choosers sinks f.committed log.next_guest l jobs' reports) given
      (subst (λ l. AreReported choosers sinks f.committed log.next_guest (jobs_of tasks) l reports) (sym back)
      (subst (λ l. AreReported choosers sinks f.committed log.next_guest (jobs_of tasks) (jobs_worked done) l)
      (sym (all_are ∙ ap (λ n. reports_of n done) is))
      (subst (λ (n : ℕ). AreReported choosers sinks f.committed n (jobs_of tasks) (jobs_worked done) (reports_of log.next_guest done))
      (omega arith)
      (all_reported choosers sinks f log.next_guest 0 tasks done j.works (ends j) met.1 met.0.0 met.0.1 (omega arith)))))

  pub has_left : (jobs' : List (Job C O S)) (states : List GuestValue) →
      AreJoined choosers sinks device group old f log log' flushed tasks done → jobs' ≡ jobs_worked done → states ≡ states_worked done
      → flusher_met flushed ++ faults_met done ≡ [] → AreLeft f.committed log.next_guest jobs' states
  has_left jobs' states j back all_are none =
      let met = flusher_met_none flushed (faults_met done) (AllCommitted f × (f.halted ≡ false)) none j.flusher.all in
      subst (λ l. AreLeft f.committed log.next_guest l states) (sym back)
      (subst (λ l. AreLeft f.committed log.next_guest (jobs_worked done) l) (sym all_are)
      (subst (λ (n : ℕ). AreLeft f.committed n (jobs_worked done) (states_worked done)) (omega arith)
      (all_left choosers sinks f log.next_guest 0 tasks done j.works (ends j) met.1 met.0.0 met.0.1)))

-- of no jobs
pub none_left_behind : {C O S : Type 0} (number : ℕ) (jobs : List (Job C O S)) (states : List GuestValue) → jobs ≡ [] → states ≡ [] →
    AreLeft [] number jobs states
none_left_behind {C = C} {O = O} {S = S} number jobs states no_jobs no_states =
    subst (λ (l : List (Job C O S)). AreLeft [] number l states) (sym no_jobs)
    (subst (λ (l : List GuestValue). AreLeft [] number none l) (sym no_states) tt)
  where
    none : List (Job C O S)
    none = []

pub none_reported : {C O S : Type 0} (choosers : Choosers C) (sinks : Sinks S) (number : ℕ) (jobs : List (Job C O S))
    (reports : List GuestReport) → jobs ≡ [] → reports ≡ []
    → AreReported choosers sinks [] number jobs jobs reports
none_reported {C = C} {O = O} {S = S} choosers sinks number jobs reports no_jobs no_reports =
    subst (λ (l : List (Job C O S)). AreReported choosers sinks [] number l l reports) (sym no_jobs)
    (subst (λ (l : List GuestReport). AreReported choosers sinks [] number none none l) (sym no_reports) tt)
  where
    none : List (Job C O S)
    none = []
