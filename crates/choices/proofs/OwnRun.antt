-- A guest's frames are what its choices allow.
use Rattle.std.proofs.Common.{◌≡◌, ◌∙◌, ℕ, zero, suc, ◌+◌, ◌<◌, ◌≤◌, ◌⊎◌, inl, inr, Bool, true, false, cond, is_none, List, [], ◌∷◌, length, get_or, filter, Contains, Option, Some, None, refl, sym, ap, subst, arith}
use Rattle.std.specs.Prelude.{All, filter_map}
use Rattle.std.specs.List.{cons_option, range_with_len}
use Rattle.std.specs.List.Sorted.{IsStrictlyIncreasing}
use Rattle.std.proofs.lemmas.Bool.{false≢true}
use Rattle.std.proofs.lemmas.List.FromFn.{get_or-range_with_len, length-range_with_len}
use Rattle.std.proofs.lemmas.List.Kept.{IsStrictlyIncreasing-filter}
use Rattle.rrv_model.specs.declared.machine.FutexWait.{FutexWait}
use Rattle.rrv_model.specs.declared.machine.Thread.{Thread}
use Rattle.rrv_model.specs.declared.record.Choice.{Choice}
use Rattle.rrv_model.specs.declared.record.End.{End}
use Rattle.rrv_model.specs.declared.record.Frame.{Frame}
use Rattle.rrv_model.specs.State.{State, thread_at, IsRunning, IsState}
use Rattle.rrv_model.specs.FrameStep.{FrameStep}
use Rattle.rrv_model.specs.Ends.{runs_thread, is_preempt, is_expiry}
use Rattle.rrv_model.proofs.Ends.{ran_still}
use Rattle.rrv_model.proofs.StateLaws.{frames_keep_states}
use Rattle.serial_sched.specs.Chosen.{AreChosen, AreRunning, Picks}
use Rattle.serial_sched.specs.Slices.{FitsChoice, FitsIf}
use Rattle.serial_sched.proofs.Reached.{has_none, has_one}
use Rattle.choices.specs.Again.{FramesFollow, FramesRunAgain, IsTold}
use Rattle.choices.specs.Recorded.{FrameIsOfGuest, choice_by_end, choice_of}
use Rattle.choices.specs.Schedule.{Plan, plan}
use Rattle.choices.specs.Scheduled.{by_schedule}
use Rattle.choices.proofs.Again.{GoesOn, all_of_guest, all_rest, can_choose, none_behind, tells}
use Rattle.choices.proofs.OwnSlices.{chosen, frames_are_of_guests, lives}
use Rattle.choices.proofs.SaidChoices.{text_says_choices}
use Rattle.choices.proofs.Scheduled.{first_runs, none_runs}

-- ---- what passes a test

kept : (p : ℕ → Bool) (xs : List ℕ) (x : ℕ) → p x ≡ true → Contains xs x → Contains (filter p xs) x
kept p [] x passes (k, low, at) = absurd (omega arith)
kept p (y ∷ ys) x passes (zero, low, at) =
    subst (λ (b : Bool). Contains (cond b (y ∷ filter p ys) (filter p ys)) x) (sym (ap p at ∙ passes)) (0, omega arith, at)
kept p (y ∷ ys) x passes (suc k, low, at) = by (p y) (kept p ys x passes (k, omega arith, at)) where
  by : (b : Bool) → Contains (filter p ys) x → Contains (cond b (y ∷ filter p ys) (filter p ys)) x
  by true c = (suc c.0, omega arith, c.2)
  by false c = c

passing : (p : ℕ → Bool) (xs : List ℕ) (x : ℕ) → Contains (filter p xs) x → p x ≡ true
passing p [] x (k, low, at) = absurd (omega arith)
passing p (y ∷ ys) x c = by (p y) refl c (λ d. passing p ys x d) where
  by : (b : Bool) → p y ≡ b → Contains (cond b (y ∷ filter p ys) (filter p ys)) x → (Contains (filter p ys) x → p x ≡ true) → p x ≡ true
  by true e (zero, low, at) later = ap p (sym at) ∙ e
  by true e (suc k, low, at) later = later (k, omega arith, at)
  by false e d later = later d

-- ---- the threads that run

abbrev runs_there : Option Thread → Bool
runs_there None = false
runs_there (Some t) = is_none t.wait

is_there : (o : Option Thread) → IsRunning o → runs_there o ≡ true
is_there None r = absurd r
is_there (Some t) r = ap is_none r

none_is : (o : Option FutexWait) → is_none o ≡ true → o ≡ None
none_is None e = refl
none_is (Some a) e = absurd (false≢true e)

there_is : (o : Option Thread) → runs_there o ≡ true → IsRunning o
there_is None e = absurd (false≢true e)
there_is (Some t) e = none_is t.wait e

abbrev tids_below : State → ℕ → List ℕ
tids_below s n = filter (λ tid. runs_there (thread_at s tid)) (range_with_len 0 n)

rising : (n : ℕ) → IsStrictlyIncreasing (range_with_len 0 n)
rising n k low =
    let len : length (range_with_len 0 n) ≡ n = length-range_with_len 0 n in
    let here : get_or (range_with_len 0 n) k 0 ≡ 0 + k = get_or-range_with_len 0 n k 0 (omega arith) in
    let next : get_or (range_with_len 0 n) (k + 1) 0 ≡ 0 + (k + 1) = get_or-range_with_len 0 n (k + 1) 0 (omega arith) in
    omega arith

below : (n tid : ℕ) → tid < n → Contains (range_with_len 0 n) tid
below n tid low = (tid, omega (arith, length-range_with_len 0 n), get_or-range_with_len 0 n tid tid low ∙ omega arith)

are_running : (s : State) → IsState s → AreRunning s (tids_below s s.next_tid)
are_running s state = record {
  rising = IsStrictlyIncreasing-filter (λ tid. runs_there (thread_at s tid)) (range_with_len 0 s.next_tid) (rising s.next_tid);
  running = λ tid. (
    λ c. there_is (thread_at s tid) (passing (λ tid. runs_there (thread_at s tid)) (range_with_len 0 s.next_tid) tid c),
    λ r.
        let threads = state.rules.threads in
        let within : (1 ≤ tid) × (tid < s.next_tid) = lives _ (thread_at s tid) r (threads.tids tid) in
        kept (λ tid. runs_there (thread_at s tid)) (range_with_len 0 s.next_tid) tid (is_there (thread_at s tid) r)
        (below s.next_tid tid within.1),
  );
}

-- ---- one frame

fits_own : (thread preempt : Bool) (s : State) (f : Frame) (choice : Choice) → choice.tid ≡ f.tid → f.count ≤ choice.quantum →
    (preempt ≡ true → choice.quantum ≡ f.count) → FitsIf thread preempt s f choice
fits_own false preempt s f choice tid within whole = tt
fits_own true true s f choice tid within whole = (sym tid, inl (sym (whole refl)))
fits_own true false s f choice tid within whole = (sym tid, within)

-- a frame is the slice of its choice
own_fits : (end : End) (s : State) (f : Frame) (choice : Choice) → choice_by_end end f.tid f.count ≡ Some choice → FitsChoice end s f choice
own_fits end s f choice is =
    let e = chosen end f.tid f.count choice is in
    (ran_still end e.3, fits_own (runs_thread end) (is_preempt end) s f choice e.0 e.1 e.2)

-- any choice is one of a frame of no thread
any_fits : (end : End) (s : State) (f : Frame) (choice : Choice) → runs_thread end ≡ false → is_expiry end ≡ false →
    FitsChoice end s f choice
any_fits end s f choice none still = (still, subst (λ (b : Bool). FitsIf b (is_preempt end) s f choice) (sym none) tt)

-- it is chosen of a list that begins with it, which then goes on
record IsNext (s : State) (f : Frame) (p : Plan) (rest : List Choice) : Type 0 where
  choice : Choice
  next : Plan
  picks : Picks by_schedule s p (Some choice) next
  fits : FitsChoice f.end s f choice
  behind : (runs_thread f.end ≡ false) ⊎ GoesOn next rest

is_next : (tids : List ℕ) (s : State) (f : Frame) (m : State) (p : Plan) (rest : List Choice) → FrameStep s f m → FrameIsOfGuest f →
    IsTold f → p.misfit ≡ None →
    p.left ≡ cons_option (choice_of f) rest → AreRunning s tids → IsNext s f p rest
is_next [] s f m p rest step of told unrefused is are =
    let none : runs_thread f.end ≡ false = has_none f.end s f.tid f.count m (none_runs s are) step.goes in
    let any : Choice = record { tid = 0; quantum = 0 } in
    record {
      choice = any;
      next = p;
      picks = record { tids = []; running = are; picks = (refl, refl) };
      fits = any_fits f.end s f any none told.still;
      behind = inl none;
    }
is_next (t ∷ tids) s f m p rest step of told unrefused is are =
    let runs = has_one f.end s f.tid f.count m t told.still (first_runs s t tids are) step.goes in
    let c = tells f.end f.tid f.count runs told.long in
    let next : Plan = record p { left = rest; taken = p.taken + 1; last = c.0.tid } in
    record {
      choice = c.0;
      next = next;
      picks = record {
        tids = t ∷ tids;
        running = are;
        picks = inl (record {
          unrefused = unrefused;
          next = is ∙ ap (λ (o : Option Choice). cons_option o rest) c.1;
          fits = can_choose s f m (t ∷ tids) c.0 runs step of are c.1;
          new_is = refl;
        });
      };
      fits = own_fits f.end s f c.0 c.1;
      behind = inr (unrefused, refl);
    }

-- ---- one frame after another

abbrev LeadsOn : State → Plan → List Frame → Type 0
LeadsOn s p frames = (s' : State) × (p' : Plan) × AreChosen by_schedule s p frames s' p'

own_run : (frames : List Frame) (s : State) (p : Plan) → IsState s → FramesFollow s frames → All IsTold frames → p.misfit ≡ None →
    p.left ≡ filter_map choice_of frames → LeadsOn s p frames
own_run [] s p state follow told unrefused is = (s, p, (refl, refl))
own_run (f ∷ frames) s p state (m, step, follow) told unrefused is =
    first (behind one.behind
    (λ go. own_run frames m one.next (frames_keep_states s f m state step) follow (all_rest IsTold f frames told) go.0 go.1)) where
      one : IsNext s f p (filter_map choice_of frames)
      one = is_next (tids_below s s.next_tid) s f m p (filter_map choice_of frames) step (frames_are_of_guests s f m state step)
          (told 0 f (omega arith)) unrefused is (are_running s state)

      behind : (runs_thread f.end ≡ false) ⊎ GoesOn one.next (filter_map choice_of frames) →
          (GoesOn one.next (filter_map choice_of frames) → LeadsOn m one.next frames) → LeadsOn m one.next frames
      behind (inl none) on =
          subst (λ (fs : List Frame). LeadsOn m one.next fs)
          (sym (none_behind s f m frames none (told 0 f (omega arith)).still step follow)) (m, one.next, (refl, refl))
      behind (inr go) on = on go

      first : LeadsOn m one.next frames → LeadsOn s p (f ∷ frames)
      first rest = (rest.0, rest.1, (m, one.next, record { step = step; choice = one.choice; picks = one.picks; fits = one.fits }, rest.2))

pub frames_run_again : FramesRunAgain
frames_run_again s frames turns state follow told =
    let run = own_run frames s (plan (filter_map choice_of frames) turns) state follow told refl refl in (
      record {
        start = state;
        follow = follow;
        told = told;
        choices = filter_map choice_of frames;
        printed = text_says_choices frames (all_of_guest s frames state follow);
        turns = turns;
        state = run.0;
        last = run.1;
        chosen = run.2;
      },
      refl,
    )
