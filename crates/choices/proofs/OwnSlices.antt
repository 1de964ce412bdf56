-- The slice of a frame's choice.
use Rattle.std.proofs.Common.{◌≡◌, ◌∙◌, ℕ, zero, suc, ◌-◌, ◌<◌, ◌≤◌, ◌⊎◌, inl, inr, Option, Some, None, IfSome, refl, sym, ap, subst, arith}
use Rattle.std.proofs.Common.{max, Bool, true, false, cond, nat_le}
use Rattle.std.specs.Prelude.{MatchBool, MatchOption}
use Rattle.std.proofs.Math.Nat.{le-max_left, le-max_right, max-le}
use Rattle.std.proofs.lemmas.Bool.{cases_lt, false≢true, leb-true}
use Rattle.rrv_model.specs.declared.limits.TheConstants.{MAX_QUANTUM, MAX_TID, MIN_QUANTUM}
use Rattle.rrv_model.specs.declared.record.CallRecord.{CallRecord}
use Rattle.rrv_model.specs.declared.record.Choice.{Choice}
use Rattle.rrv_model.specs.declared.record.End.{End}
use Rattle.rrv_model.specs.declared.record.End.TheVariants as ends
use Rattle.rrv_model.specs.declared.record.Frame.{Frame}
use Rattle.rrv_model.specs.declared.machine.Thread.{Thread}
use Rattle.rrv_model.specs.State.{State, thread_at, IsRunning, IsState}
use Rattle.rrv_model.specs.Ends.{call_in, runs_thread, is_preempt}
use Rattle.rrv_model.specs.FrameStep.{FrameStepBy, Steps}
use Rattle.rrv_model.proofs.Ends.{preempt_is}
use Rattle.rv_machine.specs.declared.run.RunEnd.{RunEnd}
use Rattle.rv_machine.specs.declared.run.RunEnd.TheVariants as run_ends
use Rattle.serial_sched.specs.Follows.{Reaches}
use Rattle.serial_sched.specs.Slices.{FitsChoice, FitsIf}
use Rattle.serial_sched.proofs.OneStep.{one_run_end, running_at}
use Rattle.serial_sched.proofs.Reached.{frame_runs, has_one, limit_is_preempt, reaches, run_end, same_run_end}
use Rattle.choices.specs.Recorded.{ChoicesTellSlices, EndIsOfGuest, FramesAreOfGuests, IsOfGuest, IsSameEnd, IsUncut, choice_by_end, choice_if}

-- ---- what a frame reaches

-- so many steps begin with fewer
front : (n m tid : ℕ) (s after : State) → n ≤ m → Steps m tid s after → (mid : State) × Steps n tid s mid
front zero m tid s after low steps = (s, refl)
front (suc n) zero tid s after low steps = absurd (omega arith)
front (suc n) (suc m) tid s after low (next, step, steps) =
    let rest = front n m tid next after (omega arith) steps in (rest.0, (next, step, rest.1))

front_of : (end : RunEnd) (n m tid : ℕ) (s after : State) → n < m → Reaches end m tid s after → (mid : State) × Steps n tid s mid
front_of run_ends.Limit n m tid s after low p = front n m tid s after (omega arith) p
front_of run_ends.Call n m tid s after low p = front n (m - 1) tid s p.before (omega arith) p.steps
front_of (run_ends.Fault kind) n m tid s after low p = front n (m - 1) tid s after (omega arith) p.steps
front_of run_ends.Memory n m tid s after low p = absurd p

-- an end before which another run goes on is that of plain steps
pub earlier : (end other : RunEnd) (n m tid : ℕ) (s a b : State) → n < m → Reaches end n tid s a → Reaches other m tid s b →
    end ≡ run_ends.Limit
earlier end other n m tid s a b low p q =
    let on = front_of other n m tid s b low q in one_run_end end run_ends.Limit n tid s a on.0 p on.1

-- ---- two slices of one choice

one_count : (end other : RunEnd) (n m tid : ℕ) (s a b : State) → Reaches end n tid s a → Reaches other m tid s b →
    (end ≡ run_ends.Limit → m ≤ n) → (other ≡ run_ends.Limit → n ≤ m) → m ≡ n
one_count end other n m tid s a b p q far far' = by (cases_lt n m) (cases_lt m n) where
  by : (n < m) ⊎ (m ≤ n) → (m < n) ⊎ (n ≤ m) → m ≡ n
  by (inl low) h = let far_enough = far (earlier end other n m tid s a b low p q) in absurd (omega arith)
  by (inr low) (inl low') = let far_enough = far' (earlier other end m n tid s b a low' q p) in absurd (omega arith)
  by (inr low) (inr low') = omega arith

abbrev tid_or : Option Choice → ℕ
tid_or None = 0
tid_or (Some choice) = choice.tid

abbrev quantum_or : Option Choice → ℕ
quantum_or None = 0
quantum_or (Some choice) = choice.quantum

-- so of an end with a thread or none, which was preempted or not
chosen_if : (thread preempt : Bool) (tid count : ℕ) (choice : Choice) → choice_if thread preempt tid count ≡ Some choice →
    (choice.tid ≡ tid) × (count ≤ choice.quantum) × (preempt ≡ true → choice.quantum ≡ count) × (thread ≡ true)
chosen_if false preempt tid count choice is = absurd cc
chosen_if true false tid count choice is = (
  ap (λ (o : Option Choice). tid_or o) (sym is),
  (let q : choice.quantum ≡ max MIN_QUANTUM count = ap (λ (o : Option Choice). quantum_or o) (sym is) in
      omega (arith, le-max_right MIN_QUANTUM count)),
  λ e. absurd (false≢true e),
  refl,
)
chosen_if true true tid count choice is = let e =
    whole (nat_le MIN_QUANTUM count) is in (e.0, omega (arith, e.1), λ _. e.1, refl) where
      whole : (b : Bool) → cond b (Some (record { tid = tid; quantum = count })) None ≡ Some choice → (choice.tid ≡ tid) ×
          (choice.quantum ≡ count)
      whole true h = (ap (λ (o : Option Choice). tid_or o) (sym h), ap (λ (o : Option Choice). quantum_or o) (sym h))
      whole false h = absurd cc

-- the quantum of a frame's choice: as many instructions as the frame counts, and just so many where it was preempted
pub chosen : (end : End) (tid count : ℕ) (choice : Choice) → choice_by_end end tid count ≡ Some choice →
    (choice.tid ≡ tid) × (count ≤ choice.quantum) × (is_preempt end ≡ true → choice.quantum ≡ count) × (runs_thread end ≡ true)
chosen end tid count choice is = chosen_if (runs_thread end) (is_preempt end) tid count choice is

at_limits : (tid quantum : ℕ) (choice : Choice) → {count : ℕ} → IsOfGuest tid count → MIN_QUANTUM ≤ quantum → quantum ≤ MAX_QUANTUM →
    choice.tid ≡ tid → choice.quantum ≡ quantum →
    (1 ≤ choice.tid) × (choice.tid ≤ MAX_TID) × (MIN_QUANTUM ≤ choice.quantum) × (choice.quantum ≤ MAX_QUANTUM)
at_limits tid quantum choice of low high same same' =
    let from = of.tid_low in let to = of.tid_high in (omega arith, omega arith, omega arith, omega arith)

of_thread : (end : End) (tid count : ℕ) → runs_thread end ≡ true → EndIsOfGuest end tid count → IsOfGuest tid count
of_thread end tid count some of = subst (λ (b : Bool). MatchBool b (IsOfGuest tid count) (Unit {0})) some of

within_if : (thread preempt : Bool) (tid count : ℕ) (choice : Choice) → choice_if thread preempt tid count ≡ Some choice →
    IsOfGuest tid count → (1 ≤ choice.tid) × (choice.tid ≤ MAX_TID) × (MIN_QUANTUM ≤ choice.quantum) × (choice.quantum ≤ MAX_QUANTUM)
within_if false preempt tid count choice is of = absurd cc
within_if true false tid count choice is of =
    at_limits tid (max MIN_QUANTUM count) choice of (le-max_left MIN_QUANTUM count) (let high = of.count_high in max-le (omega arith) high)
    (ap (λ (o : Option Choice). tid_or o) (sym is)) (ap (λ (o : Option Choice). quantum_or o) (sym is))
within_if true true tid count choice is of =
    whole (nat_le MIN_QUANTUM count) refl is where
      whole : (b : Bool) → nat_le MIN_QUANTUM count ≡ b → cond b (Some (record { tid = tid; quantum = count })) None ≡ Some choice →
          (1 ≤ choice.tid) × (choice.tid ≤ MAX_TID) × (MIN_QUANTUM ≤ choice.quantum) × (choice.quantum ≤ MAX_QUANTUM)
      whole true low h =
          at_limits tid count choice of (leb-true MIN_QUANTUM count low) of.count_high (ap (λ (o : Option Choice). tid_or o) (sym h))
          (ap (λ (o : Option Choice). quantum_or o) (sym h))
      whole false low h = absurd cc

-- a guest's choice is within the limits
pub chosen_within : (end : End) (tid count : ℕ) (choice : Choice) → choice_by_end end tid count ≡ Some choice → EndIsOfGuest end tid count →
    (1 ≤ choice.tid) × (choice.tid ≤ MAX_TID) × (MIN_QUANTUM ≤ choice.quantum) × (choice.quantum ≤ MAX_QUANTUM)
chosen_within end tid count choice is of =
    let ch = chosen end tid count choice is in
    within_if (runs_thread end) (is_preempt end) tid count choice is (of_thread end tid count ch.3 of)

fits_if : (thread preempt : Bool) (old : State) (g : Frame) (choice : Choice) → thread ≡ true → FitsIf thread preempt old g choice →
    (preempt ≡ true → g.count ≡ choice.quantum) → (g.tid ≡ choice.tid) × (g.count ≤ choice.quantum)
fits_if false preempt old g choice some fits whole = absurd (false≢true some)
fits_if true true old g choice some fits whole = let all = whole refl in (fits.0, omega arith)
fits_if true false old g choice some fits whole = (fits.0, fits.1)

fitting : (end : End) (old : State) (g : Frame) (choice : Choice) → runs_thread end ≡ true → FitsChoice end old g choice →
    IsUncut end g.count choice →
    (g.tid ≡ choice.tid) × (g.count ≤ choice.quantum) × (is_preempt end ≡ true → g.count ≡ choice.quantum)
fitting end old g choice some fits uncut =
    let whole : is_preempt end ≡ true → g.count ≡ choice.quantum = λ p. uncut (preempt_is end p) in
    let fit = fits_if (runs_thread end) (is_preempt end) old g choice some fits.1 whole in
    (fit.0, fit.1, whole)

-- ends that are no calls are one end where they are alike
one_end : (end other : End) → IsSameEnd end other → call_in end ≡ None → other ≡ end
one_end end other alike none =
    subst (λ (o : Option CallRecord). MatchOption o (other ≡ end) (λ _. (r : CallRecord) × (other ≡ ends.Call r))) none alike

pub one_frame : (f g : Frame) → g.tid ≡ f.tid → g.count ≡ f.count → g.end ≡ f.end → g ≡ f
one_frame f g tids counts ends_alike = λ i. record { tid = tids i; count = counts i; end = ends_alike i }

pub choices_tell_slices : ChoicesTellSlices
choices_tell_slices old f new choice step is g other step' fits uncut =
    let ch = chosen f.end f.tid f.count choice is in
    let p = reaches f.end old f.tid f.count new ch.3 step.goes in
    let runs =
    has_one g.end old g.tid g.count other f.tid fits.0 (running_at (run_end f.end) f.count f.tid old p.1 p.0 p.2) step'.goes in
    let fit = fitting g.end old g choice runs fits uncut in
    let q = reaches g.end old g.tid g.count other runs step'.goes in
    let tids : g.tid ≡ f.tid = fit.0 ∙ ch.0 in
    let q' : Reaches (run_end g.end) g.count f.tid old q.1 = subst (λ (tid : ℕ). Reaches (run_end g.end) g.count tid old q.1) tids q.2 in
    let counts : g.count ≡ f.count =
    one_count (run_end f.end) (run_end g.end) f.count g.count f.tid old p.1 q.1 p.2 q'
    (λ e. let all = ch.2 (limit_is_preempt f.end e) in let within = fit.1 in omega arith)
    (λ e. let all = fit.2 (limit_is_preempt g.end e) in let within = ch.1 in omega arith) in
    let alike : IsSameEnd f.end g.end =
    same_run_end f.end g.end ch.3 runs
    (one_run_end (run_end f.end) (run_end g.end) f.count f.tid old p.1 q.1 p.2
    (subst (λ (n : ℕ). Reaches (run_end g.end) n f.tid old q.1) counts q')) in
    record { tid = tids; count = counts; end = alike; same = λ none. one_frame f g tids counts (one_end f.end g.end alike none) }

-- ---- tids

pub lives : (P : Type 0) (o : Option Thread) → IsRunning o → IfSome o (λ _. P) → P
lives P None running p = absurd running
lives P (Some t) running p = p

of_guest : (old : State) (tid count : ℕ) → IsState old → count ≤ MAX_QUANTUM → IsRunning (thread_at old tid) → IsOfGuest tid count
of_guest old tid count state high running =
    let threads = state.rules.threads in
    let within : (1 ≤ tid) × (tid < old.next_tid) = lives _ (thread_at old tid) running (threads.tids tid) in
    let next = threads.next_tid in
    record { tid_low = within.0; tid_high = omega arith; count_high = high }

end_is_of_guest : (end : End) (old : State) (tid count : ℕ) (new : State) → IsState old → count ≤ MAX_QUANTUM →
    FrameStepBy end old tid count new →
    EndIsOfGuest end tid count
end_is_of_guest end old tid count new state high goes = by (runs_thread end) refl where
  by : (b : Bool) → runs_thread end ≡ b → MatchBool b (IsOfGuest tid count) (Unit {0})
  by true some = of_guest old tid count state high (frame_runs end old tid count new some goes)
  by false none = tt

pub frames_are_of_guests : FramesAreOfGuests
frames_are_of_guests old f new state step = end_is_of_guest f.end old f.tid f.count new state step.limit step.goes
