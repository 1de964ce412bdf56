-- Frames that a schedule chose.
use Rattle.std.proofs.Common.{◌≡◌, ◌∙◌, ℕ, inl, inr, Bool, true, false, cond, List, [], ◌∷◌, Some, None, refl, sym, ap, arith}
use Rattle.std.specs.Prelude.{Contains}
use Rattle.std.proofs.lemmas.Bool.{false≢true}
use Rattle.rrv_model.specs.declared.record.Choice.{Choice}
use Rattle.rrv_model.specs.declared.record.End.{End}
use Rattle.rrv_model.specs.declared.record.Frame.{Frame}
use Rattle.rrv_model.specs.State.{State, thread_at, IsRunning}
use Rattle.rrv_model.specs.FrameStep.{FrameStepBy}
use Rattle.rrv_model.specs.Ends.{runs_thread, is_preempt}
use Rattle.serial_sched.specs.Chosen.{AreRunning, Picks, PicksAmong}
use Rattle.serial_sched.specs.LastThread.{last_from, thread_by}
use Rattle.serial_sched.specs.Slices.{FitsChoice, FitsIf}
use Rattle.serial_sched.proofs.Reached.{has_none, has_one}
use Rattle.choices.specs.Schedule.{Plan, Chooses}
use Rattle.choices.specs.Scheduled.{LastChosenRanLast, NothingKeepsLast, by_schedule}

-- ---- the threads that run

none_contained : (tid : ℕ) → Contains [] tid → ⊥
none_contained tid (k, low, at) = absurd (omega arith)

pub none_runs : (s : State) → AreRunning s [] → (tid : ℕ) → IsRunning (thread_at s tid) → ⊥
none_runs s are tid runs = none_contained tid ((are.running tid).1 runs)

pub first_runs : (s : State) (tid : ℕ) (tids : List ℕ) → AreRunning s (tid ∷ tids) → IsRunning (thread_at s tid)
first_runs s tid tids are = (are.running tid).0 (0, omega arith, refl)

-- ---- the thread of a frame

-- where no thread runs, the last stays
no_thread : (end : End) (s : State) (tid count before : ℕ) (s' : State) → ((t : ℕ) → IsRunning (thread_at s t) → ⊥) →
    FrameStepBy end s tid count s' → thread_by end tid before ≡ before
no_thread end s tid count before s' rests p = ap (λ (b : Bool). cond b tid before) (has_none end s tid count s' rests p)

fits_tid : (thread preempt : Bool) (s : State) (f : Frame) (choice : Choice) → thread ≡ true → FitsIf thread preempt s f choice →
    f.tid ≡ choice.tid
fits_tid false preempt s f choice some fits = absurd (false≢true some)
fits_tid true true s f choice some fits = fits.0
fits_tid true false s f choice some fits = fits.0

-- where one runs, the frame's is the chosen one
own_thread : (end : End) (s : State) (f : Frame) (choice : Choice) (before t : ℕ) (s' : State) → IsRunning (thread_at s t) →
    FrameStepBy end s f.tid f.count s' → FitsChoice end s f choice →
    thread_by end f.tid before ≡ choice.tid
own_thread end s f choice before t s' runs p fits =
    let some = has_one end s f.tid f.count s' t fits.0 runs p in
    ap (λ (b : Bool). cond b f.tid before) some ∙ fits_tid (runs_thread end) (is_preempt end) s f choice some fits.1

-- ---- the choice

last_of : (runnable : List ℕ) (old : Plan) (choice : Choice) (new : Plan) → Chooses runnable old (Some choice) new → new.last ≡ choice.tid
last_of runnable old choice new (inl taken) = ap (λ (p : Plan). p.last) taken.new_is
last_of runnable old choice new (inr taken) = ap (λ (p : Plan). p.last) taken.new_is

last_next : (tids : List ℕ) (s : State) (old : Plan) (f : Frame) (s' : State) (choice : Choice) (new : Plan) → AreRunning s tids →
    PicksAmong by_schedule tids old (Some choice) new →
    FrameStepBy f.end s f.tid f.count s' → FitsChoice f.end s f choice → new.last ≡ thread_by f.end f.tid old.last
last_next [] s old f s' choice new are picks goes fits =
    ap (λ (p : Plan). p.last) picks.1 ∙ sym (no_thread f.end s f.tid f.count old.last s' (none_runs s are) goes)
last_next (t ∷ tids) s old f s' choice new are picks goes fits =
    last_of (t ∷ tids) old choice new picks ∙ sym (own_thread f.end s f choice old.last t s' (first_runs s t tids are) goes fits)

pub last_chosen_ran_last : LastChosenRanLast
last_chosen_ran_last s old [] s' new (there, same) = ap (λ (p : Plan). p.last) same
last_chosen_ran_last s old (f ∷ frames) s' new (mid, next, is, rest) =
    last_chosen_ran_last mid next frames s' new rest
    ∙ ap (λ (tid : ℕ). last_from tid frames)
    (last_next is.picks.tids s old f mid is.choice next is.picks.running is.picks.picks is.step.goes is.fits)

pub nothing_keeps_last : NothingKeepsLast
nothing_keeps_last runnable old new taken = ap (λ (p : Plan). p.last) taken.new_is

none_keeps_last : (tids : List ℕ) (old new : Plan) → PicksAmong by_schedule tids old None new → new.last ≡ old.last
none_keeps_last [] old new picks = ap (λ (p : Plan). p.last) picks.1
none_keeps_last (tid ∷ tids) old new picks = nothing_keeps_last (tid ∷ tids) old new picks

-- so where it was asked once more in a state
pub asked_keeps_last : (s : State) (old new : Plan) → Picks by_schedule s old None new → new.last ≡ old.last
asked_keeps_last s old new picks = none_keeps_last picks.tids old new picks.picks
