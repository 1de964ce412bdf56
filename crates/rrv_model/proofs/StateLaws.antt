-- A frame from a state leads to a state.
use Rattle.std.proofs.Common.{arith, ℕ, ◌-◌, Bool, true, false, nat_le, List, [], ◌∷◌, Option, Some, None, IfSome, sym, subst}
use Rattle.std.specs.Prelude.{MatchBool}
use Rattle.rrv_model.specs.declared.machine.GuestEnd.{GuestEnd}
use Rattle.rrv_model.specs.declared.record.CallRecord.{CallRecord}
use Rattle.rrv_model.specs.declared.record.Frame.{Frame}
use Rattle.rrv_model.specs.State.{State, IsEnd, IsState}
use Rattle.rrv_model.specs.Ends.{call_in, guest_end, is_expiry}
use Rattle.rrv_model.specs.FrameStep.{Steps, FrameStep, FramesKeepStates, closed, closed_by, timed_out}
use Rattle.rrv_model.specs.StateAt.{StateAtFrom, RecordedStatesAreStates}
use Rattle.rrv_model.proofs.CallRules.{call_keeps}
use Rattle.rrv_model.proofs.Ends.{AnswersCall, expired_by, frame_parts, guest_end_is, plain_steps}
use Rattle.rrv_model.proofs.OpeningState.{openings_are_states}
use Rattle.rrv_model.proofs.StateRules.{keeps-reservation, keeps-ended, keeps-results, keeps-woken, steps_keep_state, ecall_keeps_state}

closes : (s : State) → IsState s → IsState (closed s)
closes s h = keeps-reservation _ s tt h

closing_keeps : (o : Option GuestEnd) (s : State) → IfSome o IsEnd → IsState s → IsState (closed_by o s)
closing_keeps None s is h = closes s h
closing_keeps (Some end) s is h = keeps-ended end (closed s) is (closes s h)

answers_keep : (o : Option CallRecord) (tid : ℕ) (before after : State) → AnswersCall o tid before after → IsState before → IsState after
answers_keep None tid before after e h = subst IsState (sym e) h
answers_keep (Some r) tid before after (called, answer, calls, answered) h =
    (call_keeps called tid answer r after answered).rules (ecall_keeps_state before tid called calls h)

expiry_keeps : (b : Bool) (tid : ℕ) (s : State) → IsState s → IsState (expired_by b tid s)
expiry_keeps false tid s h = h
expiry_keeps true tid s h = keeps-results tid timed_out _ (omega arith) (keeps-woken s tid h)

pub frames_keep_states : FramesKeepStates
frames_keep_states old frame new h step =
    let p = frame_parts frame.end old frame.tid frame.count new step.goes in
    let before : IsState p.before = steps_keep_state (plain_steps frame.end frame.count) frame.tid old p.before p.steps h in
    let after : IsState p.after = answers_keep (call_in frame.end) frame.tid p.before p.after p.answers before in
    let awake : IsState (expired_by (is_expiry frame.end) frame.tid p.after) = expiry_keeps (is_expiry frame.end) frame.tid p.after after in
    subst IsState (sym p.new_is) (closing_keeps (guest_end frame.end) _ (guest_end_is frame.end) awake)

-- ---- recorded guests

at_by : (b : Bool) (f : Frame) (frames : List Frame) (s : State) (t : ℕ) (at : State) →
    ((mid : State) → IsState mid → StateAtFrom mid frames (t - f.count) at → IsState at) →
    MatchBool b ((mid : State) × FrameStep s f mid × StateAtFrom mid frames (t - f.count) at) (Steps t f.tid s at) → IsState s → IsState at
at_by true f frames s t at rest p h = rest p.0 (frames_keep_states s f p.0 h p.1) p.2
at_by false f frames s t at rest p h = steps_keep_state t f.tid s at p h

at_from : (frames : List Frame) (s : State) (t : ℕ) (at : State) → IsState s → StateAtFrom s frames t at → IsState at
at_from [] s t at h p = subst IsState (sym p.1) h
at_from (f ∷ frames) s t at h p = at_by (nat_le f.count t) f frames s t at (λ mid g q. at_from frames mid (t - f.count) at g q) p h

pub recorded_states_are_states : RecordedStatesAreStates
recorded_states_are_states o frames t at p = at_from frames p.0 t at (openings_are_states o p.0 p.1) p.2
