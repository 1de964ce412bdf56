-- What frames do, by how they ended: the laws that have an arm for each end. Others ask an end by its words, and cite these.
use Rattle.std.proofs.Common.{◌≡◌, ℕ, zero, suc, ◌+◌, ◌-◌, ◌<◌, ◌≤◌, Bool, true, false, List, [], Option, Some, None, IfSome, refl, sym, ap, subst, arith}
use Rattle.std.proofs.lemmas.Bool.{false≢true}
use Rattle.rrv_model.specs.declared.machine.FaultKind.{FaultKind}
use Rattle.rrv_model.specs.declared.machine.GuestEnd.{GuestEnd}
use Rattle.rrv_model.specs.declared.machine.GuestEnd.TheVariants as guest_ends
use Rattle.rrv_model.specs.declared.record.CallRecord.{CallRecord}
use Rattle.rrv_model.specs.declared.record.End.{End}
use Rattle.rrv_model.specs.declared.record.End.TheVariants as ends
use Rattle.rrv_model.specs.declared.record.Frame.{Frame}
use Rattle.rrv_model.specs.State.{State, thread_at, IsEnd, IsRunning, IsTimed}
use Rattle.rrv_model.specs.Step.{CallsFrom}
use Rattle.rrv_model.specs.Calls.{Answer, Calls}
use Rattle.rrv_model.specs.Ends.{call_in, fault_in, guest_end, runs_thread, is_preempt, is_expiry}
use Rattle.rrv_model.specs.FrameStep.{Steps, FrameStepBy, Preempts, EndsInCall, EndsInFault, Expires, closed_at_end, closed_by, expired}
use Rattle.rrv_model.specs.Output.{Chunk, FramePuts, put_out_by}

-- ---- what the words of an end tell of it

pub call_is : (end : End) (r : CallRecord) → call_in end ≡ Some r → end ≡ ends.Call r
call_is ends.Preempt r e = absurd cc
call_is (ends.Call q) r e = let same : q ≡ r = cc in ap ends.Call same
call_is (ends.Fault kind) r e = absurd cc
call_is ends.Stuck r e = absurd cc
call_is ends.Expire r e = absurd cc

pub preempt_is : (end : End) → is_preempt end ≡ true → end ≡ ends.Preempt
preempt_is ends.Preempt e = refl
preempt_is (ends.Call r) e = absurd (false≢true e)
preempt_is (ends.Fault kind) e = absurd (false≢true e)
preempt_is ends.Stuck e = absurd (false≢true e)
preempt_is ends.Expire e = absurd (false≢true e)

pub expiry_is : (end : End) → is_expiry end ≡ true → end ≡ ends.Expire
expiry_is ends.Preempt e = absurd (false≢true e)
expiry_is (ends.Call r) e = absurd (false≢true e)
expiry_is (ends.Fault kind) e = absurd (false≢true e)
expiry_is ends.Stuck e = absurd (false≢true e)
expiry_is ends.Expire e = refl

-- the end of a thread's run, by its call or its fault
abbrev pub ran_end : Option CallRecord → Option FaultKind → End
ran_end (Some r) fault = ends.Call r
ran_end None (Some kind) = ends.Fault kind
ran_end None None = ends.Preempt

-- the end of a frame in which a thread ran is what its words say
pub ran_end_is : (end : End) → runs_thread end ≡ true → ran_end (call_in end) (fault_in end) ≡ end
ran_end_is ends.Preempt some = refl
ran_end_is (ends.Call r) some = refl
ran_end_is (ends.Fault kind) some = refl
ran_end_is ends.Stuck some = absurd (false≢true some)
ran_end_is ends.Expire some = absurd (false≢true some)

-- no thread runs in a frame in which a wait ends
pub ran_still : (end : End) → runs_thread end ≡ true → is_expiry end ≡ false
ran_still ends.Preempt some = refl
ran_still (ends.Call r) some = refl
ran_still (ends.Fault kind) some = refl
ran_still ends.Stuck some = refl
ran_still ends.Expire some = absurd (false≢true some)

-- one end has no thread
pub stuck_is : (end : End) → runs_thread end ≡ false → is_expiry end ≡ false → end ≡ ends.Stuck
stuck_is ends.Preempt e f = absurd (false≢true (sym e))
stuck_is (ends.Call r) e f = absurd (false≢true (sym e))
stuck_is (ends.Fault kind) e f = absurd (false≢true (sym e))
stuck_is ends.Stuck e f = refl
stuck_is ends.Expire e f = absurd (false≢true (sym f))

-- ---- the parts of a frame

-- how many plain steps a frame of so many instructions takes: the last instruction may be a call or a fault
abbrev pub plain_steps : End → ℕ → ℕ
plain_steps ends.Preempt count = count
plain_steps (ends.Call r) count = count - 1
plain_steps (ends.Fault kind) count = count - 1
plain_steps ends.Stuck count = 0
plain_steps ends.Expire count = 0

pub guest_end_is : (end : End) → IfSome (guest_end end) IsEnd
guest_end_is ends.Preempt = tt
guest_end_is (ends.Call r) = tt
guest_end_is (ends.Fault kind) = tt
guest_end_is ends.Stuck = tt
guest_end_is ends.Expire = tt

-- what the call of a frame does, if it ends in one
abbrev pub AnswersCall : Option CallRecord → ℕ → State → State → Type 0
AnswersCall None tid before after = after ≡ before
AnswersCall (Some r) tid before after =
    (called : State) × (answer : Answer) × CallsFrom before tid called × Calls called tid answer r after

-- what the end of a wait does, if it is over
abbrev pub expired_by : Bool → ℕ → State → State
expired_by true tid s = expired tid s
expired_by false tid s = s

-- a frame is plain steps, what its call does or the end of a wait, and what closes it
pub record FrameParts (end : End) (old : State) (tid count : ℕ) (new : State) : Type 0 where
  pub before : State
  pub steps : Steps (plain_steps end count) tid old before
  pub after : State
  pub answers : AnswersCall (call_in end) tid before after
  pub new_is : new ≡ closed_by (guest_end end) (expired_by (is_expiry end) tid after)

pub frame_parts : (end : End) (old : State) (tid count : ℕ) (new : State) → FrameStepBy end old tid count new →
    FrameParts end old tid count new
frame_parts ends.Preempt old tid count new p =
    record { before = p.last; steps = p.steps; after = p.last; answers = refl; new_is = p.new_is }
frame_parts (ends.Call r) old tid count new p = record {
  before = p.before;
  steps = p.steps;
  after = p.after;
  answers = (p.called, p.answer, p.calls, p.answered);
  new_is = p.new_is;
}
frame_parts (ends.Fault kind) old tid count new p =
    record { before = p.before; steps = p.steps; after = p.before; answers = refl; new_is = p.new_is }
frame_parts ends.Stuck old tid count new p = record { before = old; steps = refl; after = old; answers = refl; new_is = p.new_is }
frame_parts ends.Expire old tid count new p = record { before = old; steps = refl; after = old; answers = refl; new_is = p.new_is }

-- ---- frames of no thread

-- no thread ran, and the guest has ended
pub record HasNoThread (old : State) (tid count : ℕ) (new : State) : Type 0 where
  pub no_tid : tid ≡ 0
  pub no_step : count ≡ 0
  pub none_running : (t : ℕ) → IsRunning (thread_at old t) → ⊥
  pub none_timed : (t : ℕ) → IsTimed (thread_at old t) → ⊥
  pub ends_so : GuestEnd
  pub new_is : new ≡ closed_at_end ends_so old

pub no_thread : (end : End) (old : State) (tid count : ℕ) (new : State) → runs_thread end ≡ false → is_expiry end ≡ false →
    FrameStepBy end old tid count new → HasNoThread old tid count new
no_thread ends.Preempt old tid count new none still p = absurd (false≢true (sym none))
no_thread (ends.Call r) old tid count new none still p = absurd (false≢true (sym none))
no_thread (ends.Fault kind) old tid count new none still p = absurd (false≢true (sym none))
no_thread ends.Expire old tid count new none still p = absurd (false≢true (sym still))
no_thread ends.Stuck old tid count new none still p = record {
  no_tid = p.no_tid;
  no_step = p.no_step;
  none_running = p.none_running;
  none_timed = p.none_timed;
  ends_so = guest_ends.Stuck;
  new_is = p.new_is;
}

-- so if none runs, and none waits for a time, a frame of no thread ends the guest
pub rests : (end : End) (old : State) (tid count : ℕ) (new : State) → runs_thread end ≡ false → is_expiry end ≡ false → tid ≡ 0 →
    count ≡ 0 → ((t : ℕ) → IsRunning (thread_at old t) → ⊥) → ((t : ℕ) → IsTimed (thread_at old t) → ⊥) →
    new ≡ closed_by (guest_end end) old → FrameStepBy end old tid count new
rests ends.Preempt old tid count new none still no_tid no_step none_running none_timed new_is = absurd (false≢true (sym none))
rests (ends.Call r) old tid count new none still no_tid no_step none_running none_timed new_is = absurd (false≢true (sym none))
rests (ends.Fault kind) old tid count new none still no_tid no_step none_running none_timed new_is = absurd (false≢true (sym none))
rests ends.Expire old tid count new none still no_tid no_step none_running none_timed new_is = absurd (false≢true (sym still))
rests ends.Stuck old tid count new none still no_tid no_step none_running none_timed new_is = record {
  no_tid = no_tid;
  no_step = no_step;
  none_running = none_running;
  none_timed = none_timed;
  new_is = new_is;
}

-- ---- frames in which a wait ends

pub expires : (end : End) (old : State) (tid count : ℕ) (new : State) → is_expiry end ≡ true → FrameStepBy end old tid count new →
    Expires old tid count new
expires ends.Preempt old tid count new is p = absurd (false≢true is)
expires (ends.Call r) old tid count new is p = absurd (false≢true is)
expires (ends.Fault kind) old tid count new is p = absurd (false≢true is)
expires ends.Stuck old tid count new is p = absurd (false≢true is)
expires ends.Expire old tid count new is p = p

pub awakes : (end : End) (old : State) (tid count : ℕ) (new : State) → is_expiry end ≡ true → Expires old tid count new →
    FrameStepBy end old tid count new
awakes ends.Preempt old tid count new is p = absurd (false≢true is)
awakes (ends.Call r) old tid count new is p = absurd (false≢true is)
awakes (ends.Fault kind) old tid count new is p = absurd (false≢true is)
awakes ends.Stuck old tid count new is p = absurd (false≢true is)
awakes ends.Expire old tid count new is p = p

-- ---- inside a frame

pub steps_join : (n m tid : ℕ) (s mid last : State) → Steps n tid s mid → Steps m tid mid last → Steps (n + m) tid s last
steps_join zero m tid s mid last h k =
    let e : 0 + m ≡ m = omega arith in
    subst (λ i. Steps i tid s last) (sym e) (subst (λ (x : State). Steps m tid x last) h k)
steps_join (suc n) m tid s mid last h k =
    let e : suc n + m ≡ suc (n + m) = omega arith in
    subst (λ i. Steps i tid s last) (sym e) (h.0, h.1, steps_join n m tid h.0 mid last h.2 k)

steps_split : (n m tid : ℕ) (s last : State) → Steps (n + m) tid s last → (mid : State) × Steps n tid s mid × Steps m tid mid last
steps_split zero m tid s last h =
    let e : 0 + m ≡ m = omega arith in
    (s, refl, subst (λ i. Steps i tid s last) e h)
steps_split (suc n) m tid s last h =
    let e : suc n + m ≡ suc (n + m) = omega arith in
    let k : Steps (suc (n + m)) tid s last = subst (λ i. Steps i tid s last) e h in
    let behind = steps_split n m tid k.0 last k.2 in
    (behind.0, (k.0, k.1, behind.1), behind.2)

-- a frame that ends in a call, by other steps to the same place
call_ends : (s s' : State) (tid count count' : ℕ) (r : CallRecord) (new : State) (h : EndsInCall s tid count r new) → 1 ≤ count' →
    Steps (count' - 1) tid s' h.before → EndsInCall s' tid count' r new
call_ends s s' tid count count' r new h some steps = record {
  some = some;
  before = h.before;
  steps = steps;
  called = h.called;
  calls = h.calls;
  answer = h.answer;
  after = h.after;
  answered = h.answered;
  new_is = h.new_is;
}

-- so of one that ends in a fault
fault_ends : (s s' : State) (tid count count' : ℕ) (kind : FaultKind) (new : State) (h : EndsInFault s tid count kind new) → 1 ≤ count' →
    Steps (count' - 1) tid s' h.before → EndsInFault s' tid count' kind new
fault_ends s s' tid count count' kind new h some steps =
    record { some = some; before = h.before; steps = steps; faults = h.faults; new_is = h.new_is }

-- behind some of its steps a frame is one of the others
pub frame_split : (end : End) (s new : State) (tid count n : ℕ) → n < count → FrameStepBy end s tid count new →
    (mid : State) × Steps n tid s mid × FrameStepBy end mid tid (count - n) new
frame_split ends.Preempt s new tid count n below h =
    let sum : count ≡ n + (count - n) = omega arith in
    let both = steps_split n (count - n) tid s h.last (subst (λ i. Steps i tid s h.last) sum h.steps) in
    let by : Preempts both.0 tid (count - n) new = record { some = omega arith; last = h.last; steps = both.2; new_is = h.new_is } in
    (both.0, both.1, by)
frame_split (ends.Call r) s new tid count n below h =
    let sum : count - 1 ≡ n + (count - n - 1) = omega arith in
    let both = steps_split n (count - n - 1) tid s h.before (subst (λ i. Steps i tid s h.before) sum h.steps) in
    (both.0, both.1, call_ends s both.0 tid count (count - n) r new h (omega arith) both.2)
frame_split (ends.Fault kind) s new tid count n below h =
    let sum : count - 1 ≡ n + (count - n - 1) = omega arith in
    let both = steps_split n (count - n - 1) tid s h.before (subst (λ i. Steps i tid s h.before) sum h.steps) in
    (both.0, both.1, fault_ends s both.0 tid count (count - n) kind new h (omega arith) both.2)
frame_split ends.Stuck s new tid count n below h = absurd (omega (arith, h.no_step))
frame_split ends.Expire s new tid count n below h = absurd (omega (arith, h.no_step))

pub frame_join : (end : End) (s mid new : State) (tid count n : ℕ) → n < count → Steps n tid s mid →
    FrameStepBy end mid tid (count - n) new → FrameStepBy end s tid count new
frame_join ends.Preempt s mid new tid count n below some h =
    let sum : n + (count - n) ≡ count = omega arith in
    let by : Preempts s tid count new =
    record {
      some = omega arith;
      last = h.last;
      steps = subst (λ i. Steps i tid s h.last) sum (steps_join n (count - n) tid s mid h.last some h.steps);
      new_is = h.new_is;
    } in
    by
frame_join (ends.Call r) s mid new tid count n below some h =
    let sum : n + (count - n - 1) ≡ count - 1 = omega arith in
    let all = subst (λ i. Steps i tid s h.before) sum (steps_join n (count - n - 1) tid s mid h.before some h.steps) in
    call_ends mid s tid (count - n) count r new h (omega arith) all
frame_join (ends.Fault kind) s mid new tid count n below some h =
    let sum : n + (count - n - 1) ≡ count - 1 = omega arith in
    let all = subst (λ i. Steps i tid s h.before) sum (steps_join n (count - n - 1) tid s mid h.before some h.steps) in
    fault_ends mid s tid (count - n) count kind new h (omega arith) all
frame_join ends.Stuck s mid new tid count n below some h = absurd (omega (arith, h.no_step))
frame_join ends.Expire s mid new tid count n below some h = absurd (omega (arith, h.no_step))

-- ---- output

-- a frame that leads on puts something out
pub puts_some : (end : End) (s new : State) (f : Frame) → FrameStepBy end s f.tid f.count new →
    (chunks : List Chunk) × FramePuts s f end chunks
puts_some ends.Preempt s new f p = ([], refl)
puts_some (ends.Call r) s new f p = (put_out_by (thread_at p.before f.tid) p.before.memory r.result, (p.before, p.steps, refl))
puts_some (ends.Fault kind) s new f p = ([], refl)
puts_some ends.Stuck s new f p = ([], refl)
puts_some ends.Expire s new f p = ([], refl)
