-- Which frames look at the environment, and what they are answered.
use Rattle.std.specs.Prelude.{◌≡◌, ℕ, IsSomeAnd, MatchOption}
use Rattle.rrv_model.specs.declared.record.CallRecord.{CallRecord}
use Rattle.rrv_model.specs.declared.record.End.{End}
use Rattle.rrv_model.specs.State.{State, thread_at}
use Rattle.rrv_model.specs.Calls.{Answer}
use Rattle.rrv_model.specs.Ends.{call_in}
use Rattle.guest_calls.specs.Asking.{Question, CallAsks, CallIsAnswered}
use Rattle.serial_sched.specs.Follows.{ReachesCall}

-- the last of so many instructions is a call that looks at the environment
pub record CallAsksAt (old : State) (tid count : ℕ) : Type 0 where
  pub called : State
  pub reaches : ReachesCall count tid old called
  pub asks : CallAsks called tid (thread_at called tid)

-- only a frame that ends in a call looks at the environment, where its call does
abbrev pub FrameAsks : End → State → ℕ → ℕ → Type 0
FrameAsks end old tid count = IsSomeAnd (call_in end) (λ _. CallAsksAt old tid count)

-- how an environment goes, asked a question, from one state of its own to the next with an answer
abbrev pub Gives : Type 0 → Type 1
Gives O = O → Question → Answer → O → Type 0

-- the last of so many instructions is a call, whose record is that of an answer that the environment gave
pub record CallIsAnsweredAt {O : Type 0} (gives : Gives O) (old : State) (tid count : ℕ) (r : CallRecord)
    (before after : O) : Type 0 where
  pub called : State
  pub reaches : ReachesCall count tid old called
  pub answered : CallIsAnswered gives called tid (thread_at called tid) r before after

-- so is the call that a frame ends in; a frame that ends in none leaves the environment as it was
abbrev pub FrameIsAnswered : {O : Type 0} → Gives O → End → State → ℕ → ℕ → O → O → Type 0
FrameIsAnswered gives end old tid count before after =
    MatchOption (call_in end) (after ≡ before) (λ r. CallIsAnsweredAt gives old tid count r before after)
