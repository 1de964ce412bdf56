-- What a call leaves, by its row.
use Rattle.std.specs.Prelude.{◌≡◌, ◌*◌, ℕ, Bool, IsTrue, IsFalse, List, [], ◌∷◌, Result, IfOk, OnErr, OnOk}
use Rattle.page_permissions.specs.declared.page.Permissions.{Permissions}
use Rattle.rrv_model.specs.declared.machine.Thread.{Thread}
use Rattle.rrv_model.specs.declared.record.CallRecord.{CallRecord}
use Rattle.rrv_model.specs.declared.refusal.Memory.{Memory}
use Rattle.rrv_model.specs.Memory.{Memory as GuestMemory, mapped, page_bytes}
use Rattle.rrv_model.specs.State.{State}
use Rattle.rrv_model.specs.CallRows.{Row, NoResult, leaves, range, wakes}
use Rattle.rrv_model.specs.Calls.{Answer, Silence, Calls, HasRecord, after_call}
use Rattle.rrv_model.specs.RecordText.{HasCallText}
use Rattle.rrv_model.specs.Output.{Chunk}
use Rattle.guest_pages.specs.Space.{snapshots_of}
use Rattle.guest_calls.specs.Guest.{GuestValue, chunks_of, state_of}
use Rattle.guest_calls.specs.Asking.{IsAnswered, Question}

-- a guest's counters and snapshots stay
pub record KeepsRest (old new : GuestValue) : Type 0 where
  pub ran : new.ran ≡ old.ran
  pub ran_before_call : new.ran_before_call ≡ old.ran_before_call
  pub snapshots : snapshots_of new.space ≡ snapshots_of old.space

-- a guest's state is this now, and all else that shows of it is as before
pub record Becomes (after : State) (old new : GuestValue) : Type 0 where
  pub state : state_of new ≡ after
  pub keeps : KeepsRest old new
  pub put : new.put ≡ old.put

-- so it is unless the change is refused, which changes nothing
pub record BecomesOrStays {T E : Type 0} (result : Result T E) (after : State) (old new : GuestValue) : Type 0 where
  pub state : OnOk result (state_of new ≡ after)
  pub refused : OnErr result (new ≡ old)
  pub keeps : KeepsRest old new
  pub put : new.put ≡ old.put

-- so it is if a change of it is done, and else nothing has changed
pub record BecomesIf (done : Bool) (after : State) (old new : GuestValue) : Type 0 where
  pub state : IsTrue done → state_of new ≡ after
  pub refused : IsFalse done → new ≡ old
  pub keeps : KeepsRest old new

-- over the steps of a thread a guest keeps its snapshots, and what its last call put out
pub record KeepsOverSteps (old new : GuestValue) : Type 0 where
  pub snapshots : snapshots_of new.space ≡ snapshots_of old.space
  pub put : new.put ≡ old.put

-- of all that shows of a guest, only its snapshots change
pub record KeepsAllButSnapshots (old new : GuestValue) : Type 0 where
  pub state : state_of new ≡ state_of old
  pub ran : new.ran ≡ old.ran
  pub ran_before_call : new.ran_before_call ≡ old.ran_before_call
  pub put : new.put ≡ old.put

-- the row, which asks nothing, leads from one state to the next, with this record
pub record Carries (row : Row) (tid : ℕ) (old : State) (r : CallRecord) (new : State) : Type 0 where
  pub records : HasRecord row Silence r
  pub leaves : new ≡ after_call row tid r old

-- so of a guest: the record has a text, the call put these chunks out, and the rest stays
pub record Makes (row : Row) (chunks : List Chunk) (tid : ℕ)
    (old : GuestValue) (r : CallRecord) (new : GuestValue) : Type 0 where
  pub carries : Carries row tid (state_of old) r (state_of new)
  pub text : HasCallText r
  pub puts : chunks_of new.put ≡ chunks
  pub keeps : KeepsRest old new

-- what a call that asks nothing comes to, by its row and by what it puts out with a result; or it finds no memory, where it
-- may take some, and nothing has changed
pub record MakesOrStays (row : Row) (puts : ℕ → List Chunk) (MayTakeMemory : Type 0) (tid : ℕ)
    (old : GuestValue) (result : Result CallRecord Memory) (new : GuestValue) : Type 0 where
  pub makes : IfOk result (λ r. Makes row (puts r.result) tid old r new)
  pub memory : OnErr result MayTakeMemory
  pub refused : OnErr result (new ≡ old)

-- an exit that clears a word and wakes a thread
abbrev pub clearing_row : (clear tid status : ℕ) → Row
clearing_row clear tid status = NoResult (range clear (0 ∷ 0 ∷ 0 ∷ 0 ∷ [])) (λ s. leaves tid status (wakes clear 1 s))

-- so many pages from a page on, of zeros, in place of what was there
abbrev pub pages_mapped : (page count : ℕ) → Permissions → GuestMemory → GuestMemory
pages_mapped page count permissions m = mapped (page * page_bytes) (count * page_bytes) permissions m

-- what a thread's call comes to, by its row, which may ask the environment, and by what it puts out with a result; or it
-- finds no memory, where it may take some, and nothing has changed, and nobody was asked
pub record ComesTo {O : Type 0} (gives : O → Question → Answer → O → Type 0) (row : Row) (puts : ℕ → List Chunk)
    (MayTakeMemory : Type 0) (tid : ℕ) (t : Thread)
    (old : GuestValue) (result : Result CallRecord Memory) (new : GuestValue) (before after : O) : Type 0 where
  pub answered : IfOk result (λ r. IsAnswered gives row t r before after)
  pub leaves : IfOk result (λ r. state_of new ≡ after_call row tid r (state_of old))
  pub text : IfOk result HasCallText
  pub puts_out : IfOk result (λ r. chunks_of new.put ≡ puts r.result)
  pub keeps : KeepsRest old new
  pub memory : OnErr result MayTakeMemory
  pub refused : OnErr result ((new ≡ old) × (after ≡ before))

-- some answer of the outside leads there
abbrev pub CallDoes : State → ℕ → CallRecord → State → Type 0
CallDoes old tid r new = (answer : Answer) × Calls old tid answer r new
