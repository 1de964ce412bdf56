-- What following a frame does to a guest.
use Rattle.std.specs.Prelude.{◌≡◌, ℕ, IfSome, OnOk, Result}
use Rattle.rrv_model.specs.declared.record.End.{End}
use Rattle.rrv_model.specs.Ends.{call_in}
use Rattle.rrv_model.specs.Output.{CallPutsAt}
use Rattle.guest_calls.specs.Guest.{GuestValue, chunks_of, counted, state_of}
use Rattle.guest_calls.specs.Snapshots.{guest_snapshots}
use Rattle.serial_sched.specs.declared.fault.FollowFault.{FollowFault}
use Rattle.serial_sched.specs.Follows.{Follows}
use Rattle.serial_sched.specs.Slices.{KeepsPut}

-- so many more instructions of a guest are counted, and what its last call put out stays; so do its snapshots, also after
-- a refusal
pub record CountsSteps {T E : Type 0} (result : Result T E) (count : ℕ) (old new : GuestValue) : Type 0 where
  pub ran : OnOk result (new.ran ≡ counted old.ran count)
  pub put : OnOk result (new.put ≡ old.put)
  pub snapshots : guest_snapshots new ≡ guest_snapshots old

-- what following a frame of such an end comes to, of a guest: its instructions are counted, and only a call puts out; its
-- snapshots stay, also after a refusal
pub record FollowsEnd {T : Type 0} (end : End) (old : GuestValue) (tid count : ℕ)
    (result : Result T FollowFault) (new : GuestValue) : Type 0 where
  pub follows : Follows end (state_of old) tid count result (state_of new)
  pub puts : OnOk result (IfSome (call_in end) (λ r. CallPutsAt (state_of old) tid count r.result (chunks_of new.put)))
  pub keeps : OnOk result (KeepsPut end old.put new.put)
  pub ran : OnOk result (new.ran ≡ counted old.ran count)
  pub snapshots : guest_snapshots new ≡ guest_snapshots old
