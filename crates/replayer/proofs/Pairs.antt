-- What a guest keeps of its base, and what the parts that are made of it describe.
use Rattle.std.proofs.Common.{◌≡◌, ℕ, List, Option, Some, None, is_some, sym, ◌∙◌, ap, subst}
use Rattle.std.specs.Prelude.{IfSome, IsSome}
use Rattle.rrv_model.specs.declared.record.Frame.{Frame}
use Rattle.rrv_model.specs.declared.record.Part.{Part}
use Rattle.rrv_model.specs.Checkpoint.{Describes}
use Rattle.rrv_model.specs.FrameStep.{FrameStep}
use Rattle.rrv_model.specs.Memory.{Memory}
use Rattle.rrv_model.specs.State.{State, IsState}
use Rattle.rrv_model.proofs.FrameStays.{opening_break_stays, version_stays}
use Rattle.guest_calls.specs.Guest.{GuestValue, state_of}
use Rattle.guest_calls.specs.Snapshots.{guest_snapshots}
use Rattle.checkpoint.specs.Made.{IsBaseOf, kept_memory, memory_or_none}
use Rattle.replayer.specs.Pairs.{KeepsBase}

-- a guest keeps its memory as it is, and the base is in the same state
pub keeps_new : (kept : Option ℕ) (old guest base : GuestValue) →
    IfSome kept (λ token. guest_snapshots guest token ≡ Some (state_of old).memory) → state_of guest ≡ state_of old →
    state_of old ≡ state_of base → IfSome kept (KeepsBase guest base)
keeps_new None old guest base kept same is = kept
keeps_new (Some token) old guest base kept same is = record {
  memory = kept ∙ ap (λ (s : State). Some s.memory) is;
  version = sym (ap (λ (s : State). s.version) (same ∙ is));
  opening_break = sym (ap (λ (s : State). s.opening_break) (same ∙ is));
}

-- behind a frame it still does
pub keeps_behind : (kept : Option ℕ) (old new base : GuestValue) (f : Frame) → IfSome kept (KeepsBase old base) →
    guest_snapshots new ≡ guest_snapshots old → FrameStep (state_of old) f (state_of new) → IfSome kept (KeepsBase new base)
keeps_behind None old new base f h same step = h
keeps_behind (Some token) old new base f h same step = record {
  memory = (λ i. same i token) ∙ h.memory;
  version = h.version ∙ sym (version_stays (state_of old) f (state_of new) step);
  opening_break = h.opening_break ∙ sym (opening_break_stays (state_of old) f (state_of new) step);
}

pub some_kept : (o : Option Memory) (m : Memory) → o ≡ Some m → IsSome o
some_kept o m is = ap is_some is

-- what it keeps is there
pub are_kept : (kept : Option ℕ) (guest base : GuestValue) → IfSome kept (KeepsBase guest base) →
    IfSome kept (λ token. IsSome (guest_snapshots guest token))
are_kept None guest base h = h
are_kept (Some token) guest base h = some_kept (guest_snapshots guest token) (state_of base).memory h.memory

pub is_kept : (kept : Option ℕ) (guest base : GuestValue) (token : ℕ) → kept ≡ Some token → IfSome kept (KeepsBase guest base) →
    KeepsBase guest base token
is_kept kept guest base token is h = subst (λ (k : Option ℕ). IfSome k (KeepsBase guest base)) is h

-- parts that are those that are made of a guest against its base's memory describe its state against the base's
pub made_describes : (guest base : GuestValue) (token : ℕ) (made parts : List Part) → KeepsBase guest base token →
    IsState (state_of base) → (state_of guest).ended ≡ None → (state_of guest).reservation ≡ None →
    ((old : State) → IsBaseOf (kept_memory guest token) old (state_of guest) → Describes old made (state_of guest)) → made ≡ parts →
    Describes (state_of base) parts (state_of guest)
made_describes guest base token made parts keeps is_state ended closed describes same =
    subst (λ (ps : List Part). Describes (state_of base) ps (state_of guest)) same
    (describes (state_of base) (record {
      is_state = is_state;
      memory = ap memory_or_none keeps.memory;
      version = keeps.version;
      opening_break = keeps.opening_break;
      reservation = closed;
      ended = ended;
    }))
