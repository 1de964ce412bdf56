-- A disk that is only read, and what is told where it isn't.
use Rattle.std.proofs.Common.{◌≡◌, ◌≢◌, inl, inr, ℕ, List, refl, sym, ◌∙◌, ap, subst}
use Rattle.store_model.specs.CrashModel.{DiskState}
use Rattle.recover.specs.declared.fault.ReadFault.{ReadFault}
use Rattle.recover.specs.declared.fault.ReadFault.TheVariants as disk_faults
use Rattle.recover.specs.declared.fault.OpenFault.{OpenFault}
use Rattle.recover.specs.declared.spot.Spot.{Spot}
use Rattle.recover.specs.Opened.{IsFailure}
use Rattle.recover.specs.Spots.{StandIn, StandOn}
use Rattle.line_io.specs.declared.refusal.Refusal.{Refusal}
use Rattle.line_io.specs.Stores.{IsFailed}
use Rattle.line_io.specs.Told.{open_told, read_told}

-- a disk that was only read
pub still_on : {D : Type 0} (honest : D → Type 0) (state : D → DiskState) (old new : D) (spots : List Spot) →
    (honest old → state new ≡ state old) → (honest old → honest new) → StandOn honest state old spots
    → StandOn honest state new spots
still_on honest state old new spots same still on = record {
  is_honest = still on.is_honest;
  stand = subst (λ (s : DiskState). StandIn s.content spots) (sym (same on.is_honest)) on.stand;
}

-- a record that stands there is refused for the device or for memory alone
pub read_failed : (e : Refusal) (index : ℕ) (fault : ReadFault) → e ≡ read_told index fault → fault ≢ disk_faults.Damaged → IsFailed e
read_failed e index disk_faults.DeviceFailed is other = inl is
read_failed e index disk_faults.Damaged is other = absurd (other refl)
read_failed e index disk_faults.Memory is other = inr is

-- a store that was not opened, or not read
pub failure_told : (e : Refusal) (fault : OpenFault) → e ≡ open_told fault → IsFailure fault → IsFailed e
failure_told e fault is failure = elim failure [
  | inl device ↦ inl (is ∙ ap open_told device)
  | inr memory ↦ inr (is ∙ ap open_told memory)
]
