-- What is told of a guest whose records are not verified.
use Rattle.std.proofs.Common.{◌≡◌, ◌≤◌, List, length, Result, Ok, Err, IfErr, sym, subst}
use Rattle.faults.specs.declared.replay.VerifyFault.{VerifyFault}
use Rattle.faults.specs.declared.replay.VerifyFault.TheVariants as verify_faults
use Rattle.rrv_model.specs.declared.record.Record.{Record}
use Rattle.replayer.specs.Sourced.{RefusesSource}
use Rattle.line_io.specs.declared.refusal.Refusal.{Refusal}
use Rattle.line_io.specs.Told.{verify_told}
use Rattle.stored_guests.specs.Guests.{RefusesGuest}

source_refused : (e : Refusal) (fault : VerifyFault) (records : List Record) → 1 ≤ length records → e ≡ verify_told fault →
    RefusesSource fault records → RefusesGuest e records
source_refused e verify_faults.BadOpening records some is refuses = subst (λ (r : Refusal). RefusesGuest r records) (sym is) (some, refuses)
source_refused e (verify_faults.Mismatch index) records some is refuses =
    subst (λ (r : Refusal). RefusesGuest r records) (sym is) (some, refuses)
source_refused e (verify_faults.BadCheckpoint index) records some is refuses =
    subst (λ (r : Refusal). RefusesGuest r records) (sym is) (some, refuses)
source_refused e verify_faults.Memory records some is refuses = subst (λ (r : Refusal). RefusesGuest r records) (sym is) refuses
source_refused e (verify_faults.Unreadable index) records some is refuses =
    subst (λ (r : Refusal). RefusesGuest r records) (sym is) (some, refuses)

-- a verification is refused as its source's is
pub guest_refused : {T : Type 0} (result : Result T Refusal) (records : List Record) → 1 ≤ length records →
    IfErr result (λ e. (fault : VerifyFault) × (e ≡ verify_told fault) × RefusesSource fault records)
    → IfErr result (λ e. RefusesGuest e records)
guest_refused (Ok x) records some refused = tt
guest_refused (Err e) records some refused = source_refused e refused.0 records some refused.1 refused.2
