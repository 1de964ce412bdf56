-- What is read of the guest that is copied.
use Rattle.std.specs.Prelude.{◌≡◌, ◌≢◌, ◌≤◌, ◌<◌, ◌+◌, ℕ, Bool, false, List, length, take, drop, slice_get, Some}
use Rattle.store_model.specs.declared.limits.TheConstants.{MAX_BODY}
use Rattle.rrv_model.specs.declared.limits.TheConstants.{BATCH_ITEMS}
use Rattle.rrv_model.specs.declared.record.Record.{Record}
use Rattle.rrv_model.specs.RecordText.{HasText}
use Rattle.rrv_model.specs.Recovered.{body_text, of_guest, AreOld, OpensAtZero}
use Rattle.recover.specs.declared.spot.Spot.{Spot}
use Rattle.recover.specs.declared.fault.ReadFault.TheVariants as reads
use Rattle.recover.specs.Spots.{records_of, StandOn}
use Rattle.trace_disk.specs.Devices.{Device}
use Rattle.copying.specs.declared.fault.CopyFault.{CopyFault}
use Rattle.copying.specs.declared.fault.CopyFault.TheVariants as faults
use Rattle.copying.specs.Copied.{copies_of, AreCopies}

-- A record of this number and this index, with an opening at 0 alone and with a text. On an honest disk it is the guest's, under this number.
pub record IsReadAs {S : Type 0} (device : Device S) (source : S) (spots : List Spot) (guest index number : ℕ)
    (r : Record) : Type 0 where
  pub guest_is : r.guest ≡ number
  pub index_is : r.index ≡ index
  pub opens : OpensAtZero r
  pub text : HasText r
  pub read : StandOn device.honest device.state source spots → slice_get (copies_of number guest spots) index ≡ Some r

-- The body is the text of so many records of this number, by their indexes from one on, all of old items before the Mark. On an honest
-- disk they are the guest's, under this number.
pub record IsNextBody {S : Type 0} (device : Device S) (source : S) (spots : List Spot) (guest from number : ℕ) (marked : Bool)
    (body : List ℕ) (count : ℕ) : Type 0 where
  pub batch : List Record
  pub some : 1 ≤ count
  pub few : count ≤ BATCH_ITEMS
  pub within : from + count ≤ length (of_guest guest (records_of spots))
  pub count_is : length batch ≡ count
  pub body_is : body ≡ body_text batch
  pub fits : length body ≤ MAX_BODY
  pub are : AreCopies marked number from batch
  pub read : StandOn device.honest device.state source spots
      → batch ≡ take count (drop from (copies_of number guest spots))

-- a record from one on, of as many as fit into a body, could not be read, or needs the Mark; or a growth was refused
abbrev pub IsReadFault : (from : ℕ) → (marked : Bool) → CopyFault → Type 0
IsReadFault from marked (faults.Unread index fault) = (from ≤ index) × (index < from + BATCH_ITEMS)
IsReadFault from marked faults.NeedsMark = marked ≡ false
IsReadFault from marked faults.Memory = Unit {0}
IsReadFault from marked _ = ⊥

-- the Mark isn't there, and some of these records stand behind it alone
abbrev pub NeedsMark : CopyFault → (marked : Bool) → List Record → Type 0
NeedsMark faults.NeedsMark marked records = (marked ≡ false) × (AreOld records → ⊥)
NeedsMark _ marked records = Unit {0}

-- no record is damaged
abbrev pub IsUndamaged : CopyFault → Type 0
IsUndamaged (faults.Unread index fault) = fault ≢ reads.Damaged
IsUndamaged _ = Unit {0}
