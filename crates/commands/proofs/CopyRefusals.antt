-- Why a guest is not copied.
use Rattle.std.proofs.Common.{◌≡◌, ◌<◌, List, inl, inr, refl, subst, sym}
use Rattle.rrv_model.specs.declared.limits.TheConstants.{MAX_NUMBER}
use Rattle.rrv_model.specs.declared.record.Record.{Record}
use Rattle.recover.specs.declared.fault.ReadFault.TheVariants as reads
use Rattle.trace_log.specs.Kept.{LogValue}
use Rattle.copying.specs.Copied.{IsFull}
use Rattle.copying.specs.Reading.{IsUndamaged, NeedsMark}
use Rattle.copying.specs.declared.fault.CopyFault.{CopyFault}
use Rattle.copying.specs.declared.fault.CopyFault.TheVariants as faults
use Rattle.line_io.specs.declared.refusal.Refusal.{Refusal}
use Rattle.line_io.specs.Stores.{IsFailed}
use Rattle.line_io.specs.Told.{copy_told}
use Rattle.commands.specs.CopyRefusals.{RefusesCopy}

-- as the fault of the copy is told
pub copy_refused : {D : Type 0} (copies : List Record) (old new : LogValue D) (fault : CopyFault) →
    (fault ≡ faults.TooManyGuests → MAX_NUMBER < old.next_guest) → (fault ≡ faults.StoreFull → IsFull new) → IsUndamaged fault →
    NeedsMark fault old.marked copies → RefusesCopy copies old new (copy_told fault)
copy_refused copies old new (faults.Unread index reads.DeviceFailed) many full undamaged needs = tt
copy_refused copies old new (faults.Unread index reads.Damaged) many full undamaged needs = absurd (undamaged refl)
copy_refused copies old new (faults.Unread index reads.Memory) many full undamaged needs = tt
copy_refused copies old new faults.DeviceFailed many full undamaged needs = tt
copy_refused copies old new faults.StoreFull many full undamaged needs = full refl
copy_refused copies old new faults.NeedsMark many full undamaged needs = needs
copy_refused copies old new faults.TooManyGuests many full undamaged needs = many refl
copy_refused copies old new faults.Memory many full undamaged needs = tt

-- as what a name is read of fails
pub name_refused : {D : Type 0} (copies : List Record) (old new : LogValue D) (e : Refusal) → IsFailed e → RefusesCopy copies old new e
name_refused copies old new e (inl is) = subst (λ (x : Refusal). RefusesCopy copies old new x) (sym is) tt
name_refused copies old new e (inr is) = subst (λ (x : Refusal). RefusesCopy copies old new x) (sym is) tt
