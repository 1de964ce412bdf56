-- How the refusals of the layers below are told.
use Rattle.std.specs.Prelude.{◌≡◌, ℕ, List, string_bytes}
use Rattle.copying.specs.declared.fault.CopyFault.{CopyFault}
use Rattle.copying.specs.declared.fault.CopyFault.TheVariants as copy_faults
use Rattle.elf_load.specs.declared.fault.ElfFault.{ElfFault}
use Rattle.elf_load.specs.declared.fault.ElfFault.TheVariants as elf_faults
use Rattle.recover.specs.declared.fault.OpenFault.{OpenFault}
use Rattle.recover.specs.declared.fault.OpenFault.TheVariants as open_faults
use Rattle.recover.specs.declared.fault.ReadFault.{ReadFault}
use Rattle.recover.specs.declared.fault.ReadFault.TheVariants as read_faults
use Rattle.faults.specs.declared.replay.OutputFault.{OutputFault}
use Rattle.faults.specs.declared.replay.OutputFault.TheVariants as output_faults
use Rattle.faults.specs.declared.replay.VerifyFault.{VerifyFault}
use Rattle.faults.specs.declared.replay.VerifyFault.TheVariants as verify_faults
use Rattle.faults.specs.declared.seek.SeekFault.{SeekFault}
use Rattle.faults.specs.declared.seek.SeekFault.TheVariants as seek_faults
use Rattle.faults.specs.declared.session.SessionFault.{SessionFault}
use Rattle.faults.specs.declared.session.SessionFault.TheVariants as session_faults
use Rattle.trace_disk.specs.declared.file_disk.CreateFault.{CreateFault}
use Rattle.trace_disk.specs.declared.file_disk.CreateFault.TheVariants as create_faults
use Rattle.trace_log.specs.declared.log.LogFault.{LogFault}
use Rattle.trace_log.specs.declared.log.LogFault.TheVariants as log_faults
use Rattle.line_io.specs.declared.file_fault.FileFault.{FileFault}
use Rattle.line_io.specs.declared.file_fault.FileFault.TheVariants as file_faults
use Rattle.line_io.specs.declared.refusal.Refusal.{Refusal}
use Rattle.line_io.specs.declared.refusal.Refusal.TheVariants as refusals

abbrev pub create_told : CreateFault → Refusal
create_told create_faults.CannotOpen = refusals.CannotOpenStore
create_told create_faults.DeviceFailed = refusals.DeviceFailed

abbrev pub open_told : OpenFault → Refusal
open_told open_faults.DeviceFailed = refusals.DeviceFailed
open_told open_faults.Memory = refusals.Memory
open_told fault = refusals.Open fault

abbrev pub session_told : SessionFault → Refusal
session_told session_faults.DeviceFailed = refusals.DeviceFailed
session_told session_faults.Memory = refusals.Memory
session_told (session_faults.SinkFailed guest) = refusals.OutputFailed
session_told fault = refusals.Session fault

-- of a body that was to be committed
abbrev pub log_told : LogFault → Refusal
log_told log_faults.Memory = refusals.Memory
log_told log_faults.TooLong = refusals.Session session_faults.StoreFull
log_told fault = refusals.DeviceFailed

abbrev pub seek_told : SeekFault → Refusal
seek_told seek_faults.Memory = refusals.Memory
seek_told fault = refusals.Seek fault

abbrev pub output_told : OutputFault → Refusal
output_told output_faults.SinkFailed = refusals.OutputFailed
output_told output_faults.Memory = refusals.Memory

-- of output whose reader went away
abbrev pub gone_told : Refusal → Refusal
gone_told refusals.OutputFailed = refusals.ReaderGone
gone_told refusal = refusal

-- of a guest's record
abbrev pub read_told : ℕ → ReadFault → Refusal
read_told index read_faults.DeviceFailed = refusals.DeviceFailed
read_told index read_faults.Damaged = refusals.Verify (verify_faults.Unreadable index)
read_told index read_faults.Memory = refusals.Memory

-- of a guest that was to be copied
abbrev pub copy_told : CopyFault → Refusal
copy_told (copy_faults.Unread index fault) = read_told index fault
copy_told copy_faults.DeviceFailed = refusals.DeviceFailed
copy_told copy_faults.Memory = refusals.Memory
copy_told fault = refusals.Copy fault

abbrev pub verify_told : VerifyFault → Refusal
verify_told verify_faults.Memory = refusals.Memory
verify_told fault = refusals.Verify fault

-- of a guest's file
abbrev pub elf_told : ℕ → ElfFault → Refusal
elf_told guest elf_faults.Memory = refusals.Memory
elf_told guest fault = refusals.Elf guest fault

-- of a file of a recording; if it is a program, then of this guest
abbrev pub file_told : ℕ → FileFault → Refusal
file_told guest (file_faults.Unread kind) = refusals.CannotReadFile
file_told guest (file_faults.TooLong most) = refusals.CannotReadFile
file_told guest (file_faults.NoProgram fault target) = elf_told guest fault
file_told guest file_faults.Memory = refusals.Memory

-- so, or in words, by its name and this fault
abbrev pub IsInWords : ℕ → (name : List ℕ) → FileFault → Refusal → Type 0
IsInWords guest name fault (refusals.InWords first file why) =
    (first ≡ record { guest = guest; fault = fault }) × (string_bytes file ≡ name) × (why ≡ fault)
IsInWords guest name fault refusal = refusal ≡ file_told guest fault

-- of a file that is to be checked, by its name; or there was no memory for that
abbrev pub IsChecked : (name : List ℕ) → FileFault → Refusal → Type 0
IsChecked name fault (refusals.BadFile file why) = (string_bytes file ≡ name) × (why ≡ fault)
IsChecked name fault refusal = refusal ≡ refusals.Memory
