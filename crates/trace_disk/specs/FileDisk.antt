-- What is told of a disk in a file.
use Rattle.std.specs.Prelude.{◌≡◌, ℕ, true, false, Result, IsErr}
use Rattle.outcomes.specs.Failures.{IsCounted}
use Rattle.trace_disk.specs.declared.file_disk.HostFile.{HostFile}

-- a file that was just opened, or made with no bytes
abbrev pub opened_file : ℕ → HostFile
opened_file size = record { size = size; faults = 0; is_broken = false; is_read_only = false }

-- a file that was just opened to be read alone
abbrev pub file_to_read : ℕ → HostFile
file_to_read size = record (opened_file size) { is_read_only = true }

-- One call: it is counted if it fails, and after a failed sync it does.
pub record IsFileCall {T E : Type 0} (old new : HostFile) (result : Result T E) : Type 0 where
  pub counted : IsCounted result old.faults new.faults
  pub broken : old.is_broken ≡ true → IsErr result

-- One call that only reads the file.
pub record IsFileRead {T E : Type 0} (old new : HostFile) (result : Result T E) : Type 0 where
  pub call : IsFileCall old new result
  pub size : new.size ≡ old.size
  pub broken : new.is_broken ≡ old.is_broken
  pub access : new.is_read_only ≡ old.is_read_only

-- One call that may change the file: it fails if the file is read alone.
pub record IsFileChange {T E : Type 0} (old new : HostFile) (result : Result T E) : Type 0 where
  pub call : IsFileCall old new result
  pub refused : old.is_read_only ≡ true → IsErr result
  pub access : new.is_read_only ≡ old.is_read_only

-- One call that changes the file and syncs nothing.
pub record IsFileEdit {T E : Type 0} (old new : HostFile) (result : Result T E) : Type 0 where
  pub change : IsFileChange old new result
  pub broken : new.is_broken ≡ old.is_broken
