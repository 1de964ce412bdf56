-- Files from which no guest starts.
use Rattle.std.proofs.Common.{◌≡◌, List, length, None, arith}
use Rattle.rrv_model.specs.declared.record.Opening.{Opening}
use Rattle.rrv_model.specs.Elf.{refusal}
use Rattle.rrv_model.specs.Opening.{IsName}
use Rattle.elf_load.proofs.Accepted.{accepted, file_limit}
use Rattle.guest_calls.specs.declared.fault.OpeningFault.{OpeningFault}
use Rattle.guest_calls.specs.declared.fault.OpeningFault.TheVariants as faults
use Rattle.guest_calls.specs.Openings.{RefusesFile, RefusesOpening}

-- no guest starts from an opening whose file is refused
pub file_refused : (e : OpeningFault) (o : Opening) → RefusesFile e o.name o.elf → RefusesOpening e o
file_refused faults.BadOpening o refuses = λ s opens. refuses opens.is_name opens.accepted
file_refused faults.Memory o refuses = refuses

-- only want of memory is left of an opening whose name and file are accepted
pub memory_refused : (o : Opening) → IsName o.name → refusal o.elf ≡ None → RefusesOpening faults.Memory o
memory_refused o named none = (named, (λ n low is. cc), omega (arith, file_limit o.elf (accepted o.elf none)))
