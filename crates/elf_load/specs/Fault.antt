-- The faults by their numbers.
use Rattle.std.specs.Prelude.{ℕ, List, ◌++◌, codes}
use Rattle.std.specs.Fmt.{decimal}
use Rattle.elf_load.specs.declared.fault.ElfFault.{ElfFault}
use Rattle.elf_load.specs.declared.fault.ElfFault.TheVariants.{TooShort, NotElf, NotClass32, NotLittle, NotExec, NotRiscV, Compressed, BadTable, Interp, OutsideFile, SizesCrossed, AddressRange, Overlap, TooLarge, NoLoad, Memory}

-- a fault's number; those from 1 to 15 are the refusals of a file
abbrev pub refusal_number : ElfFault → ℕ
refusal_number TooShort = 1
refusal_number NotElf = 2
refusal_number NotClass32 = 3
refusal_number NotLittle = 4
refusal_number NotExec = 5
refusal_number NotRiscV = 6
refusal_number Compressed = 7
refusal_number BadTable = 8
refusal_number Interp = 9
refusal_number OutsideFile = 10
refusal_number SizesCrossed = 11
refusal_number AddressRange = 12
refusal_number Overlap = 13
refusal_number TooLarge = 14
refusal_number NoLoad = 15
refusal_number Memory = 16

-- a fault's text: a refusal is told by its number
abbrev pub text_of : ElfFault → List ℕ
text_of Memory = codes "out of memory"
text_of fault = codes "elf refusal " ++ decimal (refusal_number fault)
