-- What an image keeps beside the bytes of its file.
use Rattle.std.specs.Prelude.{◌≡◌, ℕ, List, None}
use Rattle.rrv_model.specs.Elf.{Header, loads, refusal, elf_entry, elf_phnum}
use Rattle.rrv_model.specs.Opening.{headers_address, image_break}

-- the file is accepted, and the other values are what the definitions give for it
pub record IsImage (file : List ℕ) (kept_loads : List Header) (kept_entry kept_address kept_count kept_end : ℕ)
    : Type 0 where
  pub accepted : refusal file ≡ None
  pub loads_are : kept_loads ≡ loads file
  pub entry_is : kept_entry ≡ elf_entry file
  pub address_is : kept_address ≡ headers_address file (loads file)
  pub count_is : kept_count ≡ elf_phnum file
  pub end_is : kept_end ≡ image_break file
