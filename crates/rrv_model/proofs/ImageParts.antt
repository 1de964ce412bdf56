-- The image of some of a file's loads, and what the refusals leave of a file.
use Rattle.std.proofs.Common.{◌≡◌, ℕ, ◌/◌, ◌≤◌, true, not, if◌then◌else◌, List, [], ◌∷◌, length, Some, None}
use Rattle.std.specs.List.{list_any}
use Rattle.rrv_model.specs.Memory.{Memory, page_bytes}
use Rattle.rrv_model.specs.Elf.{Header, IsLoad, touches, touched_below, loads, is_empty_load}
use Rattle.rrv_model.specs.Opening.{loaded_byte, page_permissions}

-- the memory of these loads of the file
abbrev pub image_of : List ℕ → List Header → Memory
image_of file hs a =
    if list_any (touches (a / page_bytes)) hs
    then Some (record { byte = loaded_byte file hs a; permissions = page_permissions (a / page_bytes) hs })
    else None

abbrev pub AreLoads : List ℕ → List Header → Type 0
AreLoads file [] = Unit {0}
AreLoads file (h ∷ hs) = IsLoad file h × AreLoads file hs

-- what the refusals leave of a file
pub record IsAccepted (file : List ℕ) : Type 0 where
  pub long : 52 ≤ length file
  pub short : length file ≤ 2_097_152
  pub good : AreLoads file (loads file)
  pub pages : touched_below 0x70000 (loads file) ≤ 16_128
  pub fills : list_any (λ h. not (is_empty_load h)) (loads file) ≡ true
