-- Which parts may describe a state at all.
use Rattle.std.specs.Prelude.{ℕ, ◌+◌, ◌<◌, ◌≤◌, List, [], ◌∷◌, length, IsTrue, IfSome, slice_index}
use Rattle.std.specs.List.{AllByRecursion}
use Rattle.rrv_model.specs.declared.record.Line.{Line}
use Rattle.rrv_model.specs.declared.limits.TheConstants.{MAX_PART_PAGES}
use Rattle.rrv_model.specs.declared.record.PagePart.{PagePart}
use Rattle.rrv_model.specs.declared.record.Part.{Part}
use Rattle.rrv_model.specs.Checkpoint.{IsPagePart}

-- a guest may have this page: pages lie from 0x1000 up to 0x7FFFFFFF, and one with W has R
abbrev pub MayBe : PagePart → Type 0
MayBe p = IfSome p.permissions (λ q. (1 ≤ p.number) × (p.number < 0x80000) × (IsTrue q.write → IsTrue q.read))

abbrev pub Fits : PagePart → Type 0
Fits p = IsPagePart p × MayBe p

-- the bytes of its lines are bytes
abbrev pub IsLine : Line → Type 0
IsLine line = (k : ℕ) → slice_index line.bytes k < 256

abbrev pub HasBytes : PagePart → Type 0
HasBytes p = AllByRecursion IsLine p.lines

-- the pages fit, and their numbers rise from the least on
abbrev pub AreFit : ℕ → List PagePart → Type 0
AreFit least [] = Unit {0}
AreFit least (p ∷ pages) = (least ≤ p.number) × Fits p × AreFit (p.number + 1) pages

-- the number behind the last one's
abbrev pub next_number : ℕ → List PagePart → ℕ
next_number least [] = least
next_number least (p ∷ pages) = next_number (p.number + 1) pages

-- no part names too many pages, and the pages of all parts fit, their numbers rising through all
abbrev pub PartsFit : ℕ → List Part → Type 0
PartsFit least [] = Unit {0}
PartsFit least (part ∷ parts) =
    (length part.pages ≤ MAX_PART_PAGES) × AreFit least part.pages × PartsFit (next_number least part.pages) parts
