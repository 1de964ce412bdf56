-- What the parts of a checkpoint are made of.
use Rattle.std.specs.Prelude.{◌≡◌, ℕ, ◌+◌, ◌*◌, ◌/◌, ◌<◌, List, length, map, Option, Some, None, count_ones, slice_index}
use Rattle.std.specs.FinMap.{from_entries}
use Rattle.std.specs.Int.{bit_at}
use Rattle.std.specs.List.{AllByRecursion}
use Rattle.page_permissions.specs.declared.page.Permissions.{Permissions}
use Rattle.rrv_model.specs.declared.record.CheckpointRest.{CheckpointRest}
use Rattle.rrv_model.specs.declared.record.Line.{Line}
use Rattle.rrv_model.specs.declared.record.PagePart.{PagePart}
use Rattle.rrv_model.specs.Checkpoint.{patched_cell}
use Rattle.rrv_model.specs.LineMask.{IsLineMask, line_byte}
use Rattle.rrv_model.specs.Memory.{Memory, Cell, byte_or_zero, no_memory, page_bytes}
use Rattle.rrv_model.specs.RecordText.{HasPageText, HasRestText}
use Rattle.rrv_model.specs.State.{State, IsState}
use Rattle.guest_calls.specs.Guest.{GuestValue}
use Rattle.guest_calls.specs.Snapshots.{guest_snapshots}
use Rattle.guest_pages.specs.Snapshots.{AreChanges}
use Rattle.guest_pages.specs.declared.page.PageView.{PageView}

-- ---- the base

abbrev pub memory_or_none : Option Memory → Memory
memory_or_none None = no_memory
memory_or_none (Some m) = m

-- the memory that a guest keeps under a token
abbrev pub kept_memory : GuestValue → ℕ → Memory
kept_memory g token = memory_or_none (guest_snapshots g token)

-- a state that a checkpoint of s may be made against: this is its memory, and neither has what no checkpoint tells
pub record IsBaseOf (kept : Memory) (old s : State) : Type 0 where
  pub is_state : IsState old
  pub memory : kept ≡ old.memory
  pub version : old.version ≡ s.version
  pub opening_break : old.opening_break ≡ s.opening_break
  pub reservation : s.reservation ≡ None
  pub ended : s.ended ≡ None

-- ---- pages

-- byte k of page n of a memory, or zero where the memory doesn't have the page
abbrev pub page_byte : Memory → ℕ → ℕ → ℕ
page_byte m n k = byte_or_zero (m (n * page_bytes + k))

-- by its first cell: the permissions of a page, or that it isn't mapped
abbrev pub permissions_by : Option Cell → Option Permissions
permissions_by None = None
permissions_by (Some c) = Some c.permissions

-- by its first cell: the mask of a page that is mapped is that of its bytes against the base's, and of another it is 0
abbrev pub IsMaskBy : Option Cell → Memory → Memory → PagePart → Type 0
IsMaskBy None before m p = p.mask ≡ 0
IsMaskBy (Some c) before m p = IsLineMask (page_byte m p.number) (page_byte before p.number) p.mask

-- a page as this memory has it: its permissions, and the lines that differ from the base's
pub record IsChange (before m : Memory) (p : PagePart) : Type 0 where
  pub permissions : p.permissions ≡ permissions_by (m (p.number * page_bytes))
  pub mask : IsMaskBy (m (p.number * page_bytes)) before m p

-- the pages are exactly those that differ from the base's in bytes, in permissions or in being mapped, each as it changed
pub record NamesChanges (before m : Memory) (pages : List PagePart) : Type 0 where
  pub named : AreChanges before m (map (λ p. p.number) pages)
  pub each : AllByRecursion (IsChange before m) pages

-- put onto what the base has there, a page is as in this memory
abbrev pub Says : Memory → Memory → PagePart → Type 0
Says before m p = (a : ℕ) → a / page_bytes ≡ p.number → patched_cell (Some p) (before a) a ≡ m a

-- a page of a checkpoint
pub record IsMade (before m : Memory) (p : PagePart) : Type 0 where
  pub text : HasPageText p
  pub change : IsChange before m p
  pub says : Says before m p

-- ---- lines

-- the line of a page's bytes at this place
abbrev pub IsLineOf : List ℕ → ℕ → Line → Type 0
IsLineOf bytes place line = (k : ℕ) → k < 64 → slice_index line.bytes k ≡ slice_index bytes (64 * place + k)

-- a line of a page's bytes for each bit of a mask
pub record AreLinesOf (bytes : List ℕ) (mask : ℕ) (lines : List Line) : Type 0 where
  pub count : length lines ≡ count_ones mask
  pub each : (i k : ℕ) → i < 64 → k < 64 → bit_at mask i ≡ 1 →
      line_byte mask lines i k ≡ slice_index bytes (64 * i + k)

-- the bytes of a page as it is read, or zeros where there is none
abbrev pub bytes_of : Option PageView → ℕ → ℕ
bytes_of None k = 0
bytes_of (Some v) k = slice_index v.bytes.now k

-- ---- the rest

-- what a checkpoint says of a state beside its pages
pub record IsRestOf (s : State) (rest : CheckpointRest) : Type 0 where
  pub text : HasRestText rest
  pub program_break : rest.program_break ≡ s.program_break
  pub next_tid : rest.next_tid ≡ s.next_tid
  pub waiting : rest.waiting ≡ s.waiting
  pub threads : from_entries (map (λ p. (p.tid, p.thread)) rest.threads) ≡ s.threads
