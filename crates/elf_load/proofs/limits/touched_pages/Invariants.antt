use Rattle.std.proofs.Common.{◌≡◌, ℕ, ◌<◌, length, get_or, take, false}
use Rattle.std.specs.List.{list_any}
use Rattle.rrv_model.specs.Elf.{touches}
use Rattle.elf_load.proofs.limits.touched_pages.Given as goal

-- the marks are those of the loads so far
abbrev pub invariant-loop-load : goal.invariant-loop-load
invariant-loop-load l = record {
  all_pages : length l.marks.items ≡ l.pages;
  marked : (page : ℕ) → page < l.pages → get_or l.marks.items page false ≡ list_any (touches page) (take l.load-index l.found);
}
