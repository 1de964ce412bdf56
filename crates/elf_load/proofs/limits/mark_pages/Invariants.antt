use Rattle.std.proofs.Common.{◌≡◌, ℕ, ◌||◌, get_or, false}
use Rattle.std.specs.Prelude.{◌&&◌, nat_le, nat_lt}
use Rattle.elf_load.proofs.limits.mark_pages.Given as goal

-- the pages from the first to this one are marked, and no others
abbrev pub invariant-loop-page : goal.invariant-loop-page
invariant-loop-page l =
    (page : ℕ) → get_or l.marks page false ≡ (get_or l.fn.marks page false || (nat_le l.first page && nat_lt page l.page))
