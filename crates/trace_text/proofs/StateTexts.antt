-- The lines of a state, piece by piece.
use Rattle.std.proofs.Common.{◌≡◌, ℕ, suc, ◌+◌, ◌*◌, [], ◌++◌, ap, refl, arith}
use Rattle.rrv_model.specs.declared.machine.Regs.{Regs}
use Rattle.trace_text.specs.States.{registers_line, registers_lines}

pub registers_none : (regs : Regs) → registers_lines 0 regs ≡ []
unfolding registers_lines
registers_none regs = refl

pub registers_more : (regs : Regs) (n : ℕ) → registers_lines (n + 1) regs ≡ registers_lines n regs ++ registers_line regs (4 * n)
unfolding registers_lines
registers_more regs n = let more : n + 1 ≡ suc n = omega arith in ap (λ (k : ℕ). registers_lines k regs) more
