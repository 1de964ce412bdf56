use Rattle.std.proofs.Common.{◌≡◌, Some, ℕ, ◌==◌, false, ◌∙◌, ap, sym, arith}
use Rattle.std.specs.Prelude.{option_map}
use Rattle.std.proofs.lemmas.Bool.Decides.{nat_tests}
use Rattle.rrv_model.specs.declared.instr.AmoOp.{AmoOp}
use Rattle.rrv_model.specs.declared.instr.Instr.TheVariants.{Amo}
use Rattle.rrv_model.specs.Instructions.{opcode, rd_of, funct3, rs1_of, rs2_of, funct5}
use Rattle.rrv_model.specs.WordReader.{amo_of, ordering_of, atomic_of, if_two, by_code, read}
use Rattle.rv_decode.proofs.decoder.atomic.Goals as goal

-- what is neither LR nor SC is read as the operation of its funct5
amo_read : (w : ℕ) (op : AmoOp) → opcode w ≡ 0b0101111 → funct3 w ≡ 0b010 →
    (funct5 w == 2) ≡ false → (funct5 w == 3) ≡ false → amo_of (funct5 w) ≡ Some op →
    read w ≡ Some (Amo op (ordering_of w) (rd_of w) (rs1_of w) (rs2_of w))
amo_read w op code width no_lr no_sc found =
    ap (λ c. by_code c w) code ∙ ap (λ n. if_two n (atomic_of (funct5 w) w)) width
    ∙ rw no_lr (rw no_sc (ap (option_map (λ k. Amo k (ordering_of w) (rd_of w) (rs1_of w) (rs2_of w))) found))

pub returns-in_ok-op-in_default : goal.returns-in_ok-op-in_default
returns-in_ok-op-in_default c =
    let w = c.args.word in
    let width : funct3 w ≡ 0b010 = grind (arith, nat_tests) in
    let no_lr : (funct5 w == 2) ≡ false = grind (arith, nat_tests) in
    let no_sc : (funct5 w == 3) ≡ false = grind (arith, nat_tests) in
    let found : amo_of (funct5 w) ≡ Some c.in_ok-op-in_default.op =
    ap amo_of (sym c.funct5_of.ensures) ∙ sym c.amo_op.ensures ∙ c.in_ok-op-in_default.was in
    rw (c.ordering-in_default.ensures, c.rd-in_default.ensures, c.rs1-in_default.ensures, c.rs2-in_default.ensures)
    (amo_read w c.in_ok-op-in_default.op c.requires width no_lr no_sc found)
