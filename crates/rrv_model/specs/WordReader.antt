-- A reader of words: the instruction that the fields of a word give, found in the rows of the table. It agrees with the table
-- (proofs/Decoding); contracts of the decoder's parts speak of it.
use Rattle.std.specs.Prelude.{ℕ, Bool, ◌==◌, ◌&&◌, if◌then◌else◌, Option, Some, None, option_map}
use Rattle.std.specs.List.{find}
use Rattle.rrv_model.specs.Words.{field}
use Rattle.rrv_model.specs.declared.instr.BranchTest.{BranchTest}
use Rattle.rrv_model.specs.declared.instr.LoadKind.{LoadKind}
use Rattle.rrv_model.specs.declared.instr.StoreKind.{StoreKind}
use Rattle.rrv_model.specs.declared.instr.ImmediateOp.{ImmediateOp}
use Rattle.rrv_model.specs.declared.instr.ShiftOp.{ShiftOp}
use Rattle.rrv_model.specs.declared.instr.RegisterOp.{RegisterOp}
use Rattle.rrv_model.specs.declared.instr.AmoOp.{AmoOp}
use Rattle.rrv_model.specs.declared.instr.Ordering.{Ordering}
use Rattle.rrv_model.specs.declared.instr.Ordering.TheVariants as orderings
use Rattle.rrv_model.specs.declared.instr.Instr.{Instr}
use Rattle.rrv_model.specs.declared.instr.Instr.TheVariants.{Lui, Auipc, Jal, Jalr, Branch, Load, Store, OpImm, Shift, Op, Fence, FenceI, Ecall, Ebreak, Lr, Sc, Amo}
use Rattle.rrv_model.specs.Instructions.{opcode, rd_of, funct3, rs1_of, rs2_of, funct7, funct5, i_immediate, s_immediate, b_immediate, u_immediate, j_immediate, branch_row, load_row, store_row, immediate_row, shift_row, op_row, amo_row, all_tests, all_loads, all_stores, all_immediates, all_shifts, all_ops, all_amos}

-- ---- the one whose row is this

abbrev pub branch_of : ℕ → Option BranchTest
branch_of f3 = find (λ t. branch_row t == f3) all_tests

abbrev pub load_of : ℕ → Option LoadKind
load_of f3 = find (λ k. load_row k == f3) all_loads

abbrev pub store_of : ℕ → Option StoreKind
store_of f3 = find (λ k. store_row k == f3) all_stores

abbrev pub immediate_of : ℕ → Option ImmediateOp
immediate_of f3 = find (λ o. immediate_row o == f3) all_immediates

abbrev pub shift_of : ℕ → ℕ → Option ShiftOp
shift_of f3 f7 = find (λ o. (shift_row o).1 == f7 && (shift_row o).0 == f3) all_shifts

abbrev pub op_of : ℕ → ℕ → Option RegisterOp
op_of f3 f7 = find (λ o. (op_row o).1 == f7 && (op_row o).0 == f3) all_ops

abbrev pub amo_of : ℕ → Option AmoOp
amo_of f5 = find (λ o. amo_row o == f5) all_amos

-- ---- reading a word

abbrev pub if_zero : ℕ → Option Instr → Option Instr
if_zero n o = if n == 0 then o else None

abbrev pub if_two : ℕ → Option Instr → Option Instr
if_two n o = if n == 2 then o else None

abbrev pub ordering_by : Bool → Bool → Ordering
ordering_by acquire release =
    if acquire then (if release then orderings.AcquireRelease else orderings.Acquire)
    else (if release then orderings.Release else orderings.Relaxed)

abbrev pub ordering_of : ℕ → Ordering
ordering_of w = ordering_by (field w 26 1 == 1) (field w 25 1 == 1)

abbrev pub atomic_of : ℕ → ℕ → Option Instr
atomic_of f5 w =
    if f5 == 2 then if_zero (rs2_of w) (Some (Lr (ordering_of w) (rd_of w) (rs1_of w)))
    else if f5 == 3 then Some (Sc (ordering_of w) (rd_of w) (rs1_of w) (rs2_of w))
    else option_map (λ op. Amo op (ordering_of w) (rd_of w) (rs1_of w) (rs2_of w)) (amo_of f5)

abbrev pub fence_of : ℕ → Option Instr
fence_of f3 = if f3 == 0 then Some Fence else if f3 == 1 then Some FenceI else None

abbrev pub system_of : ℕ → Option Instr
system_of w = if w == 0x73 then Some Ecall else if w == 0x100073 then Some Ebreak else None

abbrev pub immediate_or_shift : Option ImmediateOp → ℕ → Option Instr
immediate_or_shift (Some op) w = Some (OpImm op (rd_of w) (rs1_of w) (i_immediate w))
immediate_or_shift None w = option_map (λ op. Shift op (rd_of w) (rs1_of w) (rs2_of w)) (shift_of (funct3 w) (funct7 w))

abbrev pub by_code : ℕ → ℕ → Option Instr
by_code code w =
    if code == 0b0110111 then Some (Lui (rd_of w) (u_immediate w))
    else if code == 0b0010111 then Some (Auipc (rd_of w) (u_immediate w))
    else if code == 0b1101111 then Some (Jal (rd_of w) (j_immediate w))
    else if code == 0b1100111 then if_zero (funct3 w) (Some (Jalr (rd_of w) (rs1_of w) (i_immediate w)))
    else if code == 0b1100011 then
    option_map (λ t. Branch t (rs1_of w) (rs2_of w) (b_immediate w)) (branch_of (funct3 w))
    else if code == 0b0000011 then option_map (λ k. Load k (rd_of w) (rs1_of w) (i_immediate w)) (load_of (funct3 w))
    else if code == 0b0100011 then option_map (λ k. Store k (rs1_of w) (rs2_of w) (s_immediate w)) (store_of (funct3 w))
    else if code == 0b0010011 then immediate_or_shift (immediate_of (funct3 w)) w
    else if code == 0b0110011 then
    option_map (λ op. Op op (rd_of w) (rs1_of w) (rs2_of w)) (op_of (funct3 w) (funct7 w))
    else if code == 0b0001111 then fence_of (funct3 w)
    else if code == 0b1110011 then system_of w
    else if code == 0b0101111 then if_two (funct3 w) (atomic_of (funct5 w) w)
    else None

abbrev pub read : ℕ → Option Instr
read w = by_code (opcode w) w
