-- Worked examples, computed.
use Rattle.std.proofs.Common.{◌≡◌, ℕ, true, false, List, [], ◌∷◌, refl}
use Rattle.rrv_model.specs.declared.instr.ImmediateOp.TheVariants.{Addi}
use Rattle.rrv_model.specs.declared.instr.RegisterOp.TheVariants as ops
use Rattle.rrv_model.specs.declared.instr.BranchTest.TheVariants.{Bne}
use Rattle.rrv_model.specs.declared.instr.Ordering.TheVariants as orderings
use Rattle.rrv_model.specs.declared.instr.StoreKind.TheVariants.{Sw}
use Rattle.rrv_model.specs.declared.instr.Instr.TheVariants.{Jal, Branch, Store, OpImm, Op, Lr, Sc}
use Rattle.rrv_model.specs.declared.record.End.TheVariants as ends
use Rattle.rrv_model.specs.declared.record.Item.TheVariants as items
use Rattle.rrv_model.specs.Instructions.{Stands}
use Rattle.rrv_model.specs.Step.{quotient, remainder, op_value}
use Rattle.rrv_model.specs.CallRows.{are_clone_flags}
use Rattle.rrv_model.specs.Opening.{stack_pointer, name_at}
use Rattle.rrv_model.specs.Elf.{headers, headers_from}
use Rattle.rrv_model.specs.RecordText.{record_text, payload}

-- li a0, 5; li a7, 93; ecall
pub _li : Stands 0x00500513 (OpImm Addi 10 0 5)
_li = record { code_is = refl; f3_is = refl; rd_is = refl; rs1_is = refl; immediate_is = refl }

-- div a2, a0, a1
_div : Stands 0x02B54633 (Op ops.Div 12 10 11)
_div = record { code_is = refl; f3_is = refl; f7_is = refl; rd_is = refl; rs1_is = refl; rs2_is = refl }

-- sc.w a2, a3, (a1) and lr.w a0, (a1)
_sc : Stands 0x18D5A62F (Sc orderings.Relaxed 12 11 13)
_sc = record
    { code_is = refl; f3_is = refl; f5_is = refl; acquire_is = refl; release_is = refl; rd_is = refl; rs1_is = refl; rs2_is = refl }

_lr : Stands 0x1005A52F (Lr orderings.Relaxed 10 11)
_lr = record
    { code_is = refl; f3_is = refl; f5_is = refl; acquire_is = refl; release_is = refl; rd_is = refl; rs1_is = refl; rs2_is = refl }

-- bne a0, a1, -4; sw a0, -8(sp); jal x0, -4
_bne : Stands 0xFEB51EE3 (Branch Bne 10 11 0xFFFFFFFC)
_bne = record { code_is = refl; f3_is = refl; rs1_is = refl; rs2_is = refl; immediate_is = refl }

_sw : Stands 0xFEA12C23 (Store Sw 2 10 0xFFFFFFF8)
_sw = record { code_is = refl; f3_is = refl; rs1_is = refl; rs2_is = refl; immediate_is = refl }

_jal : Stands 0xFFDFF06F (Jal 0 0xFFFFFFFC)
_jal = record { code_is = refl; rd_is = refl; immediate_is = refl }

-- division
_div-overflow : quotient 0x80000000 0xFFFFFFFF ≡ 0x80000000
_div-overflow = refl

_div-zero : quotient 0x80000000 0 ≡ 0xFFFFFFFF
_div-zero = refl

_rem-overflow : remainder 0x80000000 0xFFFFFFFF ≡ 0
_rem-overflow = refl

_rem-zero : remainder 0x80000000 0 ≡ 0x80000000
_rem-zero = refl

_div-toward_zero : quotient 0xFFFFFFF9 2 ≡ 0xFFFFFFFD
_div-toward_zero = refl

_mulh : op_value ops.Mulh 0xFFFFFFFF 0xFFFFFFFF ≡ 0
_mulh = refl

_mulhsu : op_value ops.Mulhsu 0xFFFFFFFF 0xFFFFFFFF ≡ 0xFFFFFFFF
_mulhsu = refl

_mulhu : op_value ops.Mulhu 0xFFFFFFFF 0xFFFFFFFF ≡ 0xFFFFFFFE
_mulhu = refl

_sra : op_value ops.Sra 0x80000000 0x24 ≡ 0xF8000000
_sra = refl

_sub : op_value ops.Sub 0 1 ≡ 0xFFFFFFFF
_sub = refl

-- clone's flags
_clone : are_clone_flags 0x7D0F00 ≡ true
_clone = refl

_clone-bad : are_clone_flags 0x7D0E00 ≡ false
_clone-bad = refl

-- the name `a`
_name : name_at (97 ∷ []) ≡ 0x7FFFFFEE
_name = refl

_sp : stack_pointer (97 ∷ []) ≡ 0x7FFFFFA0
_sp = refl

-- the ELF file of 96 bytes
abbrev pub elf_e : List ℕ
elf_e =
    0x7F ∷ 0x45 ∷ 0x4C ∷ 0x46 ∷ 1 ∷ 1 ∷ 1 ∷ 0 ∷ 0 ∷ 0 ∷ 0 ∷ 0 ∷ 0 ∷ 0 ∷ 0 ∷ 0 ∷ 2 ∷ 0 ∷ 0xF3 ∷ 0 ∷ 1 ∷ 0 ∷ 0 ∷ 0 ∷ 0x54 ∷ 0 ∷ 1 ∷ 0 ∷ 52 ∷ 0
    ∷ 0 ∷ 0 ∷ 0 ∷ 0 ∷ 0 ∷ 0 ∷ 0 ∷ 0 ∷ 0 ∷ 0 ∷ 52 ∷ 0 ∷ 32 ∷ 0 ∷ 1 ∷ 0 ∷ 0 ∷ 0 ∷ 0 ∷ 0 ∷ 0 ∷ 0
    ∷ 1 ∷ 0 ∷ 0 ∷ 0 ∷ 0 ∷ 0 ∷ 0 ∷ 0 ∷ 0 ∷ 0 ∷ 1 ∷ 0 ∷ 0 ∷ 0 ∷ 1 ∷ 0 ∷ 96 ∷ 0 ∷ 0 ∷ 0 ∷ 96 ∷ 0 ∷ 0 ∷ 0 ∷ 5 ∷ 0 ∷ 0 ∷ 0 ∷ 0 ∷ 0x10 ∷ 0 ∷ 0
    ∷ 0x13 ∷ 0x05 ∷ 0x50 ∷ 0 ∷ 0x93 ∷ 0x08 ∷ 0xD0 ∷ 0x05 ∷ 0x73 ∷ 0 ∷ 0 ∷ 0 ∷ []

_headers : headers elf_e ≡ record { kind = 1; offset = 0; address = 0x10000; file_len = 96; memory_len = 96; flags = 5 } ∷ []
unfolding headers_from
_headers = refl

-- guest 2, index 7, Preempt of thread 1 after 64
_preempt : record_text (record { guest = 2; index = 7; item = items.Frame (record { tid = 1; count = 64; end = ends.Preempt }) })
    ≡ 2 ∷ 0 ∷ 0 ∷ 0 ∷ 7 ∷ 0 ∷ 0 ∷ 0 ∷ 1 ∷ 8 ∷ 0 ∷ 0 ∷ 0 ∷ 1 ∷ 0 ∷ 0 ∷ 0 ∷ 64 ∷ 0 ∷ 0 ∷ 0 ∷ []
unfolding record_text payload
_preempt = refl
