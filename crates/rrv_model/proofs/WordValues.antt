-- What instructions compute is a word.
use Rattle.std.proofs.Common.{◌≡◌, ℕ, zero, suc, ◌-◌, ◌*◌, ◌/◌, ◌%◌, ◌^◌, ◌<◌, Bool, true, false, cond, ltb, ℤ, pos, refl, arith}
use Rattle.std.specs.Prelude.{negsuc, int_lt, int_div, int_rem, neg_ℤ, ◌*ℤ◌, nat_lt, nat_abs, if◌then◌else◌, ◌==◌}
use Rattle.std.specs.Int.{int_shr}
use Rattle.std.proofs.lemmas.Bool.Decides.{nat_tests}
use Rattle.std.proofs.lemmas.Nat.{xor_lt, or_lt, mul-lt, mul-le}
use Rattle.std.specs.Int.Bits.{and_lt}
use Rattle.rrv_model.specs.declared.instr.ImmediateOp.{ImmediateOp}
use Rattle.rrv_model.specs.declared.instr.ImmediateOp.TheVariants.{Addi, Slti, Sltiu, Xori, Ori, Andi}
use Rattle.rrv_model.specs.declared.instr.RegisterOp.{RegisterOp}
use Rattle.rrv_model.specs.declared.instr.RegisterOp.TheVariants as ops
use Rattle.rrv_model.specs.declared.instr.ShiftOp.{ShiftOp}
use Rattle.rrv_model.specs.declared.instr.ShiftOp.TheVariants.{Slli, Srli, Srai}
use Rattle.rrv_model.specs.Words.{signed, sign_extend, word_of, flag}
use Rattle.rrv_model.specs.Step.{op_value, immediate_value, shift_value, shifted_right, shifted_right_signed, upper_word, quotient, remainder}

-- ---- signed numbers

-- z is below m where it isn't negative
abbrev Below : ℕ → ℤ → Type 0
Below m (pos n) = n < m
Below m (negsuc n) = Unit {0}

-- z is at least -m, and below m
abbrev Within : ℕ → ℤ → Type 0
Within m (pos n) = n < m
Within m (negsuc n) = n < m

small-of_z : (z : ℤ) → Below (2 ^ 32) z → word_of z < 2 ^ 32
small-of_z (pos n) h = h
small-of_z (negsuc n) h = omega arith

small-upper_word : (z : ℤ) → Below (2 ^ 64) z → upper_word z < 2 ^ 32
small-upper_word (pos n) h = omega arith
small-upper_word (negsuc n) h = omega arith

below-neg : (m n : ℕ) → 0 < m → Below m (neg_ℤ (pos n))
below-neg m zero some = some
below-neg m (suc n) some = tt

within-signed : (x : ℕ) → x < 2 ^ 32 → Within (2 ^ 31) (signed x)
within-signed x low = by (ltb x (2 ^ 31)) refl where
  by : (b : Bool) → ltb x (2 ^ 31) ≡ b → Within (2 ^ 31) (cond b (pos x) (negsuc (2 ^ 32 - suc x)))
  by true e = grind (arith, nat_tests)
  by false e = grind (arith, nat_tests)

below-shr : (z : ℤ) (k : ℕ) → Within (2 ^ 31) z → Below (2 ^ 32) (int_shr z k)
below-shr (pos n) k h = omega arith
below-shr (negsuc n) k h = tt

below-div : (x y : ℤ) → Within (2 ^ 31) x → Below (2 ^ 32) (int_div x y)
below-div (pos a) (pos b) h = omega arith
below-div (pos a) (negsuc b) h = below-neg (2 ^ 32) (a / suc b) (omega arith)
below-div (negsuc a) (pos b) h = below-neg (2 ^ 32) (suc a / b) (omega arith)
below-div (negsuc a) (negsuc b) h = omega arith

below-rem : (x y : ℤ) → Within (2 ^ 31) x → Below (2 ^ 32) (int_rem x y)
below-rem (pos a) y h = omega arith
below-rem (negsuc a) y h = below-neg (2 ^ 32) (suc a % nat_abs y) (omega arith)

wider : (x : ℤ) → Within (2 ^ 31) x → Within (2 ^ 32) x
wider (pos n) h = omega arith
wider (negsuc n) h = omega arith

-- ---- values

small-flag : (b : Bool) → flag b < 2 ^ 32
small-flag true = omega arith
small-flag false = omega arith

small-if : (b : Bool) (x y : ℕ) → x < 2 ^ 32 → y < 2 ^ 32 → (if b then x else y) < 2 ^ 32
small-if true x y h g = h
small-if false x y h g = g

small-shifted_right : (x amount : ℕ) → x < 2 ^ 32 → shifted_right x amount < 2 ^ 32
small-shifted_right x amount low = omega arith

small-shifted_right_signed : (x amount : ℕ) → x < 2 ^ 32 → shifted_right_signed x amount < 2 ^ 32
small-shifted_right_signed x amount low = small-of_z _ (below-shr (signed x) (amount % 32) (within-signed x low))

small-divided : (x y : ℕ) → x < 2 ^ 32 → x / y < 2 ^ 32
small-divided x y low = omega arith

small-rest : (x y : ℕ) → x < 2 ^ 32 → x % y < 2 ^ 32
small-rest x y low = omega arith

small-product : (x y : ℕ) → x < 2 ^ 32 → y < 2 ^ 32 → x * y / 2 ^ 32 < 2 ^ 32
small-product x y h g = let most = mul-lt x y (2 ^ 32) (2 ^ 32) h g in omega (arith, most)

small-quotient : (x y : ℕ) → x < 2 ^ 32 → quotient x y < 2 ^ 32
small-quotient x y low = small-if (y == 0) _ _ (omega arith) (small-of_z _ (below-div (signed x) (signed y) (within-signed x low)))

small-remainder : (x y : ℕ) → x < 2 ^ 32 → remainder x y < 2 ^ 32
small-remainder x y low = small-if (y == 0) _ _ low (small-of_z _ (below-rem (signed x) (signed y) (within-signed x low)))

below-word : (y : ℕ) → y < 2 ^ 32 → Within (2 ^ 32) (pos y)
below-word y low = low

below-mixed : (x y : ℤ) → Within (2 ^ 31) x → Within (2 ^ 32) y → Below (2 ^ 64) (x *ℤ y)
below-mixed (pos a) (pos b) h g = let most = mul-lt a b (2 ^ 32) (2 ^ 32) (omega arith) g in omega (arith, most)
below-mixed (pos a) (negsuc b) h g = below-neg (2 ^ 64) (a * suc b) (omega arith)
below-mixed (negsuc a) (pos b) h g = below-neg (2 ^ 64) (suc a * b) (omega arith)
below-mixed (negsuc a) (negsuc b) h g = let most =
    mul-le (suc a) (suc b) (2 ^ 31) (2 ^ 32) (omega arith) (omega arith) in omega (arith, most)

pub small-op_value : (op : RegisterOp) (x y : ℕ) → x < 2 ^ 32 → y < 2 ^ 32 → op_value op x y < 2 ^ 32
small-op_value ops.Add x y h g = omega arith
small-op_value ops.Sub x y h g = omega arith
small-op_value ops.Sll x y h g = omega arith
small-op_value ops.Slt x y h g = small-flag (int_lt (signed x) (signed y))
small-op_value ops.Sltu x y h g = small-flag (nat_lt x y)
small-op_value ops.Xor x y h g = xor_lt 32 x y h g
small-op_value ops.Srl x y h g = small-shifted_right x y h
small-op_value ops.Sra x y h g = small-shifted_right_signed x y h
small-op_value ops.Or x y h g = or_lt 32 x y h g
small-op_value ops.And x y h g = and_lt 32 x y h g
small-op_value ops.Mul x y h g = omega arith
small-op_value ops.Mulh x y h g =
    small-upper_word _ (below-mixed (signed x) (signed y) (within-signed x h) (wider (signed y) (within-signed y g)))
small-op_value ops.Mulhsu x y h g = small-upper_word _ (below-mixed (signed x) (pos y) (within-signed x h) g)
small-op_value ops.Mulhu x y h g = small-product x y h g
small-op_value ops.Div x y h g = small-quotient x y h
small-op_value ops.Divu x y h g = small-if (y == 0) _ _ (omega arith) (small-divided x y h)
small-op_value ops.Rem x y h g = small-remainder x y h
small-op_value ops.Remu x y h g = small-if (y == 0) _ _ h (small-rest x y h)

pub small-immediate_value : (op : ImmediateOp) (x y : ℕ) → x < 2 ^ 32 → y < 2 ^ 32 → immediate_value op x y < 2 ^ 32
small-immediate_value Addi x y h g = omega arith
small-immediate_value Slti x y h g = small-flag (int_lt (signed x) (signed y))
small-immediate_value Sltiu x y h g = small-flag (nat_lt x y)
small-immediate_value Xori x y h g = xor_lt 32 x y h g
small-immediate_value Ori x y h g = or_lt 32 x y h g
small-immediate_value Andi x y h g = and_lt 32 x y h g

pub small-shift_value : (op : ShiftOp) (x amount : ℕ) → x < 2 ^ 32 → shift_value op x amount < 2 ^ 32
small-shift_value Slli x amount h = omega arith
small-shift_value Srli x amount h = small-shifted_right x amount h
small-shift_value Srai x amount h = small-shifted_right_signed x amount h

-- the twelve bits of an immediate, as a word
pub small-immediate : (n : ℕ) → sign_extend 12 (n % 2 ^ 12) < 2 ^ 32
small-immediate n = small-if (nat_lt (n % 2 ^ 12) (2 ^ 11)) _ _ (omega arith) (omega arith)
