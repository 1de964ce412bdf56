-- Where mmap finds a place.
use Rattle.std.proofs.Common.{◌≡◌, ℕ, zero, suc, ◌+◌, ◌-◌, ◌≤◌, Bool, true, false, cond, Option, Some, None, sym, subst, arith}
use Rattle.std.specs.Prelude.{IfSome}
use Rattle.rrv_model.specs.Memory.{Memory, all_free, highest_free_up_to}

abbrev IsUpTo : ℕ → ℕ → Type 0
IsUpTo n p = (1 ≤ p) × (p ≤ n)

chosen : (b : Bool) (n : ℕ) (o : Option ℕ) → IfSome o (IsUpTo n) → IfSome (cond b (Some (suc n)) o) (IsUpTo (suc n))
chosen true n o h = (omega arith, omega arith)
chosen false n None h = tt
chosen false n (Some p) h = let low = h.0 in let high = h.1 in (omega arith, omega arith)

found_up_to : (n : ℕ) (m : Memory) (count : ℕ) → IfSome (highest_free_up_to n m count) (IsUpTo n)
unfolding highest_free_up_to
found_up_to zero m count = tt
found_up_to (suc n) m count = chosen (all_free m (suc n) count) n (highest_free_up_to n m count) (found_up_to n m count)

weaker : (pages up_to : ℕ) (o : Option ℕ) → up_to ≡ 0x70000 - pages → IfSome o (IsUpTo up_to) →
    IfSome o (λ p. (1 ≤ p) × (p + pages ≤ 0x80000))
weaker pages up_to None e h = tt
weaker pages up_to (Some p) e h = let low = h.0 in let high = h.1 in (omega arith, omega arith)

-- a free range of so many pages lies below the stack
pub place_within : (m : Memory) (pages up_to : ℕ) (o : Option ℕ) → up_to ≡ 0x70000 - pages → o ≡ highest_free_up_to up_to m pages →
    IfSome o (λ p. (1 ≤ p) × (p + pages ≤ 0x80000))
place_within m pages up_to o e found =
    weaker pages up_to o e (subst (λ (x : Option ℕ). IfSome x (IsUpTo up_to)) (sym found) (found_up_to up_to m pages))
