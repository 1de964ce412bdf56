-- Maps from numbers.
use Rattle.std.proofs.Common.{◌≡◌, ℕ, ◌==◌, arith}
use Rattle.std.proofs.lemmas.Grind.{common_steps}
use Rattle.std.specs.BTreeMap.{is_at}
use Rattle.std.specs.Ordering.{nat_cmp}

-- a query for a number finds that number alone
pub is_at_nat : (q k : ℕ) → is_at (nat_cmp q) k ≡ (k == q)
is_at_nat q k = grind (arith, common_steps)
