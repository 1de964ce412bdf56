-- Names of guests: printed bytes, tested and said.
use Rattle.std.proofs.Common.{◌≡◌, ℕ, ◌≤◌, true, List, arith}
use Rattle.std.specs.Prelude.{All}
use Rattle.std.specs.List.{list_all}
use Rattle.std.proofs.lemmas.Bool.Decides.{nat_tests}
use Rattle.std.proofs.lemmas.List.Sums.{AllPass-from_list_all, list_all-from_AllPass}
use Rattle.rrv_model.specs.Opening.{is_graphic}

graphic_is : (b : ℕ) → is_graphic b ≡ true → (0x21 ≤ b) × (b ≤ 0x7E)
graphic_is b e = (grind (arith, nat_tests), grind (arith, nat_tests))

is_graphic_of : (b : ℕ) → (0x21 ≤ b) × (b ≤ 0x7E) → is_graphic b ≡ true
is_graphic_of b h = grind (arith, nat_tests)

pub graphic_each : (xs : List ℕ) → list_all is_graphic xs ≡ true → All (λ b. (0x21 ≤ b) × (b ≤ 0x7E)) xs
graphic_each xs e k d lt = graphic_is _ (AllPass-from_list_all is_graphic xs e k d lt)

pub graphic_all : (xs : List ℕ) → All (λ b. (0x21 ≤ b) × (b ≤ 0x7E)) xs → list_all is_graphic xs ≡ true
graphic_all xs h = list_all-from_AllPass is_graphic xs (λ k d lt. is_graphic_of _ (h k d lt))
