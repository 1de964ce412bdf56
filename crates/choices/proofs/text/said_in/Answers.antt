use Rattle.std.proofs.Common.{◌≡◌, ◌≤◌, ℕ, Bool, cond, nat_lt, List, length, Option, Some, None, ◌==◌, arith, ◌∙◌, ap, rules, tests, take}
use Rattle.std.specs.Option.{unwrap_or}
use Rattle.std.specs.List.{before_first, position, position_or_len}
use Rattle.std.proofs.lemmas.Iterator.{YieldsList-from_slice}
use Rattle.std.proofs.lemmas.Iterator.Search.{position_from_yields_List}
use Rattle.std.proofs.lemmas.List.Sums.{prefix_len-le-length}
use Rattle.std.proofs.lemmas.Bool.Decides.{nat_tests}
use Rattle.choices.proofs.text.said_in.Goals as goal

or_end : (p : ℕ → Bool) (xs : List ℕ) → unwrap_or (position p xs) (length xs) ≡ position_or_len p xs
or_end p xs = by (length xs) (position_or_len p xs) (prefix_len-le-length _ xs) where
  by : (n k : ℕ) → k ≤ n → unwrap_or (cond (nat_lt k n) (Some k) None) n ≡ k
  by n k h = grind (arith, nat_tests)

pub returns : goal.returns
returns c =
    let line = c.without_return-line.result.now in
    let found : c.position.result ≡ position (λ b. b == 35) line =
    position_from_yields_List (λ b. b == 35) _ _ c.position.result c.position.ensures.ran
    (YieldsList-from_slice line c.iter.ensures.rest) (λ x r q k. search (rules, tests)) in
    let end : c.unwrap_or-end.result ≡ position_or_len (λ b. b == 35) line =
    c.unwrap_or-end.ensures ∙ ap (λ (o : Option ℕ). unwrap_or o (length line)) found ∙ or_end (λ b. b == 35) line in
    ap (λ (n : ℕ). take n line) end ∙ ap (before_first (λ b. b == 35)) c.without_return-line.ensures
