use Rattle.std.proofs.Common.{◌≡◌, ℕ, ◌<◌, ◌↔◌, IsTrue, slice_index, subst, sym}
use Rattle.core_file.proofs.RunRules.{blank_is}
use Rattle.core_file.proofs.runs.is_blank.Goals as goal

pub returns-clause-blank : goal.returns-clause-blank
returns-clause-blank c =
    let bytes = c.args.bytes.now in
    blank_is bytes c.is_zero.result
    (subst (λ (count : ℕ). IsTrue c.is_zero.result ↔ ((k : ℕ) → k < count → slice_index bytes k ≡ 0)) (sym c.told-bytes) c.is_zero.ensures)
