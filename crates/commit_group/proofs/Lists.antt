-- Small laws of lists of records.
use Rattle.std.proofs.Common.{◌≡◌, ◌≢◌, inl, inr, ℕ, cond, List, [], ◌∷◌, refl, ◌∙◌, ap}
use Rattle.std.specs.List.{AllByRecursion}
use Rattle.std.proofs.lemmas.Bool.Decides.{eqb_tells}
use Rattle.rrv_model.specs.declared.record.Record.{Record}
use Rattle.rrv_model.specs.Recovered.{of_guest}

-- there are none where each record is of another guest
pub none_of_guest : (guest : ℕ) (xs : List Record) → AllByRecursion (λ r. r.guest ≢ guest) xs → of_guest guest xs ≡ []
none_of_guest guest [] all = refl
none_of_guest guest (r ∷ xs) all = elim (eqb_tells r.guest guest) [
  | inl same ↦ absurd (all.0 same.1)
  | inr other ↦ ap (λ b. cond b (r ∷ of_guest guest xs) (of_guest guest xs)) other.0 ∙ none_of_guest guest xs all.1
]
