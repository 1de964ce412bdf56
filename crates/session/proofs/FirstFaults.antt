-- The first of some faults.
use Rattle.std.proofs.Common.{◌≡◌, inl, inr, ℕ, zero, suc, ◌+◌, ◌<◌, List, [], ◌∷◌, ◌++◌, length, get_or, take, refl, sym, ap, ◌∙◌, subst, arith, append_assoc}
use Rattle.std.proofs.lemmas.List.{append-nil}
use Rattle.std.proofs.lemmas.List.Elements.{Contains-append_left, Contains-append_right}
use Rattle.std.specs.Prelude.{Option, Some, None}
use Rattle.std.specs.List.{Contains}
use Rattle.outcomes.proofs.Lists.{AllByRecursion-append, AllByRecursion-weaker}
use Rattle.faults.specs.declared.session.SessionFault.{SessionFault}
use Rattle.session.specs.declared.task.Worked.{Worked}
use Rattle.session.specs.Faults.{IsLower, IsLowest, IsNoLater}
use Rattle.session.specs.Tasks.{faults_met, met_once}

no_later_both : (a b c : SessionFault) → IsNoLater a b → IsNoLater b c → IsNoLater a c
no_later_both a b c one two = elim one [
  | inl less ↦ elim two [
    | inl less' ↦ inl (omega arith)
    | inr same' ↦ inl (let e = same'.0 in omega arith)
  ]
  | inr same ↦ elim two [
    | inl less' ↦ inl (let e = same.0 in omega arith)
    | inr same' ↦ inr (same.0 ∙ same'.0, (let x = same.1 in let y = same'.1 in omega arith))
  ]
]

here : (a : SessionFault) → Contains (a ∷ []) a
here a = search arith

lowest_more_of : (met : List SessionFault) (lowest next : Option SessionFault) (lower : Option SessionFault) → IsLowest met lowest →
    IsLower lowest next lower → IsLowest (met ++ met_once next) lower
lowest_more_of met None None lower h l = subst (IsLowest (met ++ [])) (sym l) (append-nil met ∙ h)
lowest_more_of met None (Some b) lower h l =
    subst (IsLowest (met ++ b ∷ [])) (sym l)
    (subst (λ (m : List SessionFault). IsLowest (m ++ b ∷ []) (Some b)) (sym h) (here b, (inr (refl, omega arith), tt)))
lowest_more_of met (Some a) None lower h l =
    subst (IsLowest (met ++ [])) (sym l) (subst (λ (m : List SessionFault). IsLowest m (Some a)) (sym (append-nil met)) h)
lowest_more_of met (Some a) (Some b) lower h l = elim l [
  | inl first ↦ subst (IsLowest (met ++ b ∷ [])) (sym first.0)
      (Contains-append_left met (b ∷ []) a h.0, AllByRecursion-append (IsNoLater a) met (b ∷ []) h.1 (first.1, tt))
  | inr second ↦ subst (IsLowest (met ++ b ∷ [])) (sym second.0) (
    Contains-append_right met (b ∷ []) b (here b),
    AllByRecursion-append (IsNoLater b) met (b ∷ [])
        (AllByRecursion-weaker (IsNoLater a) (IsNoLater b) met (λ c later. no_later_both b a c second.1 later) h.1)
        (inr (refl, omega arith), tt),
  )
]

module _ {C O S : Type 0} where
  faults_next : (done : List (Worked C O S)) (i : ℕ) (w : Worked C O S) → i < length done → w ≡ get_or done i w →
      faults_met (take (suc i) done) ≡ faults_met (take i done) ++ met_once w.fault
  faults_next [] i w low is = absurd (omega arith)
  faults_next (d ∷ done) zero w low is = append-nil (met_once d.fault) ∙ ap (λ (x : Worked C O S). met_once x.fault) (sym is)
  faults_next (d ∷ done) (suc i) w low is =
      ap (λ (l : List SessionFault). met_once d.fault ++ l) (faults_next done i w (omega arith) is)
      ∙ sym (append_assoc (met_once d.fault) (faults_met (take i done)) (met_once w.fault))

  -- the first of the faults so far, and of one worker more
  pub lowest_more : (met : List SessionFault) (done : List (Worked C O S)) (i j : ℕ) (w : Worked C O S) (lowest lower : Option SessionFault)
      → j ≡ i + 1 → i < length done → w ≡ get_or done i w
      → IsLowest (met ++ faults_met (take i done)) lowest → IsLower lowest w.fault lower → IsLowest (met ++ faults_met (take j done)) lower
  lowest_more met done i j w lowest lower next low is h l =
      let e : j ≡ suc i = omega arith in
      subst (λ (fs : List SessionFault). IsLowest fs lower)
      (append_assoc met (faults_met (take i done)) (met_once w.fault)
      ∙ ap (λ (fs : List SessionFault). met ++ fs) (sym (faults_next done i w low is))
      ∙ ap (λ (n : ℕ). met ++ faults_met (take n done)) (sym e))
      (lowest_more_of (met ++ faults_met (take i done)) lowest w.fault lower h l)
