-- Parts fit just where the pages of all of them do.
use Rattle.std.proofs.Common.{◌≡◌, ◌↔◌, ℕ, zero, suc, ◌+◌, ◌<◌, ◌≤◌, List, [], ◌∷◌, ◌++◌, length, map, refl, subst, arith}
use Rattle.std.specs.Prelude.{slice_index}
use Rattle.std.specs.List.{AllByRecursion}
use Rattle.std.specs.List.Sorted.{IsStrictlyIncreasing}
use Rattle.rrv_model.specs.declared.limits.TheConstants.{MAX_PART_PAGES}
use Rattle.rrv_model.specs.declared.record.PagePart.{PagePart}
use Rattle.rrv_model.specs.declared.record.Part.{Part}
use Rattle.rrv_model.specs.Checkpoint.{all_pages}
use Rattle.outcomes.proofs.Lists.{AllByRecursion-append}
use Rattle.checkpoint.specs.Fitting.{AreFit, Fits, HasBytes, PartsFit, next_number}
use Rattle.checkpoint.proofs.Paged.{RiseFrom}

fit_append : (least : ℕ) (xs ys : List PagePart) → AreFit least (xs ++ ys) ↔ AreFit least xs × AreFit (next_number least xs) ys
fit_append least [] ys = ((λ h. (tt, h)), (λ h. h.1))
fit_append least (p ∷ xs) ys =
    let r = fit_append (p.number + 1) xs ys in (
      (λ h. let k = r.0 h.2 in ((h.0, h.1, k.0), k.1)),
      (λ h. (h.0.0, h.0.1, r.1 (h.0.2, h.1))),
    )

pub pages_of_parts : (least : ℕ) (parts : List Part) → PartsFit least parts → AreFit least (all_pages parts)
pages_of_parts least [] h = tt
pages_of_parts least (part ∷ parts) h =
    (fit_append least part.pages (all_pages parts)).1 (h.1, pages_of_parts (next_number least part.pages) parts h.2)

abbrev pub IsFew : Part → Type 0
IsFew p = length p.pages ≤ MAX_PART_PAGES

pub few_of_parts : (least : ℕ) (parts : List Part) → PartsFit least parts → AllByRecursion IsFew parts
few_of_parts least [] h = tt
few_of_parts least (part ∷ parts) h = (h.0, few_of_parts (next_number least part.pages) parts h.2)

pub parts_of_pages : (least : ℕ) (parts : List Part) → AllByRecursion IsFew parts → AreFit least (all_pages parts) → PartsFit least parts
parts_of_pages least [] few fit = tt
parts_of_pages least (part ∷ parts) few fit =
    let both = (fit_append least part.pages (all_pages parts)).0 fit in
    (few.0, both.0, parts_of_pages (next_number least part.pages) parts few.1 both.1)

pub bytes_of_parts : (parts : List Part) → AllByRecursion (λ part. AllByRecursion HasBytes part.pages) parts →
    AllByRecursion HasBytes (all_pages parts)
bytes_of_parts [] h = tt
bytes_of_parts (part ∷ parts) h = AllByRecursion-append HasBytes part.pages (all_pages parts) h.0 (bytes_of_parts parts h.1)

-- ---- numbers that rise

pub rise_from : (least : ℕ) (pages : List PagePart) → IsStrictlyIncreasing (map (λ p. p.number) pages) →
    ((p : PagePart) (rest : List PagePart) → pages ≡ p ∷ rest → least ≤ p.number) → RiseFrom least pages
rise_from least [] up low = tt
rise_from least (p ∷ []) up low = (low p [] refl, tt)
rise_from least (p ∷ q ∷ pages) up low = (
  low p (q ∷ pages) refl,
  rise_from (p.number + 1) (q ∷ pages)
      (λ k below. let e : suc k + 1 ≡ suc (k + 1) = omega arith in
      subst (λ n. slice_index (map (λ p. p.number) (p ∷ q ∷ pages)) (suc k) < slice_index (map (λ p. p.number) (p ∷ q ∷ pages)) n) e
      (up (suc k) (omega arith)))
      (λ r rest e. let first : p.number < q.number = up zero (omega arith) in let same : q.number ≡ r.number = cc in omega arith),
)

pub fit_of : (least : ℕ) (pages : List PagePart) → RiseFrom least pages → AllByRecursion Fits pages → AreFit least pages
fit_of least [] rise all = tt
fit_of least (p ∷ pages) rise all = (rise.0, all.0, fit_of (p.number + 1) pages rise.1 all.1)

pub each_fits : (least : ℕ) (pages : List PagePart) → AreFit least pages → AllByRecursion Fits pages
each_fits least [] h = tt
each_fits least (p ∷ pages) h = (h.1, each_fits (p.number + 1) pages h.2)

pub increasing : (least : ℕ) (pages : List PagePart) → AreFit least pages → IsStrictlyIncreasing (map (λ p. p.number) pages)
increasing least [] h k below = absurd (omega arith)
increasing least (p ∷ []) h k below = absurd (omega arith)
increasing least (p ∷ q ∷ pages) h zero below = let next = h.2.0 in omega arith
increasing least (p ∷ q ∷ pages) h (suc k) below =
    let e : suc (k + 1) ≡ suc k + 1 = omega arith in
    subst (λ n. slice_index (map (λ p. p.number) (p ∷ q ∷ pages)) (suc k) < slice_index (map (λ p. p.number) (p ∷ q ∷ pages)) n) e
    (increasing (p.number + 1) (q ∷ pages) h.2 k (omega arith))

pub each_part_fits : (least : ℕ) (parts : List Part) → PartsFit least parts → AllByRecursion (λ part. AllByRecursion Fits part.pages) parts
each_part_fits least [] h = tt
each_part_fits least (part ∷ parts) h = (each_fits least part.pages h.1, each_part_fits (next_number least part.pages) parts h.2)
