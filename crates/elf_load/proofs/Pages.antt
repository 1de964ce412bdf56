-- The pages that headers touch, and the marks of them.
use Rattle.std.proofs.Common.{◌≡◌, ℕ, zero, suc, ◌+◌, ◌*◌, ◌/◌, ◌%◌, ◌<◌, ◌≤◌, Bool, true, false, cond, List, [], ◌∷◌, length, get_or, take, arith, refl, ap, sym, add-one, ◌∙◌, ◌⊎◌, inl, inr, ⊎_elim}
use Rattle.std.specs.Prelude.{count_by, fold, All, min}
use Rattle.std.specs.List.{list_any}
use Rattle.std.proofs.lemmas.Bool.{cases_lt}
use Rattle.std.proofs.lemmas.Bool.Decides.{nat_tests}
use Rattle.std.proofs.lemmas.List.{take_all}
use Rattle.std.proofs.lemmas.List.Folds.{list_any_none}
use Rattle.std.proofs.lemmas.List.Sums.{count_by_more_no, count_by_more_yes}
use Rattle.rrv_model.specs.Elf.{Header, load_end, touches, touched_below}
use Rattle.rrv_model.proofs.ElfLaws.{touched_below-above}
use Rattle.elf_load.specs.Refusals.{has_memory, higher_end, highest_end}

-- the first n marks tell how many pages below n are touched
pub count_by-marks : (hs : List Header) (marks : List Bool) (n : ℕ) → n ≤ length marks →
    ((page : ℕ) → page < length marks → get_or marks page false ≡ list_any (touches page) hs) →
    count_by (λ mark. mark) (take n marks) ≡ touched_below n hs
unfolding touched_below
count_by-marks hs marks zero low is = refl
count_by-marks hs marks (suc n) low is =
    let before = count_by-marks hs marks n (omega arith) is in
    by_mark (get_or marks n false) refl (sym (is n (omega arith))) before
  where
    in_marks : n < length marks
    in_marks = omega arith

    by_mark : (b : Bool) → get_or marks n false ≡ b → list_any (touches n) hs ≡ get_or marks n false →
        count_by (λ mark. mark) (take n marks) ≡ touched_below n hs →
        count_by (λ mark. mark) (take (suc n) marks) ≡ touched_below n hs + cond (list_any (touches n) hs) 1 0
    by_mark true here touched before =
        let more : count_by (λ mark. mark) (take (n + 1) marks) ≡ count_by (λ mark. mark) (take n marks) + 1 =
        count_by_more_yes (λ mark. mark) marks n false in_marks here in
        let one : ◌≡◌ {A = ℕ} (cond (list_any (touches n) hs) 1 0) 1 = ap (λ (b : Bool). cond b 1 0) (touched ∙ here) in
        rw one (ap (λ (m : ℕ). count_by (λ mark. mark) (take m marks)) (sym (add-one n)) ∙ more ∙ ap (λ (m : ℕ). m + 1) before)
    by_mark false here touched before =
        let more : count_by (λ mark. mark) (take (n + 1) marks) ≡ count_by (λ mark. mark) (take n marks) =
        count_by_more_no (λ mark. mark) marks n false in_marks here in
        let none : ◌≡◌ {A = ℕ} (cond (list_any (touches n) hs) 1 0) 0 = ap (λ (b : Bool). cond b 1 0) (touched ∙ here) in
        rw none (ap (λ (m : ℕ). count_by (λ mark. mark) (take m marks)) (sym (add-one n)) ∙ more ∙ before ∙ sym (omega arith))

-- all n marks tell how many pages below n are touched
pub count_by-all_marks : (hs : List Header) (marks : List Bool) (n : ℕ) → length marks ≡ n →
    ((page : ℕ) → page < n → get_or marks page false ≡ list_any (touches page) hs) →
    count_by (λ mark. mark) marks ≡ touched_below n hs
count_by-all_marks hs marks n all is =
    sym (ap (count_by (λ mark. mark)) (take_all n marks (omega arith)))
    ∙ count_by-marks hs marks n (omega arith) (λ page low. is page (omega arith))

-- ---- the pages from the highest end on

higher_end-rises : (end : ℕ) (h : Header) → end ≤ higher_end end h
higher_end-rises end h = grind (arith, nat_tests)

higher_end-covers : (end : ℕ) (h : Header) → 0 < h.memory_len → load_end h ≤ higher_end end h
higher_end-covers end h some = grind (arith, nat_tests)

highest_end-rises : (hs : List Header) (end : ℕ) → end ≤ fold higher_end end hs
highest_end-rises [] end = omega arith
highest_end-rises (h ∷ hs) end =
    let here = higher_end-rises end h in
    let rest = highest_end-rises hs (higher_end end h) in
    omega (arith, here, rest)

highest_end-covers : (hs : List Header) (end : ℕ) → All (λ h. 0 < h.memory_len → load_end h ≤ fold higher_end end hs) hs
highest_end-covers [] end k d low some = absurd (omega arith)
highest_end-covers (h ∷ hs) end zero d low some =
    let here = higher_end-covers end h some in
    let rest = highest_end-rises hs (higher_end end h) in
    omega (arith, here, rest)
highest_end-covers (h ∷ hs) end (suc k) d low some = highest_end-covers hs (higher_end end h) k d (omega arith) some

-- no load ends behind pages that hold the highest end
pub ends_within : (hs : List Header) (pages : ℕ) → highest_end hs ≤ pages * 4096 →
    All (λ h. 0 < h.memory_len → load_end h ≤ pages * 4096) hs
ends_within hs pages high k d low some =
    let covered = highest_end-covers hs 0 k d low some in
    omega (arith, covered, high)

-- an empty header touches no page
pub empty_touches : (h : Header) (page : ℕ) → has_memory h ≡ false → touches page h ≡ false
empty_touches h page empty = grind (arith, nat_tests)

untouched : (h : Header) (pages page : ℕ) → (0 < h.memory_len → load_end h ≤ pages * 4096) → pages ≤ page → touches page h ≡ false
untouched h pages page high above = by_memory (cases_lt 0 h.memory_len) where
  by_memory : (0 < h.memory_len) ⊎ (h.memory_len ≤ 0) → touches page h ≡ false
  by_memory (inl some) = let end = high some in grind (arith, nat_tests)
  by_memory (inr none) = grind (arith, nat_tests)

untouched_by_all : (hs : List Header) (pages page : ℕ) → All (λ h. 0 < h.memory_len → load_end h ≤ pages * 4096) hs → pages ≤ page →
    list_any (touches page) hs ≡ false
untouched_by_all hs pages page high above =
    list_any_none (touches page) hs (λ k d low. untouched (get_or hs k d) pages page (high k d low) above)

-- the pages up to the highest end are all that count
pub pages_to_end : (hs : List Header) (end page_len pages : ℕ) →
    end ≡ highest_end hs → end ≤ 0x70000000 → page_len ≡ 4096 → pages ≡ end / page_len + min 1 (end % page_len) →
    All (λ h. 0 < h.memory_len → load_end h ≤ pages * 4096) hs × (touched_below pages hs ≡ touched_below 0x70000 hs)
pages_to_end hs end page_len pages highest low len is =
    let rounded : pages ≡ end / 4096 + min 1 (end % 4096) = is ∙ ap (λ (n : ℕ). end / n + min 1 (end % n)) len in
    let reach : end ≤ pages * 4096 = grind arith in
    let within : pages ≤ 0x70000 = grind arith in
    let high : highest_end hs ≤ pages * 4096 = omega (arith, highest, reach) in (
      ends_within hs pages high,
      sym (touched_below-above hs pages 0x70000 (λ page above. untouched_by_all hs pages page (ends_within hs pages high) above) within),
    )
