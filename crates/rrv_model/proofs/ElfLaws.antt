-- Laws of ELF files.
use Rattle.std.proofs.Common.{◌≡◌, ⊎_elim, ℕ, zero, suc, ◌+◌, ◌<◌, ◌≤◌, Bool, false, cond, List, ap, arith}
use Rattle.std.specs.List.{list_any}
use Rattle.std.proofs.lemmas.Bool.{cases_lt}
use Rattle.rrv_model.specs.Elf.{Header, touches, touched_below}

-- from a page on that none at or above is touched, no further page counts
pub touched_below-above : (hs : List Header) (pages n : ℕ) → ((page : ℕ) → pages ≤ page → list_any (touches page) hs ≡ false) → pages ≤ n →
    touched_below n hs ≡ touched_below pages hs
unfolding touched_below
touched_below-above hs pages zero none above =
    let same : zero ≡ pages = omega arith in
    ap (λ (m : ℕ). touched_below m hs) same
touched_below-above hs pages (suc n) none above = ⊎_elim
    (λ (less : n < pages).
    let same : suc n ≡ pages = omega arith in
    ap (λ (m : ℕ). touched_below m hs) same)
    (λ (more : pages ≤ n).
    let before = touched_below-above hs pages n none more in
    let none_here : ◌≡◌ {A = ℕ} (cond (list_any (touches n) hs) 1 0) 0 = ap (λ (b : Bool). cond b 1 0) (none n more) in
    let sum : touched_below n hs + cond (list_any (touches n) hs) 1 0 ≡ touched_below pages hs = omega (arith, none_here, before) in
    sum)
    (cases_lt n pages)
