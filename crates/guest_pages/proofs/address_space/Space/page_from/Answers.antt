use Rattle.std.proofs.Common.{◌≡◌, ◌∙◌, ℕ, ◌+◌, ◌*◌, true, None, is_some, ap, sym, subst, arith}
use Rattle.std.proofs.lemmas.Bool.{false≢true}
use Rattle.rrv_model.specs.Memory.{Memory, is_mapped, page_bytes}
use Rattle.guest_pages.specs.Space.{memory_of}
use Rattle.guest_pages.specs.Snapshots.{IsPageOf}
use Rattle.guest_pages.proofs.address_space.Space.page_from.Goals as goal

-- a page that is mapped is some page
is_page : (m : Memory) (n : ℕ) → is_mapped m n ≡ true → IsPageOf m n None → ⊥
is_page m n there none =
    let place : n * page_bytes + 0 ≡ n * page_bytes = omega arith in
    let first : m (n * page_bytes) ≡ None = subst (λ (a : ℕ). m a ≡ None) place (none 0 (omega arith)) in
    false≢true (ap is_some (sym first) ∙ there)

pub returns-in_err-page : goal.returns-in_err-page
returns-in_err-page c =
    absurd (is_page (memory_of c.args.self.now) c.in_ok-number.number c.in_ok-number.ensures.2 c.in_err-page.ensures)
