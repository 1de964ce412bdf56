-- The bytes of pages, one page after the other.
use Rattle.std.proofs.Common.{◌≡◌, ◌∙◌, ℕ, zero, suc, ◌+◌, ◌*◌, List, [], ◌∷◌, ◌++◌, length, Option, Some, None, option_map, refl, sym, ap, arith}
use Rattle.rrv_model.specs.Memory.{Memory, Cell, byte_or_zero, bytes_at, page_bytes}
use Rattle.guest_pages.specs.declared.page.PageView.{PageView}
use Rattle.guest_pages.specs.Snapshots.{IsPageOf}
use Rattle.guest_pages.proofs.Cells.{are_bytes_at}
use Rattle.core_file.specs.Runs.{flags_at, flags_of}

pub no_bytes : (m : Memory) (a : ℕ) → bytes_at m a 0 ≡ []
unfolding bytes_at
no_bytes m a = refl

bytes_more : (m : Memory) (x y a : ℕ) → bytes_at m a (x + y) ≡ bytes_at m a x ++ bytes_at m (a + x) y
unfolding bytes_at
bytes_more m zero y a =
    let count : 0 + y ≡ y = omega arith in
    let place : a ≡ a + 0 = omega arith in
    ap (bytes_at m a) count ∙ ap (λ (b : ℕ). bytes_at m b y) place
bytes_more m (suc x) y a =
    let count : suc x + y ≡ suc (x + y) = omega arith in
    let place : a + 1 + x ≡ a + suc x = omega arith in
    ap (bytes_at m a) count
    ∙ ap (λ (bs : List ℕ). byte_or_zero (m a) ∷ bs)
    (bytes_more m x y (a + 1) ∙ ap (λ (b : ℕ). bytes_at m (a + 1) x ++ bytes_at m b y) place)

-- the bytes of a page as a reader sees it
pub page_is : (m : Memory) (n : ℕ) (v : PageView) → length v.bytes.now ≡ page_bytes → IsPageOf m n (Some v) →
    bytes_at m (n * page_bytes) page_bytes ≡ v.bytes.now
page_is m n v full is =
    sym (are_bytes_at m (n * page_bytes) page_bytes v.bytes.now full (λ k low. ap byte_or_zero (sym (is k low))))

pub page_more : (m : Memory) (first i : ℕ) (v : PageView) → length v.bytes.now ≡ page_bytes → IsPageOf m (first + i) (Some v) →
    bytes_at m (first * page_bytes) ((i + 1) * page_bytes) ≡ bytes_at m (first * page_bytes) (i * page_bytes) ++ v.bytes.now
page_more m first i v full is =
    let count : (i + 1) * page_bytes ≡ i * page_bytes + page_bytes = omega arith in
    let place : first * page_bytes + i * page_bytes ≡ (first + i) * page_bytes = omega arith in
    ap (bytes_at m (first * page_bytes)) count ∙ bytes_more m (i * page_bytes) page_bytes (first * page_bytes)
    ∙ ap (λ (bs : List ℕ). bytes_at m (first * page_bytes) (i * page_bytes) ++ bs)
    (ap (λ (b : ℕ). bytes_at m b page_bytes) place ∙ page_is m (first + i) v full is)

no_cell : (o : Option Cell) (flags : ℕ) → option_map flags_of o ≡ Some flags → o ≡ None → ⊥
no_cell None flags has e = cc
no_cell (Some c) flags has e = cc

-- a page with flags is there
pub is_there : (m : Memory) (n flags : ℕ) → flags_at m n ≡ Some flags → IsPageOf m n None → ⊥
is_there m n flags has none =
    let first : n * page_bytes ≡ n * page_bytes + 0 = omega arith in
    no_cell (m (n * page_bytes)) flags has (ap m first ∙ none 0 (omega arith))
