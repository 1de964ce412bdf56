-- What the digest of a memory takes in, page by page.
use Rattle.std.proofs.Common.{◌≡◌, ◌∙◌, ℕ, suc, ◌+◌, ◌-◌, ◌*◌, ◌<◌, ◌≤◌, List, [], ◌∷◌, ◌++◌, length, get_or, Option, Some, None, is_some, false, ap, refl, sym, append-nil, arith}
use Rattle.std.proofs.lemmas.Bool.{false≢true}
use Rattle.rrv_model.specs.Memory.{Memory, Cell, byte_or_zero, bytes_at, is_mapped, page_bytes}
use Rattle.rrv_model.proofs.PageCounts.{pages_skip}
use Rattle.guest_pages.specs.declared.page.PageView.{PageView}
use Rattle.guest_pages.specs.Snapshots.{IsNextPage, IsPageOf}
use Rattle.trace_text.specs.Digest.{page_piece, piece, pieces_below}

-- a page that isn't mapped gives nothing
no_piece : (m : Memory) (n : ℕ) (o : Option Cell) → is_some o ≡ false → page_piece m n o ≡ []
no_piece m n None e = refl
no_piece m n (Some c) e = absurd (false≢true (sym e))

-- no page lies below 0
pub pieces_none : (m : Memory) → pieces_below 0 m ≡ []
unfolding pieces_below
pieces_none m = refl

-- where no page from one number up to another is mapped, the pages below the two give the same
pieces_skip : (m : Memory) (least d n : ℕ) → n ≡ least + d → ((q : ℕ) → least ≤ q → q < n → is_mapped m q ≡ false) →
    pieces_below n m ≡ pieces_below least m
unfolding pieces_below
pieces_skip m least d n = pages_skip (λ (k : ℕ). pieces_below k m) m
    (λ q none. ap (λ (p : List ℕ). pieces_below q m ++ p) (no_piece m q (m (q * page_bytes)) none) ∙ append-nil (pieces_below q m)) least d
    n

-- bytes of a memory that are those of a list
bytes_alike : (bytes : List ℕ) (m : Memory) (a : ℕ) → ((k : ℕ) → k < length bytes → byte_or_zero (m (a + k)) ≡ get_or bytes k 0) →
    bytes_at m a (length bytes) ≡ bytes
unfolding bytes_at
bytes_alike [] m a h = refl
bytes_alike (b ∷ bs) m a h = λ i.
    (ap (λ (x : ℕ). byte_or_zero (m x)) first ∙ h 0 (omega arith)) i
    ∷ bytes_alike bs m (a + 1) (λ k low. rest k ∙ h (suc k) (omega (arith, low))) i
  where
    first : a ≡ a + 0
    first = omega arith

    rest : (k : ℕ) → byte_or_zero (m (a + 1 + k)) ≡ byte_or_zero (m (a + suc k))
    rest k = let same : a + 1 + k ≡ a + suc k = omega arith in ap (λ (x : ℕ). byte_or_zero (m x)) same

-- a page as a reader sees it gives its piece
piece_of_view : (m : Memory) (n : ℕ) (v : PageView) → length v.bytes.now ≡ page_bytes → IsPageOf m n (Some v) →
    page_piece m n (m (n * page_bytes)) ≡ piece n v.permissions v.bytes.now
piece_of_view m n v full is =
    let first : n * page_bytes ≡ n * page_bytes + 0 = omega arith in
    let bytes : bytes_at m (n * page_bytes) page_bytes ≡ v.bytes.now =
    ap (bytes_at m (n * page_bytes)) (sym full)
    ∙ bytes_alike v.bytes.now m (n * page_bytes) (λ k low. ap byte_or_zero (is k (omega (arith, low, full)))) in
    ap (page_piece m n) (ap m first ∙ is 0 (omega arith)) ∙ ap (piece n v.permissions) bytes

-- the next page after those below one number, where none lies between
pub pieces_next : (m : Memory) (least n : ℕ) (v : PageView) → IsNextPage m least (Some n) → length v.bytes.now ≡ page_bytes →
    IsPageOf m n (Some v) →
    pieces_below (n + 1) m ≡ pieces_below least m ++ piece n v.permissions v.bytes.now
unfolding pieces_below
pieces_next m least n v next full is =
    let more : n + 1 ≡ suc n = omega arith in
    ap (λ (k : ℕ). pieces_below k m) more
    ∙ ap (λ (p : List ℕ). p ++ page_piece m n (m (n * page_bytes))) (pieces_skip m least (n - least) n (omega (arith, next.0)) next.3)
    ∙ ap (λ (p : List ℕ). pieces_below least m ++ p) (piece_of_view m n v full is)

-- no page comes from one number on
pub pieces_end : (m : Memory) (least top : ℕ) → IsNextPage m least None → least ≤ top → pieces_below top m ≡ pieces_below least m
pieces_end m least top next low = pieces_skip m least (top - least) top (omega (arith, low)) (λ q from _. next q from)
