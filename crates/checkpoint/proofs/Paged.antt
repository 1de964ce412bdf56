-- Pages that a guest may have, put into its memory, leave a memory that it may have; and no others do.
use Rattle.std.proofs.Common.{◌≡◌, ◌⊎◌, inl, inr, ℕ, zero, suc, ◌+◌, ◌*◌, ◌/◌, ◌%◌, ◌^◌, ◌<◌, ◌≤◌, ◌==◌, Bool, true, false, cond, count_ones, List, [], ◌∷◌, Option, Some, None, refl, sym, ap, ◌∙◌, subst, arith}
use Rattle.std.specs.Prelude.{IfSome, IsTrue, slice_get}
use Rattle.std.specs.Int.{bit_at}
use Rattle.std.specs.List.{AllByRecursion}
use Rattle.std.proofs.lemmas.Bool.{cases_lt}
use Rattle.std.proofs.lemmas.Bool.Decides.{eqb_tells}
use Rattle.page_permissions.specs.declared.page.Permissions.{Permissions}
use Rattle.rrv_model.specs.declared.record.PagePart.{PagePart}
use Rattle.rrv_model.specs.Checkpoint.{entry_of, mapped_as, patched, patched_byte, patched_cell}
use Rattle.rrv_model.specs.LineMask.{line_byte}
use Rattle.rrv_model.specs.Memory.{AlikeCells, Cell, FitsCell, IsPaged, Memory, byte_or_zero, page_bytes}
use Rattle.checkpoint.specs.Fitting.{HasBytes, IsLine, MayBe}

-- ---- entries

entry_has : (Q : PagePart → Type 0) (page : ℕ) (pages : List PagePart) → AllByRecursion Q pages →
    IfSome (entry_of page pages) (λ p. (p.number ≡ page) × Q p)
unfolding entry_of
entry_has Q page [] all = tt
entry_has Q page (q ∷ pages) all = elim (eqb_tells q.number page) [
  | inl w ↦ subst (λ b. IfSome (cond b (Some q) (entry_of page pages)) (λ p. (p.number ≡ page) × Q p)) (sym w.0) (w.1, all.0)
  | inr w ↦ subst (λ b. IfSome (cond b (Some q) (entry_of page pages)) (λ p. (p.number ≡ page) × Q p)) (sym w.0)
      (entry_has Q page pages all.1)
]

-- what permissions a page n may have
abbrev pub MayHold : ℕ → Option Permissions → Type 0
MayHold n q = IfSome q (λ r. (1 ≤ n) × (n < 0x80000) × (IsTrue r.write → IsTrue r.read))

outside_low : (n : ℕ) (q : Option Permissions) (b : ℕ) → MayHold n q → n ≡ 0 → mapped_as q b ≡ None
outside_low n None b may out = refl
outside_low n (Some r) b may out = let low = may.0 in absurd (omega arith)

outside_high : (n : ℕ) (q : Option Permissions) (b : ℕ) → MayHold n q → 0x80000 ≤ n → mapped_as q b ≡ None
outside_high n None b may out = refl
outside_high n (Some r) b may out = let high = may.1 in absurd (omega arith)

fits_mapped : (n : ℕ) (q : Option Permissions) (b : ℕ) → MayHold n q → b < 256 → FitsCell (mapped_as q b)
fits_mapped n None b may small = tt
fits_mapped n (Some r) b may small = (small, may.2)

alike_mapped : (q : Option Permissions) (b c : ℕ) → AlikeCells (mapped_as q b) (mapped_as q c)
alike_mapped None b c = tt
alike_mapped (Some r) b c = refl

alike_patched : (o : Option PagePart) (c d : Option Cell) (a b : ℕ) → AlikeCells c d → AlikeCells (patched_cell o c a) (patched_cell o d b)
alike_patched None c d a b h = h
alike_patched (Some p) c d a b h = alike_mapped p.permissions (patched_byte p c (a % page_bytes)) (patched_byte p d (b % page_bytes))

-- ---- bytes

tells : {A : Type 0} (o : Option A) → (o ≡ None) ⊎ ((x : A) × (o ≡ Some x))
tells None = inl refl
tells (Some x) = inr (x, refl)

at_place : {A : Type 0} (P : A → Type 0) (xs : List A) (i : ℕ) → AllByRecursion P xs → IfSome (slice_get xs i) P
at_place P [] zero h = tt
at_place P [] (suc i) h = tt
at_place P (x ∷ xs) zero h = h.0
at_place P (x ∷ xs) (suc i) h = at_place P xs i h.1

line_small : (p : PagePart) (i k : ℕ) → HasBytes p → line_byte p.mask p.lines i k < 256
line_small p i k has = elim (tells (slice_get p.lines (count_ones (p.mask % 2 ^ i)))) [
  | inl e ↦ rw e (omega arith)
  | inr e ↦ rw e.1 (subst (λ o. IfSome o IsLine) e.1 (at_place IsLine p.lines (count_ones (p.mask % 2 ^ i)) has) k)
]

cond_small : (b : Bool) (x y : ℕ) → x < 256 → y < 256 → cond b x y < 256
cond_small true x y h k = h
cond_small false x y h k = k

old_small : (c : Option Cell) → FitsCell c → byte_or_zero c < 256
old_small None h = omega arith
old_small (Some c) h = h.0

byte_small : (p : PagePart) (c : Option Cell) (k : ℕ) → HasBytes p → FitsCell c → patched_byte p c k < 256
byte_small p c k has fits =
    cond_small (bit_at p.mask (k / 64) == 1) (line_byte p.mask p.lines (k / 64) (k % 64)) (byte_or_zero c)
    (line_small p (k / 64) (k % 64) has) (old_small c fits)

-- ---- the memory

abbrev pub Holds : PagePart → Type 0
Holds p = MayBe p × HasBytes p

low_cell : (o : Option PagePart) (c : Option Cell) (a : ℕ) → IfSome o (λ p. (p.number ≡ a / page_bytes) × Holds p) → a < 0x1000 → c ≡ None →
    patched_cell o c a ≡ None
low_cell None c a h low e = e
low_cell (Some p) c a h low e = let n = h.0 in outside_low p.number p.permissions (patched_byte p c (a % page_bytes)) h.1.0 (omega arith)

high_cell : (o : Option PagePart) (c : Option Cell) (a : ℕ) → IfSome o (λ p. (p.number ≡ a / page_bytes) × Holds p) → 0x80000000 ≤ a →
    c ≡ None → patched_cell o c a ≡ None
high_cell None c a h high e = e
high_cell (Some p) c a h high e = let n = h.0 in outside_high p.number p.permissions (patched_byte p c (a % page_bytes)) h.1.0 (omega arith)

fits_cell : (o : Option PagePart) (c : Option Cell) (a : ℕ) → IfSome o (λ p. (p.number ≡ a / page_bytes) × Holds p) → FitsCell c →
    FitsCell (patched_cell o c a)
fits_cell None c a h fits = fits
fits_cell (Some p) c a h fits =
    fits_mapped p.number p.permissions (patched_byte p c (a % page_bytes)) h.1.0 (byte_small p c (a % page_bytes) h.1.1 fits)

pub is_paged : (pages : List PagePart) (m : Memory) → AllByRecursion Holds pages → IsPaged m → IsPaged (patched pages m)
is_paged pages m all h = record {
  paged = λ a b e. subst (λ n. AlikeCells (patched pages m a) (patched_cell (entry_of n pages) (m b) b)) e
      (alike_patched (entry_of (a / page_bytes) pages) (m a) (m b) a b (h.paged a b e));
  low = λ a low. low_cell (entry_of (a / page_bytes) pages) (m a) a (entry_has Holds (a / page_bytes) pages all) low (h.low a low);
  high = λ a high. high_cell (entry_of (a / page_bytes) pages) (m a) a (entry_has Holds (a / page_bytes) pages all) high (h.high a high);
  cells = λ a. fits_cell (entry_of (a / page_bytes) pages) (m a) a (entry_has Holds (a / page_bytes) pages all) (h.cells a);
}

-- ---- and back

-- the numbers rise from the least on
abbrev pub RiseFrom : ℕ → List PagePart → Type 0
RiseFrom least [] = Unit {0}
RiseFrom least (p ∷ pages) = (least ≤ p.number) × RiseFrom (p.number + 1) pages

may_of : (f : Memory) (n : ℕ) (q : Option Permissions) (b : ℕ) → f (n * page_bytes) ≡ mapped_as q b → IsPaged f → MayHold n q
may_of f n None b e h = tt
may_of f n (Some r) b e h = (
  elim (cases_lt 0 n) [
    | inl low ↦ low
    | inr none ↦ absurd (let out = h.low (n * page_bytes) (omega arith) in cc)
  ],
  elim (cases_lt n 0x80000) [
    | inl high ↦ high
    | inr out ↦ absurd (let out = h.high (n * page_bytes) (omega arith) in cc)
  ],
  (subst FitsCell e (h.cells (n * page_bytes))).1,
)

pub all_may_be : (least : ℕ) (pages : List PagePart) (m f : Memory) → RiseFrom least pages →
    ((a : ℕ) → least ≤ a / page_bytes → f a ≡ patched pages m a) → IsPaged f → AllByRecursion MayBe pages
unfolding entry_of
all_may_be least [] m f rise same h = tt
all_may_be least (p ∷ pages) m f rise same h =
    let here : p.number * page_bytes / page_bytes ≡ p.number = omega arith in
    let a = p.number * page_bytes in (
      may_of f p.number p.permissions (patched_byte p (m a) (a % page_bytes))
          (same a (let low = rise.0 in omega arith)
          ∙ ap (λ (o : Option PagePart). patched_cell o (m a) a) (first (a / page_bytes) (sym here))) h,
      all_may_be (p.number + 1) pages m f rise.1
          (λ x low. same x (let from = rise.0 in omega arith)
          ∙ ap (λ (o : Option PagePart). patched_cell o (m x) x) (behind (x / page_bytes) (omega arith))) h,
    )
  where
    first : (n : ℕ) → p.number ≡ n → entry_of n (p ∷ pages) ≡ Some p
    first n e = elim (eqb_tells p.number n) [
      | inl w ↦ ap (λ b. cond b (Some p) (entry_of n pages)) w.0
      | inr w ↦ absurd (w.1 e)
    ]

    behind : (n : ℕ) → p.number < n → entry_of n (p ∷ pages) ≡ entry_of n pages
    behind n low = elim (eqb_tells p.number n) [
      | inl w ↦ absurd (omega (arith, w.1))
      | inr w ↦ ap (λ b. cond b (Some p) (entry_of n pages)) w.0
    ]
