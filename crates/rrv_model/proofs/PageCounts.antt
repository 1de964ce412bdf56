-- How many pages are mapped. No count is unfolded at a number that is written out.
use Rattle.std.proofs.Common.{◌≡◌, ℕ, zero, suc, ◌+◌, ◌-◌, ◌*◌, ◌/◌, ◌<◌, ◌≤◌, Bool, true, false, if◌then◌else◌, List, length, Option, Some, None, is_some, slice_index, arith, refl, ap, ◌∙◌, add-suc, add-zero}
use Rattle.std.specs.List.{list_any}
use Rattle.page_permissions.specs.declared.page.Permissions.{Permissions}
use Rattle.rrv_model.specs.Memory.{Memory, Cell, stored, mapped, is_within, with_byte, is_mapped, pages_below, page_bytes}
use Rattle.rrv_model.specs.Elf.{Header, touches, touched_below}
use Rattle.rrv_model.proofs.ImageParts.{image_of}

-- ---- what is made page by page

-- what a page that isn't mapped adds nothing to is the same below two numbers between which no page is mapped
pub pages_skip : {X : Type 0} (made : ℕ → X) (m : Memory) → ((n : ℕ) → is_mapped m n ≡ false → made (suc n) ≡ made n) → (least d n : ℕ)
    → n ≡ least + d → ((q : ℕ) → least ≤ q → q < n → is_mapped m q ≡ false) → made n ≡ made least
pages_skip made m none least zero n e free = let same : n ≡ least = omega (arith, e) in ap made same
pages_skip made m none least (suc d) zero e free = absurd (omega (arith, e))
pages_skip made m none least (suc d) (suc n) e free =
    none n (free n (omega (arith, e)) (omega arith))
    ∙ pages_skip made m none least d n (omega (arith, e)) (λ q from below. free q from (omega (arith, below)))

-- ---- counts of any memory

at_most_one : (b : Bool) → (if b then 1 else 0) ≤ 1
at_most_one true = omega arith
at_most_one false = omega arith

one_at_most : (b c : Bool) → (b ≡ true → c ≡ true) → (if b then 1 else 0) ≤ (if c then 1 else 0)
one_at_most true true h = omega arith
one_at_most true false h = let e = h refl in absurd cc
one_at_most false c h = omega arith

-- a memory that has every page of another has as many
pub pages_fewer : (n : ℕ) (m k : Memory) → ((p : ℕ) → p < n → is_mapped m p ≡ true → is_mapped k p ≡ true) →
    pages_below n m ≤ pages_below n k
unfolding pages_below
pages_fewer zero m k h = omega arith
pages_fewer (suc n) m k h =
    let rest = pages_fewer n m k (λ p below. h p (omega arith)) in
    let here = one_at_most (is_mapped m n) (is_mapped k n) (h n (omega arith)) in
    omega (arith, rest, here)

pub pages_same : (n : ℕ) (m k : Memory) → ((p : ℕ) → p < n → is_mapped m p ≡ is_mapped k p) → pages_below n m ≡ pages_below n k
unfolding pages_below
pages_same zero m k h i = 0
pages_same (suc n) m k h i = pages_same n m k (λ p below. h p (omega arith)) i + (if h n (omega arith) i then 1 else 0)

-- k more pages count k at most
pub pages_more : (k n : ℕ) (m : Memory) → pages_below (n + k) m ≤ pages_below n m + k
unfolding pages_below
pages_more zero n m =
    let same : pages_below (n + 0) m ≡ pages_below n m = ap (λ (j : ℕ). pages_below j m) (add-zero n) in
    omega (arith, same)
pages_more (suc k) n m =
    let rest = pages_more k n m in
    let here = at_most_one (is_mapped m (n + k)) in
    let next : pages_below (n + suc k) m ≡ pages_below (suc (n + k)) m = ap (λ (j : ℕ). pages_below j m) (add-suc n k) in
    omega (arith, next, rest, here)

counts_none : (b : Bool) → b ≡ false → (let n : ℕ = if b then 1 else 0 in n) ≡ 0
counts_none true e = cc
counts_none false e = refl

-- k pages that aren't mapped count nothing
pub pages_none : (k n : ℕ) (m : Memory) → ((p : ℕ) → n ≤ p → p < n + k → is_mapped m p ≡ false) → pages_below (n + k) m ≡ pages_below n m
unfolding pages_below
pages_none zero n m h = ap (λ j. pages_below j m) (omega arith)
pages_none (suc k) n m h =
    let rest = pages_none k n m (λ p low below. h p low (omega arith)) in
    let here = counts_none (is_mapped m (n + k)) (h (n + k) (omega arith) (omega arith)) in
    rw add-suc (omega (arith, rest, here))

-- ---- which pages are mapped

pub is_some-with_byte : (b : ℕ) (c : Option Cell) → is_some (with_byte b c) ≡ is_some c
is_some-with_byte b None = refl
is_some-with_byte b (Some c) = refl

pub is_some-if : (t : Bool) (c d : Option Cell) → is_some c ≡ is_some d → is_some (if t then c else d) ≡ is_some d
is_some-if true c d e = e
is_some-if false c d e = refl

-- storing keeps which bytes are there
pub is_some-stored : (a : ℕ) (bytes : List ℕ) (m : Memory) (x : ℕ) → is_some (stored a bytes m x) ≡ is_some (m x)
is_some-stored a bytes m x =
    is_some-if (is_within a (length bytes) x) (with_byte (slice_index bytes (x - a)) (m x)) (m x)
    (is_some-with_byte (slice_index bytes (x - a)) (m x))

-- and which pages are mapped
pub is_mapped-stored : (a : ℕ) (bytes : List ℕ) (m : Memory) (p : ℕ) → is_mapped (stored a bytes m) p ≡ is_mapped m p
is_mapped-stored a bytes m p = is_some-stored a bytes m (p * page_bytes)

is_some-some_if : (t : Bool) (c : Cell) (d : Option Cell) → t ≡ false → is_some (if t then Some c else d) ≡ is_some d
is_some-some_if true c d e = cc
is_some-some_if false c d e = refl

-- pages outside are as before
pub is_mapped-mapped : (a count : ℕ) (permissions : Permissions) (m : Memory) (p : ℕ) → is_within a count (p * page_bytes) ≡ false →
    is_mapped (mapped a count permissions m) p ≡ is_mapped m p
is_mapped-mapped a count permissions m p outside = is_some-some_if _ _ _ outside

is_some-just_if : (t : Bool) (c : Cell) → is_some (if t then Some c else None) ≡ t
is_some-just_if true c = refl
is_some-just_if false c = refl

pub page_of_start : (p : ℕ) → p * page_bytes / page_bytes ≡ p
page_of_start p = omega arith

-- the pages of an image are those that a load touches
pub is_mapped-image : (file : List ℕ) (hs : List Header) (p : ℕ) → is_mapped (image_of file hs) p ≡ list_any (touches p) hs
is_mapped-image file hs p = is_some-just_if _ _ ∙ ap (λ (q : ℕ). list_any (touches q) hs) (page_of_start p)

pub pages_touched : (n : ℕ) (file : List ℕ) (hs : List Header) → pages_below n (image_of file hs) ≡ touched_below n hs
unfolding pages_below touched_below
pages_touched zero file hs i = 0
pages_touched (suc n) file hs i = pages_touched n file hs i + (if is_mapped-image file hs n i then 1 else 0)
