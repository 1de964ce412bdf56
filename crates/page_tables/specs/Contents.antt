-- What page tables contain, as functions from page numbers.
use Rattle.std.specs.Prelude.{◌≡◌, ℕ, zero, suc, ◌+◌, ◌<◌, ◌^◌, if◌then◌else◌, List, [], ◌∷◌, length, slice_index, Option, Some, None, IfSome, is_some}
use Rattle.std.specs.Ordering.{nat_cmp}
use Rattle.std.specs.Option.{option_map}
use Rattle.std.specs.Map.{lookup}
use Rattle.std.specs.BTreeMap.{is_at}
use Rattle.page_permissions.specs.declared.page.Permissions.{Permissions}

-- a page: what may be done with it, and its bytes
pub record PageValue : Type 0 where
  pub permissions : Permissions
  pub bytes : List ℕ

-- the bytes of a page: 4,096, each below 256
abbrev pub FillPage : List ℕ → Type 0
FillPage bytes = (length bytes ≡ 4096) × ((k : ℕ) → slice_index bytes k < 256)

-- each page of these has 4,096 bytes
abbrev pub ArePages : (ℕ → Option PageValue) → Type 0
ArePages pages = (n : ℕ) → IfSome (pages n) (λ p. FillPage p.bytes)

pub record Contents : Type 0 where
  -- the current page at each number
  pub pages : ℕ → Option PageValue
  -- of how many tables it is, the current one and those of live snapshots
  pub counts : ℕ → Option ℕ
  -- the pages of each live snapshot, by its number
  pub kept : ℕ → Option (ℕ → Option PageValue)
  -- how many pages there are in all, a shared one counted once
  pub live : ℕ

-- the same as data, so that equal contents are equal values: what a function has, by falling number
pub record TablesValue : Type 0 where
  pub pages : List (ℕ × PageValue)
  pub counts : List (ℕ × ℕ)
  pub kept : List (ℕ × List (ℕ × PageValue))
  pub live : ℕ

-- what stands at a number
abbrev pub at_number : {X : Type 0} → List (ℕ × X) → ℕ → Option X
at_number m n = lookup (is_at (nat_cmp n)) m

abbrev pub contents_of : TablesValue → Contents
contents_of v = record {
  pages = at_number v.pages;
  counts = at_number v.counts;
  kept = λ i. option_map at_number (at_number v.kept i);
  live = v.live;
}

-- ---- how many there are

-- the sum of what a function has at the numbers below n
unfoldable pub sum_below : ℕ → (ℕ → ℕ) → ℕ
sum_below zero f = 0
sum_below (suc n) f = sum_below n f + f n

-- how many numbers have a page
abbrev pub page_total : (ℕ → Option PageValue) → ℕ
page_total pages = sum_below 0x80000 (λ n. if is_some (pages n) then 1 else 0)

-- ---- from functions to data

abbrev pub with_entry : {X : Type 0} → List (ℕ × X) → ℕ → Option X → List (ℕ × X)
with_entry m n None = m
with_entry m n (Some x) = (n, x) ∷ m

-- what a function has below a number
unfoldable pub gathered : {X : Type 0} → ℕ → (ℕ → Option X) → List (ℕ × X)
gathered zero f = []
gathered (suc n) f = with_entry (gathered n f) n (f n)

abbrev pub value_of : Contents → TablesValue
value_of c = record {
  pages = gathered 0x80000 c.pages;
  counts = gathered 0x80000 c.counts;
  kept = gathered (2 ^ 32) (λ i. option_map (gathered 0x80000) (c.kept i));
  live = c.live;
}
