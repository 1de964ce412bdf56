-- What snapshots keep.
use Rattle.std.proofs.Common.{◌≡◌, ℕ, Option, Some, None, IsSome, IsSomeAnd, is_some, ap, refl, sym, subst}
use Rattle.std.proofs.lemmas.Bool.{false≢true}
use Rattle.std.specs.Option.{option_map}
use Rattle.rrv_model.specs.Memory.{Memory}
use Rattle.page_tables.specs.Contents.{contents_of}
use Rattle.guest_pages.specs.Space.{PageMap, SpaceValue, memory_in, snapshots_in, snapshots_of}

-- the memory that is kept under a number
pub memory_kept : (kept : ℕ → Option PageMap) (n : ℕ) (o : Option PageMap) → kept n ≡ o → snapshots_in kept n ≡ option_map memory_in o
unfolding snapshots_in
memory_kept kept n o e = ap (option_map memory_in) e

-- what is kept under a number where nothing else changes
pub still_kept : (kept after : ℕ → Option PageMap) (n : ℕ) → after n ≡ kept n → snapshots_in after n ≡ snapshots_in kept n
unfolding snapshots_in
still_kept kept after n e = ap (option_map memory_in) e

-- a live snapshot's pages are kept, and what holds of them holds of its memory
module _ {s v : SpaceValue} {n m : ℕ} (view : s ≡ v) (token : n ≡ m) where
  same_snapshot : snapshots_of s n ≡ snapshots_of v m
  same_snapshot = λ i. snapshots_of (view i) (token i)

  pub kept_there : IsSome (snapshots_of v m) → IsSome ((contents_of s).kept n)
  unfolding snapshots_in
  kept_there live = by_slot ((contents_of s).kept n) (subst IsSome (sym same_snapshot) live) where
    by_slot : (o : Option PageMap) → IsSome (option_map memory_in o) → IsSome o
    by_slot None h = h
    by_slot (Some pages) h = refl

  pub kept_seen : (P : Memory → Type 0) (Q : PageMap → Type 0) → ((pages : PageMap) → Q pages → P (memory_in pages)) →
      IsSomeAnd ((contents_of s).kept n) Q → IsSomeAnd (snapshots_of v m) P
  unfolding snapshots_in
  kept_seen P Q each h = subst (λ (o : Option Memory). IsSomeAnd o P) same_snapshot (by_slot ((contents_of s).kept n) h) where
    by_slot : (o : Option PageMap) → IsSomeAnd o Q → IsSomeAnd (option_map memory_in o) P
    by_slot None h = h
    by_slot (Some pages) h = each pages h

-- a number that stands for no memory keeps no pages
pub none_kept : (kept : ℕ → Option PageMap) (n : ℕ) → snapshots_in kept n ≡ None → kept n ≡ None
unfolding snapshots_in
none_kept kept n h = by_slot (kept n) h where
  by_slot : (o : Option PageMap) → option_map memory_in o ≡ None → o ≡ None
  by_slot None e = refl
  by_slot (Some pages) e = absurd (false≢true (sym (ap is_some e)))
