-- What a table of two levels has at each page number.
use Rattle.std.specs.Prelude.{◌≡◌, ◌≢◌, ℕ, ◌/◌, ◌%◌, Bool, true, List, Option, Some, None, is_some, slice_get, slice_index_or}
use Rattle.page_tables.specs.declared.table.TheConstants.{NO_PAGE}
use Rattle.page_tables.specs.declared.table.Entry.{Entry}
use Rattle.page_tables.specs.declared.table.Table.{Table}
use Rattle.page_tables.specs.Directory.{place_at}

-- what a leaf has at a place
abbrev pub entry_in : Option (List Entry) → ℕ → Entry
entry_in None at = NO_PAGE
entry_in (Some leaf) at = slice_index_or leaf at NO_PAGE

-- the leaf of a number, where there is one
abbrev pub leaf_in : List ℕ → List (List Entry) → ℕ → Option (List Entry)
leaf_in directory leaves n = slice_get leaves (place_at directory (n / 1024))

-- what a table has at a number
unfoldable pub entry_at : Table → ℕ → Entry
entry_at t n = entry_in (leaf_in t.directory t.leaves.items n) (n % 1024)

-- a table has room for an entry at a number
unfoldable pub has_leaf : Table → ℕ → Bool
has_leaf t n = is_some (leaf_in t.directory t.leaves.items n)

-- two tables have the same at each number
pub record AreAlike (t u : Table) : Type 0 where
  pub at : (n : ℕ) → entry_at u n ≡ entry_at t n

-- what a table has at each number another has too, and room where that one has
pub record Extends (t u : Table) : Type 0 where
  pub same : AreAlike t u
  pub kept : (n : ℕ) → has_leaf t n ≡ true → has_leaf u n ≡ true

-- a table has this entry at number n; nothing else changes
pub record SetsEntry (n : ℕ) (entry : Entry) (t u : Table) : Type 0 where
  pub here : entry_at u n ≡ entry
  pub others : (q : ℕ) → q ≢ n → entry_at u q ≡ entry_at t q
  pub leaves : (q : ℕ) → has_leaf u q ≡ has_leaf t q
