-- Pages that are to come into a table.
use Rattle.std.specs.Prelude.{◌≡◌, ◌≢◌, ℕ, true, List, Option, Some}
use Rattle.std.specs.List.{All}
use Rattle.page_tables.specs.declared.new_pages.NewPage.{NewPage}
use Rattle.page_tables.specs.Contents.{PageValue}
use Rattle.page_tables.specs.Changes.{is_listed, page_or_zeros}

abbrev pub new_value : NewPage → PageValue
new_value p = record { permissions = p.permissions; bytes = p.bytes.value }

-- one table alone has each page of these numbers
abbrev pub AreUnshared : List ℕ → (ℕ → Option ℕ) → Type 0
AreUnshared numbers counts = (n : ℕ) → is_listed numbers n ≡ true → counts n ≡ Some 1

-- a page is to come at one of these numbers: the one that is there, or one of zeros
pub record IsCopy (numbers : List ℕ) (pages : ℕ → Option PageValue) (p : NewPage) : Type 0 where
  pub listed : is_listed numbers p.number ≡ true
  pub value : new_value p ≡ page_or_zeros (pages p.number)

-- such pages, one for each of the numbers whose page another table has too, or that has no page
pub record AreCopies (numbers : List ℕ) (pages : ℕ → Option PageValue) (counts : ℕ → Option ℕ) (copies : List NewPage) : Type 0 where
  pub each : All (IsCopy numbers pages) copies
  pub whole : (n : ℕ) → is_listed numbers n ≡ true → All (λ p. p.number ≢ n) copies → counts n ≡ Some 1
