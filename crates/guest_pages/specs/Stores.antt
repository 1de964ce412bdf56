-- The same bytes at several places.
use Rattle.std.specs.Prelude.{ℕ, ◌+◌, ◌/◌, ◌<◌, List, [], ◌∷◌, length, get_or}
use Rattle.rrv_model.specs.Memory.{Memory, stored, page_bytes}
use Rattle.guest_pages.specs.Space.{SpaceValue, AreOwnPages}

-- the bytes stand from each place on; they are stored there in this order
unfoldable pub stored_at_each : List ℕ → List ℕ → Memory → Memory
stored_at_each [] bytes m = m
stored_at_each (a ∷ places) bytes m = stored_at_each places bytes (stored a bytes m)

-- the pages of a word's first and last byte, for each of some places
unfoldable pub word_pages : List ℕ → List ℕ
word_pages [] = []
word_pages (a ∷ places) = a / page_bytes ∷ (a + 3) / page_bytes ∷ word_pages places

-- the words at some places lie in pages that no snapshot shares
abbrev pub AreOwnWords : SpaceValue → List ℕ → Type 0
AreOwnWords s places = (k : ℕ) → k < length places → AreOwnPages s (get_or places k 0) 4
