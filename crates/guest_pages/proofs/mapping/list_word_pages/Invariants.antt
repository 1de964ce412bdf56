use Rattle.std.proofs.Common.{◌≡◌, ◌++◌, drop}
use Rattle.guest_pages.specs.Stores.{word_pages}
use Rattle.guest_pages.proofs.mapping.list_word_pages.Given as goal

abbrev pub invariant-loop-place : goal.invariant-loop-place
invariant-loop-place l = l.numbers.items ++ word_pages (drop l.place-index l.places) ≡ word_pages l.places
