use Rattle.std.proofs.Common.{◌∙◌, ℕ, ◌+◌, ◌/◌, ◌++◌, ◌∷◌, [], List, drop, get_or, sym, ap}
use Rattle.std.proofs.lemmas.List.{drop_all, append-nil}
use Rattle.guest_pages.specs.Stores.{word_pages}
use Rattle.guest_pages.proofs.WordStores.{next_pages, no_pages, two_more}
use Rattle.guest_pages.proofs.mapping.list_word_pages.Goals as goal

pub loop-place-preserved : goal.loop-place-preserved
loop-place-preserved c =
    let places = c.args.places.now in
    let i = c.loop-place.place-index in
    let rest = word_pages (drop (i + 1) places) in
    let xs = c.loop-place.numbers.items in
    two_more xs c.push.new.self.items c.push-in-loop-place.new.self.items rest (get_or places i 0 / 4096) ((get_or places i 0 + 3) / 4096)
    c.in_ok-push.ensures.items
    (c.in_ok-push-2.ensures.items ∙ ap (λ (x : ℕ). c.push.new.self.items ++ (x + 3) / 4096 ∷ []) c.from.ensures)
    ∙ ap (λ (l : List ℕ). xs ++ l) (sym (next_pages places i c.loop-place-test.true))
    ∙ c.loop-place.invariant

pub returns-clause-listed : goal.returns-clause-listed
returns-clause-listed c =
    let xs = c.loop-place.numbers.items in
    sym (append-nil xs)
    ∙ ap (λ (l : List ℕ). xs ++ l)
    (sym (no_pages (drop c.loop-place.place-index c.args.places.now)
    (drop_all c.loop-place.place-index c.args.places.now c.loop-place-test.false)))
    ∙ c.loop-place.invariant
