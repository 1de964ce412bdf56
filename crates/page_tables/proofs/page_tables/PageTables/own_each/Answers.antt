use Rattle.std.proofs.Common.{◌≡◌, ◌∙◌, ◌==◌, false, [], length, sym, ap, subst, refl}
use Rattle.std.proofs.lemmas.Bool.{false≢true, eq-eqb, eqb-true}
use Rattle.page_tables.specs.Contents.{Contents, contents_of}
use Rattle.page_tables.specs.Sharing.{contents_in}
use Rattle.page_tables.specs.Changes.{AreOwn, AreOwned}
use Rattle.page_tables.specs.NewPages.{AreCopies}
use Rattle.page_tables.proofs.Values.{stand, carried}
use Rattle.page_tables.proofs.Laws.{counted_there}
use Rattle.page_tables.proofs.NewPages.{no_step, none_left, all_steps}
use Rattle.page_tables.proofs.PlacedPages.{counts_seen, roomy_shared, roomy_value, roomy_contents, on_err}
use Rattle.page_tables.proofs.page_tables.PageTables.own_each.Goals as goal

pub returns-in_err-copies-clause-grows : goal.returns-in_err-copies-clause-grows
returns-in_err-copies-clause-grows c =
    let s = stand c.self.inside.pool _ _ _ c.self.invariant c.self.view_is in
    let not : AreOwn c.args.numbers.now (contents_of c.args.self.now) → ⊥ =
    λ own. c.in_err-copies.ensures.grows (λ n a. sym (counts_seen s n) ∙ own n a) in
    on_err _ _ not

pub returns-then-is_empty-clause-owned : goal.returns-then-is_empty-clause-owned
returns-then-is_empty-clause-owned c =
    let old = contents_in c.self.inside.pool c.self.inside.table c.self.inside.kept.items in
    let s = stand c.self.inside.pool _ _ _ c.self.invariant c.self.view_is in
    let copies = c.in_ok-copies.copies in
    let empty : length copies.items ≡ 0 = sym copies.ok.0 ∙ eqb-true copies.len 0 (sym c.is_empty.ensures ∙ c.if-is_empty.true) in
    carried s s (AreOwned c.args.numbers.now)
    (all_steps c.args.numbers.now old old (no_step c.args.numbers.now old)
    (none_left c.args.numbers.now old.pages old.counts c.in_ok-copies.copies.items empty c.in_ok-copies.ensures.copies)
    (counted_there c.self.inside.pool c.self.inside.table c.self.inside.kept.items))

pub returns-in_err-make_room_for-clause-grows : goal.returns-in_err-make_room_for-clause-grows
returns-in_err-make_room_for-clause-grows c =
    let s = stand c.self.inside.pool _ _ _ c.self.invariant c.self.view_is in
    let copies = c.in_ok-copies.copies in
    let not : AreOwn c.args.numbers.now (contents_of c.args.self.now) → ⊥ = λ own.
    let none : copies.items ≡ [] = c.in_ok-copies.ensures.none (λ n a. sym (counts_seen s n) ∙ own n a) in
    false≢true (sym c.if-is_empty.false ∙ c.is_empty.ensures ∙ eq-eqb copies.len 0 (copies.ok.0 ∙ ap length none)) in
    on_err _ _ not

pub invariant_of-self : goal.invariant_of-self
invariant_of-self c = roomy_shared _ c.make_room_for.ensures.extends.same c.make_room_for.ensures.keeps c.self.invariant

pub install_all-requires-clause-shared : goal.install_all-requires-clause-shared
install_all-requires-clause-shared c = roomy_shared _ c.make_room_for.ensures.extends.same c.make_room_for.ensures.keeps c.self.invariant

pub returns-clause-owned : goal.returns-clause-owned
returns-clause-owned c =
    let numbers = c.args.numbers.now in
    let m = c.make_room_for.ensures in
    let copies = subst (λ (d : Contents). AreCopies numbers d.pages d.counts c.in_ok-copies.copies.items)
    (sym (roomy_contents c.self.inside.kept.items m.extends.same m.keeps)) c.in_ok-copies.ensures.copies in
    carried (stand c.make_room_for.new.pool _ _ _ (roomy_shared _ m.extends.same m.keeps c.self.invariant)
    (roomy_value _ m.extends.same m.keeps _ c.self.view_is))
    (stand c.install_all.new.pool _ _ _ c.install_all.ensures.shared refl) (AreOwned numbers) (c.install_all.ensures.owned numbers copies)
