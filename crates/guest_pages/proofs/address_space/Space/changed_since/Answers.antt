use Rattle.std.proofs.Common.{◌∙◌, ℕ, IsSomeAnd, Some, ap, sym, subst}
use Rattle.std.proofs.lemmas.Result.{err_from_is_err_and}
use Rattle.page_tables.specs.Contents.{contents_of}
use Rattle.guest_pages.specs.Space.{SpaceValue, memory_of, snapshots_of}
use Rattle.guest_pages.specs.Snapshots.{AreChanges}
use Rattle.guest_pages.proofs.Changes.{kept_changes, differs}
use Rattle.guest_pages.proofs.address_space.Space.changed_since.Goals as goal

pub returns-clause-changes : goal.returns-clause-changes
returns-clause-changes c =
    let numbers = c.in_ok-numbers.numbers.items in
    subst (λ (s : SpaceValue). IsSomeAnd (snapshots_of s c.args.snapshot.now) (λ before. AreChanges before (memory_of s) numbers))
    c.self.view_is
    (subst (λ (n : ℕ). IsSomeAnd (snapshots_of c.self.inside.tables n)
    (λ before. AreChanges before (memory_of c.self.inside.tables) numbers)) c.number.ensures
    (kept_changes (contents_of c.self.inside.tables).kept (contents_of c.self.inside.tables).pages c.number.result numbers
    c.self.invariant.kept c.self.invariant.pages.each c.in_ok-numbers.ensures.listed))

pub returns-in_err-numbers-clause-grows : goal.returns-in_err-numbers-clause-grows
returns-in_err-numbers-clause-grows c =
    let p = err_from_is_err_and c.from_residual.result c.from_residual.ensures.1 in
    rw p.1 (λ same.
    differs (contents_of c.self.inside.tables).kept (contents_of c.self.inside.tables).pages c.number.result c.self.invariant.kept
    c.self.invariant.pages.each c.in_err-numbers.ensures.grows
    (ap (snapshots_of c.self.inside.tables) c.number.ensures ∙ ap (λ (s : SpaceValue). snapshots_of s c.args.snapshot.now) c.self.view_is
    ∙ same ∙ ap (λ (s : SpaceValue). Some (memory_of s)) (sym c.self.view_is)))
