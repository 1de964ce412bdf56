use Rattle.std.proofs.Common.{◌≡◌, ◌≢◌, ◌∙◌, sym, Option, ℕ}
use Rattle.page_tables.specs.Contents.{PageValue, contents_of}
use Rattle.page_tables.proofs.Values.{stand, pages_seen, slot_seen}
use Rattle.page_tables.proofs.page_tables.PageTables.same_as_kept.Goals as goal

pub returns-clause-same : goal.returns-clause-same
returns-clause-same c = λ e.
    let s = stand c.self.inside.pool _ _ _ c.self.invariant c.self.view_is in
    slot_seen s (λ (pages : ℕ → Option PageValue). (contents_of c.args.self.now).pages c.args.number ≡ pages c.args.number) c.args.snapshot
    c.kept_under.ensures (pages_seen s c.args.number ∙ c.same_in.ensures.same e)

pub returns-clause-differ : goal.returns-clause-differ
returns-clause-differ c = λ e.
    let s = stand c.self.inside.pool _ _ _ c.self.invariant c.self.view_is in
    slot_seen s (λ (pages : ℕ → Option PageValue). (contents_of c.args.self.now).pages c.args.number ≢ pages c.args.number) c.args.snapshot
    c.kept_under.ensures (λ w. c.same_in.ensures.differ e (sym (pages_seen s c.args.number) ∙ w))
