use Rattle.std.proofs.Common.{Some, None, ◌∙◌, ap, sym}
use Rattle.page_tables.specs.Contents.{contents_of}
use Rattle.guest_pages.specs.Space.{SpaceValue, memory_of, snapshots_of}
use Rattle.guest_pages.proofs.SnapshotPages.{memory_kept, still_kept}
use Rattle.guest_pages.proofs.Spaces.{kept_space}
use Rattle.guest_pages.proofs.space_calls.SpaceAddressSpace.snapshot.Goals as goal

pub invariant_of-self-2 : goal.invariant_of-self-2
invariant_of-self-2 c =
    kept_space c.self.inside.tables c.keep.new.self c.self.inside.mapped c.in_ok-number.number c.self.invariant c.in_ok-number.ensures.kept

pub returns-clause-kept : goal.returns-clause-kept
returns-clause-kept c =
    memory_kept (contents_of c.keep.new.self).kept c.new.result (Some (contents_of c.self.inside.tables).pages)
    (ap (contents_of c.keep.new.self).kept c.new.ensures ∙ c.in_ok-number.ensures.kept.here)
    ∙ ap (λ (s : SpaceValue). Some (memory_of s)) c.self.view_is

pub returns-clause-fresh : goal.returns-clause-fresh
returns-clause-fresh c =
    ap (λ (s : SpaceValue). snapshots_of s c.new.result) (sym c.self.view_is)
    ∙ memory_kept (contents_of c.self.inside.tables).kept c.new.result None
    (ap (contents_of c.self.inside.tables).kept c.new.ensures ∙ c.in_ok-number.ensures.kept.free)

pub returns-clause-others : goal.returns-clause-others
returns-clause-others c = λ n apart.
    still_kept (contents_of c.self.inside.tables).kept (contents_of c.keep.new.self).kept n
    (c.in_ok-number.ensures.kept.others n (λ e. apart (e ∙ sym c.new.ensures)))
    ∙ ap (λ (s : SpaceValue). snapshots_of s n) c.self.view_is
