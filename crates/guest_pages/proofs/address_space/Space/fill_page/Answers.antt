use Rattle.std.proofs.Common.{◌∙◌, ◌/◌, ap, arith, subst, sym}
use Rattle.rrv_model.specs.Memory.{stored}
use Rattle.page_tables.specs.Contents.{contents_of}
use Rattle.page_tables.specs.Changes.{IsOwn}
use Rattle.guest_pages.specs.Live.{live_of}
use Rattle.guest_pages.specs.Space.{SpaceValue, memory_of, KeepsOwn}
use Rattle.guest_pages.proofs.Live.{written_live}
use Rattle.guest_pages.proofs.Stays.{snapshots_stay}
use Rattle.guest_pages.proofs.Stores.{stored_space, stored_memory, written_keeps_own}
use Rattle.guest_pages.proofs.address_space.Space.fill_page.Goals as goal

pub invariant_of-self : goal.invariant_of-self
invariant_of-self c =
    stored_space c.self.inside.tables c.write.new.self c.self.inside.mapped _ _ c.args.bytes.now c.self.invariant c.write.ensures
    (omega (arith, c.requires.fits)) (λ k. omega (arith, c.type_inv.bytes k))

pub returns : goal.returns
returns c = record {
  memory = stored_memory c.self.inside.tables c.write.new.self _ _ c.args.address c.args.bytes.now c.self.invariant.pages.each
      c.write.ensures (omega (arith, c.requires.low)) (omega (arith, c.requires.fits))
      ∙ ap (λ (s : SpaceValue). stored c.args.address c.args.bytes.now (memory_of s)) c.self.view_is;
  snapshots = snapshots_stay c.self.inside.tables c.write.new.self _ c.write.ensures.rest.kept c.self.view_is;
  live = written_live c.self.inside.tables c.write.new.self _ _ c.args.bytes.now c.write.ensures
      (subst (λ (s : SpaceValue). IsOwn (contents_of s) (c.args.address / 4096)) (sym c.self.view_is) c.requires.own)
      ∙ ap (λ (s : SpaceValue). live_of s) c.self.view_is;
  own = subst (λ (s : SpaceValue). KeepsOwn s c.write.new.self) c.self.view_is
      (written_keeps_own c.self.inside.tables c.write.new.self _ _ c.args.bytes.now c.write.ensures);
}
