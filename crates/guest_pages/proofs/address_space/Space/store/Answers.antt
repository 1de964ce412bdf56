use Rattle.std.proofs.Common.{◌∙◌, ap}
use Rattle.rrv_model.specs.Memory.{Memory, stored}
use Rattle.guest_pages.proofs.address_space.Space.store.Goals as goal

pub returns-clause-stores : goal.returns-clause-stores
returns-clause-stores c = record {
  allowed = c.in_ok-prepare.ensures.allowed;
  stored = record {
    ok = c.fill.ensures.memory ∙ ap (λ (m : Memory). stored c.args.address c.args.bytes.now m) c.prepare.ensures.prepared.memory;
    err = tt;
    snapshots = c.fill.ensures.snapshots ∙ c.prepare.ensures.prepared.snapshots;
  };
  refused = tt;
  live = c.fill.ensures.live ∙ c.in_ok-prepare.ensures.prepared.live;
}
