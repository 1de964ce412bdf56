use Rattle.std.proofs.Common.{◌/◌, ◌%◌, arith}
use Rattle.std.specs.Int.{w16, to_le_bytes}
use Rattle.guest_pages.proofs.PutStores.{put_stores, put_stays}
use Rattle.guest_pages.proofs.Stores.{stored_space, all_small}
use Rattle.guest_pages.proofs.address_space.Space.store_half.Goals as goal

pub invariant_of-self-2 : goal.invariant_of-self-2
invariant_of-self-2 c =
    stored_space c.self.inside.tables c.put_half.new.self c.self.inside.mapped (c.args.address / 4096) (c.args.address % 4096)
    (to_le_bytes w16 c.args.value) c.self.invariant c.in_ok-put_half.ensures.written
    (omega arith) (all_small (to_le_bytes w16 c.args.value) (omega arith, (omega arith, tt)))

pub returns : goal.returns
returns c = put_stores c.self.view_is (omega arith) (omega arith) c.self.invariant.pages.each _ c.in_ok-put_half.ensures

pub returns-in_err-put_half : goal.returns-in_err-put_half
returns-in_err-put_half c =
    put_stays c.self.view_is (omega arith) (omega arith) _ c.in_err-put_half.field-0.0 c.in_err-put_half.ensures c.from_residual.ensures.1
