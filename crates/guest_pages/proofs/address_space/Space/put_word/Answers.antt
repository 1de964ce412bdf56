use Rattle.std.proofs.Common.{◌/◌, ◌%◌, arith}
use Rattle.std.specs.Int.{w32, to_le_bytes}
use Rattle.guest_pages.proofs.PutStores.{put_stores, put_stays}
use Rattle.guest_pages.proofs.Stores.{stored_space, all_small}
use Rattle.guest_pages.proofs.address_space.Space.put_word.Goals as goal

pub invariant_of-self-2 : goal.invariant_of-self-2
invariant_of-self-2 c =
    stored_space c.self.inside.tables c.put_word.new.self c.self.inside.mapped (c.args.address / 4096) (c.args.address % 4096)
    (to_le_bytes w32 c.args.value) c.self.invariant c.in_ok-put_word.ensures.written
    (omega arith) (all_small (to_le_bytes w32 c.args.value) (omega arith, (omega arith, (omega arith, (omega arith, tt)))))

pub returns : goal.returns
returns c = put_stores c.self.view_is (omega arith) (omega arith) c.self.invariant.pages.each _ c.in_ok-put_word.ensures

pub returns-in_err-put_word : goal.returns-in_err-put_word
returns-in_err-put_word c =
    put_stays c.self.view_is (omega arith) (omega arith) _ c.in_err-put_word.field-0.0 c.in_err-put_word.ensures c.from_residual.ensures.1
