use Rattle.std.proofs.Common.{◌≡◌, ℕ, ◌+◌, ◌<◌, ◌∙◌, is_some, length, ap, arith}
use Rattle.guest_pages.specs.Space.{memory_of}
use Rattle.guest_pages.proofs.Cells.{one_of_all, are_bytes_at}
use Rattle.guest_pages.proofs.address_space.Space.load_pages.Goals as goal

pub load_page-requires-clause-there : goal.load_page-requires-clause-there
load_page-requires-clause-there c =
    let within : c.loop-done.done < length c.args.into.now = grind arith in
    let place : c.from.result + c.loop-done.done ≡ c.args.address + c.loop-done.done = omega (arith, c.from.ensures) in
    ap (λ (x : ℕ). is_some (memory_of c.args.self.now x)) place
    ∙ one_of_all is_some (memory_of c.args.self.now) c.args.address (length c.args.into.now) c.loop-done.done c.requires.there within

pub returns : goal.returns
returns c =
    let len : length c.loop-done.into ≡ length c.args.into.now = c.loop-done.auto.into in
    are_bytes_at (memory_of c.args.self.now) c.args.address (length c.args.into.now) c.loop-done.into len
    (λ k l. c.loop-done.invariant.bytes k (omega (arith, l, len, c.loop-done-test.false)))
