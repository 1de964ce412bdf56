use Rattle.std.proofs.Common.{◌∙◌, ◌^◌, ℕ, List, ap, subst, sym, arith}
use Rattle.sha2.specs.Hashers.{Holds256}
use Rattle.sha2.specs.Sha256.{sha256}
use Rattle.guest_pages.specs.Space.{memory_of}
use Rattle.trace_text.specs.Digest.{pieces_below}
use Rattle.trace_text.proofs.Pieces.{pieces_end, pieces_next, pieces_none}
use Rattle.trace_text.proofs.memory_digest.digest_of.Goals as goal

pub loop-number-init : goal.loop-number-init
loop-number-init c = record {
  low = omega arith;
  held = subst (λ (p : List ℕ). Holds256 c.new-hasher.result p) (sym (pieces_none (memory_of c.args.space.now))) c.new-hasher.ensures;
}

pub loop-number-preserved : goal.loop-number-preserved
loop-number-preserved c =
    let m = memory_of c.args.space.now in
    let n = c.in-Some.number in
    let low = c.in-Some.ensures.0.1 in record {
      low = omega (arith, low);
      held = subst (λ (p : List ℕ). Holds256 c.add_page.new.hasher p)
          (sym (pieces_next m c.loop-number.least n c.in-Some.page c.in-Some.ensures.0 c.add_page.ensures.full c.in-Some.ensures.1))
          (c.add_page.ensures.held (pieces_below c.loop-number.least m) c.loop-number.invariant.held);
    }

pub returns : goal.returns
returns c =
    let m = memory_of c.args.space.now in
    let least = c.loop-number.least in
    c.finalize.ensures (pieces_below least m) c.loop-number.invariant.held
    ∙ ap sha256 (sym (pieces_end m least (2 ^ 20) c.in_default.ensures (omega (arith, c.loop-number.invariant.low))))
