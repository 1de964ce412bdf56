use Rattle.std.proofs.Common.{◌*◌, ◌+◌, List, ℕ, subst, sym, arith}
use Rattle.std.proofs.KnownBytes.{Appends-nil, Appends-trans}
use Rattle.std.specs.Io.KnownBytes.{Appends}
use Rattle.rrv_model.specs.Memory.{page_bytes}
use Rattle.guest_pages.specs.Space.{memory_of}
use Rattle.core_file.proofs.PageBytes.{is_there, no_bytes, page_more}
use Rattle.core_file.proofs.core_file.write_run.Goals as goal

pub loop-index-init : goal.loop-index-init
loop-index-init g c =
    subst (λ (bytes : List ℕ). Appends (g.W.Write.contents c.args.out.now) (g.W.Write.contents c.args.out.now) bytes)
    (sym (no_bytes (memory_of c.args.space.now) (c.args.run.now.first * page_bytes))) (Appends-nil _)

pub unreachable-requires : goal.unreachable-requires
unreachable-requires g c =
    let run = c.args.run.now in
    let i = c.loop-index.index in
    is_there (memory_of c.args.space.now) (run.first + i) run.flags
    (c.requires.there i (omega (arith, c.loop-index-test.true, c.requires.fits.filled))) c.in_default.ensures

pub loop-index-preserved : goal.loop-index-preserved
loop-index-preserved g c =
    let m = memory_of c.args.space.now in
    subst (λ (bytes : List ℕ). Appends (g.W.Write.contents c.args.out.now) (g.W.Write.contents c.write_page.new.out) bytes)
    (sym (page_more m c.args.run.now.first c.loop-index.index c.in-Some.page c.write_page.ensures.full c.in-Some.ensures))
    (Appends-trans _ _ _ _ _ c.loop-index.invariant c.in_ok-write_page.ensures.written)
