use Rattle.std.proofs.Common.{◌+◌, ◌*◌, List, ℕ, Option, sym, ap, ◌∙◌}
use Rattle.std.specs.Prelude.{slice_index}
use Rattle.rrv_model.specs.Checkpoint.{patched_byte}
use Rattle.rrv_model.specs.LineMask.{merged_byte}
use Rattle.rrv_model.specs.Memory.{Cell, page_bytes}
use Rattle.rrv_model.specs.declared.record.Line.{Line}
use Rattle.guest_pages.specs.Space.{SpaceValue, memory_of}
use Rattle.checkpoint.proofs.pages.patched_bytes.Goals as goal
use Rattle.checkpoint.proofs.pages.patched_bytes.Goals.{in-Some, in-None}

pub returns : goal.returns
returns c k low =
    let page = c.args.page.now in
    let at = page.number * page_bytes + k in
    let same = ap (λ (s : SpaceValue). memory_of s at) c.space.ensures in
    let lines = ap (λ (ls : List Line). merged_byte page.mask ls (slice_index c.match-page.bytes k) k) c.as_slice.ensures in
    c.merge.ensures k low ∙ lines ∙ elim c.match-page.branch [
      | in-Some w ↦
          ap (λ (bytes : List ℕ). merged_byte page.mask page.lines (slice_index bytes k) k) w.bytes-is
          ∙ ap (λ (o : Option Cell). patched_byte page o k) (sym (w.in-Some.ensures k low) ∙ same)
      | in-None w ↦
          ap (λ (bytes : List ℕ). merged_byte page.mask page.lines (slice_index bytes k) k) w.bytes-is
          ∙ ap (λ b. merged_byte page.mask page.lines b k) (w.zero_page-bytes.ensures k low)
          ∙ ap (λ (o : Option Cell). patched_byte page o k) (sym (w.in-None.ensures k low) ∙ same)
    ]
