use Rattle.std.proofs.Common.{◌≡◌, eqb, Decides, refl, ap}
use Rattle.std.proofs.lemmas.Bool.Decides.{Decides-eqb}
use Rattle.std.proofs.lemmas.Slice.Eq.{slice_eq-Decides}
use Rattle.rrv_model.specs.declared.record.Line.{Line}
use lib.Pointwise.{pointwise}
use Rattle.checkpoint.proofs.comparison.are_same_lines.Goals as goal

-- what `==` of two lines says
same_line : (a b : Line) → Decides (pointwise eqb a.bytes b.bytes) (a ≡ b)
same_line a b =
    let bytes = slice_eq-Decides Decides-eqb a.bytes b.bytes _ refl in (
      λ e i. record { bytes = bytes.0 e i },
      λ e. bytes.1 (ap (λ (l : Line). l.bytes) e),
    )

pub returns : goal.returns
returns c = slice_eq-Decides same_line c.args.found.now c.args.told.now c.eq.result c.eq.ensures
