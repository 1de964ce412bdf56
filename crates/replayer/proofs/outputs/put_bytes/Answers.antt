use Rattle.std.proofs.Common.{◌++◌, ℕ, List, take, drop, ap, ◌∙◌, arith}
use Rattle.std.proofs.lemmas.List.{take_rest}
use Rattle.rrv_model.specs.Output.{to_descriptor}
use Rattle.replayer.proofs.Putting.{bytes_more}
use Rattle.replayer.proofs.outputs.put_bytes.Goals as goal

pub loop-at-preserved : goal.loop-at-preserved
loop-at-preserved g c =
    let i = c.loop-at.invariant in
    let e = c.in_ok-at.ensures in
    let count = c.in_ok-at.field-0 in
    let k = e.length in
    let low = i.range in
    record {
      range = omega arith;
      put = λ tells. e.took (i.tells.1 tells)
          ∙ ap (λ (l : List ℕ). g.S.Sink.taken c.loop-at.sink ++ to_descriptor c.args.descriptor (take count l))
          (take_rest c.args.bytes.now c.loop-at.at)
          ∙ ap (λ (l : List (ℕ × ℕ)). l ++ to_descriptor c.args.descriptor (take count (drop c.loop-at.at c.args.bytes.now))) (i.put tells)
          ∙ bytes_more c.args.descriptor c.loop-at.at count c.args.bytes.now _;
      counted = e.counted ∙ i.counted;
      tells = ((λ t. i.tells.0 (e.tells.0 t)), (λ t. e.tells.1 (i.tells.1 t)));
    }
