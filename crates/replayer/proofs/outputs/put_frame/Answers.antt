use Rattle.std.proofs.Common.{◌++◌, ℕ, List, ap, ◌∙◌}
use Rattle.std.proofs.lemmas.Result.{on_err_weaker}
use Rattle.guest_calls.specs.Guest.{chunks_of}
use Rattle.replayer.proofs.Putting.{call_part}
use Rattle.replayer.proofs.outputs.put_frame.Goals as goal

pub returns-in-Some-clause-part : goal.returns-in-Some-clause-part
returns-in-Some-clause-part g c = on_err_weaker c.put_bytes.result
    (λ part tells. let some = part tells in (
      some.0,
      some.1 ∙ ap (λ (l : List (ℕ × ℕ)). g.S.Sink.taken c.args.sink.now ++ l)
          (call_part c.args.frame.now.end c.in-Call.field-0 (chunks_of c.args.guest.now.put) c.in-Some.descriptor some.0 c.in-Some.bytes.now
          c.in-Call.is c.in-Some.ensures),
    ))
    c.put_bytes.ensures.part
