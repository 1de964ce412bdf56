use Rattle.std.proofs.Common.{◌≤◌, ◌∙◌, length, arith, refl, sym}
use Rattle.std.specs.Prelude.{take}
use Rattle.clap.proofs.TakesLemmas.{passed_up}
use Rattle.rrv_model.specs.Recovered.{of_guest}
use Rattle.recover.specs.Spots.{records_of}
use Rattle.line_io.specs.Told.{verify_told}
use Rattle.listings.specs.Turns.{RefusesTurns}
use Rattle.listings.proofs.TurnTexts.{first_printed, next_refused, take_length, turn_printed}
use Rattle.listings.proofs.turns.print_turns_of.Goals as goal

pub loop-index-init : goal.loop-index-init
loop-index-init g c = (
  c.len-index-end.ensures.count,
  omega arith,
  λ on.
      let records = of_guest c.args.guest (records_of c.args.lists.now) in
      let first = first_printed c.args.form records c.in_ok-first.first c.in_ok-following.following _ _ (c.in_ok-first.ensures.read.read on)
      c.in_ok-following.ensures.behind c.in_ok-print_turn.ensures.printed in
      (first.0, first.1, c.in_ok-first.ensures.read.on on),
)

pub returns-in_err-follow-clause-refused : goal.returns-in_err-follow-clause-refused
returns-in_err-follow-clause-refused g c = λ on.
    let records = of_guest c.args.guest (records_of c.args.lists.now) in
    let before = c.loop-index.invariant in
    let behind = (before.2 on).0 in
    let there = c.in_ok-entry.ensures.read.read (before.2 on).2 in
    let index = c.loop-index.index in
    let few : index ≤ length records = omega (arith, c.loop-index-test.true, before.0) in
    let some : 1 ≤ length records = c.requires in
    let fault = c.in_err-follow.field-0.0 in
    passed_up c.from_residual-in_err-follow.result (verify_told fault) (λ e. RefusesTurns e records) c.from_residual-in_err-follow.ensures.1
    (next_refused (verify_told fault) fault records index c.in_ok-entry.entry c.loop-index.following there some refl behind
    (sym (behind.len ∙ take_length records index few))
    c.in_err-follow.ensures.named (c.in_err-follow.ensures.refused (take index records) behind))

pub loop-index-preserved : goal.loop-index-preserved
loop-index-preserved g c =
    let records = of_guest c.args.guest (records_of c.args.lists.now) in
    let before = c.loop-index.invariant in (
      before.0,
      omega arith,
      λ on.
          let at = before.2 on in
          let next = turn_printed c.args.form records c.loop-index.index c.in_ok-entry.entry c.total-from.result c.follow.new.self _ _ _
          (c.in_ok-entry.ensures.read.read at.2)
          (c.total-from.ensures ∙ at.0.total) (c.in_ok-follow.ensures.behind (take c.loop-index.index records) at.0) at.1
          c.in_ok-print_turn-2.ensures.printed in
          (next.0, next.1, c.in_ok-entry.ensures.read.on at.2),
    )
