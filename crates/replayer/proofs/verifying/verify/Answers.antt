use Rattle.std.proofs.Common.{rules, arith, ◌≡◌, ◌∙◌, List, take, refl, subst}
use Rattle.std.proofs.lemmas.List.{take_all}
use Rattle.std.proofs.lemmas.Result.{IfOk-weaker, err_from_is_err_and}
use Rattle.rrv_model.specs.declared.record.Record.{Record}
use Rattle.guest_calls.specs.Guest.{state_of}
use Rattle.replayer.specs.Refusals.{TakesMemory}
use Rattle.replayer.specs.Sourced.{Followed}
use Rattle.replayer.proofs.Sourced.{first_of_list, followed_at, followed_first}
use Rattle.replayer.proofs.Walked.{refused_at, first_there}
use Rattle.replayer.proofs.verifying.verify.Goals as goal

pub loop-index-init : goal.loop-index-init
loop-index-init c =
    let first = c.in-Some.first.now in
    let w = c.in_ok-walk.walk in
    let alone : Followed first _ w =
    followed_first first w c.in_ok-walk.ensures.stands c.in_ok-walk.ensures.row c.in_ok-walk.ensures.frames c.in_ok-walk.ensures.marks
    c.in_ok-walk.ensures.total
    c.in_ok-walk.ensures.last c.in_ok-walk.ensures.ends in
    record {
      followed = search (rules, first_of_list, alone);
      keeping = c.in_ok-walk.ensures.keeps;
      total = omega (arith, c.in_ok-walk.ensures.total);
    }

pub loop-index-preserved : goal.loop-index-preserved
loop-index-preserved c =
    let inv = c.loop-index.invariant in
    record {
      followed = followed_at c.in-Some.first.now c.args.records.now c.loop-index.index c.index-records-index.result c.loop-index.walk
          c.follow_record.new.walk
          (search rules) c.loop-index.auto.index c.index-records-index.is inv.followed (search rules) (search rules) (search rules)
          (search rules) (search rules) (search rules);
      keeping = c.follow_record.ensures.goes_on ∙ inv.keeping;
      total = grind arith;
    }

pub returns-in_err-follow_record-clause-refused : goal.returns-in_err-follow_record-clause-refused
returns-in_err-follow_record-clause-refused c =
    let p = err_from_is_err_and c.from_residual-in_err-follow_record.result c.from_residual-in_err-follow_record.ensures.1 in
    rw (p.1, p.2)
    (refused_at c.in_err-follow_record.field-0.0 c.in-Some.first.now.guest c.args.records.now c.loop-index.index
    c.index-records-index.result
    (state_of c.loop-index.walk.pair.base) c.loop-index.walk.parts.items (state_of c.loop-index.walk.pair.guest) (search rules)
    c.index-records-index.is
    c.loop-index.invariant.followed.stands
    (search (rules, first_there TakesMemory)) c.in_err-follow_record.ensures.refused)

pub returns-clause-keeps : goal.returns-clause-keeps
returns-clause-keeps c =
    let inv = c.loop-index.invariant in
    let all : take c.loop-index.index c.args.records.now ≡ c.args.records.now =
    take_all c.loop-index.index c.args.records.now (search rules) in
    let followed = subst (λ (rs : List Record). Followed c.in-Some.first.now rs c.loop-index.walk) all inv.followed in
    IfOk-weaker c.kept_of.result _ _ (λ v kept. kept c.args.records.now followed refl) c.kept_of.ensures.keeps
