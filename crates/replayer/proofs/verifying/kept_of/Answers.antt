use Rattle.std.proofs.Common.{sym}
use Rattle.replayer.proofs.Sourced.{read_kept, kept_records}
use Rattle.replayer.proofs.verifying.kept_of.Goals as goal

pub invariant_of-result : goal.invariant_of-result
invariant_of-result c =
    let there = c.requires.followed in
    let all = read_kept c.args.first.now there.0 c.args.walk c.in_ok-opening.opening there.1 c.requires.keeps
    c.in_ok-opening.ensures.copy in
    (there.0, record { recording = all.0; kept = rw (c.from_vec.ensures, c.from_vec-2.ensures) all.1; len_is = sym there.2 })

pub returns-clause-keeps : goal.returns-clause-keeps
returns-clause-keeps c = λ records followed len.
    let all = read_kept c.args.first.now records c.args.walk c.in_ok-opening.opening followed c.requires.keeps
    c.in_ok-opening.ensures.copy in
    rw (c.from_vec.ensures, c.from_vec-2.ensures)
    (kept_records records c.in_ok-opening.opening c.args.walk.frames.items c.args.walk.marks.items c.args.len len all.0 all.1)
