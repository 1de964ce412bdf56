use Rattle.std.proofs.Common.{[], map, rules, subst}
use Rattle.std.specs.Borrow.{Bor}
use Rattle.std.specs.List.{AllByRecursion}
use Rattle.std.proofs.lemmas.List.{take_all}
use Rattle.clap.specs.Words.{Text}
use Rattle.command_line.specs.Values.{IsNameWithin}
use Rattle.command_line.proofs.Texts.{each_so, next_so}
use Rattle.command_line.proofs.recording.first_bad.Goals as goal

abbrev text_of : Bor Text → Text
text_of s = s.now

abbrev none : Bor Text
none = record { ref_ptr = (0, 0); now = [] }

pub returns-then-not-is_name_within-clause-some : goal.returns-then-not-is_name_within-clause-some
returns-then-not-is_name_within-clause-some c = λ some all.
    let own = each_so text_of (IsNameWithin c.args.most) c.args.texts.now c.loop-text.text-index none (search rules) all in
    let yes = c.is_name_within.ensures.1 own in
    search rules

pub loop-text-preserved : goal.loop-text-preserved
loop-text-preserved c =
    next_so text_of (IsNameWithin c.args.most) c.args.texts.now c.loop-text.text-index none (search rules) c.loop-text.invariant
    (c.is_name_within.ensures.0 (search rules))

pub returns-clause-none : goal.returns-clause-none
returns-clause-none c = λ _.
    subst (λ ts. AllByRecursion (IsNameWithin c.args.most) (map text_of ts))
    (take_all c.loop-text.text-index c.args.texts.now c.loop-text-test.false) c.loop-text.invariant
