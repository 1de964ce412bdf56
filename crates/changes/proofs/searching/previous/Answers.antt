use Rattle.std.proofs.Common.{None, Option, ℕ, rules, subst}
use Rattle.changes.specs.Changes.{IsLatest}
use Rattle.changes.proofs.Lasts.{last_of, still_known}
use Rattle.changes.proofs.searching.previous.Goals as goal

pub returns-in_default-clause-goes : goal.returns-in_default-clause-goes
returns-in_default-clause-goes g c =
    let v = c.args.cursor.now.verified in
    let lasts = c.look.new.lasts in
    let latest : IsLatest lasts None = search rules in
    record {
      is_last = last_of v.opening v.frames c.args.watched c.args.place lasts _ c.in_ok-look.ensures.count c.in_ok-look.ensures.lasts latest;
      is_at = tt;
      known = tt;
    }

pub returns-clause-goes : goal.returns-clause-goes
returns-clause-goes g c =
    let v = c.args.cursor.now.verified in
    let lasts = c.look.new.lasts in
    let latest = subst (λ (x : Option ℕ). IsLatest lasts x) c.in-Some.is c.latest.ensures in
    record {
      is_last = last_of v.opening v.frames c.args.watched c.args.place lasts _ c.in_ok-look.ensures.count c.in_ok-look.ensures.lasts latest;
      is_at = c.in_ok-go_to.ensures.at;
      known = still_known v.opening v.frames c.args.watched c.args.place c.in-Some.found lasts c.in_ok-look.ensures.count
          c.in_ok-look.ensures.lasts latest;
    }
