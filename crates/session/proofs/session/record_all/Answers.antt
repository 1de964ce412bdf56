use Rattle.std.proofs.Common.{rules, arith, ◌≡◌, ◌∙◌, inl, inr, ℕ, [], false, ap, refl, sym, subst}
use Rattle.std.specs.Prelude.{slice_get, Some, IfSome}
use Rattle.faults.specs.declared.session.SessionFault.TheVariants as faults
use Rattle.session.specs.declared.report.SessionReport.{SessionReport}
use Rattle.session.proofs.Told.{bad_told, new_once, none_is_new, job_is_no_device, job_is_no_sink, job_is_sessions, none_is_bad, none_there, other_than_sink, sinks_rest, steady_told}
use Rattle.session.proofs.Pairs.{none_left}
use Rattle.session.specs.Openings.{AreOld, IsFirstNew, RefusesJobs}
use Rattle.session.proofs.Refusals.{job_tells}
use Rattle.session.proofs.Sessions.{none_left_behind, none_reported, nothing_ran, tells_alone, tells_none}
use Rattle.session.proofs.session.record_all.Given.{Over}
use Rattle.session.proofs.session.record_all.Goals.{In-Some, In_default}
use Rattle.session.proofs.session.record_all.Goals as goal

pub returns-then-count-clause-recorded : goal.returns-then-count-clause-recorded
returns-then-count-clause-recorded g c = (
  [],
  nothing_ran g.D.Disk g.C.Chooser g.S.Sink c.args.log c.args.jobs.items,
  tt,
  tells_alone g.D.Disk g.C.Chooser g.S.Sink SessionReport faults.TooManyGuests tt c.args.log.next_guest c.args.jobs.items,
)

pub returns-then-count-eq0-clause-recorded : goal.returns-then-count-eq0-clause-recorded
returns-then-count-eq0-clause-recorded g c = (
  [],
  nothing_ran g.D.Disk g.C.Chooser g.S.Sink c.args.log c.args.jobs.items,
  (
    none_reported g.C.Chooser g.S.Sink c.args.log.next_guest c.args.jobs.items c.new.result.items
        (none_left c.args.jobs.items (search rules)) c.new.ensures.items,
    none_left_behind c.args.log.next_guest c.args.jobs.items c.new-then-count-eq0.result.items (none_left c.args.jobs.items (search rules))
        c.new-then-count-eq0.ensures.items,
  ),
  tells_none g.D.Disk g.C.Chooser g.S.Sink SessionReport _ c.args.log.next_guest c.args.jobs.items
      (none_left c.args.jobs.items (search rules)),
)

pub returns-in-Err-clause-recorded : goal.returns-in-Err-clause-recorded
returns-in-Err-clause-recorded g c = (
  [],
  nothing_ran g.D.Disk g.C.Chooser g.S.Sink c.args.log c.args.jobs.items,
  tt,
  tells_alone g.D.Disk g.C.Chooser g.S.Sink SessionReport c.in-Err.fault (job_is_sessions _ _ c.in-Err.ensures.refused)
      c.args.log.next_guest c.args.jobs.items,
)

pub returns-in-Err-clause-refused : goal.returns-in-Err-clause-refused
returns-in-Err-clause-refused g c =
    job_tells c.args.log c.args.jobs c.in-Err.fault c.requires.whole
    (subst (λ l. RefusesJobs l c.in-Err.fault) c.deref-2.ensures.value c.in-Err.ensures.refused)

pub returns-then-count-clause-sinks : goal.returns-then-count-clause-sinks
returns-then-count-clause-sinks g c = sinks_rest g.S.Sink _ c.args.jobs.items (other_than_sink faults.TooManyGuests (λ e. omega (arith, e)))

pub returns-then-count-eq0-clause-sinks : goal.returns-then-count-eq0-clause-sinks
returns-then-count-eq0-clause-sinks g c = sinks_rest g.S.Sink _ c.args.jobs.items tt

pub returns-in-Err-clause-sinks : goal.returns-in-Err-clause-sinks
returns-in-Err-clause-sinks g c = sinks_rest g.S.Sink _ c.args.jobs.items (job_is_no_sink _ _ c.in-Err.ensures.refused)

pub returns-in-Err-clause-disk : goal.returns-in-Err-clause-disk
returns-in-Err-clause-disk g c = steady_told SessionReport c.in-Err.fault _ _ (job_is_no_device _ _ c.in-Err.ensures.refused) refl

pub returns-then-count-eq0-clause-bad : goal.returns-then-count-eq0-clause-bad
returns-then-count-eq0-clause-bad g c guest bad =
    absurd (none_there guest bad.job
    (subst (λ l. slice_get l guest ≡ Some bad.job) (none_left c.args.jobs.items (search rules)) bad.is_there))

pub returns-in-Err-clause-bad : goal.returns-in-Err-clause-bad
returns-in-Err-clause-bad g c guest bad = (
  (refl, refl),
  bad_told SessionReport c.args.log c.args.jobs.items guest c.in-Err.fault
      (subst (λ l. RefusesJobs l c.in-Err.fault) c.deref-2.ensures.value c.in-Err.ensures.refused) bad,
)

pub returns-clause-bad : goal.returns-clause-bad
returns-clause-bad g c guest bad = absurd (none_is_bad c.args.jobs.items guest (search rules) bad)

-- ---- a job of a guest of version 2

-- one was found, and the log isn't marked
first_there : (g : Over) (c : In-Some g) → (c.args.log.marked ≡ false) × IsFirstNew c.args.jobs.items c.in-Some.guest
first_there g c =
    let found : (c.marked.result ≡ false) × IsFirstNew c.deref.result.now c.in-Some.guest =
    subst (λ o. IfSome o (λ place. (c.marked.result ≡ false) × IsFirstNew c.deref.result.now place)) c.in-Some.is
    c.first_unmarked.ensures.found in
    (sym c.marked.ensures ∙ found.0, subst (λ l. IsFirstNew l c.in-Some.guest) c.deref.ensures.value found.1)

-- none was
none_new : (g : Over) (c : In_default g) → c.args.log.marked ≡ false → AreOld c.args.jobs.items
none_new g c unmarked =
    subst AreOld c.deref.ensures.value (c.first_unmarked.ensures.none (rw c.in_default.is refl) (c.marked.ensures ∙ unmarked))

pub returns-in-Some-clause-recorded : goal.returns-in-Some-clause-recorded
returns-in-Some-clause-recorded g c = (
  [],
  nothing_ran g.D.Disk g.C.Chooser g.S.Sink c.args.log c.args.jobs.items,
  tt,
  tells_alone g.D.Disk g.C.Chooser g.S.Sink SessionReport (faults.NeedsMark c.in-Some.guest) tt c.args.log.next_guest c.args.jobs.items,
)

pub returns-in-Some-clause-unmarked : goal.returns-in-Some-clause-unmarked
returns-in-Some-clause-unmarked g c guest unmarked new =
    let found = first_there g c in (
      (refl, refl),
      inl (ap (λ (n : ℕ). faults.NeedsMark n) (new_once c.args.jobs.items c.in-Some.guest guest found.1 new)),
    )

pub record_some-requires-clause-marked : goal.record_some-requires-clause-marked
record_some-requires-clause-marked g c κs within = none_new g (goal.at.record_some-requires-clause-marked g c).In_default

pub returns-in-Err-clause-unmarked : goal.returns-in-Err-clause-unmarked
returns-in-Err-clause-unmarked g c guest unmarked new =
    absurd (none_is_new c.args.jobs.items guest (none_new g (goal.at.returns-in-Err-clause-unmarked g c).In_default unmarked) new)

pub returns-clause-unmarked : goal.returns-clause-unmarked
returns-clause-unmarked g c guest unmarked new =
    absurd (none_is_new c.args.jobs.items guest (none_new g (goal.at.returns-clause-unmarked g c).In_default unmarked) new)

pub returns-in-Some-clause-bad : goal.returns-in-Some-clause-bad
returns-in-Some-clause-bad g c guest bad =
    let found = first_there g c in ((refl, refl), inr (inr (inr (found.0, c.in-Some.guest, found.1, refl))))

pub returns-in-Some-clause-refused : goal.returns-in-Some-clause-refused
returns-in-Some-clause-refused g c = let found = first_there g c in (found.0, found.1, (refl, refl))
