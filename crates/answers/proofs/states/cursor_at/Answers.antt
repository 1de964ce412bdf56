use Rattle.std.proofs.Common.{◌≡◌, ℕ, ◌<◌, Err, refl, ap, subst}
use Rattle.std.proofs.lemmas.Result.{err_from_is_err_and}
use Rattle.rrv_model.specs.StateAt.{total}
use Rattle.replayer.specs.Verified.{VerifiedValue}
use Rattle.faults.specs.declared.seek.SeekFault.{SeekFault}
use Rattle.faults.specs.declared.seek.SeekFault.TheVariants as seek_faults
use Rattle.line_io.specs.Told.{seek_told}
use Rattle.answers.specs.Refused.{RefusesPlace}
use Rattle.answers.proofs.states.cursor_at.Goals as goal

-- a place that isn't gone to is refused as such
refuses : (fault : SeekFault) (last place : ℕ) → (fault ≡ seek_faults.BeforeStart → ⊥) → (fault ≡ seek_faults.PastEnd → last < place) →
    RefusesPlace (seek_told fault) last place 0
refuses seek_faults.Memory last place before past = tt
refuses seek_faults.PastEnd last place before past = past refl
refuses seek_faults.BeforeStart last place before past = absurd (before refl)

pub returns-in_err-seek : goal.returns-in_err-seek
returns-in_err-seek c =
    let p = err_from_is_err_and c.from_residual-in_err-seek.result c.from_residual-in_err-seek.ensures.1 in
    let e = c.in_err-seek.ensures in
    let fault = c.in_err-seek.field-0.0 in
    let past : fault ≡ seek_faults.PastEnd → total c.args.verified.now.frames < c.args.place =
    λ same. subst (λ (v : VerifiedValue). total v.frames < c.args.place) c.in_ok-cursor.ensures.verified (e.past.0 (ap Err same)) in
    rw (p.1, p.2) (record {
      verified_is = tt;
      at = tt;
      reaches = record
          { within = tt; refused = refuses fault (total c.args.verified.now.frames) c.args.place (λ same. e.before (ap Err same)) past };
    })
