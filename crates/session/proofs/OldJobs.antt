-- Where no job is of a guest of version 2 each record that is sent may stand before the Mark.
use Rattle.std.proofs.Common.{◌≡◌, inl, inr, ℕ, zero, suc, ◌+◌, ◌-◌, ◌<◌, List, [], ◌∷◌, ◌++◌, length, refl, sym, subst, arith}
use Rattle.std.specs.List.{AllByRecursion}
use Rattle.outcomes.proofs.Lists.{AllByRecursion-back, AllByRecursion-front}
use Rattle.rrv_model.specs.declared.machine.Version.TheVariants.{One}
use Rattle.rrv_model.specs.declared.record.Record.{Record}
use Rattle.rrv_model.specs.Recording.{IsRecording}
use Rattle.rrv_model.specs.Recovered.{of_guest, AreOld}
use Rattle.rrv_model.proofs.OldGuests.{old_guests_need_no_mark}
use Rattle.rrv_model.proofs.RecoveredLaws.{of_guest-append, of_guest-push}
use Rattle.commit_group.specs.Numbers.{IsPlaced}
use Rattle.session.specs.declared.job.Job.{Job}
use Rattle.session.specs.Openings.{AreOld as AreOldJobs}
use Rattle.session.specs.Sessions.{AreRecorded, HasRecorded}
use Rattle.session.specs.Works.{Choosers, Sinks, opening_for}
use Rattle.std.specs.Prelude.{vec_items}

-- what is so of the records under each number is so of all
pub of_each_number : (P : Record → Type 0) (first count : ℕ) (records : List Record) → AllByRecursion (IsPlaced first count) records →
    ((k : ℕ) → k < count → AllByRecursion P (of_guest (first + k) records)) → AllByRecursion P records
of_each_number P first count [] placed each = tt
of_each_number P first count (r ∷ records) placed each =
    let low = placed.0.low in
    let high = placed.0.high in
    let number : first + (r.guest - first) ≡ r.guest = omega arith in
    let here : AllByRecursion P (of_guest r.guest (r ∷ records)) =
    subst (λ (n : ℕ). AllByRecursion P (of_guest n (r ∷ records))) number (each (r.guest - first) (omega arith)) in
    let front : AllByRecursion P (of_guest r.guest (r ∷ [])) =
    AllByRecursion-front P (of_guest r.guest (r ∷ [])) (of_guest r.guest records)
    (subst (λ (l : List Record). AllByRecursion P l) (of_guest-append r.guest (r ∷ []) records) here) in
    let one : AllByRecursion P (r ∷ []) = subst (λ (l : List Record). AllByRecursion P l) (of_guest-push r.guest [] r refl) front in (
      one.0,
      of_each_number P first count records placed.1 (λ k few.
          AllByRecursion-back P (of_guest (first + k) (r ∷ [])) (of_guest (first + k) records)
          (subst (λ (l : List Record). AllByRecursion P l) (of_guest-append (first + k) (r ∷ []) records) (each k few))),
    )

module _ {C O S : Type 0} (choosers : Choosers C) (sinks : Sinks S) (records : List Record) where
  one_old : (number : ℕ) (old new : Job C O S) → old.version ≡ One → HasRecorded choosers sinks number records old new →
      AreOld (of_guest number records)
  one_old number old new one h = elim h.records [
    | inl none ↦ subst AreOld (sym none) tt
    | inr some ↦ subst AreOld (sym some.0.1)
        (old_guests_need_no_mark (opening_for number old) some.0.0
        (record { version = old.version; elf = vec_items old.elf; name = vec_items old.name; random = old.random })
        (subst IsRecording some.0.1 some.1) refl one)
  ]

  -- what is recorded of old jobs, by their numbers from this one on
  pub each_old : (number : ℕ) (jobs jobs' : List (Job C O S)) → AreRecorded choosers sinks records number jobs jobs' → AreOldJobs jobs →
      (k : ℕ) → k < length jobs → AreOld (of_guest (number + k) records)
  each_old number [] jobs' h old k few = absurd (omega (arith, few))
  each_old number (a ∷ jobs) [] h old k few = absurd h
  each_old number (a ∷ jobs) (b ∷ jobs') h old zero few =
      subst (λ (n : ℕ). AreOld (of_guest n records)) (omega arith) (one_old number a b old.0 h.0)
  each_old number (a ∷ jobs) (b ∷ jobs') h old (suc k) few =
      subst (λ (n : ℕ). AreOld (of_guest n records)) (omega arith) (each_old (number + 1) jobs jobs' h.1 old.1 k (omega (arith, few)))
