use Rattle.std.proofs.Common.{◌≡◌, Bool, true, false, not, refl, sym, ap, arith, ◌∙◌}
use denote.Enum.Bare.{sameb}
use Rattle.rrv_model.specs.contracts.machine.Version.{the_type}
use Rattle.rrv_model.specs.declared.machine.Version.{Version}
use Rattle.rrv_model.specs.declared.machine.Version.TheVariants.{One, Two}
use Rattle.rrv_model.specs.State.{live_threads}
use Rattle.std.proofs.lemmas.Bool.{false≢true}
use Rattle.std.proofs.lemmas.Bool.Decides.{Decides-eqb}
use Rattle.std.proofs.lemmas.Slice.Eq.{slice_eq-Decides}
use Rattle.guest_threads.proofs.SameThreads.{same_states, same_versions, same_maps, same_orders, same_next}
use Rattle.guest_threads.proofs.threads.Threads.same.Goals as goal
use Rattle.guest_threads.proofs.threads.Threads.same.Goals.{then-same_threads, else-same_threads}

same_version : (u v : Version) → (sameb the_type u v ≡ true → u ≡ v) × (u ≡ v → sameb the_type u v ≡ true)
same_version One One = (λ e. refl, λ e. refl)
same_version Two Two = (λ e. refl, λ e. refl)
same_version One Two = (λ e. absurd (false≢true e), λ e. absurd (omega (arith, ap live_threads e)))
same_version Two One = (λ e. absurd (false≢true e), λ e. absurd (omega (arith, ap live_threads e)))

not_true : (b : Bool) → not b ≡ true → b ≡ false
not_true true e = absurd (false≢true e)
not_true false e = refl

not_false : (b : Bool) → not b ≡ false → b ≡ true
not_false true e = refl
not_false false e = absurd (false≢true (sym e))

pub returns-then-ne : goal.returns-then-ne
returns-then-ne c = (
  λ t. absurd (false≢true t),
  λ h. sym (not_true _ (sym c.ne.ensures ∙ c.if-ne.true))
      ∙ (same_version c.self.inside.version c.other.inside.version).1 (same_versions _ _ _ _ _ _ _ _ _ _ c.self.view_is c.other.view_is h),
)

pub returns-then-eq : goal.returns-then-eq
returns-then-eq c =
    let a = c.self.inside in
    let b = c.other.inside in
    elim c.if-same_threads.branch [
      | then-same_threads w ↦ (
        λ t. same_states _ _ _ _ _ _ _ _ _ _ c.self.view_is c.other.view_is
            ((same_version c.self.inside.version c.other.inside.version).0 (not_false _ (sym c.ne.ensures ∙ c.if-ne.false)))
            (c.same_threads.ensures.0 w.if-same_threads.true)
            ((slice_eq-Decides Decides-eqb a.waiting.items b.waiting.items w.eq.result w.eq.ensures).0 (sym w.value-is ∙ c.if-eq.true))
            ((Decides-eqb a.next_tid b.next_tid).0 t),
        λ h. (Decides-eqb a.next_tid b.next_tid).1 (same_next _ _ _ _ _ _ _ _ _ _ c.self.view_is c.other.view_is h),
      )
      | else-same_threads w ↦ absurd (false≢true (sym w.if-same_threads.false ∙ sym w.value-is ∙ c.if-eq.true))
    ]

pub returns-else-eq : goal.returns-else-eq
returns-else-eq c =
    let a = c.self.inside in
    let b = c.other.inside in (
      λ t. absurd (false≢true (sym c.if-eq.false ∙ t)),
      λ h. elim c.if-same_threads.branch [
        | then-same_threads w ↦
            w.value-is ∙ (slice_eq-Decides Decides-eqb a.waiting.items b.waiting.items w.eq.result w.eq.ensures).1
            (same_orders _ _ _ _ _ _ _ _ _ _ c.self.view_is c.other.view_is h)
        | else-same_threads w ↦
            absurd (false≢true
            (sym w.if-same_threads.false ∙ c.same_threads.ensures.1 (same_maps _ _ _ _ _ _ _ _ _ _ c.self.view_is c.other.view_is h)))
      ],
    )
