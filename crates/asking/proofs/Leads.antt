-- Where a question leads.
use Rattle.std.proofs.Common.{◌≡◌, ◌∙◌, ℕ, Option, Some, None, ap, subst, sym}
use Rattle.std.specs.Prelude.{IfNone, IfSome}
use Rattle.command_line.specs.declared.asked.Inquiry.{Inquiry}
use Rattle.faults.specs.declared.seek.SeekFault.{SeekFault}
use Rattle.faults.specs.declared.seek.SeekFault.TheVariants as seek_faults
use Rattle.line_io.specs.Told.{seek_told}
use Rattle.reverse_step.specs.Cursors.{CursorValue}
use Rattle.rrv_model.specs.StateAt.{total}
use Rattle.asking.specs.Answers.{Refuses, Stays}

-- to a place that was found
pub found_there : (IsFound : Option ℕ → Type 0) (found : Option ℕ) (t to : ℕ) → found ≡ Some t → IsFound found →
    IfSome found (λ place. to ≡ place) → IsFound (Some to)
found_there IsFound found t to is holds at =
    let there : to ≡ t = subst (λ (o : Option ℕ). IfSome o (λ place. to ≡ place)) is at in
    subst IsFound (is ∙ ap (λ n. Some n) (sym there)) holds

-- and nowhere, where none was
pub found_nowhere : (IsFound : Option ℕ → Type 0) (found : Option ℕ) (old new : CursorValue) → found ≡ None → IsFound found →
    IfNone found (new ≡ old) → IsFound None × (new.place ≡ old.place)
found_nowhere IsFound found old new is holds stays =
    let same : new ≡ old = subst (λ (o : Option ℕ). IfNone o (new ≡ old)) is stays in
    (subst IsFound is holds, ap (λ (c : CursorValue). c.place) same)

-- and why it leads nowhere is told
pub stays : (fault : SeekFault) (inquiry : Inquiry) (old new : CursorValue) →
    Refuses fault inquiry (total old.verified.frames) old.place → new ≡ old → Stays inquiry old new (seek_told fault)
stays seek_faults.BeforeStart inquiry old new refuses same = (refuses, same)
stays seek_faults.PastEnd inquiry old new refuses same = (refuses, same)
stays seek_faults.Memory inquiry old new refuses same = (refuses, same)
