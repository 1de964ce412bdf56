-- Answers to lines.
use Rattle.std.proofs.Common.{◌≡◌, ◌≢◌, inl, inr, Bool, List, ◌∷◌, ℕ, Option, None, Some, false, true, refl, sym, ◌∙◌, subst, true≢false}
use Rattle.std.specs.Prelude.{◌⊎◌, IfSome, codes}
use Rattle.std.specs.Str.{bytes_eq}
use Rattle.std.proofs.lemmas.Slice.Eq.{bytes_eq-Decides}
use Rattle.std.specs.Io.KnownBytes.{Appends}
use Rattle.clap.specs.Words.{Text}
use Rattle.command_line.specs.Asked.{IsAsked, IsInquiry}
use Rattle.command_line.specs.declared.asked.Asked.{Asked}
use Rattle.command_line.specs.declared.asked.Asked.TheVariants as asks
use Rattle.command_line.specs.declared.asked.Inquiry.{Inquiry}
use Rattle.command_line.specs.declared.asked.Inquiry.TheVariants as inquiries
use Rattle.reverse_step.specs.Cursors.{CursorValue}
use Rattle.line_io.specs.declared.refusal.Refusal.{Refusal}
use Rattle.line_io.specs.declared.refusal.Refusal.TheVariants as refusals
use Rattle.answers.specs.declared.dialogue.Dialogue.{Dialogue}
use Rattle.answers.specs.declared.input_lines.InputLine.{InputLine}
use Rattle.answers.specs.Asking.{AnswersInput, AnswersLine, GoesOnAfter, IsRun, IsRunOn, PrintsRefusal, RefusesAsked, point_line, quiet_after}

-- one answer more
pub answered_on : (start there now : Dialogue) (a b told answered c : Option (List ℕ)) (line : InputLine) → IsRunOn start there a b →
    told ≡ b → AnswersInput line there now told answered → Appends answered c point_line → IsRun start now a c
answered_on start there now a b told answered c line run same answer ended = (
  line ∷ run.0,
  (there, b, answered, run.1, run.2, subst (λ (o : Option (List ℕ)). AnswersInput line there now o answered) same answer, ended),
)

-- after which more are wanted
pub answered_and_on : (start there now : Dialogue) (a b told answered c : Option (List ℕ)) (line : InputLine) →
    IsRunOn start there a b
    → told ≡ b → AnswersInput line there now told answered → Appends answered c point_line → GoesOnAfter line true →
    IsRunOn start now a c
answered_and_on start there now a b told answered c line run same answer ended on = (
  line ∷ run.0,
  (there, b, answered, run.1, run.2, subst (λ (o : Option (List ℕ)). AnswersInput line there now o answered) same answer, ended),
  (on, run.2),
)

-- why a line has no answer, by its text or by none
pub known_why : (known : Option (List ℕ)) (why : List ℕ) → IfSome known (λ text. why ≡ text) →
    IfSome known (λ text. (why ≡ text) ⊎ (why ≡ codes "out of memory"))
known_why None why is = tt
known_why (Some text) why is = inl is

pub no_memory_why : (known : Option (List ℕ)) →
    IfSome known (λ text. (codes "out of memory" ≡ text) ⊎ (codes "out of memory" ≡ codes "out of memory"))
no_memory_why None = tt
no_memory_why (Some text) = inr refl

differ : (one other : Text) → bytes_eq one other ≡ false → one ≡ other → ⊥
differ one other not e = true≢false (sym ((bytes_eq-Decides one other).1 e) ∙ not)

-- a question of a recording is not called so
quits_alone : (name value : Text) (i : Inquiry) → name ≡ codes "quit" → IsInquiry name value i → ⊥
quits_alone name value (inquiries.At p) is h = differ (codes "quit") (codes "at") refl (sym is ∙ h.0)
quits_alone name value (inquiries.Back n) is h = differ (codes "quit") (codes "back") refl (sym is ∙ h.0)
quits_alone name value (inquiries.Forward n) is h = differ (codes "quit") (codes "forward") refl (sym is ∙ h.0)
quits_alone name value (inquiries.Last a) is h = differ (codes "quit") (codes "last") refl (sym is ∙ h.0)
quits_alone name value (inquiries.Next a) is h = differ (codes "quit") (codes "next") refl (sym is ∙ h.0)
quits_alone name value (inquiries.Memory r) is h = differ (codes "quit") (codes "memory") refl (sym is ∙ h.0)
quits_alone name value inquiries.Threads is h = differ (codes "quit") (codes "threads") refl (sym is ∙ h.0)
quits_alone name value inquiries.Where is h = differ (codes "quit") (codes "where") refl (sym is ∙ h.0)

-- a line that asks for the end asks nothing else
pub one_quit : (line : Text) (asked : Asked) → IsAsked line asked → IsAsked line asks.Quit → asked ≡ asks.Quit
one_quit line (asks.Of i) h q = absurd (quits_alone _ _ i q.0 h)
one_quit line (asks.Core file) h q = absurd (differ (codes "quit") (codes "core") refl (sym q.0 ∙ h.0))
one_quit line asks.Choices h q = absurd (differ (codes "quit") (codes "choices") refl (sym q.0 ∙ h.0))
one_quit line asks.Quiet h q = absurd (differ (codes "quit") (codes "quiet") refl (sym q.0 ∙ h.0))
one_quit line asks.Full h q = absurd (differ (codes "quit") (codes "full") refl (sym q.0 ∙ h.0))
one_quit line asks.Help h q = absurd (differ (codes "quit") (codes "help") refl (sym q.0 ∙ h.0))
one_quit line asks.Quit h q = refl

-- a line that asks for the end isn't refused
pub quit_is_answered : (line : Text) (asked : Asked) (old new : CursorValue) (e : Refusal) → IsAsked line asked →
    RefusesAsked asked old new e
    → IsAsked line asks.Quit → ⊥
quit_is_answered line asked old new e h refuses q = subst (λ (a : Asked). RefusesAsked a old new e) (one_quit line asked h q) refuses

-- what is refused doesn't change whether moves are quiet
pub form_stays : (asked : Asked) (old new : CursorValue) (e : Refusal) (was is : Bool) → RefusesAsked asked old new e →
    is ≡ quiet_after asked was
    → is ≡ was
form_stays (asks.Of i) old new e was is refuses form = form
form_stays (asks.Core file) old new e was is refuses form = form
form_stays asks.Choices old new e was is refuses form = form
form_stays asks.Quiet old new e was is refuses form = absurd refuses
form_stays asks.Full old new e was is refuses form = absurd refuses
form_stays asks.Help old new e was is refuses form = form
form_stays asks.Quit old new e was is refuses form = form

-- what a line asks is refused, and nothing was printed before that is told
pub refused_line : (line : Text) (asked : Asked) (old new : Dialogue) (before told after : Option (List ℕ)) (e : Refusal) →
    IsAsked line asked
    → RefusesAsked asked old.cursor new.cursor e → new.is_quiet ≡ quiet_after asked old.is_quiet → e ≢ refusals.OutputFailed
    → told ≡ before → PrintsRefusal None told after → AnswersLine line old new before after
refused_line line asked old new before told after e h refuses form other quiet prints = inr (inl (record {
  asked = asked;
  is_asked = h;
  refusal = e;
  refuses = refuses;
  form_stays = form_stays asked old.cursor new.cursor e old.is_quiet new.is_quiet refuses form;
  not_output = other;
  told = subst (λ (o : Option (List ℕ)). PrintsRefusal None o after) quiet prints;
}))
