-- What is printed of places and of changes.
use Rattle.std.proofs.Common.{◌≡◌, inr, ℕ, ◌+◌, ◌-◌, ◌<◌, Bool, if◌then◌else◌, lt-ltb, subst, List, ◌++◌, Option, arith, refl, ap, ◌∙◌}
use Rattle.std.specs.Prelude.{IfErr, OnOk, Result, Ok, Err}
use Rattle.std.specs.Io.KnownBytes.{Appends}
use Rattle.asking.specs.Places.{RunsNext, shown_place}
use Rattle.command_line.specs.declared.request.MemoryRange.{MemoryRange}
use Rattle.command_line.specs.declared.request.Watched.{Watched}
use Rattle.line_io.specs.declared.refusal.Refusal.{Refusal}
use Rattle.line_io.specs.declared.refusal.Refusal.TheVariants as refusals
use Rattle.line_io.specs.Stores.{RefusesPrint}
use Rattle.rrv_model.specs.declared.record.Frame.{Frame}
use Rattle.rrv_model.specs.declared.record.Opening.{Opening}
use Rattle.rrv_model.specs.State.{State, thread_at}
use Rattle.rrv_model.specs.StateAt.{StateAt, total}
use Rattle.trace_text.specs.States.{state_lines}
use Rattle.changes.specs.Printed.{IsLineText, IsStateText, ranges_lines}
use Rattle.changes.specs.Texts.{change_line, value_text}
use Rattle.end_text.proofs.Printed.{appends_on}

pub state_printed : {T E : Type 0} (r : Result T E) (o : Opening) (frames : List Frame) (ranges : List MemoryRange) (s : State)
    (place at steps : ℕ) (a b c : Option (List ℕ))
    → StateAt o frames place s → at ≡ place → steps ≡ total frames → Appends a b (state_lines at steps s) →
    OnOk r (Appends b c (ranges_lines s.memory ranges))
    → OnOk r ((text : List ℕ) × IsStateText o frames ranges place text × Appends a c text)
state_printed (Ok x) o frames ranges s place at steps a b c is_at at_is steps_are first next =
    let bytes = ranges_lines s.memory ranges in (
      state_lines at steps s ++ bytes,
      record {
        state = s;
        is_at = is_at;
        text_is = ap (λ n. state_lines n steps s ++ bytes) at_is ∙ ap (λ n. state_lines place n s ++ bytes) steps_are;
      },
      appends_on a b c _ _ _ first next refl,
    )
state_printed (Err e) o frames ranges s place at steps a b c is_at at_is steps_are first next = tt

-- ---- the line of a change

-- before the end the thread that is shown is the one that runs next
pub runs_there : (frames : List Frame) (place tid : ℕ) → place < total frames →
    (0 < total frames → RunsNext frames (shown_place (total frames) place) tid) → RunsNext frames place tid
runs_there frames place tid low shown =
    subst (λ (b : Bool). RunsNext frames (if b then place else total frames - 1) tid) (lt-ltb place (total frames) low)
    (shown (omega (arith, low)))

pub line_printed : {T E : Type 0} (r : Result T E) (o : Opening) (frames : List Frame) (w : Watched) (ranges : List MemoryRange)
    (before after : State) (place tid : ℕ) (text : List ℕ) (a b c : Option (List ℕ))
    → StateAt o frames place before → StateAt o frames (place + 1) after → RunsNext frames place tid
    → text ≡ change_line place tid (thread_at before tid) (value_text before.memory w) (value_text after.memory w)
    → Appends a b text → OnOk r (Appends b c (ranges_lines before.memory ranges))
    → OnOk r ((text : List ℕ) × IsLineText o frames w ranges place text × Appends a c text)
line_printed (Ok x) o frames w ranges before after place tid text a b c is_before is_after runs is first next =
    let bytes = ranges_lines before.memory ranges in (
      text ++ bytes,
      record {
        before = before;
        after = after;
        is_before = is_before;
        is_after = is_after;
        tid = tid;
        runs = runs;
        text_is = ap (λ (l : List ℕ). l ++ bytes) is;
      },
      appends_on a b c _ _ _ first next refl,
    )
line_printed (Err e) o frames w ranges before after place tid text a b c is_before is_after runs is first next = tt

-- what isn't taken isn't printed
pub output_refused : {T : Type 0} (r : Result T Refusal) → IfErr r (λ e. e ≡ refusals.OutputFailed) → IfErr r RefusesPrint
output_refused (Ok x) refused = tt
output_refused (Err e) refused = inr refused
