use Rattle.std.proofs.Common.{◌≡◌, Bool, true, false, List, ℕ, [], sym, ◌∙◌, ap, subst, rules}
use Rattle.rrv_model.specs.declared.machine.Thread.{Thread}
use Rattle.rrv_model.specs.CallRows.{Row, all_writable, are_clone_flags, argument, clone_row, tid_places}
use Rattle.guest_threads.proofs.RunningTids.{on_err}
use Rattle.guest_threads.specs.Threads.{is_full}
use Rattle.guest_calls.specs.Carries.{Makes}
use Rattle.guest_calls.specs.Clones.{makes_child}
use Rattle.guest_calls.specs.Growth.{Succeeds}
use Rattle.guest_calls.specs.Guest.{GuestValue, state_of}
use Rattle.guest_calls.proofs.CloneParts.{row_of_child, child_succeeds}
use Rattle.guest_calls.proofs.guest.Guest.clone_thread.Goals as goal

-- a clone whose tests passed makes a child, and so succeeds
child_made : {g old : GuestValue} {places : List ℕ} {flags full allowed : Bool} (t : Thread) → g ≡ old →
    flags ≡ are_clone_flags (argument t 0) → flags ≡ true → full ≡ is_full g.threads → full ≡ false →
    places ≡ tid_places t → allowed ≡ all_writable (state_of old).memory places → allowed ≡ true →
    (clone_row (state_of old) t ≡ makes_child (state_of old) t (tid_places t)) × Succeeds (clone_row (state_of old) t)
child_made {g} {old} t view flags_are flagged full_is room places_are allowed_is allowed =
    let s = state_of old in
    let flags : are_clone_flags (argument t 0) ≡ true = sym flags_are ∙ flagged in
    let space : is_full old.threads ≡ false = ap (λ (g : GuestValue). is_full g.threads) (sym view) ∙ sym full_is ∙ room in
    let free : all_writable s.memory (tid_places t) ≡ true = ap (all_writable s.memory) (sym places_are) ∙ sym allowed_is ∙ allowed in
    (row_of_child s t flags space free, child_succeeds s t flags space free)

pub returns : goal.returns
returns c =
    let s = state_of c.args.self.now in
    let t = c.args.thread.now in
    let made = child_made t c.self.view_is c.are_clone_flags.ensures c.if-not-are_clone_flags.false c.is_full.ensures c.if-is_full.false
    c.tid_places-places.ensures.places c.are_writable.ensures c.if-not-are_writable.false in
    record {
      makes = subst (λ (row : Row). Makes row [] c.args.tid c.args.self.now c.in_ok-record.record c.make_child.new.self) (sym made.0)
          (subst (λ (places : List ℕ).
          Makes (makes_child s t places) [] c.args.tid c.args.self.now c.in_ok-record.record c.make_child.new.self)
          c.tid_places-places.ensures.places c.in_ok-record.ensures.makes);
      memory = search rules;
      refused = search rules;
    }

pub returns-in_err-record : goal.returns-in_err-record
returns-in_err-record c = record {
  makes = search rules;
  memory = on_err c.from_residual.result (child_made c.args.thread.now c.self.view_is c.are_clone_flags.ensures
      c.if-not-are_clone_flags.false c.is_full.ensures c.if-is_full.false c.tid_places-places.ensures.places c.are_writable.ensures
      c.if-not-are_writable.false).1;
  refused = search rules;
}
