use Rattle.std.proofs.Common.{List, [], ◌∷◌, refl, ◌∙◌, ap, sym, subst, arith, rules}
use Rattle.rrv_model.specs.declared.record.Written.{Written}
use Rattle.rrv_model.specs.declared.record.CallRecord.{CallRecord}
use Rattle.rrv_model.specs.State.{State, thread_at, IsRunning}
use Rattle.rrv_model.specs.CallRows.{leaves}
use Rattle.guest_calls.specs.Guest.{state_of}
use Rattle.guest_calls.proofs.CallParts.{text_cleared, carries_clearing, memory_kept}
use Rattle.rrv_model.proofs.ThreadRules.{wakes_running}
use Rattle.guest_calls.proofs.guest.Guest.exit_clearing.Goals as goal

pub returns : goal.returns
returns c =
    let made : List Written → CallRecord = λ written. record { result = 0; written = written } in
    let old = state_of c.args.self.now in
    record {
      makes = record {
        carries = carries_clearing c.args.clear c.args.tid c.args.status (0 ∷ 0 ∷ 0 ∷ 0 ∷ []) old (state_of c.clear_word.new.self) _ _
            (ap made c.in_ok-written.ensures) c.in_ok-clear_word.ensures.state
            (ap state_of c.self.view_is ∙ c.leave.ensures.state ∙ ap (leaves c.args.tid c.args.status) c.wake.ensures.wakes.state)
            (memory_kept c.args.clear c.args.tid c.args.status old);
        text = text_cleared c.args.clear c.in_ok-written.written (omega arith) c.in_ok-written.ensures;
        puts = refl;
        keeps = search rules;
      };
      memory = search rules;
      refused = search rules;
    }

pub leave-requires : goal.leave-requires
leave-requires c =
    subst (λ (s : State). IsRunning (thread_at s c.args.tid)) (sym c.wake.ensures.wakes.state)
    (wakes_running c.args.clear 1 c.args.tid (state_of c.clear_word.new.self)
    (subst (λ (s : State). IsRunning (thread_at s c.args.tid)) (sym c.in_ok-clear_word.ensures.state) c.requires.running))
