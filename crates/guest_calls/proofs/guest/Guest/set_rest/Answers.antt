use Rattle.std.proofs.Common.{ℕ, List, None, ◌∙◌, ap, rules}
use Rattle.rrv_model.specs.declared.machine.Version.{Version}
use Rattle.rrv_model.specs.declared.record.ThreadPart.{ThreadPart}
use Rattle.rrv_model.specs.State.{State}
use Rattle.guest_pages.specs.Space.{memory_of}
use Rattle.guest_threads.specs.Threads.{thread_map}
use Rattle.guest_threads.specs.ThreadParts.{with_parts}
use Rattle.guest_calls.specs.Guest.{GuestValue, state_of}
use Rattle.guest_calls.specs.Parts.{with_rest}
use Rattle.guest_calls.proofs.guest.Guest.set_rest.Goals as goal

pub returns-in-Ok-clause-set : goal.returns-in-Ok-clause-set
returns-in-Ok-clause-set c =
    let rest = c.args.rest.now in
    let s : State = record {
      version = c.in-Ok.threads.version;
      memory = memory_of c.self.inside.space;
      threads = thread_map c.in-Ok.threads.threads;
      waiting = c.in-Ok.threads.waiting;
      next_tid = c.in-Ok.threads.next_tid;
      opening_break = c.self.inside.opening_break;
      program_break = rest.program_break;
      reservation = None;
      ended = None;
    } in
    record {
      state = c.in-Ok.ensures.made s
          ∙ ap (λ (parts : List ThreadPart). with_parts c.version-version.result parts c.as_slice-waiting.result.now rest.next_tid s)
          c.as_slice-threads.ensures
          ∙ ap (λ (order : List ℕ). with_parts c.version-version.result rest.threads order rest.next_tid s) c.as_slice-waiting.ensures
          ∙ ap (λ (v : Version). with_parts v rest.threads rest.waiting rest.next_tid s) c.version-version.ensures
          ∙ ap (λ (g : GuestValue). with_rest rest (state_of g)) c.self.view_is;
      refused = search rules;
      keeps = search rules;
      put = search rules;
    }
