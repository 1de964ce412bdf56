use Rattle.std.proofs.Common.{◌≡◌, ℕ, true, sym, ◌∙◌, ap, subst, arith, rules}
use Rattle.std.specs.Int.{w32, to_le_bytes}
use Rattle.rrv_model.specs.declared.machine.Thread.{Thread}
use Rattle.rrv_model.specs.Memory.{Memory}
use Rattle.rrv_model.specs.CallRows.{all_writable, child_of, with_memory}
use Rattle.guest_pages.specs.Space.{memory_of}
use Rattle.guest_pages.specs.Stores.{stored_at_each}
use Rattle.guest_threads.specs.Threads.{spawned}
use Rattle.guest_calls.specs.contracts.guest.Guest.{the_view}
use Rattle.guest_calls.specs.Clones.{with_child_at, words_at}
use Rattle.guest_calls.specs.Guest.{GuestValue, state_of}
use Rattle.guest_calls.proofs.CloneParts.{text_words}
use Rattle.guest_calls.proofs.guest.Guest.add_child.Goals as goal

pub store_words-requires : goal.store_words-requires
store_words-requires c =
    subst (λ (g : GuestValue). all_writable (state_of g).memory c.args.places.now ≡ true) (sym c.self.view_is) c.requires.allowed

pub returns-clause-child : goal.returns-clause-child
returns-clause-child c =
    let s = state_of (the_view c.self.inside) in
    let m = memory_of c.store_words.new.self in
    let t = c.args.thread.now in
    record {
      state = c.in_ok-threads.ensures (with_memory m s)
          ∙ ap (λ (child : Thread). with_memory m (spawned child s)) c.child_of.ensures.value
          ∙ ap (λ (memory : Memory). with_memory memory (spawned (child_of t) s))
          (c.in_ok-store_words.ensures.stored.ok
          ∙ ap (λ (n : ℕ). stored_at_each c.args.places.now (to_le_bytes w32 n) s.memory) c.next_tid-child.ensures)
          ∙ ap (λ (g : GuestValue). with_child_at c.args.places.now t (state_of g)) c.self.view_is;
      refused = search rules;
      keeps = search rules;
      put = search rules;
    }

pub returns-clause-record_is : goal.returns-clause-record_is
returns-clause-record_is c =
    let tid_is = c.next_tid-child.ensures ∙ ap (λ (g : GuestValue). (state_of g).next_tid) c.self.view_is in
    λ i. record { result = tid_is i; written = (c.in_ok-written.ensures.words ∙ ap (words_at c.args.places.now) tid_is) i }

pub returns-clause-text : goal.returns-clause-text
returns-clause-text c =
    text_words c.args.places.now c.next_tid-child.result c.in_ok-written.written (omega arith) c.in_ok-written.ensures.words c.requires.few
    c.in_ok-written.ensures.texts
