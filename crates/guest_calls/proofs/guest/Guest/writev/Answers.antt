-- What is put out is what was joined.
use Rattle.std.proofs.Common.{◌≡◌, ℕ, ◌≤◌, ◌∙◌, min, List, length, sym, ap, arith, rules}
use Rattle.rrv_model.specs.CallRows.{argument, buffers_at, clipped, total_len}
use Rattle.rrv_model.specs.Memory.{Memory}
use Rattle.rrv_model.specs.Output.{puts}
use Rattle.rrv_model.specs.declared.syscall.Syscall.TheVariants.{Writev}
use Rattle.guest_pages.specs.Space.{memory_of}
use Rattle.guest_buffers.specs.Buffers.{joined}
use Rattle.guest_buffers.proofs.Buffers.{joined_alike}
use Rattle.guest_calls.specs.Guest.{GuestValue, chunks_of}
use Rattle.guest_calls.proofs.CallParts.{bytes_moved}
use Rattle.guest_calls.proofs.guest.Guest.writev.Goals as goal

joined_are : (m : Memory) (bs : List (ℕ × ℕ)) (a k count : ℕ) (bytes : List ℕ) → bs ≡ buffers_at m a k →
    bytes ≡ joined m (clipped 65_536 bs) →
    count ≡ min (total_len bs) 65_536 → bytes ≡ joined m (clipped count (buffers_at m a k))
joined_are m bs a k count bytes listed are counted =
    are ∙ sym (joined_alike m bs count counted) ∙ ap (λ (bs : List (ℕ × ℕ)). joined m (clipped count bs)) listed

pub returns : goal.returns
returns c =
    let m = memory_of c.self.inside.space in
    let t = c.args.thread.now in
    let count = c.answer-record.result.result in
    let bytes : List ℕ = c.in-Some.bytes.items in
    let joined_there = rw c.in-Some.is at c.in_ok-bytes.ensures.bytes in
    let found = rw c.space-2.ensures at joined_there in
    let read = rw c.space.ensures at c.in_ok-buffers.ensures.buffers in
    let len : count ≡ length bytes = c.answer-record.ensures.value ∙ c.len.ensures ∙ c.in-Some.bytes.ok.0 in
    let counted : count ≡ min (total_len c.deref-2.result.now) 65_536 = c.answer-record.ensures.value ∙ c.len.ensures ∙ found.2 in
    let listed : c.deref-2.result.now ≡ buffers_at m (argument t 1) (argument t 2) = c.deref-2.ensures.value ∙ read in
    let most : count ≤ 65_536 = omega (arith, counted) in
    let are = joined_are m c.deref-2.result.now (argument t 1) (argument t 2) count bytes listed found.1 counted in
    record {
      makes = record {
        carries = search rules;
        text = c.answer-record.ensures.makes.text;
        puts = bytes_moved (argument t 0) count _ bytes (chunks_of c.put_of.result) are (sym len) most c.put_of.ensures
            ∙ ap (λ (g : GuestValue). puts Writev (memory_of g.space) t count) c.self.view_is;
        keeps = search rules;
      };
      memory = search rules;
      refused = search rules;
    }
