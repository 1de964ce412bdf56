use Rattle.std.proofs.Common.{◌≡◌, ◌∙◌, ◌≤◌, List, ℕ, length, sym, ap, arith, rules}
use Rattle.rrv_model.specs.Memory.{bytes_at}
use Rattle.rrv_model.specs.CallRows.{argument}
use Rattle.rrv_model.proofs.MemoryRules.{length_bytes_at}
use Rattle.guest_calls.specs.Guest.{state_of, chunks_of}
use Rattle.guest_calls.proofs.CallParts.{bytes_moved}
use Rattle.guest_calls.proofs.guest.Guest.write.Goals as goal

pub returns : goal.returns
returns c =
    let m = (state_of c.args.self.now).memory in
    let from = argument c.args.thread.now 1 in
    let count = c.answer-record.result.result in
    let bytes : List ℕ = c.in_ok-bytes.bytes.items in
    let are : bytes ≡ bytes_at m from count = c.in_ok-bytes.ensures ∙ ap (bytes_at m from) (sym c.answer-record.ensures.value) in
    let most : count ≤ 65_536 = omega (arith, c.answer-record.ensures.value) in
    record {
      makes = record {
        carries = search rules;
        text = c.answer-record.ensures.makes.text;
        puts = bytes_moved (argument c.args.thread.now 0) count (bytes_at m from count) bytes (chunks_of c.put_of.result)
            are (ap length are ∙ length_bytes_at m from count) most c.put_of.ensures;
        keeps = search rules;
      };
      memory = search rules;
      refused = search rules;
    }
