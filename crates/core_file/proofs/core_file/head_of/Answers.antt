use Rattle.std.proofs.Common.{◌≡◌, append_assoc, length, arith}
use Rattle.std.specs.FinMap.{entries}
use Rattle.guest_threads.specs.Threads.{thread_map}
use Rattle.guest_threads.specs.ThreadParts.{entries_of}
use Rattle.core_file.proofs.ThreadEntries.{count_told, few_parts, threads_told}
use Rattle.core_file.proofs.core_file.head_of.Goals as goal

pub overflow_cast-count : goal.overflow_cast-count
overflow_cast-count c = omega (arith, c.len.ensures, few_parts _ c.in_ok-parts.parts.items _ _ c.in_ok-parts.ensures.rules)

pub invariant_of-counts : goal.invariant_of-counts
invariant_of-counts c =
    record {
      few_headers = omega (arith, c.requires.few);
      few_threads = omega (arith, c.len.ensures, few_parts _ c.in_ok-parts.parts.items _ _ c.in_ok-parts.ensures.rules);
    }

pub returns : goal.returns
returns c =
    let parts = c.in_ok-parts.parts.items in
    let told : entries (thread_map c.args.threads.now.threads) ≡ entries_of parts =
    threads_told c.args.threads.now parts c.in_ok-parts.ensures.told c.in_ok-parts.ensures.rules in
    let count : c.len.result ≡ length (entries_of parts) = omega (arith, c.len.ensures, count_told parts) in
    rw (
      told,
      c.in_ok-put_padding.ensures,
      c.in_ok-put_notes.ensures,
      c.in_ok-put_headers.ensures,
      c.in_ok-put_elf_header.ensures,
      c.new-out.ensures.items,
      c.as_slice.ensures.value,
      count,
    )
    (simp append_assoc)
