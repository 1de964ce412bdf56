use Rattle.std.proofs.Common.{◌≡◌, ◌++◌, drop}
use Rattle.std.specs.List.{AllByRecursion}
use Rattle.rrv_model.specs.RecordText.{HasWrittenText}
use Rattle.guest_calls.specs.Clones.{words_at}
use Rattle.guest_calls.proofs.clone.written_words.Given as goal

abbrev pub invariant-loop-place : goal.invariant-loop-place
invariant-loop-place l = record {
  words : l.written.items ++ words_at (drop l.place-index l.places) l.word ≡ words_at l.places l.word;
  texts : AllByRecursion HasWrittenText l.written.items;
}
