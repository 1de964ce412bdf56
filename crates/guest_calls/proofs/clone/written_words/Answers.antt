use Rattle.std.proofs.Common.{List, ◌++◌, get_or, sym, ◌∙◌, ap, subst, arith}
use Rattle.std.specs.List.{AllByRecursion}
use Rattle.rrv_model.specs.declared.record.Written.{Written}
use Rattle.rrv_model.specs.RecordText.{HasWrittenText}
use Rattle.guest_calls.specs.Clones.{words_at}
use Rattle.guest_calls.proofs.CloneParts.{next_word, next_text, all_listed}
use Rattle.guest_calls.proofs.clone.written_words.Goals as goal

pub loop-place-init : goal.loop-place-init
loop-place-init c = record {
  words = ap (λ (ws : List Written). ws ++ words_at c.args.places.now c.args.word) c.new-written.ensures.items;
  texts = subst (λ (ws : List Written). AllByRecursion HasWrittenText ws) (sym c.new-written.ensures.items) tt;
}

pub loop-place-preserved : goal.loop-place-preserved
loop-place-preserved c =
    let places = c.args.places.now in
    let i = c.loop-place.place-index in
    record {
      words = next_word places i c.args.word c.loop-place.written.items c.push.new.self.items c.in_ok-range.range c.loop-place-test.true
          c.in_ok-range.ensures c.in-Ok.ensures.items c.loop-place.invariant.words;
      texts = next_text c.loop-place.written.items c.push.new.self.items c.in_ok-range.range (get_or places i 0) c.args.word (omega arith)
          c.in_ok-range.ensures c.in-Ok.ensures.items c.loop-place.invariant.texts;
    }

pub returns-clause-words : goal.returns-clause-words
returns-clause-words c =
    c.from_vec.ensures
    ∙ all_listed c.args.places.now c.loop-place.place-index c.args.word c.loop-place.written.items c.loop-place-test.false
    c.loop-place.invariant.words
