use Rattle.std.proofs.Common.{length, arith, refl, ap, ◌∙◌}
use Rattle.guest_pages.specs.Space.{memory_of}
use Rattle.guest_opening.proofs.StackPlaces.{words_begin, word_is_there, words_go_on, words_end}
use Rattle.guest_opening.proofs.opening.fill_words.Goals as goal

pub loop-place-init : goal.loop-place-init
loop-place-init c = (words_begin c.args.address c.args.words.now (memory_of c.args.space.now), refl)

pub fill_unshared-requires-clause-there : goal.fill_unshared-requires-clause-there
fill_unshared-requires-clause-there c =
    word_is_there c.args.address c.args.words.now c.loop-place.place (length c.to_le_bytes.result) (memory_of c.args.space.now)
    (memory_of c.loop-place.space)
    c.requires.there c.loop-place.invariant.0 c.loop-place-test.true (ap length c.to_le_bytes.ensures)

pub loop-place-preserved : goal.loop-place-preserved
loop-place-preserved c = (
  words_go_on c.args.address c.args.words.now c.loop-place.place _ c.to_le_bytes.result (memory_of c.args.space.now)
      (memory_of c.loop-place.space) (memory_of c.fill_unshared.new.self)
      c.loop-place-test.true refl c.to_le_bytes.ensures c.loop-place.invariant.0 c.fill_unshared.ensures.memory,
  c.fill_unshared.ensures.snapshots ∙ c.loop-place.invariant.1,
)

pub returns : goal.returns
returns c = record {
  memory = words_end c.args.address c.args.words.now c.loop-place.place (memory_of c.args.space.now) (memory_of c.loop-place.space)
      (omega arith) c.loop-place.invariant.0;
  snapshots = c.loop-place.invariant.1;
}
