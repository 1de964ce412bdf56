use Rattle.std.proofs.Common.{◌≡◌, ℕ, ◌*◌, List, [], ◌∷◌, length, arith, ap, ◌∙◌, sym, subst}
use Rattle.rrv_model.specs.Memory.{Memory}
use Rattle.rrv_model.specs.Opening.{bare_memory, image_memory}
use Rattle.guest_pages.specs.Space.{memory_of}
use Rattle.guest_opening.proofs.StackPlaces.{HasStack, has_stack-with_stack, has_stack_still, present_on_stack, words_in_stack, name_in_stack, stack_filled}
use Rattle.guest_opening.proofs.opening.fill_stack.Goals as goal

has_bare : (file : List ℕ) (m : Memory) → m ≡ bare_memory file → HasStack m
has_bare file m is = subst HasStack (sym is) (has_stack-with_stack (image_memory file))

pub fill_words-requires : goal.fill_words-requires
fill_words-requires c =
    let place = words_in_stack c.args.name.now c.requires.name in
    let len : length c.stack_words.result ≡ 18 = ap length c.stack_words.ensures in
    let sp = c.stack_pointer.ensures in
    let top = name_in_stack c.args.name.now c.requires.name in
    record {
      high = omega (arith, place, len, sp, top);
      there = present_on_stack (memory_of c.args.space.now) c.stack_pointer.result (4 * length c.stack_words.result)
          (has_bare c.args.image.now (memory_of c.args.space.now) c.requires.bare) (omega (arith, place, sp))
          (omega (arith, place, len, sp, top));
      alone = c.requires.alone;
    }

pub fill_unshared-requires-clause-there : goal.fill_unshared-requires-clause-there
fill_unshared-requires-clause-there c =
    let m = memory_of c.args.space.now in
    let m1 = memory_of c.fill_words.new.space in
    let at = c.name_at.ensures in
    let top = name_in_stack c.args.name.now c.requires.name in
    let has1 = has_stack_still _ _ m m1 (has_bare c.args.image.now m c.requires.bare) c.fill_words.ensures.memory in
    present_on_stack m1 c.name_at.result (length c.args.name.now) has1 (omega (arith, at, top)) (omega (arith, at, top))

pub fill_unshared-requires-2-clause-there : goal.fill_unshared-requires-2-clause-there
fill_unshared-requires-2-clause-there c =
    let m = memory_of c.args.space.now in
    let m1 = memory_of c.fill_words.new.space in
    let m2 = memory_of c.fill_unshared.new.self in
    let has1 = has_stack_still _ _ m m1 (has_bare c.args.image.now m c.requires.bare) c.fill_words.ensures.memory in
    let has2 = has_stack_still _ _ m1 m2 has1 c.fill_unshared.ensures.memory in
    present_on_stack m2 0x7FFFFFEF 1 has2 (omega arith) (omega arith)

pub fill_unshared-requires-3-clause-there : goal.fill_unshared-requires-3-clause-there
fill_unshared-requires-3-clause-there c =
    let m = memory_of c.args.space.now in
    let m1 = memory_of c.fill_words.new.space in
    let m2 = memory_of c.fill_unshared.new.self in
    let m3 = memory_of c.fill_unshared-2.new.self in
    let has1 = has_stack_still _ _ m m1 (has_bare c.args.image.now m c.requires.bare) c.fill_words.ensures.memory in
    let has2 = has_stack_still _ _ m1 m2 has1 c.fill_unshared.ensures.memory in
    let has3 = has_stack_still 0x7FFFFFEF (0 ∷ []) m2 m3 has2 c.fill_unshared-2.ensures.memory in
    let sixteen = c.told-random in
    present_on_stack m3 0x7FFFFFF0 (length c.args.random.now) has3 (omega arith) (omega (arith, sixteen))

pub returns : goal.returns
returns c = record {
  memory = stack_filled c.args.image.now c.args.name.now c.args.random.now c.stack_pointer.result c.name_at.result c.stack_words.result
      (memory_of c.args.space.now) (memory_of c.fill_words.new.space) (memory_of c.fill_unshared.new.self)
      (memory_of c.fill_unshared-2.new.self) (memory_of c.fill_unshared-3.new.self)
      c.requires.name c.requires.bare c.stack_pointer.ensures c.stack_words.ensures c.name_at.ensures c.fill_words.ensures.memory
      c.fill_unshared.ensures.memory c.fill_unshared-2.ensures.memory c.fill_unshared-3.ensures.memory;
  snapshots = c.fill_unshared-3.ensures.snapshots ∙ c.fill_unshared-2.ensures.snapshots ∙ c.fill_unshared.ensures.snapshots
      ∙ c.fill_words.ensures.snapshots;
}
