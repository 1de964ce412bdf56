use Rattle.std.proofs.Common.{rules, ◌≡◌, ◌<◌, ℕ, ◌+◌, List, [], ◌++◌, Option, Some, None, length, take, min, arith, ap, sym, subst, ◌∙◌}
use Rattle.std.specs.Prelude.{IfSome, option_map}
use Rattle.std.proofs.lemmas.List.{length-take, take_min}
use Rattle.std.proofs.Math.Seq.{take-length}
use Rattle.line_io.proofs.files.read_whole.Goals as goal

-- what a reader gave below the limit is all that it had
all_read : (known : Option (List ℕ)) (bytes : List ℕ) (limit : ℕ) → IfSome (option_map (take limit) known) (λ front. bytes ≡ front) →
    length bytes < limit
    → IfSome known (λ all. bytes ≡ all)
all_read None bytes limit is short = tt
all_read (Some all) bytes limit is short =
    let len : length bytes ≡ min limit (length all) = ap length is ∙ length-take limit all in
    let least : min limit (length all) ≡ length all = omega (arith, len, short) in
    is ∙ sym (take_min limit all) ∙ ap (λ n. take n all) least ∙ take-length all

pub returns : goal.returns
returns g c = record {
  whole =
      let remaining = g.F.Read.remaining in
      let limit = c.args.most + 1 in
      let limit_is : c.take.result.limit ≡ limit = search rules in
      let new_is : c.new-bytes.result.items ≡ [] = search rules in
      let read = subst
      (λ f. IfSome (option_map (take c.take.result.limit) (remaining f))
      (λ xs. c.read_to_end-read.new.buf.items ≡ c.new-bytes.result.items ++ xs)) c.take.ensures.inner c.in_default.ensures.bytes in
      let read = subst
      (λ n. IfSome (option_map (take n) (remaining c.args.file))
      (λ xs. c.read_to_end-read.new.buf.items ≡ c.new-bytes.result.items ++ xs)) limit_is read in
      let read = subst
      (λ (old : List ℕ). IfSome (option_map (take limit) (remaining c.args.file)) (λ xs. c.read_to_end-read.new.buf.items ≡ old ++ xs))
      new_is read in
      all_read (remaining c.args.file) c.read_to_end-read.new.buf.items limit read (search rules);
  within = search rules;
  refused = tt;
}
