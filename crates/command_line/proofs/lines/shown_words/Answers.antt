use Rattle.std.proofs.Common.{◌≡◌, ◌∙◌, ◌+◌, ◌<◌, ℕ, List, [], ◌∷◌, ◌++◌, ap, arith, get_or, length, map, rules, sym, take}
use Rattle.std.specs.Prelude.{string_bytes}
use Rattle.std.proofs.lemmas.List.{map_more, map_push, take_all}
use Rattle.escapes.specs.Escaped.{escaped}
use Rattle.command_line.proofs.lines.shown_words.Goals as goal

-- one more word, and what is printed of it
one_more : {A B : Type 0} (f : A → List ℕ) (g : B → List ℕ) (xs : List A) (ys : List B) (i : ℕ) (x : A) (y : B) → i < length xs
    → x ≡ get_or xs i x → map g ys ≡ map f (take i xs) → g y ≡ f x → map g (ys ++ y ∷ []) ≡ map f (take (i + 1) xs)
one_more f g xs ys i x y within at before own =
    map_push g ys y
    ∙ ap (λ (l : List (List ℕ)). l ++ g y ∷ []) before
    ∙ ap (λ (b : List ℕ). map f (take i xs) ++ b ∷ []) (own ∙ ap f at)
    ∙ sym (map_more f xs i x within)

-- what is printed of a text, if that is the word's
printed_of : (bytes text word : List ℕ) (most : ℕ) → bytes ≡ escaped most text → most ≡ 200 → text ≡ word → bytes ≡ escaped 200 word
printed_of bytes text word most is of_most same = is ∙ ap (λ (n : ℕ). escaped n text) of_most ∙ ap (escaped 200) same

pub loop-word-preserved : goal.loop-word-preserved
loop-word-preserved g c =
    let pushed : c.push.new.self.items ≡ c.loop-word.shown.items ++ c.in_ok-word.word ∷ [] = search rules in
    let own =
    printed_of (string_bytes c.in_ok-word.word) c.word.result.text.now (g.S.AsStr.text c.word-item.result) c.word.result.most
    c.in_ok-word.ensures.ok c.word.ensures.most (search rules) in
    rw pushed (one_more (λ word. escaped 200 (g.S.AsStr.text word)) string_bytes c.args.words.now c.loop-word.shown.items
    c.loop-word.word-index c.word-item.result c.in_ok-word.word (omega arith) c.word-item.is c.loop-word.invariant own)

pub returns : goal.returns
returns g c =
    c.loop-word.invariant
    ∙ ap (map (λ word. escaped 200 (g.S.AsStr.text word))) (take_all c.loop-word.word-index c.args.words.now c.loop-word-test.false)
