-- Texts of choices.
use Rattle.std.proofs.Common.{◌≡◌, ◌∙◌, ℕ, zero, suc, add-one, map, Bor, is_some, length-take, ◌+◌, ◌^◌, ◌<◌, ◌≤◌, Bool, true, cond, List, [], ◌∷◌, ◌++◌, length, Option, Some, None, Result, Err, get_or, take, drop, refl, sym, ap, subst, append-nil, append_assoc, rules, arith}
use Rattle.std.proofs.Math.Seq.{drop-cons, take-suc}
use Rattle.std.proofs.lemmas.List.{length-map, take-append-drop}
use Rattle.std.specs.Char.{is_ascii_digit}
use Rattle.std.specs.List.{list_all}
use Rattle.std.specs.Str.{IsUtf8}
use Rattle.std.specs.Str.Parse.{ParsesUnsigned, digits_value}
use Rattle.std.proofs.lemmas.Fmt.{IsAscii-from_digits}
use Rattle.std.proofs.lemmas.Str.{IsUtf8-from_ascii}
use Rattle.std.proofs.lemmas.Str.Parse.{IsNumeralModel, numerals_by_value, parse_digits}
use Rattle.std.proofs.lemmas.Bool.{le-leb}
use Rattle.std.proofs.lemmas.Bool.Decides.{nat_tests}
use Rattle.std.proofs.lemmas.Result.{OkIff-at_err}
use Rattle.rrv_model.specs.declared.record.Choice.{Choice}
use Rattle.choices.specs.ChoiceText.{BadTextsSayNothing, IsFirstBad, both, line_says, lines_of, lines_say, number_in, within}

-- ---- numbers

abbrev pub AreDigits : List ℕ → Type 0
AreDigits field = list_all is_ascii_digit field ≡ true

pub own : IsNumeralModel AreDigits (digits_value 10)
own = numerals_by_value AreDigits (search rules)

pub digits_utf8 : (field : List ℕ) → AreDigits field → IsUtf8 field
digits_utf8 field digits = IsUtf8-from_ascii field (IsAscii-from_digits field (own.to field digits))

pub outside : (least most n : ℕ) → (least ≤ n → n ≤ most → ⊥) → None ≡ within least most n
outside least most n out = grind (arith, nat_tests)

pub inside : (least most n : ℕ) → least ≤ n → n ≤ most → Some n ≡ within least most n
inside least most n low high = rw (le-leb least n low, le-leb n most high) refl

-- digits that 32 bits don't hold, or no digits, write no number within the bounds
pub too_large : (least most : ℕ) (field : List ℕ) → 1 ≤ least → most < 2 ^ 32 →
    ¬ ((0 < length field) × (digits_value 10 field < 2 ^ 32)) → None ≡ within least most (digits_value 10 field)
too_large least most [] low high none = outside least most 0 (λ below above. omega arith)
too_large least most (c ∷ cs) low high none =
    outside least most (digits_value 10 (c ∷ cs)) (λ below above. none (omega arith, let n : ℕ = digits_value 10 (c ∷ cs) in omega arith))

-- a text of digits that parses to no number of 32 bits
pub parse_failed : {E : Type 0} (least most : ℕ) (text field : List ℕ) (r : Result ℕ E) (e : E) → 1 ≤ least → most < 2 ^ 32 → text ≡ field →
    AreDigits field → ParsesUnsigned 32 10 text r → r ≡ Err e → None ≡ number_in least most field
parse_failed least most text field r e low high same digits parsed failed =
    let at : ParsesUnsigned 32 10 field r = subst (λ (t : List ℕ). ParsesUnsigned 32 10 t r) same parsed in
    too_large least most field low high (OkIff-at_err r _ _ e (parse_digits own 32 field r at digits) failed)
    ∙ sym (ap (λ (b : Bool). cond b (within least most (digits_value 10 field)) None) digits)

-- ---- lines

both_nothing : (o : Option (List Choice)) → both o (Some []) ≡ both (Some []) o
both_nothing None = refl
both_nothing (Some choices) = ap Some (append-nil choices)

both_assoc : (o p q : Option (List Choice)) → both o (both p q) ≡ both (both o p) q
both_assoc None p q = refl
both_assoc (Some a) None q = refl
both_assoc (Some a) (Some b) None = refl
both_assoc (Some a) (Some b) (Some d) = ap Some (sym (append_assoc a b d))

pub lines_more : (lines : List (List ℕ)) (line : List ℕ) → lines_say (lines ++ line ∷ []) ≡ both (lines_say lines) (line_says line)
lines_more [] line = both_nothing (line_says line)
lines_more (l ∷ ls) line = ap (both (line_says l)) (lines_more ls line) ∙ both_assoc (line_says l) (lines_say ls) (line_says line)

-- the lines up to the next one, of which is known what it says
pub next_says : (lines : List (List ℕ)) (i : ℕ) (line : List ℕ) (before said : List Choice) → i < length lines → line ≡ get_or lines i [] →
    lines_say (take i lines) ≡ Some before → line_says line ≡ Some said → lines_say (take (i + 1) lines) ≡ Some (before ++ said)
next_says lines i line before said low at so_far says =
    ap (λ (n : ℕ). lines_say (take n lines)) (add-one i)
    ∙ ap lines_say (take-suc lines i [] low ∙ ap (λ (l : List ℕ). take i lines ++ l ∷ []) (sym at)) ∙ lines_more (take i lines) line
    ∙ ap (λ (o : Option (List Choice)). both o (line_says line)) so_far ∙ ap (both (Some before)) says

pub first_bad : (text : List ℕ) (i : ℕ) (line : List ℕ) (before : List Choice) → i < length (lines_of text) →
    line ≡ get_or (lines_of text) i [] →
    lines_say (take i (lines_of text)) ≡ Some before → line_says line ≡ None → IsFirstBad text (i + 1)
first_bad text i line before low at so_far says = record {
  before = take i (lines_of text);
  line = line;
  after = drop (suc i) (lines_of text);
  lines_are =
      sym (take-append-drop i (lines_of text))
      ∙ ap (λ (l : List (List ℕ)). take i (lines_of text) ++ l) (drop-cons (lines_of text) i [] low)
      ∙ ap (λ (l : List ℕ). take i (lines_of text) ++ l ∷ drop (suc i) (lines_of text)) (sym at);
  number_is = omega (arith, length-take i (lines_of text));
  fine = ap is_some so_far;
  bad = says;
}

-- a line behind a reference
pub line_at : (refs : List (Bor (List ℕ))) (i : ℕ) (d : Bor (List ℕ)) → d.now ≡ [] →
    (get_or refs i d).now ≡ get_or (map (λ x. x.now) refs) i []
line_at [] i d e = e
line_at (r ∷ refs) zero d e = refl
line_at (r ∷ refs) (suc i) d e = line_at refs i d e

pub turn : (refs : List (Bor (List ℕ))) (i : ℕ) (d : Bor (List ℕ)) (before said : List Choice) → i < length refs → d.now ≡ [] →
    lines_say (take i (map (λ x. x.now) refs)) ≡ Some before → line_says (get_or refs i d).now ≡ Some said →
    lines_say (take (i + 1) (map (λ x. x.now) refs)) ≡ Some (before ++ said)
turn refs i d before said low empty =
    next_says (map (λ x. x.now) refs) i (get_or refs i d).now before said (omega (arith, length-map refs (λ (x : Bor (List ℕ)). x.now)))
    (line_at refs i d empty)

pub stop : (refs : List (Bor (List ℕ))) (text : List ℕ) (i : ℕ) (d : Bor (List ℕ)) (before : List Choice) → i < length refs → d.now ≡ [] →
    map (λ x. x.now) refs ≡ lines_of text → lines_say (take i (map (λ x. x.now) refs)) ≡ Some before →
    line_says (get_or refs i d).now ≡ None →
    IsFirstBad text (i + 1)
stop refs text i d before low empty all so_far says =
    first_bad text i (get_or refs i d).now before
    (let same = ap length all in omega (arith, length-map refs (λ (x : Bor (List ℕ)). x.now)))
    (line_at refs i d empty ∙ ap (λ (lines : List (List ℕ)). get_or lines i []) all)
    (ap (λ (lines : List (List ℕ)). lines_say (take i lines)) (sym all) ∙ so_far) says

-- ---- bad texts

bad_behind : (before : List (List ℕ)) (line : List ℕ) (after : List (List ℕ)) → line_says line ≡ None →
    lines_say (before ++ line ∷ after) ≡ None
bad_behind [] line after bad = ap (λ (o : Option (List Choice)). both o (lines_say after)) bad
bad_behind (l ∷ ls) line after bad = ap (both (line_says l)) (bad_behind ls line after bad) ∙ both_bad (line_says l) where
  both_bad : (o : Option (List Choice)) → both o None ≡ None
  both_bad None = refl
  both_bad (Some choices) = refl

pub bad_texts_say_nothing : BadTextsSayNothing
bad_texts_say_nothing text number is = ap lines_say is.lines_are ∙ bad_behind is.before is.line is.after is.bad
