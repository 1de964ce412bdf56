-- What the text of a recording's choices says.
use Rattle.std.proofs.Common.{◌≡◌, ◌∙◌, ℕ, zero, suc, ◌-◌, ◌<◌, ◌≤◌, ◌^◌, Bool, true, false, ◌&&◌, ◌==◌, not, cond, List, [], ◌∷◌, ◌++◌, length, take, get_or, Option, Some, None, refl, sym, ap, subst, append_assoc, arith}
use Rattle.std.specs.Prelude.{All, codes, filter_map}
use Rattle.std.specs.Fmt.{decimal}
use Rattle.std.specs.List.{before_first, cons_option, filter, list_all, position_or_len}
use Rattle.std.specs.Option.{option_to_list}
use Rattle.std.specs.Str.Lines.{strip_carriage_return}
use Rattle.std.specs.Str.Parse.{digits_value}
use Rattle.std.proofs.Math.Seq.{take-length}
use Rattle.std.proofs.lemmas.Bool.Decides.{nat_tests}
use Rattle.std.proofs.lemmas.Fmt.{decimal_nonempty, digits_decimal, digits_value-decimal}
use Rattle.std.proofs.lemmas.List.Elements.{All-append}
use Rattle.std.proofs.lemmas.List.Splits.{slice_split_at, slice_split_none}
use Rattle.std.proofs.lemmas.List.Sums.{prefix_len_is}
use Rattle.std.proofs.lemmas.Str.Parse.{digit_at}
use Rattle.rrv_model.specs.declared.limits.TheConstants.{MAX_QUANTUM, MAX_TID, MIN_QUANTUM}
use Rattle.rrv_model.specs.declared.record.Choice.{Choice}
use Rattle.rrv_model.specs.declared.record.End.{End}
use Rattle.rrv_model.specs.declared.record.Frame.{Frame}
use Rattle.rrv_model.specs.declared.record.Item.{Item}
use Rattle.rrv_model.specs.declared.record.Item.TheVariants as items
use Rattle.rrv_model.specs.declared.record.Part.{Part}
use Rattle.rrv_model.specs.State.{State, IsState}
use Rattle.rrv_model.specs.Ends.{is_preempt}
use Rattle.rrv_model.specs.Recording.{ItemsFollow, Starts, base_after, frames_of, items_of, row_after}
use Rattle.rrv_model.proofs.Ends.{preempt_is}
use Rattle.rrv_model.proofs.OpeningState.{openings_are_states}
use Rattle.rrv_model.proofs.StateLaws.{frames_keep_states}
use Rattle.choices.specs.declared.recorded.ChoiceLine.TheVariants as lines
use Rattle.choices.specs.ChoiceText.{both, choice_by, fields_of, fields_say, is_blank, line_says, lines_say, number_in, said_in, text_says, within}
use Rattle.choices.specs.Recorded.{EndIsOfGuest, FrameIsOfGuest, IsOfGuest, RecordingsSayChoices, TextSaysChoices, choice_by_end, choice_of, choices_text, ended_line, line_by_end, line_text}
use Rattle.choices.proofs.OwnSlices.{chosen_within, frames_are_of_guests}
use Rattle.choices.proofs.Schedules.{get_or_any}
use Rattle.choices.proofs.Texts.{inside, own}

-- ---- bytes that a line doesn't have

abbrev pub Lacks : (ℕ → Bool) → List ℕ → Type 0
Lacks p bytes = All (λ b. p b ≡ false) bytes

lacks_cons : (p : ℕ → Bool) (b : ℕ) (bytes : List ℕ) → p b ≡ false → Lacks p bytes → Lacks p (b ∷ bytes)
lacks_cons p b bytes first rest = at where
  at : (k : ℕ) (d : ℕ) → k < length (b ∷ bytes) → p (get_or (b ∷ bytes) k d) ≡ false
  at zero d low = first
  at (suc k) d low = rest k d (omega arith)

parts : (t u : Bool) → (not t && u) ≡ true → (t ≡ false) × (u ≡ true)
parts true u h = absurd cc
parts false u h = (refl, h)

lacks_all : (p : ℕ → Bool) (bytes : List ℕ) → list_all (λ b. not (p b)) bytes ≡ true → Lacks p bytes
lacks_all p [] h = λ k d low. absurd (omega arith)
lacks_all p (b ∷ bytes) h = let e = parts (p b) _ h in lacks_cons p b bytes e.0 (lacks_all p bytes e.1)

lacks_append : (p : ℕ → Bool) (first second : List ℕ) → Lacks p first → Lacks p second → Lacks p (first ++ second)
lacks_append p first second = All-append (λ b. p b ≡ false) first second

lacks_digits : (p : ℕ → Bool) → ((c : ℕ) → 48 ≤ c → c ≤ 57 → p c ≡ false) → (n : ℕ) → n < 2 ^ 64 → Lacks p (decimal n)
lacks_digits p others n small k d low =
    let digit = digit_at (decimal n) k (own.to (decimal n) (digits_decimal own n small)) low in
    subst (λ (b : ℕ). p b ≡ false) (get_or_any (decimal n) k 0 d low) (others _ digit.0 digit.1)

-- ---- lines

at_lacks : (p : ℕ → Bool) → p 0 ≡ false → (bytes : List ℕ) → Lacks p bytes → (k : ℕ) → p (get_or bytes k 0) ≡ false
at_lacks p none [] lacks k = none
at_lacks p none (b ∷ bytes) lacks zero = lacks 0 0 (omega arith)
at_lacks p none (b ∷ bytes) lacks (suc k) = at_lacks p none bytes (λ j d low. lacks (suc j) d (omega arith)) k

no_return : (line : List ℕ) → Lacks (λ b. b == 13) line → strip_carriage_return line ≡ line
no_return line lacks =
    ap (λ (t : Bool). cond t (take (length line - 1) line) line) (at_lacks (λ b. b == 13) refl line lacks (length line - 1))

no_comment : (line : List ℕ) → Lacks (λ b. b == 35) line → before_first (λ b. b == 35) line ≡ line
no_comment line lacks =
    let all : position_or_len (λ b. b == 35) line ≡ length line =
    prefix_len_is (λ b. not (b == 35)) line (length line) 0 (omega arith) (λ k low. ap not (lacks k 0 low)) (λ low. absurd (omega arith)) in
    ap (λ (n : ℕ). take n line) all ∙ take-length line

-- ---- a choice's line

filled : (n : ℕ) → n < 2 ^ 64 → not (length (decimal n) == 0) ≡ true
filled n small = let some = decimal_nonempty n small in grind (arith, nat_tests)

number_said : (least most n : ℕ) → n < 2 ^ 64 → least ≤ n → n ≤ most → number_in least most (decimal n) ≡ Some n
number_said least most n small low high =
    ap (λ (t : Bool). cond t (within least most (digits_value 10 (decimal n))) None) (digits_decimal own n small)
    ∙ ap (within least most) (digits_value-decimal own n small) ∙ sym (inside least most n low high)

record Sayable (choice : Choice) : Type 0 where
  tid_low : 1 ≤ choice.tid
  tid_high : choice.tid ≤ MAX_TID
  quantum_low : MIN_QUANTUM ≤ choice.quantum
  quantum_high : choice.quantum ≤ MAX_QUANTUM

line_lacks : (p : ℕ → Bool) → ((c : ℕ) → 48 ≤ c → c ≤ 57 → p c ≡ false) → p 32 ≡ false → (choice : Choice) → Sayable choice →
    Lacks p (line_text (lines.Ran choice))
line_lacks p others none choice h =
    let high = h.tid_high in let most = h.quantum_high in
    lacks_append p (decimal choice.tid) (codes " " ++ decimal choice.quantum) (lacks_digits p others choice.tid (omega arith))
    (lacks_append p (codes " ") (decimal choice.quantum) (lacks_all p (codes " ") (ap (λ (t : Bool). not t && true) none))
    (lacks_digits p others choice.quantum (omega arith)))

fields_said : (tid quantum : ℕ) → tid < 2 ^ 64 → quantum < 2 ^ 64 →
    fields_of (decimal tid ++ 32 ∷ decimal quantum) ≡ decimal tid ∷ decimal quantum ∷ []
fields_said tid quantum small small' =
    ap (filter (λ field. not (length field == 0)))
    (slice_split_at is_blank (decimal tid) 32 (decimal quantum) (lacks_digits is_blank (λ c low high. grind (arith, nat_tests)) tid small)
    refl
    ∙ ap (λ (l : List (List ℕ)). decimal tid ∷ l)
    (slice_split_none is_blank (decimal quantum) (lacks_digits is_blank (λ c low high. grind (arith, nat_tests)) quantum small')))
    ∙ rw (filled tid small, filled quantum small') refl

choice_said : (choice : Choice) → Sayable choice → line_says (line_text (lines.Ran choice)) ≡ Some (choice ∷ [])
choice_said choice h =
    let line = line_text (lines.Ran choice) in
    let high = h.tid_high in let most = h.quantum_high in
    let small : choice.tid < 2 ^ 64 = omega arith in
    let small' : choice.quantum < 2 ^ 64 = omega arith in
    let whole : said_in line ≡ line =
    ap (before_first (λ b. b == 35)) (no_return line (line_lacks (λ b. b == 13) (λ c low up. grind (arith, nat_tests)) refl choice h))
    ∙ no_comment line (line_lacks (λ b. b == 35) (λ c low up. grind (arith, nat_tests)) refl choice h) in
    ap (λ (l : List ℕ). fields_say (fields_of l)) whole ∙ ap fields_say (fields_said choice.tid choice.quantum small small')
    ∙ ap (λ (o : Option ℕ). choice_by o (number_in MIN_QUANTUM MAX_QUANTUM (decimal choice.quantum)))
    (number_said 1 MAX_TID choice.tid small h.tid_low h.tid_high)
    ∙ ap (choice_by (Some choice.tid)) (number_said MIN_QUANTUM MAX_QUANTUM choice.quantum small' h.quantum_low h.quantum_high)

-- ---- the line of a slice that was cut short

short_lacks : (p : ℕ → Bool) → ((c : ℕ) → 48 ≤ c → c ≤ 57 → p c ≡ false) → list_all (λ b. not (p b)) (codes "# thread ") ≡ true →
    list_all (λ b. not (p b)) (codes " stopped after ") ≡ true → list_all (λ b. not (p b)) (codes " for want of memory") ≡ true →
    (tid count : ℕ) → tid < 2 ^ 64 → count < 2 ^ 64 → Lacks p (line_text (lines.CutShort tid count))
short_lacks p others first second third tid count small small' =
    lacks_append p (codes "# thread ") _ (lacks_all p (codes "# thread ") first)
    (lacks_append p (decimal tid) _ (lacks_digits p others tid small)
    (lacks_append p (codes " stopped after ") _ (lacks_all p (codes " stopped after ") second)
    (lacks_append p (decimal count) _ (lacks_digits p others count small') (lacks_all p (codes " for want of memory") third))))

short_said : (tid count : ℕ) → tid < 2 ^ 64 → count < 2 ^ 64 → line_says (line_text (lines.CutShort tid count)) ≡ Some []
short_said tid count small small' =
    ap (λ (l : List ℕ). fields_say (fields_of (before_first (λ b. b == 35) l)))
    (no_return (line_text (lines.CutShort tid count))
    (short_lacks (λ b. b == 13) (λ c low up. grind (arith, nat_tests)) refl refl refl tid count small small'))

-- ---- texts

next_line : (line rest : List ℕ) (said : List Choice) → Lacks (λ b. b == 10) line → line_says line ≡ Some said →
    text_says ((line ++ 10 ∷ []) ++ rest) ≡ both (Some said) (text_says rest)
next_line line rest said lacks says =
    ap text_says (append_assoc line (10 ∷ []) rest)
    ∙ ap lines_say (slice_split_at (λ b. b == 10) line 10 rest lacks refl) ∙ ap (λ (o : Option (List Choice)). both o (text_says rest)) says

nothing_first : (o : Option (List Choice)) → o ≡ both (Some []) o
nothing_first None = refl
nothing_first (Some said) = refl

sayable : (end : End) (tid count : ℕ) (choice : Choice) → EndIsOfGuest end tid count → choice_by_end end tid count ≡ Some choice →
    Sayable choice
sayable end tid count choice of is = let e =
    chosen_within end tid count choice is of in record { tid_low = e.0; tid_high = e.1; quantum_low = e.2; quantum_high = e.3 }

-- a frame that has no choice
none_said : (b : Bool) (end : End) (tid count : ℕ) (rest : List ℕ) → is_preempt end ≡ b → EndIsOfGuest end tid count →
    text_says (ended_line (cond b (Some (lines.CutShort tid count)) None) ++ rest) ≡ both (Some []) (text_says rest)
none_said true end tid count rest is of =
    let own : IsOfGuest tid count = subst (λ (e : End). EndIsOfGuest e tid count) (preempt_is end is) of in
    let high = own.tid_high in let most = own.count_high in
    let small : tid < 2 ^ 64 = omega arith in
    let small' : count < 2 ^ 64 = omega arith in
    next_line (line_text (lines.CutShort tid count)) rest []
    (short_lacks (λ b. b == 10) (λ c low up. grind (arith, nat_tests)) refl refl refl tid count small small')
    (short_said tid count small small')
none_said false end tid count rest is of = nothing_first (text_says rest)

frame_said : (o : Option Choice) (end : End) (tid count : ℕ) (rest : List ℕ) → choice_by_end end tid count ≡ o →
    EndIsOfGuest end tid count →
    text_says (ended_line (line_by_end o end tid count) ++ rest) ≡ both (Some (option_to_list o)) (text_says rest)
frame_said (Some choice) end tid count rest is of =
    let h = sayable end tid count choice of is in
    next_line (line_text (lines.Ran choice)) rest (choice ∷ [])
    (line_lacks (λ b. b == 10) (λ c low up. grind (arith, nat_tests)) refl choice h) (choice_said choice h)
frame_said None end tid count rest is of = none_said (is_preempt end) end tid count rest refl of

joined : (o : Option Choice) (choices : List Choice) → both (Some (option_to_list o)) (Some choices) ≡ Some (cons_option o choices)
joined None choices = refl
joined (Some choice) choices = refl

pub text_says_choices : TextSaysChoices
text_says_choices [] of = refl
text_says_choices (f ∷ frames) of =
    frame_said (choice_of f) f.end f.tid f.count (choices_text frames) refl (of 0 f (omega arith))
    ∙ ap (both (Some (option_to_list (choice_of f)))) (text_says_choices frames (λ k d low. of (suc k) d (omega arith)))
    ∙ joined (choice_of f) (filter_map choice_of frames)

-- ---- recordings

pub all_cons : (P : Frame → Type 0) (f : Frame) (frames : List Frame) → P f → All P frames → All P (f ∷ frames)
all_cons P f frames first rest = at where
  at : (k : ℕ) (d : Frame) → k < length (f ∷ frames) → P (get_or (f ∷ frames) k d)
  at zero d low = first
  at (suc k) d low = rest k d (omega arith)

all_follow : (base s : State) (parts : List Part) (its : List Item) → IsState s → ItemsFollow base parts s its →
    All FrameIsOfGuest (frames_of its)
all_follow base s parts [] state follow = λ k d low. absurd (omega arith)
all_follow base s parts (items.Opening o ∷ rest) state follow = absurd follow
all_follow base s parts (items.Frame f ∷ rest) state (new, step, follow) =
    all_cons FrameIsOfGuest f (frames_of rest) (frames_are_of_guests s f new state step)
    (all_follow base new [] rest (frames_keep_states s f new state step) follow)
all_follow base s parts (items.Part p ∷ rest) state (fits, follow) =
    all_follow (base_after p.rest base s) s (row_after p.rest (parts ++ p ∷ [])) rest state follow

all_start : (its : List Item) → Starts its → All FrameIsOfGuest (frames_of its)
all_start [] starts = absurd starts
all_start (items.Opening o ∷ rest) (s, opens, follow) = all_follow s s [] rest (openings_are_states o s opens) follow
all_start (items.Frame f ∷ rest) starts = absurd starts
all_start (items.Part p ∷ rest) starts = absurd starts

pub recordings_say_choices : RecordingsSayChoices
recordings_say_choices records is = text_says_choices (frames_of (items_of records)) (all_start (items_of records) is.starts)
