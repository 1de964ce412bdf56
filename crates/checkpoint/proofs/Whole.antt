-- Parts that name the pages that changed describe the state that they are made of.
use Rattle.std.proofs.Common.{◌≡◌, ◌∙◌, ℕ, ◌≤◌, List, [], ◌∷◌, ◌++◌, length, map, Option, Some, None, IfSome, ap, append_assoc, refl, sym, subst, arith}
use Rattle.std.proofs.lemmas.Grind.{flat_map-append}
use Rattle.std.proofs.lemmas.List.{append-nil, length-map, map-append}
use Rattle.std.proofs.lemmas.List.Elements.{All-from_recursion}
use Rattle.std.specs.List.{AllByRecursion}
use Rattle.std.specs.List.Sorted.{IsStrictlyIncreasing}
use Rattle.rrv_model.specs.declared.limits.TheConstants.{MAX_PART_PAGES}
use Rattle.rrv_model.specs.declared.record.CheckpointRest.{CheckpointRest}
use Rattle.rrv_model.specs.declared.record.PagePart.{PagePart}
use Rattle.rrv_model.specs.declared.record.Part.{Part}
use Rattle.rrv_model.specs.Checkpoint.{Describes, EndsWithRest, IsPagePart, all_pages, patched}
use Rattle.rrv_model.specs.Memory.{Memory}
use Rattle.rrv_model.specs.RecordText.{HasPartText, HasRestText}
use Rattle.rrv_model.specs.State.{State, IsState}
use Rattle.outcomes.proofs.Lists.{AllByRecursion-append}
use Rattle.guest_pages.specs.Snapshots.{AreChanges}
use Rattle.checkpoint.specs.Made.{IsBaseOf, IsMade, IsRestOf, NamesChanges}
use Rattle.checkpoint.proofs.Named.{changes_of, page_parts, patched_is, rise_back, rise_front, texts_of}

-- the numbers of pages
abbrev pub numbers_of : List PagePart → List ℕ
numbers_of pages = map (λ p. p.number) pages

-- a part before the last one
abbrev pub IsEarlier : Part → Type 0
IsEarlier part = (part.rest ≡ None) × HasPartText part

-- pages with numbers from among those that rise
part_text : (before m : Memory) (done : List ℕ) (pages : List PagePart) (left : List ℕ) (rest : Option CheckpointRest) →
    IsStrictlyIncreasing ((done ++ numbers_of pages) ++ left) → AllByRecursion (IsMade before m) pages → length pages ≤ 1024 →
    IfSome rest HasRestText →
    HasPartText (record { pages = pages; rest = rest })
part_text before m done pages left rest rise made few has = record {
  most = few;
  rising = rise_back done (numbers_of pages) (rise_front (done ++ numbers_of pages) left rise);
  pages = texts_of before m pages made;
  rest = has;
}

earlier_texts : (parts : List Part) → AllByRecursion IsEarlier parts → AllByRecursion HasPartText parts
earlier_texts [] h = tt
earlier_texts (part ∷ parts) h = (h.0.1, earlier_texts parts h.1)

few_of : (parts : List Part) → AllByRecursion HasPartText parts → AllByRecursion (λ p. length p.pages ≤ MAX_PART_PAGES) parts
few_of [] h = tt
few_of (part ∷ parts) h = (h.0.most, few_of parts h.1)

ends : (parts : List Part) (last : Part) (rest : CheckpointRest) → AllByRecursion IsEarlier parts → last.rest ≡ Some rest →
    EndsWithRest (parts ++ last ∷ []) rest
ends [] last rest earlier flagged = flagged
ends (p ∷ []) last rest earlier flagged = (earlier.0.0, flagged)
ends (p ∷ q ∷ parts) last rest earlier flagged = (earlier.0.0, ends (q ∷ parts) last rest earlier.1 flagged)

pages_then : (parts : List Part) (last : Part) → all_pages (parts ++ last ∷ []) ≡ all_pages parts ++ last.pages
pages_then parts last =
    flat_map-append (λ (p : Part). p.pages) parts (last ∷ []) ∙ ap (λ (ps : List PagePart). all_pages parts ++ ps) (append-nil last.pages)

-- parts that are made of the first of the numbers, and those that are left
pub record HasListed (before m : Memory) (parts : List Part) (left : List ℕ) : Type 0 where
  pub numbers : List ℕ
  pub changes : AreChanges before m numbers
  pub split : numbers_of (all_pages parts) ++ left ≡ numbers
  pub made : AllByRecursion (IsMade before m) (all_pages parts)
  pub earlier : AllByRecursion IsEarlier parts

pub lists_none : (before m : Memory) (numbers : List ℕ) → AreChanges before m numbers → HasListed before m [] numbers
lists_none before m numbers changes = record { numbers = numbers; changes = changes; split = refl; made = tt; earlier = tt }

-- with the pages of the next of them
split_then : (parts : List Part) (pages : List PagePart) (rest : Option CheckpointRest) (numbers left behind : List ℕ) →
    numbers_of (all_pages parts) ++ left ≡ numbers →
    numbers_of pages ++ behind ≡ left →
    (numbers_of (all_pages parts) ++ numbers_of pages) ++ behind ≡ numbers
split_then parts pages rest numbers left behind split more =
    append_assoc (numbers_of (all_pages parts)) (numbers_of pages) behind ∙ ap (λ (ns : List ℕ). numbers_of (all_pages parts) ++ ns) more
    ∙ split

numbers_then : (parts : List Part) (pages : List PagePart) (rest : Option CheckpointRest) →
    let part : Part = record { pages = pages; rest = rest } in
    numbers_of (all_pages (parts ++ part ∷ [])) ≡ numbers_of (all_pages parts) ++ numbers_of pages
numbers_then parts pages rest =
    let part : Part = record { pages = pages; rest = rest } in
    ap (λ (ps : List PagePart). numbers_of ps) (pages_then parts part) ∙ map-append (λ (p : PagePart). p.number) (all_pages parts) pages

made_then : (before m : Memory) (parts : List Part) (pages : List PagePart) (rest : Option CheckpointRest) →
    AllByRecursion (IsMade before m) (all_pages parts) →
    AllByRecursion (IsMade before m) pages →
    let part : Part = record { pages = pages; rest = rest } in AllByRecursion (IsMade before m) (all_pages (parts ++ part ∷ []))
made_then before m parts pages rest made more =
    let part : Part = record { pages = pages; rest = rest } in
    subst (λ (ps : List PagePart). AllByRecursion (IsMade before m) ps) (sym (pages_then parts part))
    (AllByRecursion-append (IsMade before m) (all_pages parts) pages made more)

next_text : (before m : Memory) (parts : List Part) (left behind : List ℕ) (pages : List PagePart) (rest : Option CheckpointRest) →
    HasListed before m parts left → numbers_of pages ++ behind ≡ left → AllByRecursion (IsMade before m) pages → length pages ≤ 1024 →
    IfSome rest HasRestText →
    HasPartText (record { pages = pages; rest = rest })
next_text before m parts left behind pages rest h more made few has =
    part_text before m (numbers_of (all_pages parts)) pages behind rest
    (subst (λ (ns : List ℕ). IsStrictlyIncreasing ns) (sym (split_then parts pages rest h.numbers left behind h.split more))
    h.changes.rising) made few has

pub lists_more : (before m : Memory) (parts : List Part) (left behind : List ℕ) (pages : List PagePart) →
    HasListed before m parts left → numbers_of pages ++ behind ≡ left → AllByRecursion (IsMade before m) pages → length pages ≤ 1024 →
    HasListed before m (parts ++ record { pages = pages; rest = None } ∷ []) behind
lists_more before m parts left behind pages h more made few =
    let part : Part = record { pages = pages; rest = None } in
    record {
      numbers = h.numbers;
      changes = h.changes;
      split = ap (λ (ns : List ℕ). ns ++ behind) (numbers_then parts pages None)
          ∙ split_then parts pages None h.numbers left behind h.split more;
      made = made_then before m parts pages None h.made made;
      earlier = AllByRecursion-append IsEarlier parts (part ∷ []) h.earlier
          ((refl, next_text before m parts left behind pages None h more made few tt), tt);
    }

-- ---- all parts

abbrev pub whole : List Part → List PagePart → CheckpointRest → List Part
whole parts pages rest = parts ++ record { pages = pages; rest = Some rest } ∷ []

-- parts with the pages of all numbers
pub record HasAll (before : Memory) (s : State) (parts : List Part) (pages : List PagePart) (rest : CheckpointRest) : Type 0 where
  pub left : List ℕ
  pub listed : HasListed before s.memory parts left
  pub these : numbers_of pages ≡ left
  pub made : AllByRecursion (IsMade before s.memory) pages
  pub few : length pages ≤ 1024
  pub told : IsRestOf s rest
  pub is_state : IsState s

pub has_all : (before : Memory) (s : State) (parts : List Part) (left : List ℕ) (pages : List PagePart) (rest : CheckpointRest) →
    HasListed before s.memory parts left →
    numbers_of pages ≡ left → AllByRecursion (IsMade before s.memory) pages → length left ≤ 1024 → IsRestOf s rest → IsState s →
    HasAll before s parts pages rest
has_all before s parts left pages rest listed these made few told is =
    let as_few : length pages ≤ 1024 =
    omega (arith, length-map pages (λ (p : PagePart). p.number), ap (λ (ns : List ℕ). length ns) these, few) in
    record { left = left; listed = listed; these = these; made = made; few = as_few; told = told; is_state = is }

last_text : (before : Memory) (s : State) (parts : List Part) (pages : List PagePart) (rest : CheckpointRest) →
    HasAll before s parts pages rest →
    HasPartText (record { pages = pages; rest = Some rest })
last_text before s parts pages rest h =
    next_text before s.memory parts h.left [] pages (Some rest) h.listed (append-nil (numbers_of pages) ∙ h.these) h.made h.few h.told.text

pub all_texts : (before : Memory) (s : State) (parts : List Part) (pages : List PagePart) (rest : CheckpointRest) →
    HasAll before s parts pages rest →
    AllByRecursion HasPartText (whole parts pages rest)
all_texts before s parts pages rest h =
    let last : Part = record { pages = pages; rest = Some rest } in
    AllByRecursion-append HasPartText parts (last ∷ []) (earlier_texts parts h.listed.earlier) (last_text before s parts pages rest h, tt)

all_changes : (before : Memory) (s : State) (parts : List Part) (pages : List PagePart) (rest : CheckpointRest) →
    HasAll before s parts pages rest →
    AreChanges before s.memory (numbers_of (all_pages (whole parts pages rest)))
all_changes before s parts pages rest h =
    let are : numbers_of (all_pages (whole parts pages rest)) ≡ h.listed.numbers =
    numbers_then parts pages (Some rest) ∙ ap (λ (ns : List ℕ). numbers_of (all_pages parts) ++ ns) h.these ∙ h.listed.split in
    subst (λ (ns : List ℕ). AreChanges before s.memory ns) (sym are) h.listed.changes

all_made : (before : Memory) (s : State) (parts : List Part) (pages : List PagePart) (rest : CheckpointRest) →
    HasAll before s parts pages rest →
    AllByRecursion (IsMade before s.memory) (all_pages (whole parts pages rest))
all_made before s parts pages rest h = made_then before s.memory parts pages (Some rest) h.listed.made h.made

pub names_changes : (before : Memory) (s : State) (parts : List Part) (pages : List PagePart) (rest : CheckpointRest) →
    HasAll before s parts pages rest →
    NamesChanges before s.memory (all_pages (whole parts pages rest))
names_changes before s parts pages rest h = record {
  named = all_changes before s parts pages rest h;
  each = changes_of before s.memory (all_pages (whole parts pages rest)) (all_made before s parts pages rest h);
}

pub described : (before : Memory) (s : State) (parts : List Part) (pages : List PagePart) (rest : CheckpointRest) →
    HasAll before s parts pages rest →
    (old : State) → IsBaseOf before old s → Describes old (whole parts pages rest) s
described before s parts pages rest h old base =
    let all = whole parts pages rest in
    let last : Part = record { pages = pages; rest = Some rest } in
    let changes = all_changes before s parts pages rest h in
    let made = all_made before s parts pages rest h in
    let patched_kept = patched_is before s.memory (all_pages all) changes made in
    record {
      describes = record {
        rest = rest;
        flagged = ends parts last rest h.listed.earlier refl;
        few = All-from_recursion (λ p. length p.pages ≤ MAX_PART_PAGES) all (few_of all (all_texts before s parts pages rest h));
        rising = changes.rising;
        pages = All-from_recursion IsPagePart (all_pages all) (page_parts before s.memory (all_pages all) made);
        tids_rising = h.told.text.rising;
        is_state = h.is_state.rules;
        state_is = λ i. record {
          version = sym base.version i;
          memory = (sym patched_kept ∙ ap (patched (all_pages all)) base.memory) i;
          threads = sym h.told.threads i;
          waiting = sym h.told.waiting i;
          next_tid = sym h.told.next_tid i;
          opening_break = sym base.opening_break i;
          program_break = sym h.told.program_break i;
          reservation = base.reservation i;
          ended = base.ended i;
        };
      };
      limit = h.is_state.limit;
    }
