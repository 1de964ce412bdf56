-- A walk over the loads of a file, from the last to the first.
use Rattle.std.proofs.Common.{◌≡◌, ℕ, zero, suc, ◌+◌, ◌-◌, ◌/◌, ◌<◌, ◌≤◌, Bool, true, false, List, [], ◌∷◌, length, drop, reverse, get_or, IsTrue, Option, Some, None, is_some, if◌then◌else◌, arith, refl, ap, sym, ◌∙◌, subst}
use Rattle.std.proofs.lemmas.List.{get_or-reverse, length-reverse}
use Rattle.std.proofs.Math.Seq.{drop-cons}
use Rattle.rrv_model.specs.Memory.{Memory, Cell, stored, no_memory, page_count, page_bytes}
use Rattle.rrv_model.specs.Elf.{Header, loads, touches, refusal, IsLoad}
use Rattle.rrv_model.specs.Opening.{image_memory}
use Rattle.guest_pages.specs.Space.{present}
use Rattle.guest_pages.specs.Mapping.{covered_cell}
use Rattle.guest_opening.specs.Loading.{covered_load, load_permissions, file_bytes}
use Rattle.guest_opening.proofs.ImageParts.{with_load}
use Rattle.rrv_model.proofs.AcceptedFile.{is_accepted}
use Rattle.guest_opening.proofs.PageWalk.{load_room}
use Rattle.guest_opening.proofs.ImageLoads.{image_more, image_none, touched_page}
use Rattle.guest_pages.proofs.Cells.{all_pass}
use Rattle.rrv_model.proofs.ImageParts.{AreLoads, image_of}

are_loads-drop : (file : List ℕ) (hs : List Header) (k : ℕ) → AreLoads file hs → AreLoads file (drop k hs)
are_loads-drop file [] zero good = good
are_loads-drop file [] (suc k) good = good
are_loads-drop file (h ∷ hs) zero good = good
are_loads-drop file (h ∷ hs) (suc k) good = are_loads-drop file hs k good.1

drop-all : (hs : List Header) (k : ℕ) → length hs ≤ k → drop k hs ≡ []
drop-all [] zero le = refl
drop-all [] (suc k) le = refl
drop-all (h ∷ hs) zero le = absurd (omega arith)
drop-all (h ∷ hs) (suc k) le = drop-all hs k (omega arith)

-- the n-th load from the end, and those behind it
pub next_load : (hs : List Header) (n : ℕ) (h : Header) → n < length (reverse hs) → h ≡ get_or (reverse hs) n h →
    drop (length hs - (n + 1)) hs ≡ h ∷ drop (length hs - n) hs
next_load hs n h below is =
    let len : length (reverse hs) ≡ length hs = length-reverse hs in
    let place : length hs - 1 - n ≡ length hs - (n + 1) = omega arith in
    let behind : suc (length hs - (n + 1)) ≡ length hs - n = omega arith in
    let item : h ≡ get_or hs (length hs - (n + 1)) h = is ∙ get_or-reverse hs n h (omega arith) ∙ ap (λ (k : ℕ). get_or hs k h) place in
    drop-cons hs (length hs - (n + 1)) h (omega arith) ∙ (λ i. sym item i ∷ drop (behind i) hs)

-- a load of the walk, with those behind it
pub record IsNext (file : List ℕ) (n : ℕ) (h : Header) : Type 0 where
  pub load : IsLoad file h
  pub behind : AreLoads file (drop (length (loads file) - n) (loads file))
  pub place : drop (length (loads file) - (n + 1)) (loads file) ≡ h ∷ drop (length (loads file) - n) (loads file)

pub is_next : (file : List ℕ) (n : ℕ) (h : Header) → refusal file ≡ None → n < length (reverse (loads file)) →
    h ≡ get_or (reverse (loads file)) n h → IsNext file n h
is_next file n h none below is =
    let hs = loads file in
    let place = next_load hs n h below is in
    let good : AreLoads file (h ∷ drop (length hs - n) hs) =
    subst (AreLoads file) place (are_loads-drop file hs (length hs - (n + 1)) (is_accepted file none).good) in
    record { load = good.0; behind = good.1; place = place }

pub next_has_room : (file : List ℕ) (n : ℕ) (h : Header) (m : Memory) → refusal file ≡ None → IsNext file n h →
    m ≡ image_of file (drop (length (loads file) - n) (loads file)) →
    page_count (covered_load h m) ≤ 16_384
next_has_room file n h m none next is =
    let hs = loads file in
    let room = load_room file h (drop (length hs - n) hs) (length hs - (n + 1)) (is_accepted file none) next.load next.behind next.place in
    subst (λ (k : Memory). page_count (covered_load h k) ≤ 16_384) (sym is) room

-- ---- the load's bytes have their pages

covered_there : (t : Bool) (h : Header) (c : Option Cell) → t ≡ true →
    is_some (if t then Some (covered_cell (load_permissions h) c) else c) ≡ true
covered_there true h c e = refl
covered_there false h c e = cc

pub next_is_there : (file : List ℕ) (h : Header) (m covered : Memory) → IsLoad file h → covered ≡ covered_load h m →
    IsTrue (present covered h.address h.file_len)
next_is_there file h m covered load is =
    let sizes = load.sizes in
    let there : IsTrue (present (covered_load h m) h.address h.file_len) =
    all_pass is_some (covered_load h m) h.address h.file_len (λ k below.
    covered_there (touches ((h.address + k) / page_bytes) h) h (m (h.address + k))
    (touched_page h (h.address + k) (omega arith) (omega arith))) in
    subst (λ (k : Memory). IsTrue (present k h.address h.file_len)) (sym is) there

-- ---- the walk

pub walk_begins : (file : List ℕ) (m : Memory) → m ≡ no_memory → m ≡ image_of file (drop (length (loads file) - 0) (loads file))
walk_begins file m none =
    none ∙ sym (image_none file)
    ∙ ap (λ (hs : List Header). image_of file hs) (sym (drop-all (loads file) (length (loads file) - 0) (omega arith)))

pub walk_goes_on : (file : List ℕ) (n more : ℕ) (h : Header) (m covered filled : Memory) → IsNext file n h → more ≡ n + 1 →
    m ≡ image_of file (drop (length (loads file) - n) (loads file)) → covered ≡ covered_load h m →
    filled ≡ stored h.address (file_bytes file h) covered →
    filled ≡ image_of file (drop (length (loads file) - more) (loads file))
walk_goes_on file n more h m covered filled next one is is_covered is_filled =
    let rest = drop (length (loads file) - n) (loads file) in
    is_filled
    ∙ ap (λ (k : Memory). stored h.address (file_bytes file h) k) is_covered
    ∙ ap (λ (k : Memory). with_load file h k) is
    ∙ sym (image_more file h rest next.load next.behind)
    ∙ ap (λ (hs : List Header). image_of file hs) (sym next.place)
    ∙ ap (λ (k : ℕ). image_of file (drop (length (loads file) - k) (loads file))) (sym one)

pub walk_ends : (file : List ℕ) (n : ℕ) (m : Memory) → n ≡ length (reverse (loads file)) →
    m ≡ image_of file (drop (length (loads file) - n) (loads file)) → m ≡ image_memory file
walk_ends file n m all is =
    let none : length (loads file) - n ≡ 0 = let len : length (reverse (loads file)) ≡ length (loads file) =
    length-reverse (loads file) in omega arith in
    is ∙ ap (λ (k : ℕ). image_of file (drop k (loads file))) none
