-- The pages of a load are covered one by one, and there is room for them.
use Rattle.std.proofs.Common.{◌≡◌, ℕ, zero, suc, ◌+◌, ◌-◌, ◌*◌, ◌/◌, ◌<◌, ◌≤◌, Bool, true, false, ◌&&◌, ◌||◌, if◌then◌else◌, List, [], ◌∷◌, drop, Option, Some, is_some, arith, refl, ap, sym, ◌∙◌}
use Rattle.std.specs.Prelude.{nat_lt, nat_le}
use Rattle.std.specs.List.{list_any}
use Rattle.std.proofs.lemmas.Bool.Decides.{nat_tests}
use Rattle.std.proofs.lemmas.Bool.{or_right}
use Rattle.page_permissions.specs.declared.page.Permissions.{Permissions}
use Rattle.rrv_model.specs.Memory.{Memory, Cell, is_within, is_mapped, page_count, pages_below, page_bytes}
use Rattle.rrv_model.specs.Elf.{Header, touches, loads, touched_below, IsLoad}
use Rattle.guest_pages.specs.declared.fault.PageFault.{PageFault}
use Rattle.guest_pages.specs.declared.fault.PageFault.TheVariants as faults
use Rattle.guest_pages.specs.Mapping.{covered, covered_cell, IsMapRefusal}
use Rattle.guest_opening.specs.Loading.{covered_load, load_permissions}
use Rattle.guest_opening.proofs.ImageParts.{covered_pages}
use Rattle.rrv_model.proofs.PageCounts.{pages_fewer, pages_none, is_mapped-image, pages_touched, page_of_start}
use Rattle.rrv_model.proofs.AcceptedFile.{untouched}
use Rattle.rrv_model.proofs.ImageParts.{AreLoads, IsAccepted, image_of}

-- ---- the pages of a load

cover_if : (t u v : Bool) (p : Permissions) (c : Option Cell) → (t ≡ true → (u ≡ false) × (v ≡ true)) → (t ≡ false → u ≡ v) →
    (if t then Some (covered_cell p (if u then Some (covered_cell p c) else c)) else (if u then Some (covered_cell p c) else c))
    ≡ (if v then Some (covered_cell p c) else c)
cover_if true false true p c here there = refl
cover_if true true v p c here there = let h = here refl in cc
cover_if true false false p c here there = let h = here refl in cc
cover_if false true true p c here there = refl
cover_if false false false p c here there = refl
cover_if false true false p c here there = let h = there refl in cc
cover_if false false true p c here there = let h = there refl in cc

past_page : (from page x : ℕ) → is_within (page * page_bytes) page_bytes x ≡ true →
    (nat_le from (x / page_bytes) && nat_lt (x / page_bytes) page) ≡ false
past_page from page x e = grind (arith, nat_tests)

at_page : (from page x : ℕ) → from ≤ page → is_within (page * page_bytes) page_bytes x ≡ true →
    (nat_le from (x / page_bytes) && nat_lt (x / page_bytes) (page + 1)) ≡ true
at_page from page x low e = grind (arith, nat_tests)

not_page : (from page x : ℕ) → is_within (page * page_bytes) page_bytes x ≡ false →
    (nat_le from (x / page_bytes) && nat_lt (x / page_bytes) page) ≡ (nat_le from (x / page_bytes) && nat_lt (x / page_bytes) (page + 1))
not_page from page x e = grind (arith, nat_tests)

-- one more page
pub covered_more : (from page : ℕ) (p : Permissions) (m : Memory) → from ≤ page →
    covered page p (covered_pages from page p m) ≡ covered_pages from (page + 1) p m
covered_more from page p m low i x =
    let q = x / page_bytes in
    cover_if (is_within (page * page_bytes) page_bytes x) (nat_le from q && nat_lt q page) (nat_le from q && nat_lt q (page + 1)) p (m x)
    (λ e. (past_page from page x e, at_page from page x low e)) (not_page from page x) i

covers_none : (t : Bool) (p : Permissions) (c : Option Cell) → t ≡ false → c ≡ (if t then Some (covered_cell p c) else c)
covers_none true p c e = cc
covers_none false p c e = refl

no_page : (from q : ℕ) → (nat_le from q && nat_lt q from) ≡ false
no_page from q = grind (arith, nat_tests)

pub covered_no_page : (from : ℕ) (p : Permissions) (m : Memory) → m ≡ covered_pages from from p m
covered_no_page from p m i x =
    covers_none (nat_le from (x / page_bytes) && nat_lt (x / page_bytes) from) p (m x) (no_page from (x / page_bytes)) i

no_touch : (h : Header) (q : ℕ) → h.memory_len ≡ 0 → touches q h ≡ false
no_touch h q none = grind (arith, nat_tests)

pub covered_empty : (h : Header) (m : Memory) → h.memory_len ≡ 0 → m ≡ covered_load h m
covered_empty h m none i x = covers_none (touches (x / page_bytes) h) (load_permissions h) (m x) (no_touch h (x / page_bytes) none) i

-- the pages that a load touches are those from its first to its last
touches_if : (h : Header) (q : ℕ) → 0 < h.memory_len →
    (nat_le (h.address / 4096) q && nat_lt q ((h.address + h.memory_len - 1) / 4096 + 1)) ≡ touches q h
touches_if h q some = grind (arith, nat_tests)

pub covered_whole : (h : Header) (m : Memory) → 0 < h.memory_len →
    covered_pages (h.address / 4096) ((h.address + h.memory_len - 1) / 4096 + 1) (load_permissions h) m ≡ covered_load h m
covered_whole h m some i x = if touches_if h (x / page_bytes) some i then Some (covered_cell (load_permissions h) (m x)) else m x

-- ---- room

is_some-cover_if : (t : Bool) (p : Permissions) (c : Option Cell) → is_some (if t then Some (covered_cell p c) else c) ≡ (t || is_some c)
is_some-cover_if true p c = refl
is_some-cover_if false p c = refl

widens : (s t c : Bool) → (s ≡ true → t ≡ true) → (s || c) ≡ true → (t || c) ≡ true
widens true t c h e = let t_is = h refl in rw t_is refl
widens false true c h e = refl
widens false false c h e = e

wider : (from to more q : ℕ) → to ≤ more → (nat_le from q && nat_lt q to) ≡ true → (nat_le from q && nat_lt q more) ≡ true
wider from to more q le e = grind (arith, nat_tests)

-- fewer pages covered are no more pages
pub covered_fewer : (from to more : ℕ) (p : Permissions) (m : Memory) → to ≤ more →
    page_count (covered_pages from to p m) ≤ page_count (covered_pages from more p m)
covered_fewer from to more p m le =
    pages_fewer 0x100000 (covered_pages from to p m) (covered_pages from more p m) (λ q below is.
    let x = q * page_bytes in
    let s = nat_le from (x / page_bytes) && nat_lt (x / page_bytes) to in
    let t = nat_le from (x / page_bytes) && nat_lt (x / page_bytes) more in
    is_some-cover_if t p (m x)
    ∙ widens s t (is_some (m x)) (wider from to more (x / page_bytes) le) (sym (is_some-cover_if s p (m x)) ∙ is))

-- where there is room, only want of memory refuses
pub only_memory : (m : Memory) (fault : PageFault) → page_count m ≤ 16_384 → IsMapRefusal m fault → fault ≡ faults.Memory
only_memory m faults.NotMapped room h = absurd h
only_memory m faults.NotAllowed room h = absurd h
only_memory m faults.TooManyPages room h = absurd (let many : 16_384 < page_count m = h in omega arith)
only_memory m faults.Memory room h = refl

-- ---- the loads of a file

some_drop : (test : Header → Bool) (hs : List Header) (k : ℕ) → list_any test (drop k hs) ≡ true → list_any test hs ≡ true
some_drop test [] zero h = h
some_drop test [] (suc k) h = h
some_drop test (x ∷ hs) zero h = h
some_drop test (x ∷ hs) (suc k) h = let rest = some_drop test hs k h in or_right (test x) (list_any test hs) rest

same_bound : (all low touched : ℕ) → all ≡ low → low ≡ touched → touched ≤ 16_128 → all ≤ 16_128
same_bound all low touched e f h = omega arith

pub image_pages : (file : List ℕ) → IsAccepted file → page_count (image_of file (loads file)) ≤ 16_128
image_pages file accepted =
    let m = image_of file (loads file) in
    let none_above : (p : ℕ) → 0x70000 ≤ p → p < 0x100000 → is_mapped m p ≡ false =
    λ p low high. is_mapped-image file (loads file) p ∙ untouched file (loads file) p accepted.good (λ one below. omega arith) in
    same_bound (page_count m) (pages_below 0x70000 m) (touched_below 0x70000 (loads file)) (pages_none 0x90000 0x70000 m none_above)
    (pages_touched 0x70000 file (loads file)) accepted.pages

-- the pages of a load among those of the file
pub load_room : (file : List ℕ) (h : Header) (rest : List Header) (k : ℕ) → IsAccepted file → IsLoad file h → AreLoads file rest →
    drop k (loads file) ≡ h ∷ rest →
    page_count (covered_load h (image_of file rest)) ≤ 16_384
load_room file h rest k accepted good good_rest place =
    let m = covered_load h (image_of file rest) in
    let n = image_of file (loads file) in
    let fewer : page_count m ≤ page_count n = pages_fewer 0x100000 m n (λ p below is.
    let x = p * page_bytes in
    let here : (touches (x / page_bytes) h || list_any (touches p) rest) ≡ true =
    ap (λ (b : Bool). touches (x / page_bytes) h || b) (sym (is_mapped-image file rest p))
    ∙ sym (is_some-cover_if (touches (x / page_bytes) h) (load_permissions h) (image_of file rest x)) ∙ is in
    let in_list : list_any (touches p) (h ∷ rest) ≡ true =
    ap (λ (q : ℕ). touches q h || list_any (touches p) rest) (sym (page_of_start p)) ∙ here in
    is_mapped-image file (loads file) p ∙ some_drop (touches p) (loads file) k (ap (list_any (touches p)) place ∙ in_list)) in
    let few = image_pages file accepted in
    omega (arith, fewer, few)

-- ---- a walk over the pages of a load

pub walk_begins : (from page : ℕ) (p : Permissions) (m : Memory) → page ≡ from → m ≡ covered_pages from page p m
walk_begins from page p m e = covered_no_page from p m ∙ ap (λ (to : ℕ). covered_pages from to p m) (sym e)

pub walk_goes_on : (from page : ℕ) (p : Permissions) (m here next : Memory) → from ≤ page → here ≡ covered_pages from page p m →
    next ≡ covered page p here → next ≡ covered_pages from (page + 1) p m
walk_goes_on from page p m here next low is step = step ∙ ap (λ (k : Memory). covered page p k) is ∙ covered_more from page p m low

pub walk_has_room : (h : Header) (page : ℕ) (p : Permissions) (m here : Memory) → 0 < h.memory_len → p ≡ load_permissions h →
    h.address / 4096 ≤ page →
    here ≡ covered_pages (h.address / 4096) page p m → page < (h.address + h.memory_len - 1) / 4096 + 1 →
    page_count (covered_load h m) ≤ 16_384 →
    page_count (covered page p here) ≤ 16_384
walk_has_room h page p m here some is_p low is below room =
    let from = h.address / 4096 in
    let to = (h.address + h.memory_len - 1) / 4096 + 1 in
    let next : page_count (covered page p here) ≡ page_count (covered_pages from (page + 1) p m) =
    ap (λ (k : Memory). page_count k) (walk_goes_on from page p m here (covered page p here) low is refl) in
    let fewer : page_count (covered_pages from (page + 1) p m) ≤ page_count (covered_pages from to p m) =
    covered_fewer from (page + 1) to p m (omega arith) in
    let whole : page_count (covered_pages from to p m) ≡ page_count (covered_load h m) =
    ap (λ (q : Permissions). page_count (covered_pages from to q m)) is_p ∙ ap (λ (k : Memory). page_count k) (covered_whole h m some) in
    omega (arith, next, fewer, whole)

pub walk_ends : (h : Header) (page : ℕ) (p : Permissions) (m here : Memory) → 0 < h.memory_len → p ≡ load_permissions h →
    here ≡ covered_pages (h.address / 4096) page p m → page ≡ (h.address + h.memory_len - 1) / 4096 + 1 → here ≡ covered_load h m
walk_ends h page p m here some is_p is last =
    is ∙ ap (λ (to : ℕ). covered_pages (h.address / 4096) to p m) last
    ∙ ap (λ (q : Permissions). covered_pages (h.address / 4096) ((h.address + h.memory_len - 1) / 4096 + 1) q m) is_p
    ∙ covered_whole h m some
