-- One more load at the front of the list: its pages are covered and its bytes stored.
use Rattle.std.proofs.Common.{◌≡◌, ℕ, ◌+◌, ◌-◌, ◌/◌, ◌<◌, ◌≤◌, Bool, true, false, ◌||◌, ◌&&◌, if◌then◌else◌, List, [], ◌∷◌, length, take, drop, Option, Some, None, slice_index, arith, refl, ap, sym, ◌∙◌, length-take, length-drop, get_or-take, get_or-drop}
use Rattle.std.specs.List.{list_any}
use Rattle.std.proofs.lemmas.Bool.Decides.{nat_tests}
use Rattle.std.proofs.Math.Bool.{or-false, or_comm}
use Rattle.std.proofs.lemmas.Bool.{or_parts}
use Rattle.page_permissions.specs.declared.page.Permissions.{Permissions}
use Rattle.rrv_model.specs.Memory.{Memory, Cell, no_memory, is_within, with_byte, page_bytes}
use Rattle.rrv_model.specs.CallRows.{has_flag}
use Rattle.rrv_model.specs.Elf.{Header, touches, load_end, loads, IsLoad}
use Rattle.rrv_model.specs.Opening.{loaded_byte, page_has, image_memory}
use Rattle.guest_opening.specs.Loading.{covered_load, file_bytes}
use Rattle.guest_opening.proofs.ImageParts.{with_load}
use Rattle.guest_pages.specs.Mapping.{covered_cell, union}
use Rattle.rrv_model.proofs.ImageParts.{AreLoads, image_of}

-- an address of a load's memory stands in a page that the load touches
pub touched_page : (h : Header) (a : ℕ) → h.address ≤ a → a < load_end h → touches (a / page_bytes) h ≡ true
touched_page h a low high = grind (arith, nat_tests)

within_low : (a count x : ℕ) → is_within a count x ≡ true → a ≤ x
within_low a count x h = grind (arith, nat_tests)

within_high : (a count x : ℕ) → is_within a count x ≡ true → x < a + count
within_high a count x h = grind (arith, nat_tests)

-- a file's byte of a load stands in a page that the load touches
touched_file : (file : List ℕ) (h : Header) (a : ℕ) → IsLoad file h → is_within h.address h.file_len a ≡ true →
    touches (a / page_bytes) h ≡ true
touched_file file h a good w =
    let low = within_low h.address h.file_len a w in
    let high = within_high h.address h.file_len a w in
    touched_page h a low (omega (arith, good.sizes))

-- no byte is loaded in a page that no load touches
no_byte_of : (file : List ℕ) (h : Header) (a byte rest : ℕ) (w : Bool) → IsLoad file h → touches (a / page_bytes) h ≡ false →
    is_within h.address h.file_len a ≡ w → rest ≡ 0 → (if w then byte else rest) ≡ 0
no_byte_of file h a byte rest true good none e none_behind = let t = touched_file file h a good e in cc
no_byte_of file h a byte rest false good none e none_behind = none_behind

no_byte : (file : List ℕ) (hs : List Header) (a : ℕ) → AreLoads file hs → list_any (touches (a / page_bytes)) hs ≡ false →
    loaded_byte file hs a ≡ 0
unfolding loaded_byte
no_byte file [] a good none = refl
no_byte file (h ∷ hs) a good none =
    let parts = or_parts (touches (a / page_bytes) h) (list_any (touches (a / page_bytes)) hs) none in
    no_byte_of file h a (slice_index file (h.offset + (a - h.address))) (loaded_byte file hs a) (is_within h.address h.file_len a) good.0
    parts.0 refl (no_byte file hs a good.1 parts.1)

no_flag_of : (t f rest : Bool) → t ≡ false → rest ≡ false → ((t && f) || rest) ≡ false
no_flag_of true f rest e none = cc
no_flag_of false f rest e none = none

no_flag : (flag page : ℕ) (hs : List Header) → list_any (touches page) hs ≡ false → page_has flag page hs ≡ false
no_flag flag page [] none = refl
no_flag flag page (h ∷ hs) none =
    let parts = or_parts (touches page h) (list_any (touches page) hs) none in
    no_flag_of (touches page h) (has_flag h.flags flag) (page_has flag page hs) parts.0 (no_flag flag page hs parts.1)

-- ---- one more load, over plain tests

union_read : (f4 f2 a4 a2 : Bool) → ((f4 || a4) || (f2 || a2)) ≡ ((a4 || a2) || (f4 || f2))
union_read true f2 true a2 = refl
union_read true f2 false true = refl
union_read true f2 false false = refl
union_read false true true a2 = refl
union_read false false true a2 = refl
union_read false true false true = refl
union_read false true false false = refl
union_read false false false true = refl
union_read false false false false = refl

same_permissions : (r w x r' w' x' : Bool) → r ≡ r' → w ≡ w' → x ≡ x' →
    record { read = r; write = w; execute = x } ≡ (let p : Permissions = record { read = r'; write = w'; execute = x' } in p)
same_permissions r w x r' w' x' e f g i = record { read = e i; write = f i; execute = g i }

same_cell : (b c : ℕ) (p q : Permissions) → b ≡ c → p ≡ q →
    Some (record { byte = b; permissions = p }) ≡ (let cell : Option Cell = Some (record { byte = c; permissions = q }) in cell)
same_cell b c p q e f i = Some (record { byte = e i; permissions = f i })

-- the flags of a page of the list
pub record Flags : Type 0 where
  pub four : Bool
  pub two : Bool
  pub one : Bool

abbrev permissions_of : Flags → Permissions
permissions_of f = record { read = f.four || f.two; write = f.two; execute = f.one }

-- with the flags of one more load, if that touches the page
abbrev flags_with : Bool → Flags → Flags → Flags
flags_with t f g = record { four = (t && f.four) || g.four; two = (t && f.two) || g.two; one = (t && f.one) || g.one }

abbrev page_cell : Bool → ℕ → Permissions → Option Cell
page_cell touched byte p = if touched then Some (record { byte = byte; permissions = p }) else None

abbrev covered_if : Bool → Permissions → Option Cell → Option Cell
covered_if t p c = if t then Some (covered_cell p c) else c

joined_flags : (f g : Flags) → permissions_of (flags_with true f g) ≡ union (permissions_of g) (permissions_of f)
joined_flags f g = same_permissions _ _ _ _ _ _ (union_read f.four f.two g.four g.two) (or_comm f.two g.two) (or_comm f.one g.one)

no_union_read : (f4 g4 f2 g2 : Bool) → g4 ≡ false → g2 ≡ false → ((f4 || g4) || (f2 || g2)) ≡ (f4 || f2)
no_union_read f4 true f2 g2 e d = cc
no_union_read f4 false f2 true e d = cc
no_union_read f4 false f2 false e d = λ i. or-false f4 i || or-false f2 i

no_union_with : (f g : Bool) → g ≡ false → (f || g) ≡ f
no_union_with f true e = cc
no_union_with f false e = or-false f

no_flags : (f g : Flags) → g.four ≡ false → g.two ≡ false → g.one ≡ false → permissions_of (flags_with true f g) ≡ permissions_of f
no_flags f g four two one =
    same_permissions _ _ _ _ _ _ (no_union_read f.four g.four f.two g.two four two) (no_union_with f.two g.two two)
    (no_union_with f.one g.one one)

-- t: the load touches the page; w: its file range holds the address; any: a load behind it touches the page
one_more : (t w any : Bool) (byte stored_byte rest : ℕ) (f g : Flags) →
    (w ≡ true → t ≡ true) → (w ≡ true → stored_byte ≡ byte) →
    (any ≡ false → (rest ≡ 0) × (g.four ≡ false) × (g.two ≡ false) × (g.one ≡ false)) →
    page_cell (t || any) (if w then byte else rest) (permissions_of (flags_with t f g))
    ≡ (if w then with_byte stored_byte (covered_if t (permissions_of f) (page_cell any rest (permissions_of g)))
    else covered_if t (permissions_of f) (page_cell any rest (permissions_of g)))
one_more true true true byte stored_byte rest f g touched same none = same_cell _ _ _ _ (sym (same refl)) (joined_flags f g)
one_more true true false byte stored_byte rest f g touched same none =
    let no = none refl in same_cell _ _ _ _ (sym (same refl)) (no_flags f g no.1 no.2 no.3)
one_more true false true byte stored_byte rest f g touched same none = same_cell _ _ _ _ refl (joined_flags f g)
one_more true false false byte stored_byte rest f g touched same none =
    let no = none refl in same_cell _ _ _ _ no.0 (no_flags f g no.1 no.2 no.3)
one_more false true any byte stored_byte rest f g touched same none = let t = touched refl in cc
one_more false false true byte stored_byte rest f g touched same none = refl
one_more false false false byte stored_byte rest f g touched same none = refl

-- ---- the file's bytes of a load

length-file_bytes : (file : List ℕ) (h : Header) → IsLoad file h → length (file_bytes file h) ≡ h.file_len
length-file_bytes file h good = by_len h.file_len good.in_file where
  by_len : (n : ℕ) → (0 < n → h.offset + n ≤ length file) → length (take n (drop h.offset file)) ≡ n
  by_len n fits = simp (length-take, length-drop) (grind (arith, nat_tests))

file_byte : (file : List ℕ) (h : Header) (x : ℕ) → is_within h.address h.file_len x ≡ true →
    slice_index (file_bytes file h) (x - h.address) ≡ slice_index file (h.offset + (x - h.address))
file_byte file h x w =
    let low = within_low h.address h.file_len x w in
    let high = within_high h.address h.file_len x w in
    let below : x - h.address < h.file_len = omega arith in
    get_or-take h.file_len (drop h.offset file) (x - h.address) 0 below ∙ get_or-drop h.offset file (x - h.address) 0

-- ---- the law

abbrev flags_of : Header → Flags
flags_of h = record { four = has_flag h.flags 4; two = has_flag h.flags 2; one = has_flag h.flags 1 }

abbrev page_flags : ℕ → List Header → Flags
page_flags page hs = record { four = page_has 4 page hs; two = page_has 2 page hs; one = page_has 1 page hs }

with_load_at : (file : List ℕ) (h : Header) (m : Memory) (x : ℕ) → IsLoad file h →
    with_load file h m x
    ≡ (if is_within h.address h.file_len x then with_byte (slice_index (file_bytes file h) (x - h.address)) (covered_load h m x) else
    covered_load h m x)
with_load_at file h m x good =
    ap (λ (n : ℕ). if is_within h.address n x then with_byte (slice_index (file_bytes file h) (x - h.address)) (covered_load h m x) else
    covered_load h m x) (length-file_bytes file h good)

-- one more load at the front of the list, at each address
image_more_at : (file : List ℕ) (h : Header) (hs : List Header) (x : ℕ) → IsLoad file h → AreLoads file hs →
    image_of file (h ∷ hs) x ≡ with_load file h (image_of file hs) x
unfolding loaded_byte
image_more_at file h hs x good rest =
    let page = x / page_bytes in
    one_more (touches page h) (is_within h.address h.file_len x) (list_any (touches page) hs)
    (slice_index file (h.offset + (x - h.address))) (slice_index (file_bytes file h) (x - h.address)) (loaded_byte file hs x)
    (flags_of h) (page_flags page hs)
    (λ w. touched_file file h x good w) (λ w. file_byte file h x w)
    (λ none. (no_byte file hs x rest none, no_flag 4 page hs none, no_flag 2 page hs none, no_flag 1 page hs none))
    ∙ sym (with_load_at file h (image_of file hs) x good)

pub image_more : (file : List ℕ) (h : Header) (hs : List Header) → IsLoad file h → AreLoads file hs →
    image_of file (h ∷ hs) ≡ with_load file h (image_of file hs)
image_more file h hs good rest i x = image_more_at file h hs x good rest i

-- the whole image
pub image_whole : (file : List ℕ) → image_memory file ≡ image_of file (loads file)
image_whole file = refl

pub image_none : (file : List ℕ) → image_of file [] ≡ no_memory
image_none file i x = None
