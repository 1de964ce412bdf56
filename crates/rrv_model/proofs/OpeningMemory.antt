-- The opening memory keeps the rules of every guest's memory.
use Rattle.std.proofs.Common.{◌≡◌, ℕ, ◌+◌, ◌-◌, ◌*◌, ◌/◌, ◌<◌, ◌≤◌, Bool, true, false, ◌||◌, if◌then◌else◌, List, [], ◌∷◌, ◌++◌, Option, Some, None, IsTrue, arith, refl, sym, ◌∙◌, subst}
use Rattle.std.specs.Prelude.{flat_map, All}
use Rattle.std.specs.List.{list_any}
use Rattle.std.specs.Int.{w32, to_le_bytes}
use Rattle.std.proofs.lemmas.Bool.Decides.{nat_tests}
use Rattle.std.proofs.lemmas.List.Elements.{All-nil, All-cons, All-append}
use Rattle.page_permissions.specs.declared.page.Permissions.{Permissions}
use Rattle.rrv_model.specs.Memory.{Memory, Cell, mapped, is_within, is_mapped, pages_below, page_count, page_bytes, AlikeCells, FitsCell, IsMemory}
use Rattle.rrv_model.specs.Elf.{Header, loads, touches, touched_below, refusal}
use Rattle.rrv_model.specs.Opening.{image_memory, bare_memory, memory_with_words, memory_with_name, opening_memory, name_at, stack_pointer, stack_words, random_at, loaded_byte, page_permissions, page_has, IsName}
use Rattle.rrv_model.proofs.ImageParts.{image_of, IsAccepted}
use Rattle.rrv_model.proofs.AcceptedFile.{is_accepted, untouched}
use Rattle.rrv_model.proofs.MemoryRules.{AreBytes, Fits, Paged, all-low_first, are_bytes, fits-stored, none-stored, paged-stored}
use Rattle.rrv_model.proofs.PageCounts.{pages_same, pages_more, pages_none, is_mapped-stored, is_mapped-mapped, is_mapped-image, pages_touched}

-- ---- which pages are mapped

-- the three stores keep the pages
is_mapped-opening : (file name random : List ℕ) (p : ℕ) → is_mapped (opening_memory file name random) p ≡ is_mapped (bare_memory file) p
is_mapped-opening file name random p =
    is_mapped-stored random_at random (memory_with_name file name) p
    ∙ is_mapped-stored (name_at name) (name ++ 0 ∷ []) (memory_with_words file name) p
    ∙ is_mapped-stored (stack_pointer name) (flat_map (to_le_bytes w32) (stack_words file name)) (bare_memory file) p

below_stack : (p : ℕ) → p < 0x7FF00 → is_within 0x7FF00000 0x100000 (p * page_bytes) ≡ false
below_stack p low = grind (arith, nat_tests)

above_stack : (p : ℕ) → 0x80000 ≤ p → is_within 0x7FF00000 0x100000 (p * page_bytes) ≡ false
above_stack p high = grind (arith, nat_tests)

is_mapped-outside : (file name random : List ℕ) (p : ℕ) → is_within 0x7FF00000 0x100000 (p * page_bytes) ≡ false →
    is_mapped (opening_memory file name random) p ≡ list_any (touches p) (loads file)
is_mapped-outside file name random p outside =
    is_mapped-opening file name random p
    ∙ is_mapped-mapped 0x7FF00000 0x100000 (record { read = true; write = true; execute = false }) (image_memory file) p outside
    ∙ is_mapped-image file (loads file) p

count_chain : (all above stack low : ℕ) → all ≡ above → above ≤ stack + 0x100 → stack ≡ low → low ≤ 16_128 → all ≤ 16_384
count_chain all above stack low e f g h = omega arith

pub opening_pages : (file name random : List ℕ) → IsAccepted file → page_count (opening_memory file name random) ≤ 16_384
opening_pages file name random accepted =
    let m = opening_memory file name random in
    let none_above : (p : ℕ) → 0x80000 ≤ p → p < 0x100000 → is_mapped m p ≡ false =
    λ p low high. is_mapped-outside file name random p (above_stack p low)
    ∙ untouched file (loads file) p accepted.good (λ one below. omega arith) in
    let none_between : (p : ℕ) → 0x70000 ≤ p → p < 0x7FF00 → is_mapped m p ≡ false =
    λ p low high. is_mapped-outside file name random p (below_stack p high)
    ∙ untouched file (loads file) p accepted.good (λ one below. omega arith) in
    let low_pages : pages_below 0x70000 m ≡ touched_below 0x70000 (loads file) =
    pages_same 0x70000 m (image_of file (loads file))
    (λ p below. is_mapped-outside file name random p (below_stack p (omega arith)) ∙ sym (is_mapped-image file (loads file) p))
    ∙ pages_touched 0x70000 file (loads file) in
    count_chain (page_count m) (pages_below 0x80000 m) (pages_below 0x7FF00 m) (touched_below 0x70000 (loads file))
    (pages_none 0x80000 0x80000 m none_above) (pages_more 0x100 0x7FF00 m) (pages_none 0xFF00 0x70000 m none_between ∙ low_pages)
    accepted.pages

pub bare_pages : (file : List ℕ) → IsAccepted file → page_count (bare_memory file) ≤ 16_384
bare_pages file accepted =
    let same : page_count (bare_memory file) ≡ page_count (opening_memory file [] []) =
    pages_same 0x100000 (bare_memory file) (opening_memory file [] []) (λ p below. sym (is_mapped-opening file [] [] p)) in
    let few = opening_pages file [] [] accepted in
    omega (arith, same, few)

-- ---- whole pages

alike_maps : (t u : Bool) (p : Permissions) (c d : Option Cell) → t ≡ u → AlikeCells c d →
    AlikeCells (if t then Some (record { byte = 0; permissions = p }) else c) (if u then Some (record { byte = 0; permissions = p }) else d)
alike_maps true true p c d e h = refl
alike_maps false false p c d e h = h
alike_maps true false p c d e h = cc
alike_maps false true p c d e h = cc

same_side : (x y : ℕ) → x / page_bytes ≡ y / page_bytes → is_within 0x7FF00000 0x100000 x ≡ is_within 0x7FF00000 0x100000 y
same_side x y same = grind (arith, nat_tests)

paged-stack : (p : Permissions) (m : Memory) → Paged m → Paged (mapped 0x7FF00000 0x100000 p m)
paged-stack p m h x y same =
    alike_maps (is_within 0x7FF00000 0x100000 x) (is_within 0x7FF00000 0x100000 y) p (m x) (m y) (same_side x y same) (h x y same)

abbrev image_cell : List Header → ℕ → ℕ → Option Cell
image_cell hs byte page = if list_any (touches page) hs then Some (record { byte = byte; permissions = page_permissions page hs }) else None

alike_ifs : (t : Bool) (b e : ℕ) (p : Permissions) →
    AlikeCells (if t then Some (record { byte = b; permissions = p }) else None)
    (if t then Some (record { byte = e; permissions = p }) else None)
alike_ifs true b e p = refl
alike_ifs false b e p = tt

alike_image : (hs : List Header) (b e page other : ℕ) → page ≡ other → AlikeCells (image_cell hs b page) (image_cell hs e other)
alike_image hs b e page other same =
    subst (λ (p : ℕ). AlikeCells (image_cell hs b page) (image_cell hs e p)) same
    (alike_ifs (list_any (touches page) hs) b e (page_permissions page hs))

paged-image : (file : List ℕ) (hs : List Header) → Paged (image_of file hs)
paged-image file hs x y same = alike_image hs (loaded_byte file hs x) (loaded_byte file hs y) (x / page_bytes) (y / page_bytes) same

paged-opening : (file name random : List ℕ) → Paged (opening_memory file name random)
paged-opening file name random =
    paged-stored random_at random (memory_with_name file name)
    (paged-stored (name_at name) (name ++ 0 ∷ []) (memory_with_words file name)
    (paged-stored (stack_pointer name) (flat_map (to_le_bytes w32) (stack_words file name)) (bare_memory file)
    (paged-stack (record { read = true; write = true; execute = false }) (image_memory file) (paged-image file (loads file)))))

-- ---- where nothing is

none_if : (t : Bool) (c d : Option Cell) → t ≡ false → d ≡ None → (if t then c else d) ≡ None
none_if true c d e none = cc
none_if false c d e none = none

none-opening : (file name random : List ℕ) (x : ℕ) → IsAccepted file → is_within 0x7FF00000 0x100000 x ≡ false →
    (1 ≤ x / page_bytes → x / page_bytes < 0x70000 → ⊥) →
    opening_memory file name random x ≡ None
none-opening file name random x accepted outside_stack outside =
    let image : image_memory file x ≡ None =
    none_if (list_any (touches (x / page_bytes)) (loads file)) _ None
    (untouched file (loads file) (x / page_bytes) accepted.good outside) refl in
    let bare : bare_memory file x ≡ None = none_if (is_within 0x7FF00000 0x100000 x) _ (image_memory file x) outside_stack image in
    none-stored random_at random (memory_with_name file name) x
    (none-stored (name_at name) (name ++ 0 ∷ []) (memory_with_words file name) x
    (none-stored (stack_pointer name) (flat_map (to_le_bytes w32) (stack_words file name)) (bare_memory file) x bare))

low-opening : (file name random : List ℕ) → IsAccepted file → (x : ℕ) → x < 0x1000 → opening_memory file name random x ≡ None
low-opening file name random accepted x low =
    let outside : is_within 0x7FF00000 0x100000 x ≡ false = grind (arith, nat_tests) in
    none-opening file name random x accepted outside (λ one below. omega arith)

high-opening : (file name random : List ℕ) → IsAccepted file → (x : ℕ) → 0x80000000 ≤ x → opening_memory file name random x ≡ None
high-opening file name random accepted x high =
    let outside : is_within 0x7FF00000 0x100000 x ≡ false = grind (arith, nat_tests) in
    none-opening file name random x accepted outside (λ one below. omega arith)

-- ---- bytes

fits_if : (t : Bool) (c : Cell) (d : Option Cell) → FitsCell (Some c) → FitsCell d → FitsCell (if t then Some c else d)
fits_if true c d h g = h
fits_if false c d h g = g

small_if : (t : Bool) (b c : ℕ) → b < 256 → c < 256 → (if t then b else c) < 256
small_if true b c h g = h
small_if false b c h g = g

small-loaded : (file : List ℕ) (hs : List Header) (x : ℕ) → AreBytes file → loaded_byte file hs x < 256
unfolding loaded_byte
small-loaded file [] x small = omega arith
small-loaded file (h ∷ hs) x small =
    small_if (is_within h.address h.file_len x) _ _ (small (h.offset + (x - h.address))) (small-loaded file hs x small)

reads_too : (r w : Bool) → IsTrue w → IsTrue (r || w)
reads_too true w h = refl
reads_too false w h = h

fits-image : (file : List ℕ) → AreBytes file → Fits (image_memory file)
fits-image file small x =
    let page = x / page_bytes in
    let hs = loads file in
    fits_if (list_any (touches page) hs) (record { byte = loaded_byte file hs x; permissions = page_permissions page hs }) None
    (small-loaded file hs x small, reads_too (page_has 4 page hs) (page_has 2 page hs)) tt

fits-bare : (file : List ℕ) → AreBytes file → Fits (bare_memory file)
fits-bare file small x =
    fits_if (is_within 0x7FF00000 0x100000 x) (record { byte = 0; permissions = record { read = true; write = true; execute = false } })
    (image_memory file x) (omega arith, λ w. w) (fits-image file small x)

-- ---- the bytes of lists

all-words : (words : List ℕ) → All (λ b. b < 256) (flat_map (to_le_bytes w32) words)
all-words [] = All-nil (λ b. b < 256)
all-words (w ∷ words) =
    All-append (λ b. b < 256) (to_le_bytes w32 w) (flat_map (to_le_bytes w32) words) (all-low_first 4 0 w) (all-words words)

all-name : (name : List ℕ) → IsName name → All (λ b. b < 256) (name ++ 0 ∷ [])
all-name name is_name =
    All-append (λ b. b < 256) name (0 ∷ []) (λ k d h. let at = is_name.2 k d h in omega (arith, at))
    (All-cons (λ b. b < 256) 0 [] (omega arith) (All-nil (λ b. b < 256)))

pub fits-opening : (file name random : List ℕ) → All (λ b. b < 256) file → IsName name → All (λ b. b < 256) random →
    Fits (opening_memory file name random)
fits-opening file name random small is_name random_small =
    fits-stored random_at random (memory_with_name file name) (are_bytes random random_small)
    (fits-stored (name_at name) (name ++ 0 ∷ []) (memory_with_words file name) (are_bytes (name ++ 0 ∷ []) (all-name name is_name))
    (fits-stored (stack_pointer name) (flat_map (to_le_bytes w32) (stack_words file name)) (bare_memory file)
    (are_bytes (flat_map (to_le_bytes w32) (stack_words file name)) (all-words (stack_words file name)))
    (fits-bare file (are_bytes file small))))

pub is_opening_memory : (file name random : List ℕ) → refusal file ≡ None → All (λ b. b < 256) file → IsName name →
    All (λ b. b < 256) random →
    IsMemory (opening_memory file name random)
is_opening_memory file name random none small is_name random_small =
    let accepted = is_accepted file none in
    record {
      pages = record {
        paged = paged-opening file name random;
        low = low-opening file name random accepted;
        high = high-opening file name random accepted;
        cells = fits-opening file name random small is_name random_small;
      };
      limit = opening_pages file name random accepted;
    }
