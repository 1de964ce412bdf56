-- Lines within a page: read as chunks, and replaced.
use Rattle.std.proofs.Common.{◌≡◌, ℕ, zero, suc, ◌+◌, ◌-◌, ◌*◌, ◌/◌, ◌<◌, ◌≤◌, List, [], length, drop, take, get_or, sym, ap, ◌∙◌, arith}
use Rattle.std.proofs.lemmas.List.{drop-drop, get_or-drop, get_or-take}
use Rattle.std.proofs.lemmas.Simd.{get_or-chunk, length-chunk, put_chunk_whole}
use Rattle.std.proofs.lemmas.Slice.{between-put_mid, drop-put_mid, take-put_mid_below}
use Rattle.std.specs.Simd.{first_chunks}
use borrow.Rule.Slice.PartMut.{mid_of, put_mid}
use lib.Lanes.{chunk, put_chunk}

-- chunk i of a list
chunk_is : (n count i : ℕ) (xs : List ℕ) → i < count → get_or (first_chunks n count xs) i [] ≡ chunk (n * i) n xs
chunk_is n zero i xs low = absurd (omega arith)
chunk_is n (suc count) zero xs low = let none : 0 ≡ n * 0 = omega arith in ap (λ k. take n (drop k xs)) none
chunk_is n (suc count) (suc i) xs low =
    let more : n + n * i ≡ n * suc i = omega arith in
    chunk_is n count i (drop n xs) (omega (arith, low)) ∙ ap (take n) (drop-drop (n * i) n xs) ∙ ap (λ k. take n (drop k xs)) more

pub line_is : (page : List ℕ) (chunks : List (List ℕ)) (i k : ℕ) → length page ≡ 4096 → chunks ≡ first_chunks 64 (length page / 64) page →
    i < 64 → k < 64 →
    get_or (get_or chunks i []) k 0 ≡ get_or page (64 * i + k) 0
line_is page chunks i k long is low below =
    ap (λ (cs : List (List ℕ)). get_or (get_or cs i []) k 0) is
    ∙ ap (λ l. get_or l k 0) (chunk_is 64 (length page / 64) i page (omega (arith, long, low)))
    ∙ get_or-chunk (64 * i) 64 page k 0 below

-- ---- 64 bytes put in place of those from a place on

abbrev pub with_line : ℕ → ℕ → List ℕ → List ℕ → List ℕ
with_line at k page bytes = put_mid at k page (put_chunk 0 (mid_of at k page) bytes)

put_whole : (at k : ℕ) (page bytes : List ℕ) → at + k ≤ length page → length bytes ≡ k → put_chunk 0 (mid_of at k page) bytes ≡ bytes
put_whole at k page bytes fits long = put_chunk_whole (mid_of at k page) bytes (length-chunk at k page fits ∙ sym long)

pub line_before : (at k i : ℕ) (page bytes : List ℕ) → at + k ≤ length page → length bytes ≡ k → i < at →
    get_or (with_line at k page bytes) i 0 ≡ get_or page i 0
line_before at k i page bytes fits long low =
    let all = with_line at k page bytes in
    sym (get_or-take at all i 0 low)
    ∙ ap (λ l. get_or l i 0)
    (take-put_mid_below at k page (put_chunk 0 (mid_of at k page) bytes) at (omega arith) (omega (arith, fits)))
    ∙ get_or-take at page i 0 low

pub line_within : (at k i : ℕ) (page bytes : List ℕ) → at + k ≤ length page → length bytes ≡ k → i < k →
    get_or (with_line at k page bytes) (at + i) 0 ≡ get_or bytes i 0
line_within at k i page bytes fits long low =
    let all = with_line at k page bytes in
    let put = put_chunk 0 (mid_of at k page) bytes in
    let same = put_whole at k page bytes fits long in
    let low_here : i < (at + k) - at = omega (arith, low) in
    let as_long : length put ≡ (at + k) - at = omega (arith, ap (λ (l : List ℕ). length l) same, long) in
    sym (get_or-drop at all i 0) ∙ sym (get_or-take ((at + k) - at) (drop at all) i 0 low_here)
    ∙ ap (λ l. get_or l i 0) (between-put_mid at k page put (at + k) (omega (arith, fits)) as_long)
    ∙ ap (λ l. get_or l i 0) same

pub line_after : (at k i : ℕ) (page bytes : List ℕ) → at + k ≤ length page → length bytes ≡ k → at + k ≤ i →
    get_or (with_line at k page bytes) i 0 ≡ get_or page i 0
line_after at k i page bytes fits long high =
    let all = with_line at k page bytes in
    let put = put_chunk 0 (mid_of at k page) bytes in
    let as_long : length put ≡ k = ap (λ (l : List ℕ). length l) (put_whole at k page bytes fits long) ∙ long in
    let place : (at + k) + (i - (at + k)) ≡ i = omega (arith, high) in
    ap (λ n. get_or all n 0) (sym place) ∙ sym (get_or-drop (at + k) all (i - (at + k)) 0)
    ∙ ap (λ l. get_or l (i - (at + k)) 0) (drop-put_mid at k page put (at + k) (omega arith) (omega (arith, fits)) as_long)
    ∙ get_or-drop (at + k) page (i - (at + k)) 0 ∙ ap (λ n. get_or page n 0) place
