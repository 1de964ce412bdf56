-- The lists of choices of a line.
use Rattle.std.proofs.Common.{◌≡◌, ◌≤◌, ℕ, zero, suc, List, [], ◌∷◌, length, Some, refl, ap, arith}
use Rattle.std.specs.Prelude.{slice_get, Vec, vec_items}
use Rattle.std.specs.declared.alloc.Global.{Global}
use Rattle.rrv_model.specs.declared.record.Choice.{Choice}
use Rattle.recording.specs.Jobs.{list_at, lists_of}

pub list_there : (lists : List (Vec Choice Global)) (place : ℕ) (own : Vec Choice Global) → slice_get lists place ≡ Some own →
    vec_items own ≡ list_at (lists_of lists) place
list_there [] place own is = cc
list_there (list ∷ lists) zero own is = let same : own ≡ list = cc in ap vec_items same
list_there (list ∷ lists) (suc place) own is = list_there lists place own is

pub no_list : (lists : List (Vec Choice Global)) (place : ℕ) → length lists ≤ place → [] ≡ list_at (lists_of lists) place
no_list [] place past = refl
no_list (list ∷ lists) zero past = absurd (omega (arith, past))
no_list (list ∷ lists) (suc place) past = no_list lists place (omega (arith, past))

pub as_many_lists : (lists : List (Vec Choice Global)) → length lists ≡ length (lists_of lists)
as_many_lists [] = refl
as_many_lists (list ∷ lists) = ap suc (as_many_lists lists)
