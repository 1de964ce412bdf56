-- The thread that comes first at a place.
use Rattle.std.proofs.Common.{◌≡◌, ℕ, zero, suc, ◌+◌, ◌<◌, List, [], ◌∷◌, ◌++◌, take, drop, Some, ap, refl, arith}
use Rattle.std.specs.Prelude.{slice_get}
use Rattle.rrv_model.specs.declared.record.Frame.{Frame}
use Rattle.rrv_model.specs.StateAt.{total}
use Rattle.asking.specs.Places.{RunsNext}

-- an element, with what stands before and after it
split_at : {X : Type 0} (xs : List X) (i : ℕ) (x : X) → slice_get xs i ≡ Some x → xs ≡ take i xs ++ x ∷ drop (suc i) xs
split_at [] i x e = cc
split_at (y ∷ xs) zero x e = let same : y ≡ x = cc in ap (λ q. q ∷ xs) same
split_at (y ∷ xs) (suc i) x e = ap (λ rest. y ∷ rest) (split_at xs i x e)

pub runs_next : (frames : List Frame) (i t left : ℕ) (f : Frame) → slice_get frames i ≡ Some f → left + total (take i frames) ≡ t →
    left < f.count
    → RunsNext frames t f.tid
runs_next frames i t left f is sum low = record {
  before = take i frames;
  frame = f;
  after = drop (suc i) frames;
  frames_are = split_at frames i f is;
  low = omega (arith, sum);
  high = omega (arith, sum, low);
  tid_is = refl;
}
