-- Names, one for each guest.
use Rattle.std.proofs.Common.{◌≡◌, ◌<◌, ◌≤◌, ℕ, zero, suc, List, [], ◌∷◌, ap, arith, get_or, length, map, refl}
use Rattle.std.specs.Borrow.{Bor}
use Rattle.clap.specs.Words.{Text}
use Rattle.recording.specs.Names.{text_at}

-- the text at a place where there is one
pub text_there : (texts : List (Bor Text)) (place : ℕ) (text : Bor Text) → place < length texts → text ≡ get_or texts place text
    → text.now ≡ text_at (map (λ s. s.now) texts) place
text_there [] place text within is = absurd (omega (arith, within))
text_there (t ∷ texts) zero text within is = ap (λ (s : Bor Text). s.now) is
text_there (t ∷ texts) (suc place) text within is = text_there texts place text (omega (arith, within)) is

-- and where there is none
pub no_text : (texts : List (Bor Text)) (place : ℕ) → length texts ≤ place → [] ≡ text_at (map (λ s. s.now) texts) place
no_text [] place behind = refl
no_text (t ∷ texts) zero behind = absurd (omega (arith, behind))
no_text (t ∷ texts) (suc place) behind = no_text texts place (omega (arith, behind))
