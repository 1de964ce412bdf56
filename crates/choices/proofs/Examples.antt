-- What some texts say.
use Rattle.std.proofs.Common.{◌≡◌, [], ◌∷◌, ◌++◌, Some, None, refl}
use Rattle.std.specs.Prelude.{codes}
use Rattle.std.specs.List.{AllByRecursion}
use Rattle.choices.specs.ChoiceText.{line_says, text_says}

-- comments, blanks, zeros, a carriage return, and no newline behind the last line
several : text_says (codes "# two" ++ 10 ∷ codes " 1  0064 # x" ++ 10 ∷ 13 ∷ 10 ∷ codes "2147483647" ++ 9 ∷ codes "1048576" ++ 13 ∷ []) ≡
    Some (record { tid = 1; quantum = 64 } ∷ record { tid = 2147483647; quantum = 1048576 } ∷ [])
several = refl

nothing : text_says [] ≡ Some []
nothing = refl

-- lines that say nothing allowed: tids and quanta beyond the limits, a sign, one number, three, a carriage return within
refused : AllByRecursion (λ line. line_says line ≡ None) (codes "0 64" ∷ codes "2147483648 64" ∷ codes "1 63" ∷ codes "1 1048577" ∷
    codes "+1 64" ∷ codes "1" ∷ codes "1 64 2" ∷ (codes "1" ++ 13 ∷ codes " 64") ∷ [])
refused = (refl, (refl, (refl, (refl, (refl, (refl, (refl, (refl, tt))))))))

not_text : line_says (codes "1 64 # " ++ 255 ∷ []) ≡ Some (record { tid = 1; quantum = 64 } ∷ [])
not_text = refl
