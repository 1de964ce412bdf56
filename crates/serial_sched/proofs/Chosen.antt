-- Laws of chosen frames.
use Rattle.std.proofs.Common.{◌≡◌, ◌∙◌, List, [], ◌∷◌, ◌++◌, refl, subst}
use Rattle.rrv_model.specs.declared.machine.Version.TheVariants.{One}
use Rattle.rrv_model.specs.declared.record.Frame.{Frame}
use Rattle.rrv_model.specs.State.{State, IsState}
use Rattle.rrv_model.proofs.FrameStays.{version_stays}
use Rattle.rrv_model.proofs.OldGuests.{no_expiry}
use Rattle.rrv_model.proofs.StateLaws.{frames_keep_states}
use Rattle.serial_sched.specs.Chosen.{Choosing, AreChosen, AreMade}

-- frames that are chosen from where others lead to are chosen behind them
pub chosen_on : {C : Type 0} (chooses : Choosing C) (frames more : List Frame) (a b c : State) (old mid new : C) →
    AreChosen chooses a old frames b mid → AreChosen chooses b mid more c new
    → AreChosen chooses a old (frames ++ more) c new
chosen_on {C = C} chooses [] more a b c old mid new h g =
    subst (λ (x : State × C). AreChosen chooses x.0 x.1 more c new) (λ i. (h.0 i, h.1 i)) g
chosen_on chooses (f ∷ frames) more a b c old mid new h g = (h.0, h.1, h.2, chosen_on chooses frames more h.0 b c h.1 mid new h.3 g)

-- a beginning of chosen frames is chosen
pub beginnings_are_chosen : {C : Type 0} (chooses : Choosing C) (frames more : List Frame) (a c : State) (old new : C) →
    AreChosen chooses a old (frames ++ more) c new
    → (b : State) × (mid : C) × AreChosen chooses a old frames b mid × AreChosen chooses b mid more c new
beginnings_are_chosen chooses [] more a c old new h = (a, old, (refl, refl), h)
beginnings_are_chosen chooses (f ∷ frames) more a c old new h =
    let r = beginnings_are_chosen chooses frames more h.0 c h.1 new h.3 in
    (r.0, r.1, (h.0, h.1, h.2, r.2), r.3)

-- ---- frames that are made, some of which end a wait

pub made_on : {C : Type 0} (chooses : Choosing C) (frames more : List Frame) (a b c : State) (old mid new : C) →
    AreMade chooses a old frames b mid → AreMade chooses b mid more c new
    → AreMade chooses a old (frames ++ more) c new
made_on {C = C} chooses [] more a b c old mid new h g =
    subst (λ (x : State × C). AreMade chooses x.0 x.1 more c new) (λ i. (h.0 i, h.1 i)) g
made_on chooses (f ∷ frames) more a b c old mid new h g = (h.0, h.1, h.2, made_on chooses frames more h.0 b c h.1 mid new h.3 g)

pub beginnings_are_made : {C : Type 0} (chooses : Choosing C) (frames more : List Frame) (a c : State) (old new : C) →
    AreMade chooses a old (frames ++ more) c new
    → (b : State) × (mid : C) × AreMade chooses a old frames b mid × AreMade chooses b mid more c new
beginnings_are_made chooses [] more a c old new h = (a, old, (refl, refl), h)
beginnings_are_made chooses (f ∷ frames) more a c old new h =
    let r = beginnings_are_made chooses frames more h.0 c h.1 new h.3 in
    (r.0, r.1, (h.0, h.1, h.2, r.2), r.3)

-- ---- a guest of version 1

pub made_is_chosen : {C : Type 0} (chooses : Choosing C) (s : State) (old : C) (frames : List Frame) (s' : State) (new : C) → IsState s →
    s.version ≡ One → AreMade chooses s old frames s' new → AreChosen chooses s old frames s' new
made_is_chosen chooses s old [] s' new is one h = h
made_is_chosen chooses s old (f ∷ frames) s' new is one h =
    let m = h.2 in (
      h.0,
      h.1,
      record {
        step = m.step;
        choice = m.choice;
        picks = m.picks;
        fits = m.fits (no_expiry f.end s f.tid f.count h.0 is one m.step.goes);
      },
      made_is_chosen chooses h.0 h.1 frames s' new (frames_keep_states s f h.0 is m.step) (version_stays s f h.0 m.step ∙ one) h.3,
    )
