-- Changes that are printed one before the other.
use Rattle.std.proofs.Common.{◌≡◌, ◌∙◌, ℕ, ◌+◌, ◌≤◌, List, [], ◌∷◌, ◌++◌, Option, Some, None, length, refl, sym, ap, subst, arith}
use Rattle.std.specs.Io.KnownBytes.{Appends}
use Rattle.std.proofs.lemmas.List.{append-nil, append_assoc, length-append}
use Rattle.command_line.specs.declared.request.Watched.{Watched}
use Rattle.replayer.specs.Verified.{VerifiedValue}
use Rattle.rrv_model.specs.declared.record.Frame.{Frame}
use Rattle.rrv_model.specs.declared.record.Opening.{Opening}
use Rattle.changes.specs.declared.shown.Shown.{Shown}
use Rattle.changes.specs.Changes.{IsLastOf, LeadsBack}
use Rattle.changes.specs.Printed.{AreTexts, IsShownText, PrintsEach}
use Rattle.end_text.proofs.Printed.{appends_none, appends_on}

leads_on : (o : Opening) (frames : List Frame) (w : Watched) (from : ℕ) (found : List ℕ) (to t : ℕ) → LeadsBack o frames w from found to →
    IsLastOf o frames w to (Some t) → LeadsBack o frames w from (found ++ t ∷ []) t
leads_on o frames w from [] to t leads last = (subst (λ (n : ℕ). IsLastOf o frames w n (Some t)) leads last, refl)
leads_on o frames w from (u ∷ found) to t leads last = (leads.0, leads_on o frames w u found to t leads.1 last)

texts_with : (o : Opening) (frames : List Frame) (shown : Shown) (found : List ℕ) (text : List ℕ) (t : ℕ) (one : List ℕ) →
    AreTexts o frames shown found text → IsShownText o frames shown t one → AreTexts o frames shown (found ++ t ∷ []) (text ++ one)
texts_with o frames shown [] text t one texts own = (one, [], own, refl, ap (λ (l : List ℕ). l ++ one) texts ∙ sym (append-nil one))
texts_with o frames shown (u ∷ found) text t one texts own = (
  texts.0,
  texts.1 ++ one,
  texts.2,
  texts_with o frames shown found texts.1 t one texts.3 own,
  ap (λ (l : List ℕ). l ++ one) texts.4 ∙ append_assoc texts.0 texts.1 one,
)

-- so many were printed, from a place back to another
pub record SoFar (v : VerifiedValue) (shown : Shown) (from to count : ℕ) (before after : Option (List ℕ)) : Type 0 where
  pub found : List ℕ
  pub leads : LeadsBack v.opening v.frames shown.watched from found to
  pub count_is : length found ≡ count
  pub text : List ℕ
  pub texts : AreTexts v.opening v.frames shown found text
  pub printed : Appends before after text

pub none_so_far : (v : VerifiedValue) (shown : Shown) (from : ℕ) (before : Option (List ℕ)) → SoFar v shown from from 0 before before
none_so_far v shown from before = record {
  found = [];
  leads = refl;
  count_is = refl;
  text = [];
  texts = refl;
  printed = appends_none before;
}

-- and one more
pub one_more : (v : VerifiedValue) (shown : Shown) (from to count t : ℕ) (before now after : Option (List ℕ)) (text : List ℕ) →
    SoFar v shown from to count before now → IsLastOf v.opening v.frames shown.watched to (Some t) →
    IsShownText v.opening v.frames shown t text → Appends now after text → SoFar v shown from t (count + 1) before after
one_more v shown from to count t before now after text so_far last own printed = record {
  found = so_far.found ++ t ∷ [];
  leads = leads_on v.opening v.frames shown.watched from so_far.found to t so_far.leads last;
  count_is = length-append so_far.found (t ∷ []) ∙ ap (λ (n : ℕ). n + 1) so_far.count_is;
  text = so_far.text ++ text;
  texts = texts_with v.opening v.frames shown so_far.found so_far.text t text so_far.texts own;
  printed = appends_on before now after so_far.text text (so_far.text ++ text) so_far.printed printed refl;
}

-- there are no more
pub no_more : (v : VerifiedValue) (shown : Shown) (from to times count : ℕ) (before after : Option (List ℕ)) → count ≤ times →
    SoFar v shown from to count before after → IsLastOf v.opening v.frames shown.watched to None →
    PrintsEach v shown times from before after count
no_more v shown from to times count before after low so_far none = record {
  found = so_far.found;
  are = record {
    to = to;
    leads = so_far.leads;
    most = omega (arith, low, so_far.count_is);
    all = λ few. none;
  };
  count_is = so_far.count_is;
  text = so_far.text;
  texts = so_far.texts;
  printed = so_far.printed;
}

-- there are as many as are asked for
pub enough : (v : VerifiedValue) (shown : Shown) (from to times : ℕ) (before after : Option (List ℕ)) →
    SoFar v shown from to times before after → PrintsEach v shown times from before after times
enough v shown from to times before after so_far = record {
  found = so_far.found;
  are = record {
    to = to;
    leads = so_far.leads;
    most = omega (arith, so_far.count_is);
    all = λ few. let no : ⊥ = omega (arith, few, so_far.count_is) in absurd no;
  };
  count_is = so_far.count_is;
  text = so_far.text;
  texts = so_far.texts;
  printed = so_far.printed;
}
