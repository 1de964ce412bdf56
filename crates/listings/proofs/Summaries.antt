-- The name of a guest, which is that of its first record.
use Rattle.std.proofs.Common.{◌≡◌, ◌==◌, ℕ, ◌+◌, ◌≤◌, Bool, true, false, cond, List, [], ◌∷◌, length, Some, refl, sym, ◌∙◌, ap, arith}
use Rattle.std.specs.List.{AllByRecursion}
use Rattle.std.specs.Prelude.{slice_get}
use Rattle.std.proofs.lemmas.List.{nil_from_length}
use Rattle.rrv_model.specs.declared.record.Item.{Item}
use Rattle.rrv_model.specs.declared.record.Item.TheVariants as items
use Rattle.rrv_model.specs.declared.record.Opening.{Opening}
use Rattle.rrv_model.specs.declared.record.Record.{Record}
use Rattle.rrv_model.specs.Recording.{IsNumbered, items_of}
use Rattle.rrv_model.specs.Recovered.{AreInOrder, IsOpening, OpensAtZero, of_guest}
use Rattle.listings.specs.Printed.{name_in}

pub no_name : (records : List Record) → length records ≡ 0 → [] ≡ name_in [] (items_of records)
no_name records none = sym (ap (λ (l : List Record). name_in [] (items_of l)) (nil_from_length records none))

-- an item that is no opening names nothing
passed_by : (name : List ℕ) (i : Item) (rest : List Item) → (IsOpening i → ⊥) → name_in name (i ∷ rest) ≡ name_in name rest
passed_by name (items.Opening o) rest other = absurd (other tt)
passed_by name (items.Frame f) rest other = refl
passed_by name (items.Part p) rest other = refl

-- past the first record there is none
none_after : (guest index : ℕ) (name : List ℕ) (records : List Record) → 1 ≤ index → IsNumbered guest index records →
    AllByRecursion OpensAtZero records → name_in name (items_of records) ≡ name
none_after guest index name [] some numbered opened = refl
none_after guest index name (r ∷ records) some numbered opened =
    passed_by name r.item (items_of records) (λ opening. omega (arith, some, sym numbered.1 ∙ opened.0.1 opening))
    ∙ none_after guest (index + 1) name records (omega arith) numbered.2 opened.1

first_of : (guest : ℕ) (i : Item) (records : List Record) → IsNumbered guest 1 records → AllByRecursion OpensAtZero records →
    name_in [] (i ∷ []) ≡ name_in [] (i ∷ items_of records)
first_of guest (items.Opening o) records numbered opened = sym (none_after guest 1 o.name records (omega arith) numbered opened)
first_of guest (items.Frame f) records numbered opened = sym (none_after guest 1 [] records (omega arith) numbered opened)
first_of guest (items.Part p) records numbered opened = sym (none_after guest 1 [] records (omega arith) numbered opened)

opened_by : (b : Bool) (r : Record) (qs : List Record) → OpensAtZero r → AllByRecursion OpensAtZero qs →
    AllByRecursion OpensAtZero (cond b (r ∷ qs) qs)
opened_by true r qs h k = (h, k)
opened_by false r qs h k = k

opened_of : (g : ℕ) (records : List Record) → AllByRecursion OpensAtZero records → AllByRecursion OpensAtZero (of_guest g records)
opened_of g [] h = tt
opened_of g (r ∷ records) h = opened_by (r.guest == g) r (of_guest g records) h.0 (opened_of g records h.1)

named : (guest : ℕ) (records : List Record) (r : Record) → IsNumbered guest 0 records → AllByRecursion OpensAtZero records →
    slice_get records 0 ≡ Some r → name_in [] (r.item ∷ []) ≡ name_in [] (items_of records)
named guest [] r numbered opened is = cc
named guest (q ∷ records) r numbered opened is =
    let same : q ≡ r = cc in
    ap (λ (x : Record). name_in [] (x.item ∷ [])) (sym same) ∙ first_of guest q.item records numbered.2 opened.1

-- a guest is named by its first record
pub first_names : (guest : ℕ) (records : List Record) (r : Record) → AreInOrder records → slice_get (of_guest guest records) 0 ≡ Some r →
    name_in [] (r.item ∷ []) ≡ name_in [] (items_of (of_guest guest records))
first_names guest records r order = named guest (of_guest guest records) r (order.numbered guest) (opened_of guest records order.opened)

-- a record that is no opening names nothing
pub nameless : (i : Item) → ((o : Opening) → i ≡ items.Opening o → ⊥) → [] ≡ name_in [] (i ∷ [])
nameless (items.Opening o) other = absurd (other o refl)
nameless (items.Frame f) other = refl
nameless (items.Part p) other = refl
