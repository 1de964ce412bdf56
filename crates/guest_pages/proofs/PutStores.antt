-- A store within a page, and why it is refused.
use Rattle.std.proofs.Common.{◌≡◌, ◌∙◌, ℕ, ◌+◌, ◌/◌, ◌%◌, ◌<◌, ◌≤◌, true, List, length, Option, Some, None, is_some, Result, Ok, Err, IsErrAnd, refl, ap, sym, subst, arith}
use Rattle.std.proofs.lemmas.Result.{err_from_is_err_and}
use Rattle.rrv_model.specs.Memory.{can_write, writable, stored}
use Rattle.page_tables.specs.Contents.{PageValue, contents_of}
use Rattle.page_tables.specs.Changes.{IsPutRefusal, Puts, allows_write}
use Rattle.page_tables.specs.declared.page_tables.PutFault.{PutFault}
use Rattle.page_tables.specs.declared.page_tables.PutFault.TheVariants as errors
use Rattle.guest_pages.specs.declared.fault.PageFault.{PageFault}
use Rattle.guest_pages.specs.Live.{added_across, live_of, StoresBytes}
use Rattle.guest_pages.specs.Space.{PageMap, SpaceValue, AreEachPage, page_passes, memory_in, memory_of, IsStoreRefusal, fault_for}
use Rattle.guest_pages.proofs.Cells.{is_in_page, writes_in_page}
use Rattle.guest_pages.proofs.Live.{put_adds}
use Rattle.guest_pages.proofs.Stays.{stays, snapshots_stay}
use Rattle.guest_pages.proofs.Stores.{stored_memory}

writes : (p : Option PageValue) → page_passes can_write p ≡ allows_write p
writes None = refl
writes (Some p) = refl

-- a write into the page of some bytes is refused as a store of them is
pub put_refused : (pages : PageMap) (a count : ℕ) (error : PutFault) → 0 < count → a % 4096 + count ≤ 4096 →
    IsPutRefusal (pages (a / 4096)) error →
    IsStoreRefusal (memory_in pages) a count (fault_for error)
put_refused pages a count errors.NotMapped some fits h =
    (is_in_page pages a count some fits ∙ ap is_some h, writes_in_page pages a count some fits ∙ ap (page_passes can_write) h)
put_refused pages a count errors.NotAllowed some fits h =
    (is_in_page pages a count some fits ∙ h.0, writes_in_page pages a count some fits ∙ writes (pages (a / 4096)) ∙ h.1)
put_refused pages a count errors.Memory some fits h = writes_in_page pages a count some fits ∙ writes (pages (a / 4096)) ∙ h

module _ {s t v : SpaceValue} {a : ℕ} {bs : List ℕ} (view : s ≡ v) (some : 0 < length bs) (fits : a % 4096 + length bs ≤ 4096) where
  -- a write into the page is a store
  pub put_stores : AreEachPage (contents_of s).pages → {T : Type 0} (x : T) → Puts (Ok x) (a / 4096) (a % 4096) bs s t →
      StoresBytes (Ok x) a bs v t
  put_stores each x p = record {
    allowed = subst (λ (u : SpaceValue). writable (memory_of u) a (length bs) ≡ true) view
        (writes_in_page (contents_of s).pages a (length bs) some fits ∙ writes ((contents_of s).pages (a / 4096)) ∙ p.allowed);
    stored = record {
      ok = stored_memory s t (a / 4096) (a % 4096) a bs each p.written (omega arith) fits
          ∙ ap (λ (u : SpaceValue). stored a bs (memory_of u)) view;
      err = tt;
      snapshots = snapshots_stay s t v p.written.rest.kept view;
    };
    refused = tt;
    live = subst (λ (u : SpaceValue). live_of t ≡ live_of u + added_across u a (length bs)) view
        (put_adds s t a (length bs) bs p.written some fits);
  }

  -- and where it is refused, so is the store
  pub put_stays : {T X : Type 0} (result : Result X PageFault) (fault : PutFault) → Puts {T = T} (Err fault) (a / 4096) (a % 4096) bs s t →
      IsErrAnd result (λ e. e ≡ fault_for fault) → StoresBytes result a bs v t
  put_stays {X = X} result fault p told =
      let e = err_from_is_err_and result told in
      subst (λ (r : Result X PageFault). StoresBytes r a bs v t) (sym (e.1 ∙ ap Err e.2)) refused where
        refused : StoresBytes {T = X} (Err (fault_for fault)) a bs v t
        refused = record {
          allowed = tt;
          stored = stays (fault_for fault) (stored a bs (memory_of v)) v t (p.err ∙ view);
          refused = subst (λ (u : SpaceValue). IsStoreRefusal (memory_of u) a (length bs) (fault_for fault)) view
              (put_refused (contents_of s).pages a (length bs) fault some fits p.refused);
          live = tt;
        }
