-- From the firm problem that propagation leaves to the store and the book that settle leaves.
use Rattle.std.proofs.Common.{◌≡◌, ◌≤◌, Bool, List, sym, ap₂, ◌∙◌, subst}
use Rattle.std.proofs.lemmas.List.Elements.{AllZip-get_or, length_all_zip}
use Rattle.std.proofs.ByRecursion.{All-get_or}
use Rattle.store.specs.declared.window.Window.{Window}
use Rattle.rules.specs.declared.row.Row.{Row}
use Rattle.rules.specs.Firm.{GreatestFirm, Stricter}
use Rattle.rules.specs.Sheets.{Sheet, row, sheet}
use Rattle.sheet.specs.declared.book.Book.{Book}
use Rattle.sheet.specs.Books.{NarrowsAll, TightensAll, looser, narrowed, rules_of, sheet_of}
use Rattle.plan.specs.Settles.{Settled}

-- the rules of a firm sheet inside another have tighter count windows
firm_tightens : (s t : Sheet) → GreatestFirm s t → TightensAll t.rules s.rules
firm_tightens s t g = (
  length_all_zip Stricter t.rules s.rules g.inside.counts,
  λ k h. (
    AllZip-get_or Stricter t.rules s.rules k (row 0 0 0 0) (row 0 0 0 0) g.inside.counts h,
    All-get_or (λ r. r.floor ≤ r.ceiling) t.rules k (row 0 0 0 0) h g.firm.counts,
  ),
)

-- so the book takes them all
pub settled_book : (ws is : List Window) (book now' : Book) (rows : List Row) (r : Bool) (s t : Sheet) → s ≡ sheet_of ws book → rows ≡ t.rules → is ≡ t.windows → GreatestFirm s t → NarrowsAll book rows r now' → Settled ws book is now'
settled_book ws is book now' rows r s t es er ei g (looser not _ _) =
    absurd (not (subst (λ q. TightensAll q (rules_of book)) (sym er) (firm_tightens (sheet_of ws book) t (subst (λ u. GreatestFirm u t) es g))))
settled_book ws is book now' rows r s t es er ei g (narrowed _ _ lots rules) =
    (lots, subst (GreatestFirm (sheet_of ws book)) (sym (ap₂ sheet ei (rules ∙ er))) (subst (λ u. GreatestFirm u t) es g))
