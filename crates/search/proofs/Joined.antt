-- Borders that no stretch goes across, and the plans of groups joined there.
use Rattle.std.proofs.Common.{◌≡◌, ℕ, ◌+◌, ◌-◌, ◌≤◌, List, ◌++◌, length, drop, sym, ap, ◌∙◌, subst, inl, arith}
use Rattle.std.specs.List.{AllByRecursion}
use Rattle.std.proofs.ByRecursion.{All-weaker}
use Rattle.std.proofs.lemmas.List.{take-append-drop, drop-drop, drop_all}
use Rattle.nvalue.specs.Choices.{part}
use Rattle.rules.specs.Parts.{Border, part_of}
use Rattle.rules.specs.Plans.{Earliest}
use Rattle.rules.specs.Sheets.{Fits, Sheet}
use Rattle.rules.proofs.Parts.{earliest_join, earliest_none, part_all}

-- a sheet of so many lots, whose rules fit it
pub record Fitted (s : Sheet) (n : ℕ) : Type 0 where
  pub lots : length s.windows ≡ n
  pub fit : AllByRecursion (Fits n) s.rules

module _ (s : Sheet) (n : ℕ) (f : Fitted s n) where
  ends : AllByRecursion (λ r. r.stretch.first + r.stretch.length ≤ n) s.rules
  ends = All-weaker (Fits n) (λ r. r.stretch.first + r.stretch.length ≤ n) (λ r h. h.0.1) s.rules f.fit

  some : AllByRecursion (λ r. 1 ≤ r.stretch.length) s.rules
  some = All-weaker (Fits n) (λ r. 1 ≤ r.stretch.length) (λ r h. h.0.0) s.rules f.fit

  -- none goes across the border after the last lot
  pub border_end : Border n s.rules
  border_end = All-weaker (λ r. r.stretch.first + r.stretch.length ≤ n) _ (λ r h. inl h) s.rules ends

  -- no group yet
  pub earliest_end : (ds : List ℕ) → length ds ≡ n → Earliest (part_of n n s) (drop n ds)
  earliest_end ds e = subst (Earliest (part_of n n s)) (sym (drop_all n ds (omega arith))) (earliest_none s n some)

  -- all groups
  pub earliest_all : (ds : List ℕ) (p : ℕ) → p ≤ 0 → Earliest (part_of p n s) (drop p ds) → Earliest s ds
  earliest_all ds p z e =
      let zero : p ≡ 0 = omega arith in
      subst (λ t. Earliest t ds) (part_all s n f.lots ends) (subst (λ k. Earliest (part_of k n s) (drop k ds)) zero e)

-- the days from a border on: those of the group there, and those after it
days_join : (ds es : List ℕ) (q p : ℕ) → q ≤ p → drop p ds ≡ drop p es → part ds q (p - q) ++ drop p es ≡ drop q ds
days_join ds es q p l e =
    let s : q + (p - q) ≡ p = omega arith in
    ap (λ xs. part ds q (p - q) ++ xs) (sym e ∙ ap (λ k. drop k ds) (sym s) ∙ sym (drop-drop (p - q) q ds)) ∙ take-append-drop (p - q) (drop q ds)

-- one more group
pub earliest_more : (s : Sheet) (ds es : List ℕ) (q p n : ℕ) → q ≤ p → p ≤ n → n ≤ length s.windows → Border p s.rules → drop p ds ≡ drop p es
    → Earliest (part_of q p s) (part ds q (p - q)) → Earliest (part_of p n s) (drop p es) → Earliest (part_of q n s) (drop q ds)
earliest_more s ds es q p n l h t c e before after =
    subst (Earliest (part_of q n s)) (days_join ds es q p l e) (earliest_join s (part ds q (p - q)) (drop p es) q p n l h t c before after)
