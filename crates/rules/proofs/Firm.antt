-- A rule is firm by the windows under it alone, so parts of a firm sheet are firm.
use Rattle.std.proofs.Common.{◌≡◌, ℕ, ◌-◌, ◌<◌, ◌≤◌, true, List, [], ◌∷◌, map, drop, filter, length, refl, sym, subst, arith}
use Rattle.std.specs.List.{AllByRecursion}
use Rattle.std.proofs.ByRecursion.{All-drop, All-take}
use Rattle.std.proofs.lemmas.Bool.{cond_both}
use Rattle.std.proofs.lemmas.Bool.Decides.{nat_tests}
use Rattle.store.specs.declared.window.Window.{Window}
use Rattle.store.specs.Windows.{window_at}
use Rattle.nvalue.specs.Choices.{part}
use Rattle.nvalue.proofs.Stretches.{part_part}
use Rattle.rules.specs.declared.row.Row.{Row}
use Rattle.rules.specs.Firm.{Counted, Firm, FirmRule, Supported}
use Rattle.rules.specs.Parts.{lies, part_of, renumbered, within}
use Rattle.rules.specs.Sheets.{Sheet, under}

-- two rules with the same counts, and with the same windows under them
firm_rule_alike : (ws vs : List Window) (r q : Row) → under r ws ≡ under q vs → r.floor ≡ q.floor → r.ceiling ≡ q.ceiling → FirmRule ws r → FirmRule vs q
firm_rule_alike ws vs r q e f c firm =
    let T : List Window → ℕ → ℕ → (Window → ℕ) → Type 0 = λ us floor ceiling end. (i : ℕ) → i < length us → Supported us floor ceiling i (end (window_at us i)) in
    record {
      low = subst (λ k. T (under q vs) q.floor k (λ w. w.low)) c (subst (λ k. T (under q vs) k r.ceiling (λ w. w.low)) f (subst (λ us. T us r.floor r.ceiling (λ w. w.low)) e firm.low));
      high = subst (λ k. T (under q vs) q.floor k (λ w. w.high)) c (subst (λ k. T (under q vs) k r.ceiling (λ w. w.high)) f (subst (λ us. T us r.floor r.ceiling (λ w. w.high)) e firm.high));
      floor = subst (Counted (under q vs)) f (subst (λ us. Counted us r.floor) e firm.floor);
      ceiling = subst (Counted (under q vs)) c (subst (λ us. Counted us r.ceiling) e firm.ceiling);
    }

pub firm_rule_under : (ws vs : List Window) (r : Row) → under r ws ≡ under r vs → FirmRule ws r → FirmRule vs r
firm_rule_under ws vs r e = firm_rule_alike ws vs r r e refl refl

module _ (ws : List Window) (a b : ℕ) where
  -- a rule of the part has the same windows under it
  each_part : (rules : List Row) → AllByRecursion (FirmRule ws) rules → AllByRecursion (FirmRule (part ws a (b - a))) (within a b rules)
  each_part [] f = tt
  each_part (r ∷ rules) (f, fs) =
      let here : lies a b r ≡ true → FirmRule (part ws a (b - a)) (renumbered a r) =
      λ e. firm_rule_alike ws (part ws a (b - a)) r (renumbered a r) (sym (part_part ws a b r.stretch.first r.stretch.length (grind (arith, nat_tests)) (grind (arith, nat_tests)))) refl refl f in
      cond_both (lies a b r) (r ∷ filter (lies a b) rules) (filter (lies a b) rules) (λ rs. AllByRecursion (FirmRule (part ws a (b - a))) (map (renumbered a) rs))
      (λ e. (here e, each_part rules fs)) (λ e. each_part rules fs)

  counts_part : (rules : List Row) → AllByRecursion (λ r. r.floor ≤ r.ceiling) rules → AllByRecursion (λ r. r.floor ≤ r.ceiling) (within a b rules)
  counts_part [] c = tt
  counts_part (r ∷ rules) (c, cs) =
      cond_both (lies a b r) (r ∷ filter (lies a b) rules) (filter (lies a b) rules) (λ rs. AllByRecursion (λ q. q.floor ≤ q.ceiling) (map (renumbered a) rs))
      (λ e. (c, counts_part rules cs)) (λ e. counts_part rules cs)

-- a part of a firm sheet is firm
pub firm_part : (s : Sheet) (a b : ℕ) → Firm s → Firm (part_of a b s)
firm_part s a b f = record {
  days = All-take (λ w. w.low ≤ w.high) (b - a) (drop a s.windows) (All-drop (λ w. w.low ≤ w.high) a s.windows f.days);
  counts = counts_part s.windows a b s.rules f.counts;
  each = each_part s.windows a b s.rules f.each;
}
