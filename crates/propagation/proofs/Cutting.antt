-- The rules of a part of a sheet, rule by rule.
use Rattle.std.proofs.Common.{◌≡◌, ℕ, ◌-◌, ◌≤◌, true, List, [], ◌∷◌, map, filter, length, arith}
use Rattle.std.specs.List.{AllByRecursion}
use Rattle.std.proofs.lemmas.Bool.{cond_both}
use Rattle.std.proofs.lemmas.Bool.Decides.{nat_tests}
use Rattle.rules.specs.declared.row.Row.{Row}
use Rattle.rules.specs.Sheets.{Fits}
use Rattle.rules.specs.Parts.{lies, renumbered, within}

module _ (a b : ℕ) where
  -- at most as many rules
  pub within_length : (rules : List Row) → length (within a b rules) ≤ length rules
  within_length [] = omega arith
  within_length (r ∷ rules) = grind (arith, nat_tests, within_length rules)

  -- and they fit the part
  pub within_fit : (lots : ℕ) (rules : List Row) → AllByRecursion (Fits lots) rules → AllByRecursion (Fits (b - a)) (within a b rules)
  within_fit lots [] f = tt
  within_fit lots (r ∷ rules) (f, fs) =
      let here : lies a b r ≡ true → Fits (b - a) (renumbered a r) = λ e. ((f.0.0, grind (arith, nat_tests)), f.1) in
      cond_both (lies a b r) (r ∷ filter (lies a b) rules) (filter (lies a b) rules) (λ rs. AllByRecursion (Fits (b - a)) (map (renumbered a) rs))
      (λ e. (here e, within_fit lots rules fs)) (λ e. within_fit lots rules fs)
