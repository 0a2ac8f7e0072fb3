-- The windows and the rules of a problem, as its ghost fields know them.
use Rattle.std.proofs.Common.{◌≡◌, ℕ, ◌<◌, ◌≤◌, length, take, set, arith}
use Rattle.std.specs.List.{AllByRecursion}
use Rattle.std.proofs.ByRecursion.{All-get_or, All-weaker}
use Rattle.std.proofs.lemmas.List.{get_or-take, length-take-le}
use Rattle.std.proofs.Math.Seq.{take-set-lt}
use Rattle.rules.specs.Sheets.{Fits, row, rule_at}
use Rattle.propagation.specs.declared.problem.Problem.{Problem}
use Rattle.propagation.specs.Problems.{sheet_in}
use Rattle.rules.specs.Sheets.{recounted}

-- a window for each lot
pub problem_lots : (p : Problem) → length (sheet_in p).windows ≡ p.lots
problem_lots p = length-take-le p.lots p.windows (omega (arith, p.few, p.room))

pub problem_rules : (p : Problem) → length (sheet_in p).rules ≡ p.rules
problem_rules p = length-take-le p.rules p.rows (omega (arith, p.few_rules, p.rows_room))

-- every rule fits the lots
pub rule_fits : (p : Problem) (k : ℕ) → k < length (sheet_in p).rules → Fits p.lots (rule_at (sheet_in p).rules k)
rule_fits p k h = All-get_or (Fits p.lots) (sheet_in p).rules k (row 0 0 0 0) h p.fit

pub rules_ordered : (p : Problem) → AllByRecursion (λ r. r.floor ≤ r.ceiling) (sheet_in p).rules
rules_ordered p = All-weaker (Fits p.lots) (λ r. r.floor ≤ r.ceiling) (λ r f. f.1.0) (sheet_in p).rules p.fit

-- a row with another count window is that rule with it
pub rows_recounted : (p : Problem) (k f c floor ceiling : ℕ) → k < length (sheet_in p).rules → f ≡ floor → c ≡ ceiling
    → take p.rules (set p.rows k (recounted (rule_at p.rows k) f c)) ≡ set (sheet_in p).rules k (recounted (rule_at (sheet_in p).rules k) floor ceiling)
rows_recounted p k f c floor ceiling h ef ec =
    let there : k < p.rules = omega (arith, problem_rules p) in
    let same = get_or-take p.rules p.rows k (row 0 0 0 0) there in
    let e = take-set-lt p.rules p.rows k (recounted (rule_at p.rows k) f c) there in
    cc
