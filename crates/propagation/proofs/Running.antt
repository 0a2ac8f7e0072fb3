-- A rule made firm by a run of its propagator, from what the run read of the problem.
use Rattle.std.proofs.Common.{◌≡◌, ℕ, ◌+◌, ◌<◌, ◌≤◌, List, length, sym, ap, ◌∙◌, subst, arith}
use Rattle.store.specs.declared.window.Window.{Window}
use Rattle.nvalue.specs.Choices.{Choice, part}
use Rattle.nvalue.proofs.Stretches.{part_length}
use Rattle.nvalue.specs.declared.count_window.CountWindow.{CountWindow}
use Rattle.rules.specs.declared.row.Row.{Row}
use Rattle.rules.specs.Sheets.{Sheet, sheet, rule_at, under}
use Rattle.rules.specs.Firm.{NoFirm}
use Rattle.propagator.specs.Tight.{NoSuchChoice, Tightest}
use Rattle.propagation.specs.declared.problem.Problem.{Problem}
use Rattle.propagation.specs.Changes.{with_count, with_windows, written}
use Rattle.propagation.specs.Problems.{sheet_in}
use Rattle.propagation.specs.Runs.{MakesFirm}
use Rattle.propagation.proofs.Firming.{made_firm, no_firm}
use Rattle.propagation.proofs.Problems.{problem_lots, rule_fits}
use Rattle.propagation.proofs.Writing.{written_part, written_same}

-- the rows, the windows of the rule's stretch, and the ends of its count window
module _ (p : Problem) (k : ℕ) (there : k < length (sheet_in p).rules) (rows : List Row) (ss : List Window) (fl ce : ℕ) (read : rows ≡ (sheet_in p).rules)
    (season : ss ≡ under (rule_at rows k) (sheet_in p).windows) (floor : fl ≡ (rule_at (sheet_in p).rules k).floor) (ceiling : ce ≡ (rule_at (sheet_in p).rules k).ceiling) where
  abbrev r : Row
  r = rule_at (sheet_in p).rules k

  stretch_read : ss ≡ under r (sheet_in p).windows
  stretch_read = season ∙ ap (λ rs. under (rule_at rs k) (sheet_in p).windows) read

  within : r.stretch.first + r.stretch.length ≤ length (sheet_in p).windows
  within = omega (arith, (rule_fits p k there).0.1, problem_lots p)

  pub no_firm_read : NoSuchChoice ss fl ce → NoFirm (sheet_in p)
  no_firm_read none = no_firm (sheet_in p) k there (λ ds c n. none ds (subst (λ vs. Choice vs ds) (sym stretch_read) c) (omega (arith, n.0), omega (arith, n.1)))

  module _ (us : List Window) (count : CountWindow) (tight : Tightest ss fl ce us count.floor count.ceiling) where
    tight_read : Tightest (under r (sheet_in p).windows) r.floor r.ceiling us count.floor count.ceiling
    tight_read =
        subst (λ vs. Tightest vs r.floor r.ceiling us count.floor count.ceiling) stretch_read
        (subst (λ n. Tightest ss n r.ceiling us count.floor count.ceiling) floor (subst (λ n. Tightest ss fl n us count.floor count.ceiling) ceiling tight))

    -- windows and count window are written
    module _ (t : Sheet) (is : t ≡ with_windows (rule_at rows k).stretch.first us (with_count k count (sheet_in p))) where
      is_read : t ≡ with_windows r.stretch.first us (with_count k count (sheet_in p))
      is_read = is ∙ ap (λ rs. with_windows (rule_at rs k).stretch.first us (with_count k count (sheet_in p))) read

      pub firm_written : MakesFirm (sheet_in p) k t
      firm_written = made_firm (sheet_in p) k there us count.floor count.ceiling within tight_read t is_read

      -- where those of the stretch are others, windows move
      pub written_moves : (us ≡ ss → ⊥) → (sheet_in p).windows ≡ t.windows → ⊥
      written_moves other same =
          let long : length us ≡ r.stretch.length = tight_read.hull.each ∙ part_length (sheet_in p).windows r.stretch.first r.stretch.length within in
          let now : part t.windows r.stretch.first (length us) ≡ us =
          ap (λ s. part s.windows r.stretch.first (length us)) is_read ∙ written_part (sheet_in p).windows us r.stretch.first (omega (arith, within)) in
          other (sym now ∙ ap (λ vs. part vs r.stretch.first (length us)) (sym same) ∙ ap (part (sheet_in p).windows r.stretch.first) long ∙ sym stretch_read)

    -- or the windows are the tightest already
    pub firm_same : us ≡ ss → (t : Sheet) → t ≡ with_count k count (sheet_in p) → MakesFirm (sheet_in p) k t
    firm_same same t e =
        let stay = ap (λ vs. written r.stretch.first vs (sheet_in p).windows) (same ∙ stretch_read) ∙ written_same (sheet_in p).windows r.stretch.first r.stretch.length within in
        made_firm (sheet_in p) k there us count.floor count.ceiling within tight_read t (e ∙ ap (λ ws. sheet ws (with_count k count (sheet_in p)).rules) (sym stay))
