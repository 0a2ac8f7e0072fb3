use Rattle.std.proofs.Common.{◌≡◌, sym, ap, ◌∙◌, rules}
use Rattle.rules.specs.Sheets.{rule_at, under}
use Rattle.propagation.specs.Changes.{with_windows}
use Rattle.propagation.specs.Problems.{sheet_in}
use Rattle.propagation.proofs.Running.{firm_same, firm_written, no_firm_read, written_moves}
use Rattle.propagation.proofs.one_rule.run_propagator.Goals as goal

pub returns-in_default-clause-runs : goal.returns-in_default-clause-runs
returns-in_default-clause-runs c =
    no_firm_read c.args.problem.now c.args.number c.requires.there _ _ _ _ c.rows.ensures c.season.ensures c.count-count.ensures.floor c.count-count.ensures.ceiling c.in_default.ensures

pub returns-then-not-same-clause-runs : goal.returns-then-not-same-clause-runs
returns-then-not-same-clause-runs c =
    let is = c.write.ensures.sheet ∙ ap (with_windows (rule_at c.rows.result.now c.args.number).stretch.first c.in-Some.tight.season.windows.now) c.recount.ensures.sheet in
    let again = c.season-2.ensures ∙ ap (λ t. under (rule_at c.rows.result.now c.args.number) t.windows) c.recount.ensures.sheet ∙ sym c.season.ensures in
    let other : c.in-Some.tight.season.windows.now ≡ c.season.result.windows.now → ⊥ = λ e. let same = c.same.ensures.1 (e ∙ sym again) in let no = c.if-not-same.true in cc in
    record {
      firm =
          firm_written c.args.problem.now c.args.number c.requires.there _ _ _ _ c.rows.ensures c.season.ensures c.count-count.ensures.floor c.count-count.ensures.ceiling
          c.in-Some.tight.season.windows.now c.in-Some.tight.count c.in-Some.ensures (sheet_in c.write.new.self) is;
      still = λ e.
          absurd (written_moves c.args.problem.now c.args.number c.requires.there _ _ _ _ c.rows.ensures c.season.ensures c.count-count.ensures.floor c.count-count.ensures.ceiling
          c.in-Some.tight.season.windows.now c.in-Some.tight.count c.in-Some.ensures (sheet_in c.write.new.self) is other e);
      wakes = search rules;
    }

pub returns-else-not-same-clause-runs : goal.returns-else-not-same-clause-runs
returns-else-not-same-clause-runs c =
    let s = c.recount.ensures.sheet in
    let same = c.same.ensures.0 c.if-not-same.false ∙ c.season-2.ensures ∙ ap (λ t. under (rule_at c.rows.result.now c.args.number) t.windows) s ∙ sym c.season.ensures in
    record {
      firm =
          firm_same c.args.problem.now c.args.number c.requires.there _ _ _ _ c.rows.ensures c.season.ensures c.count-count.ensures.floor c.count-count.ensures.ceiling
          c.in-Some.tight.season.windows.now c.in-Some.tight.count c.in-Some.ensures same (sheet_in c.recount.new.self) s;
      still = search rules;
      wakes = search rules;
    }
