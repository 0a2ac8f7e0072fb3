use Rattle.std.proofs.Common.{◌≡◌, ◌-◌, length, sym, ap, ◌∙◌, subst, arith}
use Rattle.std.proofs.lemmas.List.{length-map}
use Rattle.std.proofs.lemmas.List.Edits.{length-between}
use Rattle.std.proofs.lemmas.Slice.{drop-put_mid}
use Rattle.nvalue.proofs.Choices.{choice_length}
use Rattle.rules.specs.Firm.{Firm}
use Rattle.rules.proofs.Firm.{firm_part}
use Rattle.propagation.specs.Problems.{sheet_in}
use Rattle.search.proofs.groups.plan_part.Goals as goal

pub solve_firm-requires : goal.solve_firm-requires
solve_firm-requires c =
    record { firm = subst Firm (sym c.fill.ensures) (firm_part (sheet_in c.args.problem.now) c.args.start c.args.end c.requires.firm) }

pub write_lows-requires : goal.write_lows-requires
write_lows-requires c =
    let a = c.args.start in
    let b = c.args.end in
    let left = (sheet_in c.solve_firm.new.problem).windows in
    let many : length (sheet_in c.fill.new.self).windows ≡ b - a =
    ap (λ s. length s.windows) c.fill.ensures ∙ length-between (sheet_in c.args.problem.now).windows a b c.requires.there in
    omega (
      arith,
      length-between c.args.days.now a b (omega (arith, c.requires.there, c.requires.each)),
      ap length c.windows.ensures,
      length-map left (λ w. w.low),
      choice_length _ _ c.in_ok-solve_firm.ensures.plan.choice,
      many,
    )

pub returns-clause-rest : goal.returns-clause-rest
returns-clause-rest c =
    let a = c.args.start in
    let b = c.args.end in
    let ds = c.args.days.now in
    let there = length-between ds a b (omega (arith, c.requires.there, c.requires.each)) in
    drop-put_mid a (b - a) ds c.write_lows.new.days b (omega (arith, c.requires.ordered)) (omega (arith, c.requires.ordered, c.requires.there, c.requires.each)) (c.write_lows.auto.days ∙ there)
