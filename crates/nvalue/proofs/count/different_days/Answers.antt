-- A day counts where it is not among the days after it.
use Rattle.std.proofs.Common.{◌≡◌, ℕ, Bool, true, false, eqb, List, subst, sym, arith}
use Rattle.std.specs.List.{IsAnyAnswer}
use Rattle.std.proofs.lemmas.List.Elements.{contains_decides}
use Rattle.std.proofs.lemmas.Bool.Decides.{Decides-like, Decides-eqb}
use Rattle.nvalue.specs.Nvalue.{has, nvalue, CountOf}
use Rattle.nvalue.proofs.Nvalue.{has_le_one, has_from, has_to, nvalue_counts_lem, nvalue_le_length}
use Rattle.nvalue.proofs.count.different_days.Goals as goal

counts : (x : ℕ) (later : List ℕ) (r : Bool) → IsAnyAnswer (λ y t. eqb y x ≡ t) later r → (r ≡ false → has x later ≡ 0) × (r ≡ true → has x later ≡ 1)
counts x later r s =
    let d = Decides-like r (has_from x later) (has_to x later) (contains_decides eqb Decides-eqb later x r s) in
    (λ f. grind (arith, has_le_one), λ t. grind arith)

pub loop-day-preserved-then-not-contains : goal.loop-day-preserved-then-not-contains
loop-day-preserved-then-not-contains c =
    let one = (counts _ _ _ c.contains.ensures.cases).0 c.if-not-contains.true in
    let whole = c.loop-day.invariant in
    let e = rw (c.in-Some.ensures.cases.0, one) at whole.0 in
    (sym (omega (arith, e)), omega (arith, whole.1, c.in-Some.ensures.cases.1))

pub loop-day-preserved : goal.loop-day-preserved
loop-day-preserved c =
    let one = (counts _ _ _ c.contains.ensures.cases).1 c.if-not-contains.false in
    let whole = c.loop-day.invariant in
    let e = rw (c.in-Some.ensures.cases.0, one) at whole.0 in
    (sym (omega (arith, e)), omega (arith, whole.1, c.in-Some.ensures.cases.1))

pub returns-clause-counts : goal.returns-clause-counts
returns-clause-counts c =
    let e : c.loop-day.count ≡ nvalue c.args.days.now = omega (arith, c.loop-day.invariant.0, nvalue_le_length c.loop-day.rest.now, c.in_default.ensures.cases) in
    subst (CountOf c.args.days.now) (sym e) (nvalue_counts_lem c.args.days.now)
