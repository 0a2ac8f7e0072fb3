-- One day more.
use Rattle.std.proofs.Common.{◌≡◌, ◌+◌, ◌-◌, ◌<◌, length, sym, subst, ◌∙◌, arith, rules}
use Rattle.propagator.specs.Matching.{Spread}
use Rattle.propagator.proofs.Spreading.{part_at, spread_free, spread_held, spread_none}
use Rattle.propagator.proofs.spare.spread_from.Goals as goal
use Rattle.propagator.proofs.spare.spread_from.Goals.{in-Some, in_default}

pub loop-mate-init : goal.loop-mate-init
loop-mate-init c = spread_none _ _ _ _

pub loop-mate-preserved : goal.loop-mate-preserved
loop-mate-preserved c =
    let low = c.args.window.low in
    let i = c.loop-mate.mate-index in
    let size = c.args.window.high + 1 - low in
    let inside : i < size = search rules in
    let at = part_at c.args.mates.now low size i inside in
    elim c.match-mate.branch [
      | in-Some w ↦
          let held = sym at ∙ w.in-Some.is in
          let there : w.in-Some.lot < length c.loop-mate.spare = omega (arith, c.requires.known (low + i) w.in-Some.lot held) in
          rw (w.spare-is, w.pending-is, w.mark_spare.ensures.spare, w.mark_spare.ensures.pending)
          (spread_held low (low + i) _ _ _ _ _ c.loop-mate.invariant w.in-Some.lot held there (omega arith) (low + (i + 1)) (omega arith) (omega arith))
      | in_default w ↦
          rw (w.spare-is, w.pending-is) (spread_free low (low + i) _ _ _ _ _ c.loop-mate.invariant (low + (i + 1)) (omega arith) (λ k h. w.in_default.not-Some k (at ∙ h)))
    ]

pub returns : goal.returns
returns c =
    let low = c.args.window.low in
    let all : low + c.loop-mate.mate-index ≡ c.args.window.high + 1 = search rules in
    subst (λ end. Spread low end c.args.mates.now c.args.spare.now c.args.pending.now c.loop-mate.spare c.loop-mate.pending) all c.loop-mate.invariant
