-- Violated runs that share no day are at most half as many as the lots: each has a lot of its own in every count, and a surplus besides.
use Rattle.std.proofs.Common.{◌≡◌, ℕ, suc, ◌*◌, ◌<◌, ◌≤◌, List, [], ◌∷◌, map, length, refl, ap, inl, inr, arith}
use Rattle.std.specs.List.{AllByRecursion}
use Rattle.std.proofs.lemmas.Bool.Decides.{leb_tells, nat_tests}
use Rattle.store.specs.declared.window.Window.{Window}
use Rattle.store.specs.Windows.{window_at}
use Rattle.nvalue.specs.Choices.{Violated, Disjoint, ShareNoDay, load, surplus}
use Rattle.nvalue.proofs.Bounds.{disjoint_bound}
use Rattle.extremes.specs.Shown.{Greatest}

-- a lot whose window lies inside a run
pub record Inside (run : Window) (ws : List Window) : Type 0 where
  pub lot : ℕ
  pub there : lot < length ws
  pub from : run.low ≤ (window_at ws lot).low
  pub upto : (window_at ws lot).high ≤ run.high

later : (run w : Window) (ws : List Window) → Inside run ws → Inside run (w ∷ ws)
later run w ws i = record { lot = suc i.lot; there = omega (arith, i.there); from = i.from; upto = i.upto }

inside : (run : Window) (ws : List Window) → 0 < load run ws → Inside run ws
inside run [] h = absurd (omega arith)
inside run (w ∷ ws) h =
    elim (leb_tells run.low w.low) [
      | inl a ↦ elim (leb_tells w.high run.high) [
        | inl b ↦ record { lot = 0; there = omega arith; from = a.1; upto = b.1 }
        | inr b ↦ later run w ws (inside run ws (grind (arith, nat_tests)))
      ]
      | inr a ↦ later run w ws (inside run ws (grind (arith, nat_tests)))
    ]

module _ (ws : List Window) where
  one : (run : Window) → Violated ws run → Inside run ws
  one run c = inside run ws (omega arith)

  lots : (runs : List Window) → AllByRecursion (Violated ws) runs → List ℕ
  lots [] c = []
  lots (run ∷ runs) c = (one run c.0).lot ∷ lots runs c.1

  length_lots : (runs : List Window) (c : AllByRecursion (Violated ws) runs) → length (lots runs c) ≡ length runs
  unfolding lots
  length_lots [] c = refl
  length_lots (run ∷ runs) c = ap suc (length_lots runs c.1)

  there : (runs : List Window) (c : AllByRecursion (Violated ws) runs) → AllByRecursion (λ lot. lot < length ws) (lots runs c)
  unfolding lots
  there [] c = tt
  there (run ∷ runs) c = ((one run c.0).there, there runs c.1)

  clear : (run : Window) (i : Inside run ws) (runs : List Window) (c : AllByRecursion (Violated ws) runs) → AllByRecursion (ShareNoDay run) runs → AllByRecursion (ShareNoDay (window_at ws i.lot)) (map (window_at ws) (lots runs c))
  unfolding lots
  clear run i [] c s = tt
  clear run i (other ∷ runs) c s = (
    λ d v w. s.0 d (omega (arith, i.from, i.upto, v.0, v.1), omega (arith, i.from, i.upto, v.0, v.1))
        (omega (arith, (one other c.0).from, w.0), omega (arith, (one other c.0).upto, w.1)),
    clear run i runs c.1 s.1,
  )

  apart : (runs : List Window) (c : AllByRecursion (Violated ws) runs) → Disjoint runs → Disjoint (map (window_at ws) (lots runs c))
  unfolding lots
  apart [] c d = tt
  apart (run ∷ runs) c d = (clear run (one run c.0) runs c.1 d.0, apart runs c.1 d.1)

  -- each run has a surplus
  surplus_each : (runs : List Window) → AllByRecursion (Violated ws) runs → length runs ≤ surplus ws runs
  surplus_each [] c = omega arith
  surplus_each (run ∷ runs) c = omega (arith, surplus_each runs c.1, c.0)

pub runs_half : (ws runs : List Window) (days : List ℕ) (m : ℕ) → Greatest ws days runs m → 2 * length runs ≤ length ws
runs_half ws runs days m g =
    let c = g.violated in
    omega (
      arith,
      disjoint_bound ws days (lots ws runs c) g.choice (there ws runs c) (apart ws runs c g.disjoint),
      length_lots ws runs c,
      surplus_each ws runs c,
      g.count,
      g.adds_up,
    )
