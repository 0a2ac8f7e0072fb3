-- A call that reads a season refuses for the same reasons, under its own names.
use Rattle.std.proofs.Common.{List, refl, ap}
use Rattle.store.specs.declared.window.Window.{Window}
use Rattle.store.specs.Checks.{Passes, Refused, here, later}
use Rattle.nvalue.specs.declared.season.SeasonFault.{SeasonFault}
use Rattle.nvalue.specs.declared.season.SeasonFault.TheVariants.{TooManyLots, FaultyWindow}
use Rattle.nvalue.specs.Seasons.{lot_checks, season_checks}

module _ {E : Type 0} (named : SeasonFault → E) (ws : List Window) where
  pub refused_as : (e : SeasonFault) → Refused (season_checks ws) e → Refused (lot_checks (named TooManyLots) (λ p. named (FaultyWindow p)) ws) (named e)
  refused_as e (here h) = here (h.0, ap named h.1)
  refused_as e (later quiet (here h)) = later (λ other m. quiet TooManyLots (m.0, refl)) (here (h.0, h.1, ap named h.2))
  refused_as e (later quiet (later still none)) = absurd none

  pub passes_as : Passes (season_checks ws) → Passes (lot_checks (named TooManyLots) (λ p. named (FaultyWindow p)) ws)
  passes_as p = (λ e m. p.0 TooManyLots (m.0, refl), (λ e h. p.1.0 (FaultyWindow h.0) (h.0, h.1, refl), tt))
