-- Dispatch is a layer.
use Rattle.std.proofs.Common.{◌≡◌, ℕ, ◌-◌, ◌≤◌, refl, ap₂, arith}
use Rattle.std.proofs.lemmas.Bool.Decides.{nat_tests}
use Rattle.calendar.proofs.Layers.{Layer, Cuts}
use Rattle.calendar.specs.Calendars.{before_dispatch, dispatch_days, dispatch_window}
use Rattle.store.specs.declared.half_line.HalfLine.{HalfLine}
use Rattle.store.specs.declared.half_line.HalfLine.TheVariants.{From, UpTo}
use Rattle.store.specs.declared.window.Window.{Window}
use Rattle.store.specs.Windows.{window, trimmed, Within, Misses, Narrower}

module _ (last : ℕ) where
  narrower : (w u : Window) → Narrower u (before_dispatch last w) → Narrower (dispatch_window last w u) w
  narrower w u n = (low n.1, high n.0)
    where
      low : u.high ≤ last - w.low → w.low ≤ (dispatch_window last w u).low
      low h = grind (arith, nat_tests)

      high : last - w.high ≤ u.low → (dispatch_window last w u).high ≤ w.high
      high h = grind (arith, nat_tests)

  cuts : (w : Window) (days : HalfLine) → (Within days (before_dispatch last w) → ⊥) → (Misses days (before_dispatch last w) → ⊥)
      → Cuts (before_dispatch last) (dispatch_days last days) w days
  cuts w (From v) out meet = record { outside = λ h. grind arith; meets = λ h. grind arith; shows = ap₂ window (grind arith) refl }
  cuts w (UpTo v) out meet = record { outside = λ h. grind arith; meets = λ h. grind arith; shows = ap₂ window refl (grind arith) }

  later : (w u : Window) (days : HalfLine) → (Within days (before_dispatch last w) → ⊥) → (Misses days (before_dispatch last w) → ⊥)
      → Narrower u (trimmed days (before_dispatch last w)) → dispatch_window last (trimmed (dispatch_days last days) w) u ≡ dispatch_window last w u
  later w u (From v) out meet n = grind (arith, nat_tests)
  later w u (UpTo v) out meet n = grind (arith, nat_tests)

  pub dispatch_layer : Layer (before_dispatch last) (dispatch_window last) (dispatch_days last)
  dispatch_layer = record { narrower = narrower; cuts = cuts; later = later }
