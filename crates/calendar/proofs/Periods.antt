-- Periods are a layer.
use Rattle.std.proofs.Common.{◌≡◌, ℕ, suc, ◌+◌, ◌-◌, ◌*◌, ◌/◌, ◌^◌, ◌<◌, ◌≤◌, List, map, IfSome, Option, refl, ap₂, suc-mul, mul_comm, div-lt_iff_lt-mul, le-div_iff_mul-le, arith}
use native.Mathlib.Nat.{mul-div_cancel_left}
use Rattle.std.proofs.Math.Nat.{mul-le-mul_left}
use Rattle.std.proofs.lemmas.Bool.Decides.{nat_tests}
use Rattle.std.proofs.lemmas.Nat.{div-mul-add}
use Rattle.calendar.proofs.Layers.{Layer, Cuts}
use Rattle.calendar.specs.Calendars.{in_periods, period_days, period_window}
use Rattle.store.proofs.Verdicts.{Moving}
use Rattle.store.specs.declared.half_line.HalfLine.{HalfLine}
use Rattle.store.specs.declared.half_line.HalfLine.TheVariants.{From, UpTo}
use Rattle.store.specs.declared.window.Window.{Window}
use Rattle.store.specs.Windows.{end_of, window, window_at, found, trimmed, Within, Misses, Narrower}

module _ (days : ℕ) (some : 1 ≤ days) where
  -- a day and a period: how the period of the day and the ends of the period lie
  module _ (period : ℕ) where
    first_within : (day : ℕ) → period ≤ day / days → days * period ≤ day
    first_within day h = omega (arith, (le-div_iff_mul-le some).0 h, mul_comm days period)

    past_first : (day : ℕ) → day / days < period → day < days * period
    past_first day h = omega (arith, (div-lt_iff_lt-mul some).0 h, mul_comm days period)

    last_within : (day : ℕ) → period < day / days → days * period + (days - 1) < day
    last_within day h = omega (arith, (le-div_iff_mul-le some).0 h, suc-mul period days, mul_comm days period)

    past_last : (day : ℕ) → day / days ≤ period → day ≤ days * period + (days - 1)
    past_last day h =
        let q : day / days < suc period = omega arith in
        omega (arith, (div-lt_iff_lt-mul some).0 q, suc-mul period days, mul_comm days period)

    first_in : days * period / days ≡ period
    first_in = mul-div_cancel_left period some

    last_in : (days * period + (days - 1)) / days ≡ period
    last_in = rw (mul_comm days period) (div-mul-add period days (days - 1) (omega arith))

  narrower : (w u : Window) → Narrower u (in_periods days w) → Narrower (period_window days w u) w
  narrower w u n = (low n.0, high n.1)
    where
      low : w.low / days ≤ u.low → w.low ≤ (period_window days w u).low
      low h = let f = past_first u.low w.low in grind (arith, nat_tests)

      high : u.high ≤ w.high / days → (period_window days w u).high ≤ w.high
      high h = let f = last_within u.high w.high in grind (arith, nat_tests)

  cuts : (w : Window) (ps : HalfLine) → (Within ps (in_periods days w) → ⊥) → (Misses ps (in_periods days w) → ⊥) → Cuts (in_periods days) (period_days days ps) w ps
  cuts w (From v) out meet =
      let a = past_first v w.low in
      let b = first_within v w.high in
      record { outside = λ h. grind arith; meets = λ h. grind arith; shows = ap₂ window (first_in v) refl }
  cuts w (UpTo v) out meet =
      let a = last_within v w.high in
      let b = past_last v w.low in
      record { outside = λ h. grind arith; meets = λ h. grind arith; shows = ap₂ window refl (last_in v) }

  later : (w u : Window) (ps : HalfLine) → (Within ps (in_periods days w) → ⊥) → (Misses ps (in_periods days w) → ⊥) → Narrower u (trimmed ps (in_periods days w))
      → period_window days (trimmed (period_days days ps) w) u ≡ period_window days w u
  later w u (From v) out meet n = let e = first_in v in grind (arith, nat_tests)
  later w u (UpTo v) out meet n = let e = last_in v in grind (arith, nat_tests)

  pub period_layer : Layer (in_periods days) (period_window days) (period_days days)
  period_layer = record { narrower = narrower; cuts = cuts; later = later }

  word_below : (w : Window) (ps : HalfLine) → (Within ps w → ⊥) → (Misses ps w → ⊥) → days * w.high < 2 ^ 32 → end_of (period_days days ps) < 2 ^ 32
  word_below w (From v) out meet h =
      let n : v ≤ w.high = grind arith in
      omega (arith, mul-le-mul_left days n)
  word_below w (UpTo v) out meet h =
      let n : suc v ≤ w.high = grind arith in
      omega (arith, mul-le-mul_left days n, suc-mul v days, mul_comm days v, mul_comm days (suc v))

  -- what a cutting half-line stands for is a word, as the first day of the last period shown is one
  module _ (ws : List Window) (p : ℕ) (ps : HalfLine) (o : Option Window) (read : o ≡ found (map (in_periods days) ws) p) (fits : IfSome o (λ w. days * w.high < 2 ^ 32))
      (m : Moving (map (in_periods days) ws) p ps) where
    high_fits : days * (window_at (map (in_periods days) ws) p).high < 2 ^ 32
    high_fits = let b = m.there in grind (arith, nat_tests)

    pub cut_fits : end_of (period_days days ps) < 2 ^ 32
    cut_fits = word_below (window_at (map (in_periods days) ws) p) ps m.outside m.meets high_fits
