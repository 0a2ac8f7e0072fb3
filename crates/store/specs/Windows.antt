-- What a window store is: a list of windows, and how a call may move an end of one.
use Rattle.std.specs.List.{AllZip}
use Rattle.std.specs.Prelude.{◌≡◌, ℕ, ◌<◌, ◌≤◌, cond, List, length, Some, None, Ok, Err, Option, Result, nat_lt, slice_index_or, slice_set}
use Rattle.store.specs.declared.window.Window.{Window}
use Rattle.store.specs.declared.fault.StoreFault.{StoreFault}
use Rattle.store.specs.declared.half_line.HalfLine.{HalfLine}
use Rattle.store.specs.declared.half_line.HalfLine.TheVariants.{From, UpTo}
use Rattle.store.specs.declared.fault.StoreFault.TheVariants.{NoSuchLot, WouldEmpty}

abbrev pub window : ℕ → ℕ → Window
window l h = record { low = l; high = h }

-- the window of the lot at a place; no matter what past the last lot
abbrev pub window_at : List Window → ℕ → Window
window_at ws place = slice_index_or ws place (window 0 0)

-- the window of a lot, absent past the last one
abbrev pub found : List Window → ℕ → Option Window
found ws place = cond (nat_lt place (length ws)) (Some (window_at ws place)) None

abbrev pub low_at : List Window → ℕ → Option ℕ
low_at ws place = cond (nat_lt place (length ws)) (Some (window_at ws place).low) None

abbrev pub high_at : List Window → ℕ → Option ℕ
high_at ws place = cond (nat_lt place (length ws)) (Some (window_at ws place).high) None

-- the number at which a half-line ends
abbrev pub end_of : HalfLine → ℕ
end_of (From number) = number
end_of (UpTo number) = number

-- the days of a window that lie in a half-line: those from a day on, or those up to a day
abbrev pub trimmed : HalfLine → Window → Window
trimmed (From day) w = window day w.high
trimmed (UpTo day) w = window w.low day

-- the end of the window that the half-line bounds lies in it already
abbrev pub Within : HalfLine → Window → Type 0
Within (From day) w = day ≤ w.low
Within (UpTo day) w = w.high ≤ day

-- so does not even the other end
abbrev pub Misses : HalfLine → Window → Type 0
Misses (From day) w = w.high < day
Misses (UpTo day) w = day < w.low

-- Asked to leave a lot no days but those of a half-line, a store answers `r`,
-- and its windows, which were `was`, are `is`.
pub data Trims (was : List Window) (place : ℕ) (days : HalfLine)
    (r : Result (Unit {0}) StoreFault) (is : List Window) : Type 0 where
  no_such_lot : length was ≤ place → r ≡ Err NoSuchLot → is ≡ was → Trims was place days r is
  stays : place < length was → Within days (window_at was place) → r ≡ Ok tt → is ≡ was → Trims was place days r is
  would_empty : place < length was → (Within days (window_at was place) → ⊥) → Misses days (window_at was place)
      → r ≡ Err WouldEmpty → is ≡ was → Trims was place days r is
  moves : place < length was → (Within days (window_at was place) → ⊥) → (Misses days (window_at was place) → ⊥)
      → r ≡ Ok tt → is ≡ slice_set was place (trimmed days (window_at was place)) → Trims was place days r is

-- a window lies inside another
abbrev pub Narrower : Window → Window → Type 0
Narrower v w = (w.low ≤ v.low) × (v.high ≤ w.high)

-- windows lie inside others, lot by lot
abbrev pub Narrowed : List Window → List Window → Type 0
Narrowed vs ws = AllZip Narrower vs ws

-- what the memory will be at later windows is the same by the one account as by the other,
-- for all windows inside these
abbrev pub Onward : (List Window → List ℕ) → (List Window → List ℕ) → List Window → Type 0
Onward was now is = (ws : List Window) → Narrowed ws is → now ws ≡ was ws
