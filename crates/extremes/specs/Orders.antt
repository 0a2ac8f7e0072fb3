-- Lots in the order of their last days.
use Rattle.std.specs.Prelude.{ℕ, suc, List, [], ◌∷◌}
use Rattle.std.specs.List.Sorted.{IsNonDecreasingBy, IsPermutation}
use Rattle.store.specs.declared.window.Window.{Window}

-- each lot's last day with its place, counted from k
abbrev pub slots : ℕ → List Window → List (ℕ × ℕ)
slots k [] = []
slots k (w ∷ ws) = (w.high, k) ∷ slots (suc k) ws

-- the lots, the earliest last day first
pub record ByLastDay (ws : List Window) (order : List (ℕ × ℕ)) : Type 0 where
  pub shuffled : IsPermutation (slots 0 ws) order
  pub rises : IsNonDecreasingBy (λ s. s.0) order
