-- What the working words hold once a call is over.
use Rattle.std.specs.Prelude.{◌≡◌, ℕ, ◌<◌, ◌≤◌, List, length, drop, slice_index}

-- 4,096 words from the first on are zero, and those behind them as they were; fewer are left alone
pub record Cleared (was is : List ℕ) : Type 0 where
  pub short : length was < 4096 → is ≡ was
  pub zero : 4096 ≤ length was → (k : ℕ) → k < 4096 → slice_index is k ≡ 0
  pub rest : drop 4096 is ≡ drop 4096 was
