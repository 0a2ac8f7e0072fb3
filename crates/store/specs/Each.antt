-- Lists changed lot by lot, each item by the window of its lot.
use Rattle.std.specs.Prelude.{ℕ, List, ◌∷◌, cond, ◌&&◌, nat_eq}
use Rattle.store.specs.declared.window.Window.{Window}

abbrev pub each : {A : Type 0} → (A → Window → A) → List A → List Window → List A
each f (a ∷ rest) (w ∷ ws) = f a w ∷ each f rest ws
each f items ws = items

-- one thing where two numbers are the same, else another
abbrev pub where_same : {A : Type 0} → ℕ → ℕ → A → A → A
where_same m n a b = cond (nat_eq m n) a b

-- one thing where two windows are the same, else another
abbrev pub where_window : {A : Type 0} → Window → Window → A → A → A
where_window v w a b = cond (nat_eq v.low w.low && nat_eq v.high w.high) a b
