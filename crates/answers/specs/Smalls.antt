-- What a small sheet holds.
use Rattle.std.specs.Prelude.{◌≡◌, ℕ, List, map}
use Rattle.store.specs.declared.window.Window.{Window}
use Rattle.store.specs.Windows.{window}
use Rattle.rules.specs.declared.row.Row.{Row}
use Rattle.answers.specs.declared.small.Small.{Small}

-- these windows and these rules, in order
abbrev pub Holds : Small → List Window → List Row → Type 0
Holds sheet ws rows = (sheet.windows.items ≡ ws) × (sheet.rules.items ≡ rows)

-- the windows that begin and end on these days
abbrev pub windows_of : List (ℕ × ℕ) → List Window
windows_of ends = map (λ e. window e.0 e.1) ends

-- the windows of just these days
abbrev pub days_of : List ℕ → List Window
days_of days = map (λ day. window day day) days
