-- What a plan is, and which of two plans is the earlier.
use Rattle.std.specs.Prelude.{◌≡◌, ℕ, ◌<◌, ◌⊎◌, List, map, take, slice_index, slice_index_or}
use Rattle.std.specs.List.{AllByRecursion}
use Rattle.store.specs.declared.window.Window.{Window}
use Rattle.nvalue.specs.Choices.{Choice}
use Rattle.nvalue.specs.Nvalue.{Counts}
use Rattle.rules.specs.declared.row.Row.{Row}
use Rattle.rules.specs.Sheets.{Sheet, under}

-- days keep a rule: the count over its stretch lies from its floor to its ceiling
abbrev pub Keeps : List ℕ → Row → Type 0
Keeps ds r = Counts r.floor r.ceiling (under r ds)

-- a plan: a choice for all lots that keeps every rule
pub record Plan (s : Sheet) (ds : List ℕ) : Type 0 where
  pub choice : Choice s.windows ds
  pub keeps : AllByRecursion (Keeps ds) s.rules

abbrev pub NoPlan : Sheet → Type 0
NoPlan s = (ds : List ℕ) → Plan s ds → ⊥

-- two sheets have the same plans
abbrev pub SamePlans : Sheet → Sheet → Type 0
SamePlans s t = (ds : List ℕ) → (Plan s ds → Plan t ds) × (Plan t ds → Plan s ds)

-- the earlier of two plans has the smaller day where they first differ, lot by lot
pub record Earlier (xs ys : List ℕ) : Type 0 where
  pub lot : ℕ
  pub same : take lot xs ≡ take lot ys
  pub smaller : slice_index_or xs lot 0 < slice_index ys lot

-- the earliest plan: it is earlier than every other
pub record Earliest (s : Sheet) (ds : List ℕ) : Type 0 where
  pub plan : Plan s ds
  pub first : (es : List ℕ) → Plan s es → (es ≡ ds) ⊎ Earlier ds es

-- the low ends of all windows
abbrev pub lows : List Window → List ℕ
lows ws = map (λ w. w.low) ws
