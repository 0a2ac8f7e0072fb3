-- What a lot's turn does where lots take the days of their windows one after the other, the earliest last day first.
use Rattle.std.specs.Prelude.{◌≡◌, ℕ, ◌+◌, ◌-◌, ◌<◌, ◌≤◌, Bool, true, ◌⊎◌, List, length, slice_set}
use Rattle.store.specs.declared.window.Window.{Window}
use Rattle.store.specs.Windows.{window, window_at}
use Rattle.nvalue.specs.Choices.{In}
use Rattle.extremes.specs.Flags.{Set, Unset}
use Rattle.extremes.specs.declared.matching.Most.{Most}

-- the windows end before a day
abbrev pub EndBefore : ℕ → List Window → Type 0
EndBefore day ws = (i : ℕ) → i < length ws → (window_at ws i).high < day

-- the lot takes the first free day of its window
pub record Takes (w : Window) (day : ℕ) (taken : List Bool) (runs : List Window) (most : Most) (is_taken : List Bool) (is_runs : List Window) (is : Most) : Type 0 where
  pub inside : In w day
  pub free : Unset taken day
  pub first : (d : ℕ) → w.low ≤ d → d < day → Set taken d
  pub marked : is_taken ≡ slice_set taken day true
  pub same : is_runs ≡ runs
  pub count : is.count ≡ most.count + 1
  pub top : is.runs ≡ most.runs

-- no day of the window is free: the unbroken run of taken days up to the window's last one takes the place of the
-- runs in it
pub record LeftOver (w : Window) (day : ℕ) (taken : List Bool) (runs : List Window) (most : Most) (is_taken : List Bool) (is_runs : List Window) (is : Most) : Type 0 where
  pub start : ℕ
  pub kept : ℕ
  pub lowest : day ≡ w.low
  pub within : start ≤ w.low
  pub full : (d : ℕ) → start ≤ d → d ≤ w.high → Set taken d
  pub edge : 0 < start → Unset taken (start - 1)
  pub fewer : kept ≤ most.runs
  pub gone : (k : ℕ) → kept ≤ k → k < most.runs → start ≤ (window_at runs k).low
  pub left : 0 < kept → (window_at runs (kept - 1)).low < start
  pub same : is_taken ≡ taken
  pub pushed : is_runs ≡ slice_set runs kept (window start w.high)
  pub count : is.count ≡ most.count
  pub top : is.runs ≡ kept + 1

abbrev pub Turn : Window → ℕ → List Bool → List Window → Most → List Bool → List Window → Most → Type 0
Turn w day taken runs most is_taken is_runs is =
    Takes w day taken runs most is_taken is_runs is ⊎ LeftOver w day taken runs most is_taken is_runs is
