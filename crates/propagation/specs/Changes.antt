-- Sheets with something changed: the window of a lot, those of some lots in a row, or a rule's count window.
use Rattle.std.specs.Prelude.{ℕ, ◌+◌, List, ◌++◌, length, take, drop, slice_set}
use Rattle.store.specs.declared.window.Window.{Window}
use Rattle.nvalue.specs.declared.count_window.CountWindow.{CountWindow}
use Rattle.rules.specs.Sheets.{Sheet, recounted, rule_at, sheet}

abbrev pub with_window : ℕ → Window → Sheet → Sheet
with_window lot w s = sheet (slice_set s.windows lot w) s.rules

-- windows for some lots in a row, from the lot `first` on; the other lots keep theirs
abbrev pub written : ℕ → List Window → List Window → List Window
written first us ws = take first ws ++ us ++ drop (first + length us) ws

abbrev pub with_windows : ℕ → List Window → Sheet → Sheet
with_windows first us s = sheet (written first us s.windows) s.rules

abbrev pub with_count : ℕ → CountWindow → Sheet → Sheet
with_count number count s =
    sheet s.windows (slice_set s.rules number (recounted (rule_at s.rules number) count.floor count.ceiling))
