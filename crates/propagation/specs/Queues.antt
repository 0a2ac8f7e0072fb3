-- Which rules wait in the propagation queue.
use Rattle.std.specs.Prelude.{◌≡◌, ℕ, ◌<◌, Bool, true, false, length, Option, MatchOption, slice_index_or, slice_set}
use Rattle.rules.specs.Sheets.{Sheet, rule_at}
use Rattle.rules.specs.Firm.{FirmRule}
use Rattle.propagation.specs.declared.queue.Queue.{Queue}

-- does the rule with a number wait? One past the last flag does.
abbrev pub waits : Queue → ℕ → Bool
waits queue number = slice_index_or queue.flags number true

-- every rule that does not wait is firm
abbrev pub RestFirm : Sheet → Queue → Type 0
RestFirm s queue =
    (k : ℕ) → k < length s.rules → waits queue k ≡ false → FirmRule s.windows (rule_at s.rules k)

-- one of so many rules that waits is taken, and waits no more; or none waits, and the queue stays
abbrev pub Takes : ℕ → Queue → Option ℕ → Queue → Type 0
Takes rules was r now =
    MatchOption r
    (((k : ℕ) → k < rules → waits was k ≡ false) × (now ≡ was))
    (λ k. (k < rules) × (waits was k ≡ true) × (now.flags ≡ slice_set was.flags k false))
