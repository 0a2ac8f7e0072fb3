-- What propagation does to a sheet: one rule's propagator, and all of them until nothing moves.
use Rattle.std.specs.Prelude.{◌≡◌, ℕ, ◌<◌, false, List, length, Result, MatchResult, ◌≢◌}
use Rattle.store.specs.declared.window.Window.{Window}
use Rattle.nvalue.specs.Choices.{part}
use Rattle.nvalue.specs.declared.stretch.Stretch.{Stretch}
use Rattle.rules.specs.Sheets.{Sheet, rule_at}
use Rattle.rules.specs.Firm.{Firm, FirmRule, Inside, NoFirm, GreatestFirm}
use Rattle.propagation.specs.declared.fault.Inconsistent.{Inconsistent}
use Rattle.propagation.specs.declared.problem.Problem.{Problem}
use Rattle.propagation.specs.declared.queue.Queue.{Queue}
use Rattle.propagation.specs.Changes.{with_windows}
use Rattle.propagation.specs.Problems.{sheet_in}
use Rattle.propagation.specs.Queues.{waits}

-- one rule is firm in t, which lies inside s: no firm sheet inside s is lost, and the other rules stay
pub record MakesFirm (s : Sheet) (number : ℕ) (t : Sheet) : Type 0 where
  pub inside : Inside t s
  pub keeps : (u : Sheet) → Firm u → Inside u s → Inside u t
  pub firm : FirmRule t.windows (rule_at t.rules number)
  pub others : (q : ℕ) → (q ≢ number) → rule_at t.rules q ≡ rule_at s.rules q

-- the lots of a stretch have the same windows
abbrev pub SameOn : Stretch → List Window → List Window → Type 0
SameOn s ws is = part ws s.first s.length ≡ part is s.first s.length

-- each other rule of t with a window that is another than in s waits then, and so does what waited before
abbrev pub Wakes : ℕ → Sheet → Sheet → Queue → Queue → Type 0
Wakes number s t was now =
    (q : ℕ) → q < length t.rules → (q ≢ number) → waits now q ≡ false
    → (waits was q ≡ false) × SameOn (rule_at t.rules q).stretch s.windows t.windows

-- the same where some lots in a row are to get other windows
abbrev pub WakesFor : ℕ → Problem → ℕ → List Window → Queue → Queue → Type 0
WakesFor number p first us was now = Wakes number (sheet_in p) (with_windows first us (sheet_in p)) was now

-- one rule is made firm, and the queue stays where no window moves
pub record Ran (number : ℕ) (s t : Sheet) (was now : Queue) : Type 0 where
  pub firm : MakesFirm s number t
  pub still : s.windows ≡ t.windows → now ≡ was
  pub wakes : Wakes number s t was now

-- so it is; refused only where no firm sheet lies inside
abbrev pub Runs : ℕ → Problem → Queue → Result (Unit {0}) Inconsistent → Problem → Queue → Type 0
Runs number was queue r is left =
    MatchResult r (λ _. Ran number (sheet_in was) (sheet_in is) queue left) (λ _. NoFirm (sheet_in was))

-- t is the greatest firm sheet inside s; refused where there is none
abbrev pub Propagates : Sheet → Result (Unit {0}) Inconsistent → Sheet → Type 0
Propagates s r t = MatchResult r (λ _. GreatestFirm s t) (λ _. NoFirm s)
