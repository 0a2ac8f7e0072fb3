-- The law of calls on a closed sheet, as a statement that a function's contract names.
use Rattle.std.specs.Prelude.{ℕ, List}
use Rattle.plan.specs.declared.calls.Call.{Call}
use Rattle.plan.specs.declared.calls.Outcome.{Outcome}
use Rattle.plan.specs.Calls.{PlansLeft, Runs, State, accepted, sheet_at}

-- whoever makes calls one after the other is left with the plans that meet every ask which was accepted, and no others
abbrev pub RunsLeavePlans : Type 0
RunsLeavePlans =
    (lots rules : ℕ) (cs : List Call) (s : State) (os : List Outcome) (t : State)
    → Runs lots rules cs s os t → PlansLeft (accepted cs os) (sheet_at s) (sheet_at t)
