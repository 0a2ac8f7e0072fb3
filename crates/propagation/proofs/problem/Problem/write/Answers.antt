use Rattle.std.proofs.Common.{◌≡◌, ℕ, ◌+◌, ◌-◌, ◌≤◌, List, ◌++◌, length, take, sym, ap, ◌∙◌, subst, arith}
use Rattle.std.specs.List.{AllByRecursion}
use Rattle.std.proofs.ByRecursion.{All-append, All-drop, All-take}
use borrow.Rule.Slice.PartMut.{put_mid}
use Rattle.store.specs.declared.window.Window.{Window}
use Rattle.store.specs.Sound.{Sound}
use Rattle.rules.specs.Sheets.{sheet}
use Rattle.propagation.specs.declared.problem.Problem.{Problem}
use Rattle.propagation.specs.Changes.{written}
use Rattle.propagation.specs.Problems.{sheet_in}
use Rattle.propagation.proofs.Problems.{problem_lots}
use Rattle.propagation.proofs.Writing.{take_written}
use Rattle.propagation.proofs.problem.Problem.write.Goals as goal

-- the windows in use, where a part of the room was written
in_use : (p : Problem) (a : ℕ) (us vs : List Window) → vs ≡ us → a + length us ≤ length (sheet_in p).windows → take p.lots (put_mid a (a + length us - a) p.windows vs) ≡ written a us (sheet_in p).windows
in_use p a us vs e there =
    take_written p.lots a (a + length us - a) p.windows vs (omega (arith, ap length e)) (omega (arith, problem_lots p)) (omega (arith, p.few, p.room))
    ∙ ap (λ xs. written a xs (sheet_in p).windows) e

pub invariant_of-self-clause-sound : goal.invariant_of-self-clause-sound
invariant_of-self-clause-sound c =
    let p = c.args.self.now in
    let ws = (sheet_in p).windows in
    let us = c.args.season.windows.now in
    let a = c.args.first in
    subst (AllByRecursion Sound) (sym (in_use p a us _ c.copy.ensures c.requires))
    (All-append Sound (take a ws ++ us) _ (All-append Sound (take a ws) us (All-take Sound a ws p.sound) c.args.season.sound) (All-drop Sound (a + length us) ws p.sound))

pub returns-clause-sheet : goal.returns-clause-sheet
returns-clause-sheet c =
    let p = c.args.self.now in
    ap (λ vs. sheet vs (sheet_in p).rules) (in_use p c.args.first c.args.season.windows.now _ c.copy.ensures c.requires)
