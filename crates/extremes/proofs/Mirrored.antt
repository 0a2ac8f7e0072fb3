-- Laws of the mirror image: it is its own inverse, and choices and counts go through it.
use Rattle.std.proofs.Common.{◌≡◌, ℕ, ◌≤◌, List, [], ◌∷◌, map, refl, subst, ap₂, arith}
use Rattle.std.specs.List.{AllByRecursion}
use Rattle.std.proofs.lemmas.Bool.Decides.{nat_tests}
use Rattle.store.specs.declared.window.Window.{Window}
use Rattle.store.specs.Windows.{window}
use Rattle.nvalue.specs.Choices.{Choice}
use Rattle.nvalue.specs.Nvalue.{has, nvalue}
use Rattle.extremes.specs.Mirror.{flip, mirrored}
use Rattle.extremes.specs.Shown.{HasFewest}
use Rattle.store.specs.Sound.{Sound}

pub sound_mirrored : (ws : List Window) → AllByRecursion Sound ws → AllByRecursion Sound (map mirrored ws)
sound_mirrored [] s = tt
sound_mirrored (w ∷ ws) s = ((omega (arith, s.0.0), omega arith), sound_mirrored ws s.1)

pub mirrored_twice : (ws : List Window) → AllByRecursion Sound ws → map mirrored (map mirrored ws) ≡ ws
mirrored_twice [] s = refl
mirrored_twice (w ∷ ws) s =
    let low : flip (flip w.low) ≡ w.low = omega (arith, s.0.0, s.0.1) in
    let high : flip (flip w.high) ≡ w.high = omega (arith, s.0.1) in
    ap₂ (λ v vs. v ∷ vs) (ap₂ window low high) (mirrored_twice ws s.1)

-- a choice's days lie within the days of all
pub choice_days : (ws : List Window) (ds : List ℕ) → AllByRecursion Sound ws → Choice ws ds → AllByRecursion (λ d. d ≤ 9999) ds
choice_days [] [] s c = tt
choice_days [] (d ∷ ds) s c = absurd c
choice_days (w ∷ ws) [] s c = absurd c
choice_days (w ∷ ws) (d ∷ ds) s c = (omega (arith, s.0.1, c.0.1), choice_days ws ds s.1 c.1)

pub choice_mirrored : (ws : List Window) (ds : List ℕ) → Choice ws ds → Choice (map mirrored ws) (map flip ds)
choice_mirrored [] [] c = tt
choice_mirrored [] (d ∷ ds) c = absurd c
choice_mirrored (w ∷ ws) [] c = absurd c
choice_mirrored (w ∷ ws) (d ∷ ds) c = ((omega (arith, c.0.1), omega (arith, c.0.0)), choice_mirrored ws ds c.1)

has_mirrored : (x : ℕ) (ds : List ℕ) → x ≤ 9999 → AllByRecursion (λ d. d ≤ 9999) ds → has (flip x) (map flip ds) ≡ has x ds
has_mirrored x [] h b = refl
has_mirrored x (d ∷ ds) h b = let rest = has_mirrored x ds h b.1 in let l = b.0 in grind (arith, nat_tests)

pub nvalue_mirrored : (ds : List ℕ) → AllByRecursion (λ d. d ≤ 9999) ds → nvalue (map flip ds) ≡ nvalue ds
nvalue_mirrored [] b = refl
nvalue_mirrored (d ∷ ds) b = omega (arith, has_mirrored d ds b.0 b.1, nvalue_mirrored ds b.1)

-- a choice for the mirror image is the mirror image of one
pub choice_back : (ws : List Window) (ds : List ℕ) → AllByRecursion Sound ws → Choice (map mirrored ws) ds → Choice ws (map flip ds)
choice_back ws ds s c = subst (λ vs. Choice vs (map flip ds)) (mirrored_twice ws s) (choice_mirrored (map mirrored ws) ds c)

-- the mirror image of a choice with the fewest days has the fewest days
pub fewest_mirrored : (ws : List Window) (ds : List ℕ) → AllByRecursion Sound ws → Choice ws ds → HasFewest ws ds → HasFewest (map mirrored ws) (map flip ds)
fewest_mirrored ws ds s c few es e =
    let same = nvalue_mirrored ds (choice_days ws ds s c) in
    let also = nvalue_mirrored es (choice_days (map mirrored ws) es (sound_mirrored ws s) e) in
    omega (arith, few (map flip es) (choice_back ws es s e))

pub fewest_back : (ws : List Window) (ds : List ℕ) → AllByRecursion Sound ws → Choice (map mirrored ws) ds → HasFewest (map mirrored ws) ds → HasFewest ws (map flip ds)
fewest_back ws ds s c few =
    subst (λ vs. HasFewest vs (map flip ds)) (mirrored_twice ws s) (fewest_mirrored (map mirrored ws) ds (sound_mirrored ws s) c few)
