-- Laws of windows that lie inside others.
use Rattle.std.proofs.Common.{◌≡◌, ℕ, zero, suc, ◌≤◌, List, [], ◌∷◌, set, Result, inl, inr, sym, ◌∙◌, subst, arith}
use Rattle.std.proofs.lemmas.Bool.{cases_lt}
use Rattle.std.proofs.lemmas.Bool.Decides.{nat_tests}
use Rattle.store.specs.declared.fault.StoreFault.{StoreFault}
use Rattle.store.specs.declared.half_line.HalfLine.{HalfLine}
use Rattle.store.specs.declared.half_line.HalfLine.TheVariants.{From, UpTo}
use Rattle.store.specs.declared.window.Window.{Window}
use Rattle.store.specs.Each.{where_window}
use Rattle.store.specs.Windows.{window_at, trimmed, Within, Misses, Trims, no_such_lot, stays, would_empty, moves, Narrower, Narrowed, Onward}

order_cases : (a b : ℕ) → (a ≤ b → ⊥) → b ≤ a
order_cases a b n = elim (cases_lt b a) [ inl l ↦ omega arith | inr g ↦ absurd (n g) ]

pub narrowed_same : (ws : List Window) → Narrowed ws ws
narrowed_same [] = tt
narrowed_same (w ∷ ws) = ((omega arith, omega arith), narrowed_same ws)

pub narrowed_trans : (us vs ws : List Window) → Narrowed us vs → Narrowed vs ws → Narrowed us ws
narrowed_trans [] [] ws a b = b
narrowed_trans [] (v ∷ vs) ws a b = absurd a
narrowed_trans (u ∷ us) [] ws a b = absurd a
narrowed_trans (u ∷ us) (v ∷ vs) [] a b = absurd b
narrowed_trans (u ∷ us) (v ∷ vs) (w ∷ ws) a b = ((omega (arith, a.0.0, b.0.0), omega (arith, a.0.1, b.0.1)), narrowed_trans us vs ws a.1 b.1)

pub narrowed_set : (ws : List Window) (p : ℕ) (v : Window) → Narrower v (window_at ws p) → Narrowed (set ws p v) ws
narrowed_set [] p v n = tt
narrowed_set (w ∷ ws) zero v n = (n, narrowed_same ws)
narrowed_set (w ∷ ws) (suc p) v n = ((omega arith, omega arith), narrowed_set ws p v n)

-- a window is never narrowed past a half-line that it lies in
pub trimmed_narrower : (days : HalfLine) (w : Window) → (Within days w → ⊥) → Narrower (trimmed days w) w
trimmed_narrower (From day) w s = (order_cases day w.low s, omega arith)
trimmed_narrower (UpTo day) w s = (omega arith, order_cases w.high day s)

-- nor cut off whole by one that it meets
pub trimmed_ordered : (days : HalfLine) (w : Window) → (Misses days w → ⊥) → (trimmed days w).low ≤ (trimmed days w).high
trimmed_ordered (From day) w m = grind arith
trimmed_ordered (UpTo day) w m = grind arith

-- and is another window after that
pub trimmed_differs : {A : Type 0} (days : HalfLine) (w u : Window) → (Within days w → ⊥) → Narrower u (trimmed days w) → (a b : A) → where_window u w a b ≡ b
trimmed_differs (From day) w u s n a b = grind (arith, nat_tests)
trimmed_differs (UpTo day) w u s n a b = grind (arith, nat_tests)

-- any call leaves windows inside those before it
pub trims_narrow : (ws is : List Window) (p : ℕ) (days : HalfLine) (r : Result (Unit {0}) StoreFault) → Trims ws p days r is → Narrowed is ws
trims_narrow ws is p days r (no_such_lot _ _ e) = subst (λ vs. Narrowed vs ws) (sym e) (narrowed_same ws)
trims_narrow ws is p days r (stays _ _ _ e) = subst (λ vs. Narrowed vs ws) (sym e) (narrowed_same ws)
trims_narrow ws is p days r (would_empty _ _ _ _ e) = subst (λ vs. Narrowed vs ws) (sym e) (narrowed_same ws)
trims_narrow ws is p days r (moves _ s _ _ e) = subst (λ vs. Narrowed vs ws) (sym e) (narrowed_set ws p _ (trimmed_narrower days (window_at ws p) s))

-- one call after another
pub onward_trim : {f g h : List Window → List ℕ} (us vs : List Window) (p : ℕ) (days : HalfLine) (r : Result (Unit {0}) StoreFault)
    → Trims us p days r vs → Onward f g us → Onward g h vs → Onward f h vs
onward_trim us vs p days r t a b = λ ws n. b ws n ∙ a ws (narrowed_trans ws vs us n (trims_narrow us vs p days r t))

-- what the memory is in the end, by the account of the beginning
pub onward_here : {f g : List Window → List ℕ} (is : List Window) (memory : List ℕ) → g is ≡ memory → Onward f g is → memory ≡ f is
onward_here is memory here on = sym here ∙ on is (narrowed_same is)
