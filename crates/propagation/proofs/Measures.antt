-- What each run makes less: the width of the windows, or else the number of rules that wait.
use Rattle.std.proofs.Common.{◌≡◌, ℕ, zero, suc, ◌+◌, ◌-◌, ◌*◌, ◌<◌, ◌≤◌, Bool, true, false, cond, ◌⊎◌, List, [], ◌∷◌, length, get_or, set, sym, refl, ap, ◌∙◌, ap₂, inl, inr, arith}
use Rattle.std.specs.List.{AllByRecursion}
use Rattle.std.proofs.lemmas.Bool.{cases_eq, both_ways}
use Rattle.store.specs.declared.window.Window.{Window}
use Rattle.store.specs.Sound.{Sound}
use Rattle.store.specs.Windows.{Narrower, Narrowed, window}
use Rattle.propagation.specs.Widths.{width}

abbrev pub flags : List Bool → ℕ
flags [] = 0
flags (b ∷ bs) = cond b 1 0 + flags bs

same_or_less : (v w : Window) → Narrower v w → Sound v → (v.high - v.low < w.high - w.low) ⊎ (v ≡ w)
same_or_less v w n s = elim (cases_eq v.low w.low) [
  | inr a ↦ inl (omega arith)
  | inl a ↦ elim (cases_eq v.high w.high) [ inr b ↦ inl (omega arith) | inl b ↦ inr (ap₂ window a b) ]
]

-- narrower windows are the same, or less wide
pub width_falls : (vs ws : List Window) → Narrowed vs ws → AllByRecursion Sound vs → (width vs < width ws) ⊎ (vs ≡ ws)
width_falls [] [] e s = inr refl
width_falls [] (w ∷ ws) e s = absurd e
width_falls (v ∷ vs) [] e s = absurd e
width_falls (v ∷ vs) (w ∷ ws) (n, e) (o, s) = elim (width_falls vs ws e s) [
  | inl a ↦ inl (omega arith)
  | inr a ↦ elim (same_or_less v w n o) [ inl b ↦ inl (omega (arith, ap width a)) | inr b ↦ inr (ap₂ (λ x xs. x ∷ xs) b a) ]
]

flags_few : (bs : List Bool) → flags bs ≤ length bs
flags_few [] = omega arith
flags_few (true ∷ bs) = omega (arith, flags_few bs)
flags_few (false ∷ bs) = omega (arith, flags_few bs)

flags_cleared : (bs : List Bool) (k : ℕ) → k < length bs → get_or bs k true ≡ true → flags (set bs k false) < flags bs
flags_cleared [] k h e = absurd (omega arith)
flags_cleared (true ∷ bs) zero h e = omega arith
flags_cleared (false ∷ bs) zero h e = absurd (both_ways false refl e)
flags_cleared (b ∷ bs) (suc k) h e = omega (arith, flags_cleared bs k (omega arith) e)

-- Rules are queued only where a window moved: then there is less width. Otherwise one rule less waits.
pub measure_falls : (is ws : List Window) (queue left was : List Bool) (k : ℕ) → Narrowed is ws → AllByRecursion Sound is → length queue ≡ 33 → (ws ≡ is → queue ≡ left) → left ≡ set was k false → k < length was → get_or was k true ≡ true
    → width is * 34 + flags queue < width ws * 34 + flags was
measure_falls is ws queue left was k e s long still f h t = elim (width_falls is ws e s) [
  | inl a ↦ omega (arith, flags_few queue)
  | inr a ↦ omega (arith, flags_cleared was k h t, ap flags (still (sym a) ∙ f), ap width a)
]
