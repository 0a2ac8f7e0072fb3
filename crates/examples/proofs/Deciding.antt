-- What is firm, which plan is the earliest, which counts are least and greatest: decided by trying every choice.
use Rattle.std.proofs.Common.{◌≡◌, ℕ, suc, ◌<◌, ◌⊎◌, List, [], ◌∷◌, length, slice_index, refl, ap, ap₂, inl, inr}
use Rattle.store.specs.declared.window.Window.{Window}
use Rattle.store.specs.Sound.{Sound}
use Rattle.store.specs.Windows.{window, window_at, Narrower}
use Rattle.nvalue.specs.declared.stretch.Stretch.{Stretch}
use Rattle.nvalue.specs.Choices.{Choice, Disjoint, ShareNoDay}
use Rattle.nvalue.specs.Nvalue.{nvalue, Counts}
use Rattle.rules.specs.declared.row.Row.{Row}
use Rattle.rules.specs.Sheets.{Sheet, under}
use Rattle.rules.specs.Plans.{Earlier, Plan}
use Rattle.rules.specs.Firm.{Counted, Firm, FirmRule, Inside, Stricter, Supported, SupportsEach}
use Rattle.rules.proofs.Order.{earlier_cons}
use Rattle.examples.proofs.Trying.{◌&◌, below, day_of, each, either, every_day, fails, le, like, pairs, same, some}

-- windows
abbrev pub same_window : (v w : Window) → Dec (v ≡ w)
same_window v w =
    like (λ h. ap₂ window h.0 h.1) (λ e. (ap (λ u. u.low) e, ap (λ u. u.high) e))
    (same v.low w.low & same v.high w.high)

abbrev pub sound : (w : Window) → Dec (Sound w)
sound w = le w.low w.high & le w.high 9999

-- rules
abbrev pub counts : (floor ceiling : ℕ) (ds : List ℕ) → Dec (Counts floor ceiling ds)
counts floor ceiling ds = le floor (nvalue ds) & le (nvalue ds) ceiling

abbrev pub counted : (ws : List Window) (count : ℕ) → Dec (Counted ws count)
counted ws count = some ws (λ ds. nvalue ds ≡ count) (λ ds. same (nvalue ds) count)

abbrev pub supported : (ws : List Window) (floor ceiling i day : ℕ) → Dec (Supported ws floor ceiling i day)
supported ws floor ceiling i day =
    like (λ h. (h.0, h.1, h.2.1, h.2.0)) (λ h. (h.0, h.1, (h.3, h.2)))
    (some ws (λ ds. (slice_index ds i ≡ day) × Counts floor ceiling ds)
    (λ ds. same (slice_index ds i) day & counts floor ceiling ds))

-- firm sheets
abbrev pub supports : (end : Window → ℕ) (ws : List Window) (r : Row) → Dec (SupportsEach end ws r)
supports end ws r =
    below (λ i. supported (under r ws) r.floor r.ceiling i (end (window_at (under r ws) i))) (length (under r ws))

abbrev pub firm_rule : (ws : List Window) (r : Row) → Dec (FirmRule ws r)
firm_rule ws r =
    like (λ h. record { low = h.0; high = h.1.0; floor = h.1.1.0; ceiling = h.1.1.1 })
    (λ f. (f.low, (f.high, (f.floor, f.ceiling))))
    (supports (λ w. w.low) ws r & supports (λ w. w.high) ws r
    & counted (under r ws) r.floor & counted (under r ws) r.ceiling)

abbrev pub firm : (s : Sheet) → Dec (Firm s)
firm s =
    like (λ h. record { days = h.0; counts = h.1.0; each = h.1.1 }) (λ f. (f.days, (f.counts, f.each)))
    (each (λ w. le w.low w.high) s.windows & each (λ r. le r.floor r.ceiling) s.rules
    & each (firm_rule s.windows) s.rules)

-- a sheet inside another
abbrev pub narrower : (v w : Window) → Dec (Narrower v w)
narrower v w = le w.low v.low & le v.high w.high

abbrev pub stretch : ℕ → ℕ → Stretch
stretch first len = record { first = first; length = len }

abbrev pub same_stretch : (q r : Row) → Dec (q.stretch ≡ r.stretch)
same_stretch q r =
    like (λ h. ap₂ stretch h.0 h.1) (λ e. (ap (λ s. s.first) e, ap (λ s. s.length) e))
    (same q.stretch.first r.stretch.first & same q.stretch.length r.stretch.length)

abbrev pub stricter : (q r : Row) → Dec (Stricter q r)
stricter q r =
    like (λ h. record { stretch = h.0; floor = h.1.0; ceiling = h.1.1 }) (λ s. (s.stretch, (s.floor, s.ceiling)))
    (same_stretch q r & le r.floor q.floor & le q.ceiling r.ceiling)

abbrev pub inside : (t s : Sheet) → Dec (Inside t s)
inside t s =
    like (λ h. record { windows = h.0; counts = h.1 }) (λ i. (i.windows, i.counts))
    (pairs narrower t.windows s.windows & pairs stricter t.rules s.rules)

-- plans
abbrev pub choice : (ws : List Window) (ds : List ℕ) → Dec (Choice ws ds)
choice [] [] = yes tt
choice [] (d ∷ ds) = no (λ h. h)
choice (w ∷ ws) [] = no (λ h. h)
choice (w ∷ ws) (d ∷ ds) = day_of w d & choice ws ds

abbrev pub plan : (s : Sheet) (ds : List ℕ) → Dec (Plan s ds)
plan s ds =
    like (λ h. record { choice = h.0; keeps = h.1 }) (λ p. (p.choice, p.keeps))
    (choice s.windows ds & each (λ r. counts r.floor r.ceiling (under r ds)) s.rules)

-- days are the same as others, or earlier
abbrev pub NotLater : List ℕ → List ℕ → Type 0
NotLater (x ∷ xs) (y ∷ ys) = (x < y) ⊎ ((x ≡ y) × NotLater xs ys)
NotLater [] [] = Unit {0}
NotLater _ _ = ⊥

abbrev pub not_later : (xs ys : List ℕ) → Dec (NotLater xs ys)
not_later (x ∷ xs) (y ∷ ys) = either (le (suc x) y) (same x y & not_later xs ys)
not_later [] [] = yes tt
not_later [] (y ∷ ys) = no (λ h. h)
not_later (x ∷ xs) [] = no (λ h. h)

pub same_or_earlier : (xs ys : List ℕ) → NotLater xs ys → (ys ≡ xs) ⊎ Earlier xs ys
same_or_earlier [] [] h = inl refl
same_or_earlier [] (y ∷ ys) h = absurd h
same_or_earlier (x ∷ xs) [] h = absurd h
same_or_earlier (x ∷ xs) (y ∷ ys) (inl l) = inr (record { lot = 0; same = refl; smaller = l })
same_or_earlier (x ∷ xs) (y ∷ ys) (inr (e, h)) =
    elim (same_or_earlier xs ys h) [ inl s ↦ inl (cc) | inr s ↦ inr (earlier_cons x y xs ys e s) ]

-- the least count, and the greatest
abbrev pub apart : (v w : Window) → Dec (ShareNoDay v w)
apart v w = every_day v (λ d. fails (day_of w d))

abbrev pub disjoint : (ws : List Window) → Dec (Disjoint ws)
disjoint [] = yes tt
disjoint (w ∷ ws) = each (apart w) ws & disjoint ws
