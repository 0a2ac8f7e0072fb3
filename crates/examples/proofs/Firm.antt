-- A sheet that settles in one step: each day and each count that is taken off has no support.
use Rattle.std.proofs.Common.{◌≡◌, ℕ, suc, ◌-◌, ◌<◌, ◌≤◌, List, [], ◌∷◌, length, drop, slice_index, sym, ap, ◌∙◌, subst, arith}
use Rattle.std.specs.List.{AllZip, AllByRecursion}
use Rattle.std.proofs.ByRecursion.{All-get_or}
use Rattle.std.proofs.lemmas.List.{length-take, length-drop}
use Rattle.std.proofs.lemmas.List.Elements.{AllZip-get_or, length_all_zip}
use Rattle.store.specs.declared.window.Window.{Window}
use Rattle.store.specs.Windows.{window, window_at, Narrowed, Narrower}
use Rattle.nvalue.specs.Choices.{Choice, In}
use Rattle.nvalue.specs.Nvalue.{Counts}
use Rattle.nvalue.specs.Stretches.{Over}
use Rattle.nvalue.proofs.Stretches.{part_at}
use Rattle.rules.specs.declared.row.Row.{Row}
use Rattle.rules.specs.Sheets.{Sheet, under}
use Rattle.rules.specs.Firm.{Counted, Firm, FirmRule, GreatestFirm, Inside, NoFirm, Stricter, Supported, SupportsEach}
use Rattle.rules.proofs.Inside.{choice_narrower, each_part}

-- a rule has a choice that keeps it, and leaves a lot a day
abbrev pub Kept : List Window → Row → Type 0
Kept ws r = (ds : List ℕ) × Choice (under r ws) ds × Counts r.floor r.ceiling ds

abbrev pub Leaves : List Window → ℕ → ℕ → Row → Type 0
Leaves ws lot day r = Over r.stretch lot → Supported (under r ws) r.floor r.ceiling (lot - r.stretch.first) day

-- days that every rule leaves are in the windows of t, and counts that there are in its count windows
abbrev pub KeepsDays : Sheet → Sheet → Type 0
KeepsDays s t =
    (lot : ℕ) → lot < length s.windows → (day : ℕ) → In (window_at s.windows lot) day
    → AllByRecursion (Leaves s.windows lot day) s.rules → In (window_at t.windows lot) day

abbrev pub KeepsCounts : List Window → Row → Row → Type 0
KeepsCounts ws p r =
    (count : ℕ) → In (window r.floor r.ceiling) count → Counted (under r ws) count
    → In (window p.floor p.ceiling) count

narrowed_each : (vs ws : List Window) → length vs ≡ length ws
    → ((i : ℕ) → i < length vs → Narrower (window_at vs i) (window_at ws i)) → Narrowed vs ws
narrowed_each [] [] e h = tt
narrowed_each [] (w ∷ ws) e h = absurd (omega arith)
narrowed_each (v ∷ vs) [] e h = absurd (omega arith)
narrowed_each (v ∷ vs) (w ∷ ws) e h =
    (h 0 (omega arith), narrowed_each vs ws (omega arith) (λ i l. h (suc i) (omega arith)))

-- a rule that is firm and has a count window lies inside a wider one
record FirmIn (us : List Window) (q r : Row) : Type 0 where
  firm : FirmRule us q
  order : q.floor ≤ q.ceiling
  strict : Stricter q r

firm_in : (us : List Window) (qs rs : List Row) → AllByRecursion (FirmRule us) qs
    → AllByRecursion (λ q. q.floor ≤ q.ceiling) qs → AllZip Stricter qs rs → AllZip (FirmIn us) qs rs
firm_in us [] [] f o s = tt
firm_in us [] (r ∷ rs) f o s = absurd s
firm_in us (q ∷ qs) [] f o s = absurd s
firm_in us (q ∷ qs) (r ∷ rs) f o s = (record { firm = f.0; order = o.0; strict = s.0 }, firm_in us qs rs f.1 o.1 s.1)

-- a firm sheet inside s
module _ (s u : Sheet) (f : Firm u) (i : Inside u s) where
  -- a rule of it, and the wider one
  module _ (q r : Row) (in_r : FirmIn u.windows q r) where
    mine : under q u.windows ≡ under r u.windows
    mine = let e = in_r.strict.stretch in cc

    wider : (ds : List ℕ) → Choice (under q u.windows) ds → Choice (under r s.windows) ds
    wider ds c =
        choice_narrower (under r u.windows) (under r s.windows) ds
        (each_part Narrower u.windows s.windows r.stretch.first r.stretch.length i.windows)
        (subst (λ vs. Choice vs ds) mine c)

    kept : Kept s.windows r
    kept =
        let c = in_r.firm.floor in
        let w = in_r.strict in
        (c.0, wider c.0 c.1, (omega (arith, c.2, w.floor), omega (arith, c.2, in_r.order, w.ceiling)))

    -- an end of a window keeps its support, and a count stays one
    leaves : (end : Window → ℕ) → SupportsEach end u.windows q → (lot : ℕ) → lot < length u.windows
        → Leaves s.windows lot (end (window_at u.windows lot)) r
    leaves end supports lot there over =
        let first = r.stretch.first in
        let len = r.stretch.length in
        let place = lot - first in
        let long : place < length (under q u.windows) =
        omega (arith, over, ap length mine, length-take len (drop first u.windows), length-drop first u.windows) in
        let same = ap (λ vs. window_at vs place) mine in
        let at = part_at u.windows first len lot (window 0 0) over.0 over.1 in
        let c = supports place long in
        let w = in_r.strict in
        let day = subst (λ v. slice_index c.0 place ≡ end v) (same ∙ at) c.3 in
        (c.0, wider c.0 c.1, (omega (arith, c.2.0, w.floor), omega (arith, c.2.1, w.ceiling)), day)

    still_counted : (count : ℕ) → Counted (under q u.windows) count → Counted (under r s.windows) count
    still_counted count c = (c.0, wider c.0 c.1, c.2)

    counts_kept : (p : Row) → Stricter p r → KeepsCounts s.windows p r → Stricter q p
    counts_kept p a k =
        let w = in_r.strict in
        let o = in_r.order in
        record {
          stretch = w.stretch ∙ sym a.stretch;
          floor = (k q.floor (w.floor, omega (arith, o, w.ceiling)) (still_counted q.floor in_r.firm.floor)).0;
          ceiling = (k q.ceiling (omega (arith, o, w.floor), w.ceiling) (still_counted q.ceiling in_r.firm.ceiling)).1;
        }

  -- all rules
  each_rule : (P : Row → Type 0) → ((q r : Row) → FirmIn u.windows q r → P r) → (qs rs : List Row)
      → AllZip (FirmIn u.windows) qs rs → AllByRecursion P rs
  each_rule P h [] [] g = tt
  each_rule P h [] (r ∷ rs) g = absurd g
  each_rule P h (q ∷ qs) [] g = absurd g
  each_rule P h (q ∷ qs) (r ∷ rs) g = (h q r g.0, each_rule P h qs rs g.1)

  each_count : (qs ps rs : List Row) → AllZip (FirmIn u.windows) qs rs → AllZip Stricter ps rs
      → AllZip (KeepsCounts s.windows) ps rs → AllZip Stricter qs ps
  each_count [] [] rs g a k = tt
  each_count [] (p ∷ ps) [] g a k = absurd a
  each_count [] (p ∷ ps) (r ∷ rs) g a k = absurd g
  each_count (q ∷ qs) ps [] g a k = absurd g
  each_count (q ∷ qs) [] (r ∷ rs) g a k = absurd a
  each_count (q ∷ qs) (p ∷ ps) (r ∷ rs) g a k = (counts_kept q r g.0 p a.0 k.0, each_count qs ps rs g.1 a.1 k.1)

  rules_in : AllZip (FirmIn u.windows) u.rules s.rules
  rules_in = firm_in u.windows u.rules s.rules f.each f.counts i.counts

  kept_all : AllByRecursion (Kept s.windows) s.rules
  kept_all = each_rule (Kept s.windows) kept u.rules s.rules rules_in

  left : (end : Window → ℕ) → ((q : Row) → FirmRule u.windows q → SupportsEach end u.windows q)
      → (lot : ℕ) → lot < length u.windows
      → AllByRecursion (Leaves s.windows lot (end (window_at u.windows lot))) s.rules
  left end ends lot there =
      each_rule (Leaves s.windows lot (end (window_at u.windows lot)))
      (λ q r g. leaves q r g end (ends q g.firm) lot there) u.rules s.rules rules_in

  -- it lies inside t too, if t keeps what has a support
  inside_kept : (t : Sheet) → Inside t s → KeepsDays s t → AllZip (KeepsCounts s.windows) t.rules s.rules
      → Inside u t
  inside_kept t j days counts = record {
    windows =
        narrowed_each u.windows t.windows (long ∙ sym (length_all_zip Narrower t.windows s.windows j.windows)) each;
    counts = each_count u.rules t.rules s.rules rules_in j.counts counts;
  }
    where
      long : length u.windows ≡ length s.windows
      long = length_all_zip Narrower u.windows s.windows i.windows

      each : (lot : ℕ) → lot < length u.windows → Narrower (window_at u.windows lot) (window_at t.windows lot)
      each lot there =
          let v = window_at u.windows lot in
          let in_s = AllZip-get_or Narrower u.windows s.windows lot (window 0 0) (window 0 0) i.windows there in
          let order = All-get_or (λ w. w.low ≤ w.high) u.windows lot (window 0 0) there f.days in
          let stays = days lot (omega (arith, long, there)) in
          let low = stays v.low (in_s.0, omega (arith, order, in_s.1)) (left (λ w. w.low) (λ q g. g.low) lot there) in
          let last = left (λ w. w.high) (λ q g. g.high) lot there in
          (low.0, (stays v.high (omega (arith, order, in_s.0), in_s.1) last).1)

pub greatest_firm : (s t : Sheet) → Firm t → Inside t s → KeepsDays s t
    → AllZip (KeepsCounts s.windows) t.rules s.rules → GreatestFirm s t
greatest_firm s t f i days counts =
    record { firm = f; inside = i; greatest = λ u g j. inside_kept s u g j t i days counts }

-- nothing is firm where some rule has no choice
pub none_firm : (s : Sheet) → (AllByRecursion (Kept s.windows) s.rules → ⊥) → NoFirm s
none_firm s n u f i = n (kept_all s u f i)
