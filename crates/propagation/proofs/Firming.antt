-- One rule made firm: the sheet lies inside the one before, no firm sheet is lost, and the other rules stay.
use Rattle.std.proofs.Common.{◌≡◌, ℕ, ◌+◌, ◌<◌, ◌≤◌, List, ◌++◌, length, get_or, take, drop, set, refl, sym, ap, ◌∙◌, subst, arith}
use Rattle.std.proofs.lemmas.List.Elements.{AllZip-get_or, length_all_zip}
use Rattle.std.proofs.ByRecursion.{All-get_or}
use Rattle.std.proofs.lemmas.List.{get_or-set_other, get_or-set_same}
use Rattle.store.specs.declared.window.Window.{Window}
use Rattle.store.specs.Windows.{Narrower, Narrowed, window, window_at}
use Rattle.store.proofs.Narrowing.{narrowed_same}
use Rattle.nvalue.specs.Choices.{Choice, part}
use Rattle.nvalue.specs.Nvalue.{Counts}
use Rattle.nvalue.proofs.Choices.{choice_get_or}
use Rattle.nvalue.proofs.Stretches.{part_length}
use Rattle.rules.specs.declared.row.Row.{Row}
use Rattle.rules.specs.Sheets.{Sheet, sheet, row, rule_at, under}
use Rattle.rules.specs.Firm.{Counted, Firm, FirmRule, Inside, NoFirm, Stricter, Supported}
use Rattle.rules.proofs.Inside.{choice_narrower, each_drop, each_part, each_refl, each_take, stricter_refl}
use Rattle.propagator.specs.Tight.{NoSuchChoice, Tightest}
use Rattle.rules.specs.Sheets.{recounted}
use Rattle.propagation.specs.Changes.{written}
use Rattle.propagation.specs.Runs.{MakesFirm}
use Rattle.propagation.proofs.Each.{each_append, each_from_get_or, each_set_left, each_set_right}
use Rattle.propagation.proofs.Writing.{split_part, written_part}

-- a rule is firm by what is known of the windows under it
firm_rule_of : (vs ws : List Window) (r : Row) → under r ws ≡ vs → ((i : ℕ) → i < length vs → Supported vs r.floor r.ceiling i (window_at vs i).low)
    → ((i : ℕ) → i < length vs → Supported vs r.floor r.ceiling i (window_at vs i).high) → Counted vs r.floor → Counted vs r.ceiling → FirmRule ws r
firm_rule_of vs ws r e low high floor ceiling = record {
  low = subst (λ ss. (i : ℕ) → i < length ss → Supported ss r.floor r.ceiling i (window_at ss i).low) (sym e) low;
  high = subst (λ ss. (i : ℕ) → i < length ss → Supported ss r.floor r.ceiling i (window_at ss i).high) (sym e) high;
  floor = subst (λ ss. Counted ss r.floor) (sym e) floor;
  ceiling = subst (λ ss. Counted ss r.ceiling) (sym e) ceiling;
}

-- a day that some choice gives a lot
abbrev Chosen : List Window → ℕ → ℕ → Type 0
Chosen ws i day = (ds : List ℕ) × Choice ws ds × (get_or ds i 0 ≡ day)

-- windows whose ends are such days lie inside
chosen_narrow : (vs us : List Window) → length vs ≡ length us → ((i : ℕ) → i < length vs → Chosen us i (window_at vs i).low) → ((i : ℕ) → i < length vs → Chosen us i (window_at vs i).high) → Narrowed vs us
chosen_narrow vs us long low high =
    each_from_get_or Narrower vs us (window 0 0) long (λ i h.
    let l = low i h in
    let u = high i h in
    let b : i < length us = omega arith in
    (omega (arith, (choice_get_or us l.0 l.1 i b).0, l.2), omega (arith, (choice_get_or us u.0 u.1 i b).1, u.2)))

module _ (s : Sheet) (k : ℕ) (there : k < length s.rules) where
  abbrev r : Row
  r = rule_at s.rules k

  -- the rule as a firm sheet inside s has it
  abbrev of : Sheet → Row
  of u = rule_at u.rules k

  among : (u : Sheet) → Inside u s → k < length u.rules
  among u inside = omega (arith, length_all_zip Stricter u.rules s.rules inside.counts)

  stricter : (u : Sheet) → Inside u s → Stricter (of u) r
  stricter u inside = AllZip-get_or Stricter u.rules s.rules k (row 0 0 0 0) (row 0 0 0 0) inside.counts (among u inside)

  firm_of : (u : Sheet) → Firm u → Inside u s → FirmRule u.windows (of u)
  firm_of u firm inside = All-get_or (FirmRule u.windows) u.rules k (row 0 0 0 0) (among u inside) firm.each

  ordered_of : (u : Sheet) → Firm u → Inside u s → (of u).floor ≤ (of u).ceiling
  ordered_of u firm inside = All-get_or (λ q. q.floor ≤ q.ceiling) u.rules k (row 0 0 0 0) (among u inside) firm.counts

  same_stretch : (u : Sheet) → Inside u s → under (of u) u.windows ≡ under r u.windows
  same_stretch u inside = ap (λ t. part u.windows t.first t.length) (stricter u inside).stretch

  -- its choices are choices that the old rule allows
  allowed : (u : Sheet) → Inside u s → (ds : List ℕ) → Choice (under (of u) u.windows) ds → Choice (under r s.windows) ds
  allowed u inside ds c =
      choice_narrower (under r u.windows) (under r s.windows) ds (each_part Narrower u.windows s.windows r.stretch.first r.stretch.length inside.windows)
      (subst (λ vs. Choice vs ds) (same_stretch u inside) c)

  counted : (u : Sheet) → Inside u s → (ds : List ℕ) → Counts (of u).floor (of u).ceiling ds → Counts r.floor r.ceiling ds
  counted u inside ds c = let t = stricter u inside in (omega (arith, c.0, t.floor), omega (arith, c.1, t.ceiling))

  -- where no choice keeps the rule, no firm sheet lies inside
  pub no_firm : NoSuchChoice (under r s.windows) r.floor r.ceiling → NoFirm s
  no_firm none u firm inside =
      let c = (firm_of u firm inside).floor in
      let o = ordered_of u firm inside in
      none c.0 (allowed u inside c.0 c.1) (counted u inside c.0 (omega (arith, c.2), omega (arith, c.2)))

  module _ (us : List Window) (least most : ℕ) (room : r.stretch.first + r.stretch.length ≤ length s.windows) (tight : Tightest (under r s.windows) r.floor r.ceiling us least most) where
    abbrev now : Sheet
    now = sheet (written r.stretch.first us s.windows) (set s.rules k (recounted r least most))

    long : length us ≡ r.stretch.length
    long = tight.hull.each ∙ part_length s.windows r.stretch.first r.stretch.length room

    here : rule_at now.rules k ≡ recounted r least most
    here = get_or-set_same s.rules k (recounted r least most) (row 0 0 0 0) there

    -- windows inside the tightest ones in the stretch, and inside the old ones elsewhere, lie inside the new ones
    narrowed_now : (vs : List Window) → Narrowed vs s.windows → Narrowed (under r vs) us → Narrowed vs now.windows
    narrowed_now vs outer inner =
        let a = r.stretch.first in
        let n = r.stretch.length in
        let rest : Narrowed (drop (a + n) vs) (drop (a + length us) s.windows) = subst (λ m. Narrowed (drop (a + n) vs) (drop (a + m) s.windows)) (sym long) (each_drop Narrower (a + n) vs s.windows outer) in
        subst (λ xs. Narrowed xs now.windows) (split_part vs a n)
        (each_append Narrower (take a vs ++ under r vs) (drop (a + n) vs) (take a s.windows ++ us) (drop (a + length us) s.windows)
        (each_append Narrower (take a vs) (under r vs) (take a s.windows) us (each_take Narrower a vs s.windows outer) inner) rest)

    -- the tightest windows lie inside the old ones of the stretch
    tightest_inside : Narrowed us (under r s.windows)
    tightest_inside =
        chosen_narrow us (under r s.windows) tight.hull.each (λ i h. let c = tight.hull.low i (omega (arith, tight.hull.each)) in (c.0, c.1, c.3))
        (λ i h. let c = tight.hull.high i (omega (arith, tight.hull.each)) in (c.0, c.1, c.3))

    inside_now : Inside now s
    inside_now =
        let a = r.stretch.first in
        let ws = s.windows in
        let rest = subst (λ m. Narrowed (drop (a + length us) ws) (drop (a + m) ws)) long (narrowed_same (drop (a + length us) ws)) in
        let l = tight.least_is in
        let m = tight.most_is in
        record {
          windows =
              subst (Narrowed now.windows) (split_part ws a r.stretch.length)
              (each_append Narrower (take a ws ++ us) (drop (a + length us) ws) (take a ws ++ under r ws) (drop (a + r.stretch.length) ws)
              (each_append Narrower (take a ws) us (take a ws) (under r ws) (narrowed_same (take a ws)) tightest_inside) rest);
          counts =
              each_set_left Stricter s.rules s.rules k (recounted r least most) (row 0 0 0 0) (each_refl Stricter stricter_refl s.rules)
              (record { stretch = refl; floor = omega (arith, l.2.0, l.3); ceiling = omega (arith, m.2.1, m.3) });
        }

    firm_now : FirmRule now.windows (rule_at now.rules k)
    firm_now =
        let kept = tight.hull.kept in
        let l = tight.least_is in
        let m = tight.most_is in
        subst (FirmRule now.windows) (sym here)
        (firm_rule_of us now.windows (recounted r least most) (ap (part now.windows r.stretch.first) (sym long) ∙ written_part s.windows us r.stretch.first (omega (arith, long)))
        (λ i h. let c = tight.hull.low i (omega (arith, tight.hull.each)) in (c.0, kept c.0 c.1 c.2, tight.between c.0 c.1 c.2, c.3))
        (λ i h. let c = tight.hull.high i (omega (arith, tight.hull.each)) in (c.0, kept c.0 c.1 c.2, tight.between c.0 c.1 c.2, c.3))
        (l.0, kept l.0 l.1 l.2, l.3) (m.0, kept m.0 m.1 m.2, m.3))

    -- a day that the rule of a firm sheet supports is a day of some choice for the tightest windows
    chosen : (u : Sheet) → Inside u s → (i day : ℕ) → Supported (under (of u) u.windows) (of u).floor (of u).ceiling i day → Chosen us i day
    chosen u inside i day c = (c.0, tight.hull.kept c.0 (allowed u inside c.0 c.1) (counted u inside c.0 c.2), c.3)

    keeps_now : (u : Sheet) → Firm u → Inside u s → Inside u now
    keeps_now u firm inside =
        let f = firm_of u firm inside in
        let o = ordered_of u firm inside in
        let t = stricter u inside in
        let within : length (under (of u) u.windows) ≡ length us =
        ap length (same_stretch u inside) ∙ part_length u.windows r.stretch.first r.stretch.length (omega (arith, length_all_zip Narrower u.windows s.windows inside.windows)) ∙ sym long in
        let inner = chosen_narrow (under (of u) u.windows) us within (λ i h. chosen u inside i _ (f.low i h)) (λ i h. chosen u inside i _ (f.high i h)) in
        let low = f.floor in
        let high = f.ceiling in
        let below = tight.between low.0 (allowed u inside low.0 low.1) (counted u inside low.0 (omega (arith, low.2), omega (arith, low.2))) in
        let above = tight.between high.0 (allowed u inside high.0 high.1) (counted u inside high.0 (omega (arith, high.2), omega (arith, high.2))) in
        record {
          windows = narrowed_now u.windows inside.windows (subst (λ vs. Narrowed vs us) (same_stretch u inside) inner);
          counts =
              each_set_right Stricter u.rules s.rules k (recounted r least most) (row 0 0 0 0) inside.counts
              (record { stretch = t.stretch; floor = omega (arith, below.0, low.2); ceiling = omega (arith, above.1, high.2) });
        }

    pub made_firm : (t : Sheet) → t ≡ now → MakesFirm s k t
    made_firm t e =
        subst (MakesFirm s k) (sym e) (record {
          inside = inside_now;
          keeps = keeps_now;
          firm = firm_now;
          others = λ q n. get_or-set_other s.rules k q (recounted r least most) (row 0 0 0 0) n;
        })
