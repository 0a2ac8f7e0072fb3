-- Laws of lying inside: order, choices and plans, and parts of lists that go place by place.
use Rattle.std.proofs.Common.{◌≡◌, ℕ, zero, suc, List, [], ◌∷◌, take, drop, refl, ap, ◌∙◌, arith}
use Rattle.std.specs.List.{AllZip, AllByRecursion}
use Rattle.store.specs.declared.window.Window.{Window}
use Rattle.store.specs.Windows.{Narrowed}
use Rattle.store.proofs.Narrowing.{narrowed_same, narrowed_trans}
use Rattle.nvalue.specs.Choices.{Choice, part}
use Rattle.nvalue.specs.Nvalue.{nvalue}
use Rattle.rules.specs.declared.row.Row.{Row}
use Rattle.rules.specs.Sheets.{Sheet}
use Rattle.rules.specs.Plans.{Keeps, Plan}
use Rattle.rules.specs.Firm.{Stricter, Inside}

module _ {X : Type 0} (R : X → X → Type 0) where
  -- where R ties each element to itself, a list is tied to itself
  pub each_refl : ((x : X) → R x x) → (xs : List X) → AllZip R xs xs
  each_refl r [] = tt
  each_refl r (x ∷ xs) = (r x, each_refl r xs)

  -- where R goes on from element to element, it does so from list to list
  pub each_trans : ((x y z : X) → R x y → R y z → R x z) → (xs ys zs : List X) → AllZip R xs ys → AllZip R ys zs → AllZip R xs zs
  each_trans t [] [] zs p q = q
  each_trans t [] (y ∷ ys) zs p q = absurd p
  each_trans t (x ∷ xs) [] zs p q = absurd p
  each_trans t (x ∷ xs) (y ∷ ys) [] p q = absurd q
  each_trans t (x ∷ xs) (y ∷ ys) (z ∷ zs) p q = (t x y z p.0 q.0, each_trans t xs ys zs p.1 q.1)

  -- the first elements are tied too
  pub each_take : (n : ℕ) (xs ys : List X) → AllZip R xs ys → AllZip R (take n xs) (take n ys)
  each_take zero xs ys e = tt
  each_take (suc n) [] [] e = tt
  each_take (suc n) [] (y ∷ ys) e = absurd e
  each_take (suc n) (x ∷ xs) [] e = absurd e
  each_take (suc n) (x ∷ xs) (y ∷ ys) e = (e.0, each_take n xs ys e.1)

  -- and so are those after them
  pub each_drop : (n : ℕ) (xs ys : List X) → AllZip R xs ys → AllZip R (drop n xs) (drop n ys)
  each_drop zero xs ys e = e
  each_drop (suc n) [] [] e = tt
  each_drop (suc n) [] (y ∷ ys) e = absurd e
  each_drop (suc n) (x ∷ xs) [] e = absurd e
  each_drop (suc n) (x ∷ xs) (y ∷ ys) e = each_drop n xs ys e.1

  -- and a stretch
  pub each_part : (xs ys : List X) (a n : ℕ) → AllZip R xs ys → AllZip R (part xs a n) (part ys a n)
  each_part xs ys a n e = each_take n (drop a xs) (drop a ys) (each_drop a xs ys e)

-- a rule is as strict as itself
pub stricter_refl : (r : Row) → Stricter r r
stricter_refl r = record { stretch = refl; floor = omega arith; ceiling = omega arith }

-- a rule stricter than a stricter one is stricter
pub stricter_trans : (p q r : Row) → Stricter p q → Stricter q r → Stricter p r
stricter_trans p q r s t = record { stretch = s.stretch ∙ t.stretch; floor = omega arith; ceiling = omega arith }

-- a sheet lies inside itself
pub inside_refl : (s : Sheet) → Inside s s
inside_refl s = record { windows = narrowed_same s.windows; counts = each_refl Stricter stricter_refl s.rules }

-- what lies inside what lies inside a sheet lies inside it
pub inside_trans : (s t u : Sheet) → Inside s t → Inside t u → Inside s u
inside_trans s t u i j = record {
  windows = narrowed_trans s.windows t.windows u.windows i.windows j.windows;
  counts = each_trans Stricter stricter_trans s.rules t.rules u.rules i.counts j.counts;
}

-- a choice for narrower windows is one for the wider
pub choice_narrower : (vs ws : List Window) (ds : List ℕ) → Narrowed vs ws → Choice vs ds → Choice ws ds
choice_narrower [] [] ds e c = c
choice_narrower [] (w ∷ ws) ds e c = absurd e
choice_narrower (v ∷ vs) [] ds e c = absurd e
choice_narrower (v ∷ vs) (w ∷ ws) [] e c = absurd c
choice_narrower (v ∷ vs) (w ∷ ws) (d ∷ ds) (n, e) (b, c) = ((omega arith, omega arith), choice_narrower vs ws ds e c)

-- days that keep a rule keep every one that it is stricter than
pub keeps_stricter : (q r : Row) (ds : List ℕ) → Stricter q r → Keeps ds q → Keeps ds r
keeps_stricter q r ds s k =
    let same : part ds q.stretch.first q.stretch.length ≡ part ds r.stretch.first r.stretch.length = ap (λ t. part ds t.first t.length) s.stretch in
    let n = ap nvalue same in
    (omega arith, omega arith)

-- and so with all rules
pub keeps_each : (qs rules : List Row) (ds : List ℕ) → AllZip Stricter qs rules → AllByRecursion (Keeps ds) qs → AllByRecursion (Keeps ds) rules
keeps_each [] [] ds e k = tt
keeps_each [] (r ∷ rules) ds e k = absurd e
keeps_each (q ∷ qs) [] ds e k = absurd e
keeps_each (q ∷ qs) (r ∷ rules) ds (s, e) (k, ks) = (keeps_stricter q r ds s k, keeps_each qs rules ds e ks)

-- a plan of a sheet inside another is one of the other
pub plan_inside : (s t : Sheet) (ds : List ℕ) → Inside s t → Plan s ds → Plan t ds
plan_inside s t ds i p = record {
  choice = choice_narrower s.windows t.windows ds i.windows p.choice;
  keeps = keeps_each s.rules t.rules ds i.counts p.keeps;
}
