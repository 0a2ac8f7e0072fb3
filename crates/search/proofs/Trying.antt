-- What the search keeps while it tries the days of a lot, and why it ends well.
use Rattle.std.proofs.Common.{◌≡◌, ℕ, ◌<◌, List, length, arith}
use Rattle.std.specs.List.{AllByRecursion}
use Rattle.std.proofs.lemmas.List.Elements.{length_all_zip}
use Rattle.std.proofs.ByRecursion.{All-get_or}
use Rattle.store.specs.Sound.{Sound}
use Rattle.store.specs.Windows.{window, window_at, Narrowed, Narrower}
use Rattle.store.proofs.Narrowing.{narrowed_same, narrowed_trans}
use Rattle.rules.specs.Firm.{Firm}
use Rattle.rules.specs.Plans.{Earliest, SamePlans}
use Rattle.rules.specs.Sheets.{Sheet}
use Rattle.search.specs.Search.{Open, Raised, Single, fixed}
use Rattle.propagation.specs.Widths.{width}
use Rattle.search.proofs.Left.{earliest_fixed, same_earliest, same_refl, same_trans, single_narrower}
use Rattle.search.proofs.Widths.{width_fixed, width_fixed_open, width_narrower}

-- The sheet t is left of s: firm, and with the same plans.
pub record Trying (s : Sheet) (lot : ℕ) (t : Sheet) : Type 0 where
  pub sound : AllByRecursion Sound t.windows
  pub firm : Firm t
  pub inside : Narrowed t.windows s.windows
  pub plans : SamePlans s t
  pub less : width (fixed lot t).windows < width s.windows

pub trying_none : (s : Sheet) (lot : ℕ) → AllByRecursion Sound s.windows → Firm s → Open s.windows lot → Trying s lot s
trying_none s lot sound f o = record {
  sound = sound;
  firm = f;
  inside = narrowed_same s.windows;
  plans = same_refl s;
  less = width_fixed_open s lot o.there o.many;
}

module _ (s : Sheet) (lot : ℕ) (o : Open s.windows lot) (t : Sheet) (r : Trying s lot t) where
  trying_length : length t.windows ≡ length s.windows
  trying_length = length_all_zip Narrower t.windows s.windows r.inside

  -- one more day has failed
  pub trying_more : (u : Sheet) → Raised t u → Trying s lot u
  trying_more u more =
      let n = length_all_zip Narrower u.windows t.windows more.inside in
      record {
        sound = more.sound;
        firm = more.firm;
        inside = narrowed_trans u.windows t.windows s.windows more.inside r.inside;
        plans = same_trans s t u r.plans more.plans;
        less = omega (arith, more.less, width_narrower t.windows s.windows r.inside, width_fixed u lot (omega (arith, o.there, trying_length)));
      }

  -- the lot is there still
  pub trying_there : lot < length t.windows
  trying_there = omega (arith, o.there, trying_length)

  -- the earliest plan with the first day is the earliest of all, where the lots before have no choice
  pub trying_found : ((k : ℕ) → k < lot → Single (window_at s.windows k)) → (ds : List ℕ) → Earliest (fixed lot t) ds → Earliest s ds
  trying_found before ds e =
      let h = trying_there in
      let full = All-get_or Sound t.windows lot (window 0 0) h r.sound in
      let alone = single_narrower t.windows s.windows lot r.inside (omega (arith, o.there)) before in
      same_earliest s t ds r.plans (earliest_fixed t lot h ds full.0 alone e)
