-- Ten worked examples: what goes in, and what the definitions make of it.
use Rattle.std.specs.Prelude.{ℕ, List, [], ◌∷◌, codes}
use Rattle.std.specs.List.{AllByRecursion}
use Rattle.store.specs.declared.window.Window.{Window}
use Rattle.store.specs.Windows.{window}
use Rattle.rules.specs.Sheets.{Sheet, sheet, row as rule}
use Rattle.examples.specs.Claims.{Claim, Holds, settles, nothing_firm, plans, no_plan, fewest, most}
use Rattle.examples.specs.Claims.{before_dispatch, in_one_period, mask}

pub record Example : Type 0 where
  pub name : List ℕ
  pub claims : List Claim

abbrev spread : List Window
spread = window 3 5 ∷ window 4 8 ∷ window 6 9 ∷ window 1 2 ∷ window 9 12 ∷ []

abbrev crowded : List Window
crowded = window 1 2 ∷ window 1 2 ∷ window 1 2 ∷ window 2 4 ∷ window 4 4 ∷ []

-- five lots that take from floor to ceiling different days
abbrev five : List Window → ℕ → ℕ → Sheet
five ws floor ceiling = sheet ws (rule 0 5 floor ceiling ∷ [])

abbrev one : ℕ → Sheet
one floor = sheet (window 7 7 ∷ []) (rule 0 1 floor 1 ∷ [])

-- neighbours share a day, and all three lots do not
abbrev in_pairs : ℕ → Sheet
in_pairs ceiling =
    sheet (window 1 2 ∷ window 1 2 ∷ window 1 2 ∷ []) (rule 0 2 1 1 ∷ rule 1 2 1 1 ∷ rule 0 3 2 ceiling ∷ [])

abbrev pub table : List Example
table =
    record {
      name = codes "no lots and no rule";
      claims = settles (sheet [] []) (sheet [] []) ∷ plans (sheet [] []) [] 0 ∷ [];
    }
    ∷ record {
      name = codes "one lot and one rule";
      claims = settles (one 0) (one 1) ∷ plans (one 0) (7 ∷ []) 1 ∷ [];
    }
    ∷ record {
      name = codes "five lots on three days";
      claims =
          settles (five spread 0 3) (five (window 4 5 ∷ window 4 5 ∷ window 9 9 ∷ window 1 2 ∷ window 9 9 ∷ []) 3 3)
          ∷ plans (five spread 0 3) (4 ∷ 4 ∷ 9 ∷ 1 ∷ 9 ∷ []) 3 ∷ [];
    }
    ∷ record {
      name = codes "five lots on two days";
      claims =
          nothing_firm (five spread 0 2) 25 ∷ no_plan (five spread 0 2) 26 ∷ fewest spread (3 ∷ 0 ∷ 2 ∷ []) ∷ [];
    }
    ∷ record {
      name = codes "five lots on four days or more";
      claims =
          settles (five crowded 4 5) (five (window 1 2 ∷ window 1 2 ∷ window 1 2 ∷ window 3 3 ∷ window 4 4 ∷ []) 4 4)
          ∷ plans (five crowded 4 5) (1 ∷ 1 ∷ 2 ∷ 3 ∷ 4 ∷ []) 4 ∷ [];
    }
    ∷ record {
      name = codes "five lots on five days";
      claims =
          nothing_firm (five crowded 5 5) 25 ∷ no_plan (five crowded 5 5) 26
          ∷ most crowded (window 1 2 ∷ []) 4 ∷ [];
    }
    ∷ record {
      name = codes "three rules that no plan keeps";
      claims = settles (in_pairs 3) (in_pairs 2) ∷ no_plan (in_pairs 3) 26 ∷ [];
    }
    ∷ record {
      name = codes "one lot before dispatch";
      claims = before_dispatch 10 (window 2 4) (window 6 8) 7 (window 2 3) ∷ [];
    }
    ∷ record {
      name = codes "one lot in weeks";
      claims = in_one_period 7 (window 5 20) (window 0 2) 1 (window 7 13) ∷ [];
    }
    ∷ record { name = codes "one lot on a mask with a gap"; claims = mask 104 (window 3 6) 4 112 ∷ [] }
    ∷ []

abbrev pub Shown : Example → Type 0
Shown example = AllByRecursion Holds example.claims

-- every claim of every example holds
abbrev pub AllShown : Type 0
AllShown = AllByRecursion Shown table
