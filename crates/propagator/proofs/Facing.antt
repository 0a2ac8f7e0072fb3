-- A reach goes on to the next day, past those that it has seen.
use Rattle.std.proofs.Common.{◌≡◌, ℕ, ◌+◌, ◌<◌, ◌≤◌, min, max, Bool, ◌⊎◌, List, get_or, inl, inr, arith}
use Rattle.std.proofs.lemmas.Bool.{cases_lt}
use Rattle.store.specs.declared.window.Window.{Window}
use Rattle.propagator.specs.declared.reach.Reach.{Reach}
use Rattle.propagator.specs.Supports.{Best}
use Rattle.propagator.specs.Reach.{Facing, CanReach, Passed, Seen, ShutOut}

module _ (ws : List Window) (days : List ℕ) (spare : List Bool) (lot : ℕ) where
  -- at first no day is seen
  pub facing_at : (day : ℕ) (reach : Reach) → reach.low ≡ day → reach.high ≡ day → reach.from ≡ day → reach.to ≡ day → Facing ws days spare lot day reach
  facing_at day reach l h f t = record {
    can_reach = (omega arith, omega arith);
    only = λ e o u. omega (arith, o.0, o.1);
    passed = record {
      held = λ e s. absurd (omega (arith, s.0, s.1));
      closed = λ k b s. absurd (omega (arith, s.0, s.1));
      own = λ s. absurd (omega (arith, s.0, s.1));
    };
  }

  -- a best choice that gives the lot the day or a later one gives it one past the way
  pub past : (day : ℕ) (reach : Reach) → ShutOut ws days spare lot day reach → (ds : List ℕ) → Best ws ds → day ≤ get_or ds lot 0 → reach.high < get_or ds lot 0
  past day reach s ds b l = elim (cases_lt reach.high (get_or ds lot 0)) [ inl a ↦ a | inr a ↦ absurd (s.no_support ds b (omega (arith, s.can_reach.0), a)) ]

  -- or the day or an earlier one, one before it
  pub ahead : (day : ℕ) (reach : Reach) → ShutOut ws days spare lot day reach → (ds : List ℕ) → Best ws ds → get_or ds lot 0 ≤ day → get_or ds lot 0 < reach.low
  ahead day reach s ds b l = elim (cases_lt (get_or ds lot 0) reach.low) [ inl a ↦ a | inr a ↦ absurd (s.no_support ds b (a, omega (arith, s.can_reach.1))) ]

  module _ (day next : ℕ) (was is : Reach) (s : ShutOut ws days spare lot day was) (low : is.low ≡ min was.low next) (high : is.high ≡ max was.high next) (from : is.from ≡ was.from) (to : is.to ≡ was.to) where
    back : (e : ℕ) → Seen is e → Seen was e
    back e q = (omega (arith, q.0), omega (arith, q.1))

    seen : (e : ℕ) → CanReach was e → Seen is e
    seen e o = (omega (arith, o.0, s.from), omega (arith, o.1, s.to))

    passed : Passed ws days spare lot is
    passed = record {
      held = λ e q. s.passed.held e (back e q);
      closed = λ k b q. elim (s.passed.closed k b (back (get_or days k 0) q)) [
        | inl l ↦ inl l
        | inr f ↦ inr (λ d i. let o = f d i in (omega (arith, o.0), omega (arith, o.1)))
      ];
      own = λ q. s.passed.own (back (get_or days lot 0) q);
    }

    -- the next day beside the way, on either side
    pub facing_next : (next ≡ was.high + 1) ⊎ (next + 1 ≡ was.low) → Facing ws days spare lot next is
    facing_next (inl e) = record {
      can_reach = (omega (arith, s.can_reach.0, s.can_reach.1), omega arith);
      only = λ d o u. elim (cases_lt was.high d) [ inl a ↦ omega (arith, o.1) | inr a ↦ absurd (u (seen d (omega (arith, o.0, s.can_reach.0, s.can_reach.1), a))) ];
      passed = passed;
    }
    facing_next (inr e) = record {
      can_reach = (omega arith, omega (arith, s.can_reach.0, s.can_reach.1));
      only = λ d o u. elim (cases_lt d was.low) [ inl a ↦ omega (arith, o.0) | inr a ↦ absurd (u (seen d (a, omega (arith, o.1, s.can_reach.0, s.can_reach.1)))) ];
      passed = passed;
    }
