-- The fixpoint over all rules: what stays true from one run to the next, and what it gives at the end.
use Rattle.std.proofs.Common.{◌≡◌, ℕ, ◌<◌, ◌≤◌, false, true, length, get_or, set, sym, ap, ◌∙◌, subst, inl, inr, arith}
use Rattle.std.proofs.lemmas.List.Elements.{length_all_zip}
use Rattle.std.proofs.ByRecursion.{All-from_get_or, All-weaker}
use Rattle.std.proofs.lemmas.List.{get_or-set_other}
use Rattle.std.proofs.lemmas.Bool.{cases_eq}
use Rattle.store.specs.Sound.{Sound}
use Rattle.rules.specs.Sheets.{Sheet, row, rule_at}
use Rattle.rules.specs.Firm.{Firm, FirmRule, GreatestFirm, Inside}
use Rattle.rules.proofs.Firm.{firm_rule_under}
use Rattle.rules.proofs.Inside.{inside_refl, inside_trans}
use Rattle.propagation.specs.declared.problem.Problem.{Problem}
use Rattle.propagation.specs.declared.queue.Queue.{Queue}
use Rattle.propagation.specs.Problems.{sheet_in}
use Rattle.propagation.specs.Queues.{RestFirm, waits}
use Rattle.propagation.specs.Runs.{Ran}
use Rattle.propagation.proofs.Problems.{rules_ordered}

-- the present sheet lies inside the one at the start, no firm sheet is lost, and a rule that does not wait is firm
pub record Propagating (s t : Sheet) (queue : Queue) : Type 0 where
  pub inside : Inside t s
  pub keeps : (u : Sheet) → Firm u → Inside u s → Inside u t
  pub rest : RestFirm t queue

pub propagating_starts : (s : Sheet) (queue : Queue) → RestFirm s queue → Propagating s s queue
propagating_starts s queue rest = record { inside = inside_refl s; keeps = λ u firm inside. inside; rest = rest }

-- a rule that did not wait, and of which no window moved, is firm still
pub propagating_runs : (s t u : Sheet) (k : ℕ) (was left queue : Queue) → Propagating s t was → left.flags ≡ set was.flags k false → Ran k t u left queue → Propagating s u queue
propagating_runs s t u k was left queue p e ran = record {
  inside = inside_trans u t s ran.firm.inside p.inside;
  keeps = λ v firm inside. ran.firm.keeps v firm (p.keeps v firm inside);
  rest = λ q h f. elim (cases_eq q k) [
    | inl same ↦ subst (λ j. FirmRule u.windows (rule_at u.rules j)) (sym same) ran.firm.firm
    | inr other ↦
        let w = ran.wakes q h other f in
        let waited = sym (ap (λ fs. get_or fs q true) e ∙ get_or-set_other was.flags k q false true other) ∙ w.0 in
        let firm = p.rest q (omega (arith, length_all_zip _ u.rules t.rules ran.firm.inside.counts)) waited in
        firm_rule_under t.windows u.windows (rule_at u.rules q) w.1 (subst (FirmRule t.windows) (sym (ran.firm.others q other)) firm)
  ];
}

-- no rule waits
pub propagating_ends : (s : Sheet) (p : Problem) (queue : Queue) → Propagating s (sheet_in p) queue → ((q : ℕ) → q < length (sheet_in p).rules → waits queue q ≡ false) → GreatestFirm s (sheet_in p)
propagating_ends s p queue t none = record {
  firm = record {
    days = All-weaker Sound (λ w. w.low ≤ w.high) (λ w f. f.0) (sheet_in p).windows p.sound;
    counts = rules_ordered p;
    each = All-from_get_or (FirmRule (sheet_in p).windows) (sheet_in p).rules (row 0 0 0 0) (λ q h. t.rest q h (none q h));
  };
  inside = t.inside;
  greatest = t.keeps;
}
