-- The host call, from planning the file into as many words as the output has room for.
use Rattle.std.proofs.Common.{◌≡◌, ℕ, ◌*◌, ◌/◌, ◌≤◌, ◌⊎◌, ◌≢◌, min, List, [], ◌∷◌, ◌++◌, length, take, drop, sym, refl, ap, ◌∙◌, subst, inl, inr, arith}
use Rattle.std.specs.List.{AllByRecursion}
use Rattle.std.proofs.lemmas.Bool.{cases_lt}
use Rattle.store.specs.Checks.{Refused, here, later}
use Rattle.store.specs.declared.window.Window.{Window}
use Rattle.store.specs.Sound.{Sound}
use Rattle.nvalue.specs.Choices.{Choice}
use Rattle.rules.specs.Plans.{Earliest}
use Rattle.rules.specs.Sheets.{Sheet}
use Rattle.sheet.specs.declared.fault.SheetFault.{SheetFault}
use Rattle.file.specs.Numbers.{Small}
use Rattle.file.specs.declared.fault.FileFault.{FileFault}
use Rattle.file.specs.Faults.{number_of, place_of}
use Rattle.file.proofs.Bytes.{length_numbers}
use Rattle.listing.specs.Text.{list_of, refusal_line}
use Rattle.reply.specs.declared.reply.Replied.{Replied}
use Rattle.reply.specs.declared.reply.Replied.TheVariants.{Refusal}
use Rattle.reply.specs.Files.{PlanOf, Refuses, last_checks, unread, unfit, unplanned}
use Rattle.reply.specs.Replies as replies
use Rattle.reply.specs.Replies.{Text}
use Rattle.reply.proofs.Determined.{Short, one_plan, one_refusal, planned_or_refused, short_refused}
use Rattle.reply.proofs.Replies.{days_in}
use Rattle.host.specs.Calls.{AgreesWithDayplan, Calls, SaysSame, both_plan, both_refuse, days_bytes, planned, refused, short_output}

-- the days of a season are small numbers
small_days : (ws : List Window) (ds : List ℕ) → AllByRecursion Sound ws → Choice ws ds → AllByRecursion Small ds
small_days [] [] s c = tt
small_days [] (d ∷ ds) s c = absurd c
small_days (w ∷ ws) [] s c = tt
small_days (w ∷ ws) (d ∷ ds) s c = (omega (arith, s.0, c.0), small_days ws ds s.1 c.1)

-- what stands in the first words after a file was planned into them
module _ (file was is : List ℕ) (n : ℕ) (p : PlanOf file was is n) where
  pub got_small : AllByRecursion Small (take n is)
  got_small = subst (AllByRecursion Small) (sym (days_in file was is n p).0) (small_days p.s.windows p.days p.accepted.sound p.first.plan.choice)

  pub calls_planned : (output : List ℕ) → length was ≡ min 256 (length output / 2)
      → Calls file output 0 (days_bytes (take n is) ++ drop (2 * n) output)
  calls_planned output room =
      let days = days_in file was is n p in
      let long : 2 * n ≡ length (days_bytes (take n is)) = omega (arith, length_numbers (take n is), ap length days.0, days.1) in
      planned p.s (take n is) p.accepted (subst (Earliest p.s) (sym days.0) p.first) (omega (arith, p.room)) refl
      (ap (λ k. days_bytes (take n is) ++ drop k output) long)

-- with room for as many days, or for every sheet, the same refusal is met first
same_last : (s : Sheet) (room half : ℕ) (why : SheetFault) → room ≡ min 256 half → length s.windows ≤ 256
    → Refused (last_checks s room) why → Refused (last_checks s half) why
same_last s room half why r few (here short) = here (omega (arith, short.0), short.1)
same_last s room half why r few (later n (here none)) = later (λ e h. n e (omega (arith, h.0), h.1)) (here none)
same_last s room half why r few (later _ (later _ n)) = absurd n

pub calls_refused : (file output : List ℕ) (room : ℕ) (e : FileFault) → room ≡ min 256 (length output / 2) → Refuses file room e
    → Calls file output (number_of e) output
calls_refused file output room e enough (unread r) = refused e (unread r) refl refl
calls_refused file output room e enough (unfit s why h r is) = refused e (unfit s why h r is) refl refl
calls_refused file output room e enough (unplanned s why a r is) =
    refused e (unplanned s why a (same_last s room (length output / 2) why enough a.holds.few_lots r) is) refl refl

-- no refusal has the number 0
some_number : (e : FileFault) → number_of e ≢ 0
some_number e = λ h. grind arith

-- a call that was refused, beside the line that dayplan prints
line_agrees : (file was text : List ℕ) (told : Replied) (number : ℕ) (e f : FileFault) → (e ≡ f) ⊎ Short file (length was / 2) e
    → number ≡ number_of e → text ≡ refusal_line (number_of f) (place_of f) → told ≡ Refusal (length text)
    → SaysSame file was number was text told
line_agrees file was text told number e f (inl same) n l t =
    let number_is : number ≡ number_of f = n ∙ ap number_of same in
    both_refuse (place_of f) t (l ∙ ap (λ k. refusal_line k (place_of f)) (sym number_is)) (λ z. some_number e (sym n ∙ z)) refl
line_agrees file was text told number e f (inr s) n l t = short_output s.s s.accepted (omega (arith, s.few)) (n ∙ ap number_of s.told) refl

pub calls_agree : (file was : List ℕ) (number : ℕ) (is : List ℕ) → Calls file was number is → AgreesWithDayplan file was number is
calls_agree file was number is (planned s ds a first room n e) text told (replies.Text.plan t other b second l u) =
    let days : other ≡ ds = one_plan file t s other ds b a second first in
    both_plan ds u (l ∙ ap list_of days) n e
calls_agree file was number is (planned s ds a first room n e) text told (replies.Text.refusal f r _ _) =
    absurd (planned_or_refused file s a 256 ds f first a.holds.few_lots r)
calls_agree file was number is (refused e r n same) text told (replies.Text.plan s ds a first l t) =
    elim (cases_lt (length was / 2) (length s.windows)) [
      | inl few ↦ short_output s a (omega arith) (n ∙ ap number_of (short_refused file s a (length was / 2) e few r)) same
      | inr h ↦ absurd (planned_or_refused file s a (length was / 2) ds e first h r)
    ]
calls_agree file was number is (refused e r n same) text told (replies.Text.refusal f q l t) =
    subst (λ xs. SaysSame file was number xs text told) (sym same)
    (line_agrees file was text told number e f (one_refusal file (length was / 2) e f r q) n l t)
