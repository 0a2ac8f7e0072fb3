-- When two answers say the same: they are of one kind, and alike in every word.
use Rattle.std.specs.Prelude.{◌≡◌}
use Rattle.answers.specs.declared.answer.Answer.{Answer}
use Rattle.answers.specs.declared.answer.Answer.TheVariants.{Windows, Plan, Days, Number, Holds, Refused}

abbrev pub Same : Answer → Answer → Type 0
Same (Windows a) (Windows b) = (a.windows.items ≡ b.windows.items) × (a.rules.items ≡ b.rules.items)
Same (Plan a m) (Plan b n) = (a.items ≡ b.items) × (m ≡ n)
Same (Days a) (Days b) = a.items ≡ b.items
Same (Number a) (Number b) = a ≡ b
Same (Holds a) (Holds b) = a ≡ b
Same (Refused a) (Refused b) = a ≡ b
Same _ _ = ⊥
