-- The text of a plan: one line for each lot, then the number of different days. The byte 10 ends a line.
use Rattle.std.specs.Prelude.{ℕ, suc, List, [], ◌∷◌, ◌++◌, codes, decimal}
use Rattle.store.specs.Texts.{refused_text}
use Rattle.nvalue.specs.Nvalue.{nvalue}

-- a word, with its space, and a number: `decimal` is its shortest decimal form, as the law on it says
abbrev pub entry : List ℕ → ℕ → List ℕ
entry word n = word ++ decimal n

-- a line with two of them
abbrev pub pair_line : List ℕ → ℕ → List ℕ → ℕ → List ℕ
pair_line word m other n = (entry word m ++ entry other n) ++ 10 ∷ []

-- `lot N day D`
abbrev pub lot_line : ℕ → ℕ → List ℕ
lot_line lot day = pair_line (codes "lot ") lot (codes " day ") day

-- `days C`
abbrev pub count_line : ℕ → List ℕ
count_line count = entry (codes "days ") count ++ 10 ∷ []

-- `refused R place P`
abbrev pub refusal_line : ℕ → ℕ → List ℕ
refusal_line number place = refused_text number place ++ 10 ∷ []

-- the lines of the lots, of which the first has this number
unfoldable pub lines_from : ℕ → List ℕ → List ℕ
lines_from lot [] = []
lines_from lot (day ∷ days) = lot_line lot day ++ lines_from (suc lot) days

-- the whole text
abbrev pub list_of : List ℕ → List ℕ
list_of days = lines_from 0 days ++ count_line (nvalue days)
