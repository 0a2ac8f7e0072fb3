-- A file has just one sheet, and its trailer tells the truth.
use Rattle.std.proofs.Common.{◌≡◌, ℕ, ◌+◌, ◌-◌, ◌*◌, ◌/◌, ◌%◌, ◌≤◌, List, ◌++◌, length, get_or, take, drop, sym, ap, ◌∙◌, ap₂, arith}
use Rattle.std.proofs.lemmas.List.{append_assoc, drop_at, length-append, take_at}
use Rattle.store.specs.Checks.{Passes}
use Rattle.rules.specs.Sheets.{Sheet, sheet}
use Rattle.file.specs.Format.{Holds, lots_bytes, rules_bytes, trailer, file_of}
use Rattle.file.specs.Reads.{Ends, Agrees, lots_in, rules_in, place_in, read_checks}
use Rattle.file.proofs.Bytes.{length_lots, length_rules, lots_same, rules_same, same_at, whole}

pub length_file : (s : Sheet) → length (file_of s) ≡ 4 * length s.windows + 8 * length s.rules + 8
length_file s =
    let t = trailer (length s.windows) (length s.rules) in
    omega (arith, length-append (lots_bytes s.windows) (rules_bytes s.rules ++ t), length-append (rules_bytes s.rules) t, length_lots s.windows, length_rules s.rules)

-- its last eight bytes are the trailer
file_end : (s : Sheet) → drop (length (file_of s) - 8) (file_of s) ≡ trailer (length s.windows) (length s.rules)
file_end s =
    let lots = lots_bytes s.windows in
    let rules = rules_bytes s.rules in
    let t = trailer (length s.windows) (length s.rules) in
    let n = length (file_of s) - 8 in
    ap (drop n) (sym (append_assoc lots rules t))
    ∙ drop_at (lots ++ rules) t n (omega (arith, length_file s, length-append lots rules, length_lots s.windows, length_rules s.rules))

pub one_sheet : (s t : Sheet) → file_of s ≡ file_of t → s ≡ t
one_sheet s t e =
    let last = sym (file_end s) ∙ ap (λ f. drop (length f - 8) f) e ∙ file_end t in
    let lots : length s.windows ≡ length t.windows = whole _ _ (same_at 2 last) (same_at 3 last) in
    let rules : length s.rules ≡ length t.rules = whole _ _ (same_at 4 last) (same_at 5 last) in
    let n = 4 * length s.windows in
    let m = 8 * length s.rules in
    let mine = rules_bytes s.rules ++ trailer (length s.windows) (length s.rules) in
    let theirs = rules_bytes t.rules ++ trailer (length t.windows) (length t.rules) in
    let here : length (lots_bytes s.windows) ≡ n = length_lots s.windows in
    let there : length (lots_bytes t.windows) ≡ n = omega (arith, length_lots t.windows) in
    let front = sym (take_at (lots_bytes s.windows) mine n here) ∙ ap (take n) e ∙ take_at (lots_bytes t.windows) theirs n there in
    let back = sym (drop_at (lots_bytes s.windows) mine n here) ∙ ap (drop n) e ∙ drop_at (lots_bytes t.windows) theirs n there in
    let mid = sym (take_at (rules_bytes s.rules) _ m (length_rules s.rules)) ∙ ap (take m) back
    ∙ take_at (rules_bytes t.rules) _ m (omega (arith, length_rules t.rules)) in
    ap₂ sheet (lots_same s.windows t.windows front) (rules_same s.rules t.rules mid)

number_at : (xs : List ℕ) (k j n : ℕ) → get_or xs k 0 ≡ n % 256 → get_or xs j 0 ≡ n / 256
    → get_or xs k 0 + 256 * get_or xs j 0 ≡ n
number_at xs k j n low high = omega arith

-- the file of a sheet is in order
module _ (file : List ℕ) (s : Sheet) (h : Holds file s) where
  end_of : drop (length file - 8) file ≡ trailer (length s.windows) (length s.rules)
  end_of = ap (λ f. drop (length f - 8) f) h.is ∙ file_end s

  long : length file ≡ 4 * length s.windows + 8 * length s.rules + 8
  long = ap length h.is ∙ length_file s

  pub holds_ends : Ends file
  holds_ends = (omega (arith, long), same_at 6 end_of, same_at 7 end_of)

  pub holds_lots : lots_in file ≡ length s.windows
  holds_lots = number_at (drop (length file - 8) file) 2 3 _ (same_at 2 end_of) (same_at 3 end_of)

  pub holds_agrees : Agrees file
  holds_agrees =
      let last = drop (length file - 8) file in
      let place : place_in file ≡ 4 * length s.windows = number_at last 0 1 _ (same_at 0 end_of) (same_at 1 end_of) in
      let rules : rules_in file ≡ length s.rules = number_at last 4 5 _ (same_at 4 end_of) (same_at 5 end_of) in
      (omega (arith, holds_lots), omega (arith, long, holds_lots), omega (arith, holds_lots, h.few_lots), omega (arith, h.few_rules))

  -- so it is read where there are words enough
  pub holds_passes : (room : ℕ) → 2 * length s.windows ≤ room → Passes (read_checks file room)
  holds_passes room enough = (λ e n. n.0 holds_ends, (λ e n. n.0 holds_agrees, (λ e n. omega (arith, n.0, holds_lots), tt)))
