-- A file that agrees with its trailer is that of the lots and the rules in its bytes.
use Rattle.std.proofs.Common.{◌≡◌, ℕ, ◌+◌, ◌-◌, ◌*◌, ◌<◌, ◌≤◌, List, [], ◌∷◌, ◌++◌, length, get_or, set, take, drop, sym, refl, ap, ◌∙◌, ap₂, arith, suc}
use Rattle.std.specs.List.{AllByRecursion}
use Rattle.std.proofs.ByRecursion.{All-drop}
use Rattle.std.proofs.lemmas.List.{drop-drop, length-drop, length-take-le, take-append-drop}
use Rattle.store.specs.declared.window.Window.{Window}
use Rattle.store.specs.Pairs.{paired, rewritten}
use Rattle.rules.specs.declared.row.Row.{Row}
use Rattle.rules.specs.Sheets.{sheet}
use Rattle.file.specs.Format.{Holds, lots_bytes, rule_bytes, rules_bytes}
use Rattle.file.specs.Numbers.{two}
use Rattle.file.specs.Reads.{Ends, Agrees, place_in, lots_in, rules_in}
use Rattle.file.proofs.Bytes.{Byte, join, length_lots, length_rules, rule_held, same_at}

pub rewritten_none : (was : List ℕ) → rewritten was [] ≡ was
rewritten_none [] = refl
rewritten_none (x ∷ []) = refl
rewritten_none (x ∷ y ∷ was) = refl

-- one more window over the next two words
pub rewritten_more : (was : List ℕ) (ws : List Window) (w : Window) → 2 * length ws + 1 < length was
    → set (set (rewritten was ws) (2 * length ws) w.low) (2 * length ws + 1) w.high ≡ rewritten was (ws ++ w ∷ [])
rewritten_more [] ws w b = absurd (omega arith)
rewritten_more (x ∷ []) ws w b = absurd (omega arith)
rewritten_more (x ∷ y ∷ was) [] w b = ap (λ rest. w.low ∷ w.high ∷ rest) (sym (rewritten_none was))
rewritten_more (x ∷ y ∷ was) (v ∷ ws) w b =
    let low : 2 * suc (length ws) ≡ suc (suc (2 * length ws)) = omega arith in
    let high : 2 * suc (length ws) + 1 ≡ suc (suc (2 * length ws + 1)) = omega arith in
    rw (high, low) (ap (λ rest. v.low ∷ v.high ∷ rest) (rewritten_more was ws w (omega arith)))

-- the windows in words that they were written over
pub paired_rewritten : (was : List ℕ) (ws : List Window) → 2 * length ws ≤ length was
    → paired (take (2 * length ws) (rewritten was ws)) ≡ ws
paired_rewritten was [] b = refl
paired_rewritten [] (w ∷ ws) b = absurd (omega arith)
paired_rewritten (x ∷ []) (w ∷ ws) b = absurd (omega arith)
paired_rewritten (x ∷ y ∷ was) (w ∷ ws) b =
    let twice : 2 * suc (length ws) ≡ suc (suc (2 * length ws)) = omega arith in
    rw twice (ap (λ vs. w ∷ vs) (paired_rewritten was ws (omega arith)))

module _ (file : List ℕ) (byte : AllByRecursion Byte file) (ends : Ends file) (agrees : Agrees file) where
  abbrev last : List ℕ
  last = drop (length file - 8) file

  -- its last eight bytes are the three numbers and the letters
  end_is : last ≡ two (place_in file) ++ (two (lots_in file) ++ (two (rules_in file) ++ (72 ∷ 68 ∷ [])))
  end_is =
      let r = rule_held last (All-drop Byte (length file - 8) file byte) (omega (arith, length-drop (length file - 8) file, ends.0)) in
      let at : (k : ℕ) → get_or last k 0 ≡ get_or (rule_bytes r.0) k 0 = λ k. same_at k (sym r.1) in
      let place : r.0.stretch.first ≡ place_in file = omega (arith, at 0, at 1) in
      let lots : r.0.stretch.length ≡ lots_in file = omega (arith, at 2, at 3) in
      let rules : r.0.floor ≡ rules_in file = omega (arith, at 4, at 5) in
      let letters : two r.0.ceiling ≡ 72 ∷ 68 ∷ [] = ap₂ (λ x y. x ∷ y ∷ []) (sym (at 6) ∙ ends.1) (sym (at 7) ∙ ends.2) in
      sym r.1 ∙ join (ap two place) (join (ap two lots) (join (ap two rules) letters))

  pub sheet_held : (n m : ℕ) (ws : List Window) (rows : List Row) → n ≡ lots_in file → m ≡ rules_in file
      → lots_bytes ws ≡ take (4 * n) file → rules_bytes rows ≡ take (8 * m) (drop (4 * n) file)
      → Holds file (sheet ws rows) × (n ≡ length ws) × (m ≡ length rows)
  sheet_held n m ws rows en em lots rules =
      let tail = drop (4 * n) file in
      let long : length file ≡ 4 * n + 8 * m + 8 = omega (arith, agrees.1) in
      let some : n ≡ length ws = omega (arith, length_lots ws, ap length lots, length-take-le (4 * n) file (omega arith)) in
      let many : m ≡ length rows = omega (arith, length_rules rows, ap length rules, length-take-le (8 * m) tail (omega (arith, length-drop (4 * n) file))) in
      let place : place_in file ≡ 4 * length ws = omega (arith, agrees.0) in
      let behind : drop (8 * m) tail ≡ last =
      drop-drop (8 * m) (4 * n) file ∙ ap (λ k. drop k file) (let k : 4 * n + 8 * m ≡ length file - 8 = omega arith in k) in
      let end = behind ∙ end_is ∙ ap₂ (λ k j. two k ++ (two j ++ (two (rules_in file) ++ (72 ∷ 68 ∷ [])))) place (sym en ∙ some)
      ∙ ap (λ k. two (4 * length ws) ++ (two (length ws) ++ (two k ++ (72 ∷ 68 ∷ [])))) (sym em ∙ many) in
      let rest = sym (take-append-drop (8 * m) tail) ∙ join (sym rules) end in (
        record {
          is = sym (take-append-drop (4 * n) file) ∙ join (sym lots) rest;
          few_lots = omega (arith, agrees.2);
          few_rules = omega (arith, agrees.3);
        },
        some,
        many,
      )
