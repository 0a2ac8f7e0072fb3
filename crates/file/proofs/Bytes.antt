-- Numbers, lots and rules in bytes: how many bytes they are, which bytes are theirs, and records written one behind another.
use Rattle.std.proofs.Common.{◌≡◌, ℕ, zero, suc, ◌+◌, ◌*◌, ◌/◌, ◌%◌, ◌<◌, ◌≤◌, List, [], ◌∷◌, ◌++◌, length, get_or, take, drop, sym, refl, ap, ◌∙◌, ap₂, arith}
use Rattle.std.specs.List.{flat_map, AllByRecursion}
use borrow.Rule.Slice.PartMut.{put_mid}
use Rattle.std.proofs.ByRecursion.{All-drop, All-take}
use Rattle.std.proofs.lemmas.List.{flat_map_more, length-drop, length-take-le, nil_from_length, take-append-drop, take_more}
use Rattle.std.proofs.lemmas.Slice.{take-put_mid}
use Rattle.store.specs.declared.window.Window.{Window}
use Rattle.store.specs.Windows.{window}
use Rattle.rules.specs.declared.row.Row.{Row}
use Rattle.rules.specs.Sheets.{row}
use Rattle.file.specs.Format.{rule_bytes, lots_bytes, rules_bytes, SmallRule}
use Rattle.file.specs.Numbers.{two}

pub join : {xs us ys vs : List ℕ} → xs ≡ us → ys ≡ vs → xs ++ ys ≡ us ++ vs
join e f = ap₂ (λ x y. x ++ y) e f

-- two bytes make a number, and the number's bytes are these two
two_back : (a b : ℕ) → a < 256 → two (a + 256 * b) ≡ a ∷ b ∷ []
two_back a b h =
    let low : (a + 256 * b) % 256 ≡ a = omega arith in
    let high : (a + 256 * b) / 256 ≡ b = omega arith in
    ap₂ (λ x y. x ∷ y ∷ []) low high

-- one more record of a list, behind those that stand there
pub record_written : {X : Type 0} (f : X → List ℕ) (xs : List X) (d : X) (i n m k : ℕ) (bytes part : List ℕ)
    → i < length xs → n ≤ length bytes → m ≡ n + length part → take n bytes ≡ flat_map f (take i xs)
    → part ≡ f (get_or xs i d) → take m (put_mid n k bytes part) ≡ flat_map f (take (i + 1) xs)
record_written f xs d i n m k bytes part h room place was one =
    take-put_mid n k bytes part m place room
    ∙ join was one
    ∙ flat_map_more f [] (take i xs) (get_or xs i d)
    ∙ ap (flat_map f) (sym (take_more xs i d h))

pub length_numbers : (ns : List ℕ) → length (flat_map two ns) ≡ 2 * length ns
length_numbers [] = refl
length_numbers (n ∷ ns) = let e = length_numbers ns in omega arith

pub length_lots : (ws : List Window) → length (lots_bytes ws) ≡ 4 * length ws
length_lots [] = refl
length_lots (w ∷ ws) = let e = length_lots ws in omega arith

pub length_rules : (rows : List Row) → length (rules_bytes rows) ≡ 8 * length rows
length_rules [] = refl
length_rules (r ∷ rows) = let e = length_rules rows in omega arith

-- a number is its two bytes
pub whole : (m n : ℕ) → m % 256 ≡ n % 256 → m / 256 ≡ n / 256 → m ≡ n
whole m n low high = omega arith

pub same_at : {xs ys : List ℕ} (k : ℕ) → xs ≡ ys → get_or xs k 0 ≡ get_or ys k 0
same_at k e = ap (λ bs. get_or bs k 0) e

-- lots, or rules, with the same bytes are the same
pub lots_same : (ws vs : List Window) → lots_bytes ws ≡ lots_bytes vs → ws ≡ vs
lots_same [] [] e = refl
lots_same [] (v ∷ vs) e = absurd (omega (arith, ap length e))
lots_same (w ∷ ws) [] e = absurd (omega (arith, ap length e))
lots_same (w ∷ ws) (v ∷ vs) e =
    let low = whole w.low v.low (same_at 0 e) (same_at 1 e) in
    let high = whole w.high v.high (same_at 2 e) (same_at 3 e) in
    ap₂ (λ x xs. x ∷ xs) (ap₂ window low high) (lots_same ws vs (ap (drop 4) e))

pub rules_same : (rows qs : List Row) → rules_bytes rows ≡ rules_bytes qs → rows ≡ qs
rules_same [] [] e = refl
rules_same [] (q ∷ qs) e = absurd (omega (arith, ap length e))
rules_same (r ∷ rows) [] e = absurd (omega (arith, ap length e))
rules_same (r ∷ rows) (q ∷ qs) e =
    let first = whole r.stretch.first q.stretch.first (same_at 0 e) (same_at 1 e) in
    let len = whole r.stretch.length q.stretch.length (same_at 2 e) (same_at 3 e) in
    let floor = whole r.floor q.floor (same_at 4 e) (same_at 5 e) in
    let ceiling = whole r.ceiling q.ceiling (same_at 6 e) (same_at 7 e) in
    let one : r ≡ q = ap₂ (λ a b. row a b r.floor r.ceiling) first len ∙ ap₂ (row q.stretch.first q.stretch.length) floor ceiling in
    ap₂ (λ x xs. x ∷ xs) one (rules_same rows qs (ap (drop 8) e))

abbrev pub Byte : ℕ → Type 0
Byte b = b < 256

-- eight bytes are those of a rule
pub rule_held : (bs : List ℕ) → AllByRecursion Byte bs → length bs ≡ 8 → (r : Row) × (rule_bytes r ≡ bs) × SmallRule r
rule_held [] byte l = absurd (omega arith)
rule_held (a ∷ []) byte l = absurd (omega arith)
rule_held (a ∷ b ∷ []) byte l = absurd (omega arith)
rule_held (a ∷ b ∷ c ∷ []) byte l = absurd (omega arith)
rule_held (a ∷ b ∷ c ∷ d ∷ []) byte l = absurd (omega arith)
rule_held (a ∷ b ∷ c ∷ d ∷ e ∷ []) byte l = absurd (omega arith)
rule_held (a ∷ b ∷ c ∷ d ∷ e ∷ f ∷ []) byte l = absurd (omega arith)
rule_held (a ∷ b ∷ c ∷ d ∷ e ∷ f ∷ g ∷ []) byte l = absurd (omega arith)
rule_held (a ∷ b ∷ c ∷ d ∷ e ∷ f ∷ g ∷ h ∷ x ∷ bs) byte l = absurd (omega arith)
rule_held (a ∷ b ∷ c ∷ d ∷ e ∷ f ∷ g ∷ h ∷ []) (a_, (b_, (c_, (d_, (e_, (f_, (g_, (h_, end)))))))) l =
    let bytes = join (two_back a b a_) (join (two_back c d c_) (join (two_back e f e_) (two_back g h g_))) in
    (row (a + 256 * b) (c + 256 * d) (e + 256 * f) (g + 256 * h), bytes, (omega arith, omega arith, omega arith, omega arith))

-- and so are more of them
pub rules_held : (n : ℕ) (bs : List ℕ) → AllByRecursion Byte bs → length bs ≡ 8 * n
    → (rows : List Row) × (rules_bytes rows ≡ bs) × AllByRecursion SmallRule rows
rules_held zero bs byte l = ([], sym (nil_from_length bs l), tt)
rules_held (suc n) bs byte l =
    let one = rule_held (take 8 bs) (All-take Byte 8 bs byte) (length-take-le 8 bs (omega arith)) in
    let more = rules_held n (drop 8 bs) (All-drop Byte 8 bs byte) (omega (arith, length-drop 8 bs)) in
    (one.0 ∷ more.0, join one.1 more.1 ∙ take-append-drop 8 bs, (one.2, more.2))
