-- Laws of stretches: of stretches, and the days of a choice over one.
use Rattle.std.proofs.Common.{◌≡◌, ℕ, zero, suc, ◌+◌, ◌-◌, ◌<◌, ◌≤◌, List, [], ◌∷◌, ◌++◌, length, get_or, take, drop, sym, ap, ◌∙◌, arith}
use Rattle.std.proofs.lemmas.List.{drop-drop, drop-take, get_or-drop, get_or-take, length-drop, length-take-le, take-take}
use Rattle.store.specs.declared.window.Window.{Window}
use Rattle.nvalue.specs.Choices.{Choice, part}

-- the first days are a choice for the first windows
pub choice_take : (n : ℕ) (ws : List Window) (ds : List ℕ) → Choice ws ds → Choice (take n ws) (take n ds)
choice_take zero ws ds c = tt
choice_take (suc n) [] [] c = tt
choice_take (suc n) [] (d ∷ ds) c = absurd c
choice_take (suc n) (w ∷ ws) [] c = absurd c
choice_take (suc n) (w ∷ ws) (d ∷ ds) (b, c) = (b, choice_take n ws ds c)

-- the days after them are one for the windows after them
pub choice_drop : (n : ℕ) (ws : List Window) (ds : List ℕ) → Choice ws ds → Choice (drop n ws) (drop n ds)
choice_drop zero ws ds c = c
choice_drop (suc n) [] [] c = tt
choice_drop (suc n) [] (d ∷ ds) c = absurd c
choice_drop (suc n) (w ∷ ws) [] c = absurd c
choice_drop (suc n) (w ∷ ws) (d ∷ ds) (b, c) = choice_drop n ws ds c

-- the days of a stretch are a choice for its windows
pub choice_part : (ws : List Window) (ds : List ℕ) (a n : ℕ) → Choice ws ds → Choice (part ws a n) (part ds a n)
choice_part ws ds a n c = choice_take n (drop a ws) (drop a ds) (choice_drop a ws ds c)

-- two choices in a row are one for both lists of windows in a row
pub choice_append : (vs ws : List Window) (xs ys : List ℕ) → Choice vs xs → Choice ws ys → Choice (vs ++ ws) (xs ++ ys)
choice_append [] ws [] ys c d = d
choice_append [] ws (x ∷ xs) ys c d = absurd c
choice_append (v ∷ vs) ws [] ys c d = absurd c
choice_append (v ∷ vs) ws (x ∷ xs) ys (b, c) d = (b, choice_append vs ws xs ys c d)

-- a stretch that ends among the first m is one of them
pub part_take : {X : Type 0} (xs : List X) (m s n : ℕ) → s + n ≤ m → part (take m xs) s n ≡ part xs s n
part_take xs m s n h =
    let e : m ≡ s + (m - s) = omega arith in
    let d : drop s (take m xs) ≡ take (m - s) (drop s xs) = ap (λ k. drop s (take k xs)) e ∙ drop-take s (m - s) xs in
    ap (take n) d ∙ take-take n (m - s) (drop s xs) (omega arith)

-- a stretch of what comes after the first a
pub part_drop : {X : Type 0} (xs : List X) (a s t n : ℕ) → t ≡ a + s → part (drop a xs) s n ≡ part xs t n
part_drop xs a s t n h = ap (take n) (drop-drop s a xs ∙ ap (λ k. drop k xs) (sym h))

-- a stretch of the lots from a on and before b
pub part_part : {X : Type 0} (xs : List X) (a b f n : ℕ) → a ≤ f → f + n ≤ b → part (part xs a (b - a)) (f - a) n ≡ part xs f n
part_part xs a b f n l h = part_take (drop a xs) (b - a) (f - a) n (omega arith) ∙ part_drop xs a (f - a) f n (omega arith)

-- how many lots a stretch has, and which
pub part_length : {X : Type 0} (xs : List X) (first len : ℕ) → first + len ≤ length xs → length (part xs first len) ≡ len
part_length xs first len h = length-take-le len (drop first xs) (omega (arith, length-drop first xs))

pub part_at : {X : Type 0} (xs : List X) (first len i : ℕ) (d : X) → first ≤ i → i < first + len → get_or (part xs first len) (i - first) d ≡ get_or xs i d
part_at xs first len i d a b =
    let e : first + (i - first) ≡ i = omega arith in
    get_or-take len (drop first xs) (i - first) d (omega arith) ∙ get_or-drop first xs (i - first) d ∙ ap (λ j. get_or xs j d) e
