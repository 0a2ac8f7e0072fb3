-- Lists whose elements are tied place by place: joined, and with one element replaced.
use Rattle.std.proofs.Common.{◌≡◌, ℕ, zero, suc, ◌<◌, List, [], ◌∷◌, ◌++◌, length, get_or, set, arith}
use Rattle.std.specs.List.{AllZip}

module _ {X : Type 0} (R : X → X → Type 0) where
  -- what is tied at each place is tied
  pub each_from_get_or : (xs ys : List X) (d : X) → length xs ≡ length ys → ((i : ℕ) → i < length xs → R (get_or xs i d) (get_or ys i d)) → AllZip R xs ys
  each_from_get_or [] [] d s f = tt
  each_from_get_or [] (y ∷ ys) d s f = omega arith
  each_from_get_or (x ∷ xs) [] d s f = omega arith
  each_from_get_or (x ∷ xs) (y ∷ ys) d s f = (f 0 (omega arith), each_from_get_or xs ys d (omega arith) (λ i l. f (suc i) (omega arith)))

  pub each_append : (xs ys us vs : List X) → AllZip R xs us → AllZip R ys vs → AllZip R (xs ++ ys) (us ++ vs)
  each_append [] ys [] vs e f = f
  each_append [] ys (u ∷ us) vs e f = absurd e
  each_append (x ∷ xs) ys [] vs e f = absurd e
  each_append (x ∷ xs) ys (u ∷ us) vs (r, e) f = (r, each_append xs ys us vs e f)

  pub each_set_left : (xs ys : List X) (k : ℕ) (x d : X) → AllZip R xs ys → R x (get_or ys k d) → AllZip R (set xs k x) ys
  each_set_left [] ys k x d e r = e
  each_set_left (z ∷ xs) [] k x d e r = absurd e
  each_set_left (z ∷ xs) (y ∷ ys) zero x d (s, e) r = (r, e)
  each_set_left (z ∷ xs) (y ∷ ys) (suc k) x d (s, e) r = (s, each_set_left xs ys k x d e r)

  pub each_set_right : (xs ys : List X) (k : ℕ) (y d : X) → AllZip R xs ys → R (get_or xs k d) y → AllZip R xs (set ys k y)
  each_set_right xs [] k y d e r = e
  each_set_right [] (z ∷ ys) k y d e r = absurd e
  each_set_right (x ∷ xs) (z ∷ ys) zero y d (s, e) r = (r, e)
  each_set_right (x ∷ xs) (z ∷ ys) (suc k) y d (s, e) r = (s, each_set_right xs ys k y d e r)
