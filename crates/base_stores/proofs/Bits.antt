-- Laws of day masks: the ends that are read off a mask are its outermost set bits, and a filled mask has just the bits that it should.
use Rattle.std.proofs.Common.{◌≡◌, ℕ, zero, suc, ◌+◌, ◌-◌, ◌*◌, ◌/◌, ◌%◌, ◌^◌, ◌<◌, ◌≤◌, sym, refl, ap, ◌∙◌, ap₂, inl, inr, lt_of_lt_of_le, mul_assoc, pow-suc, div-one, arith, lit<, pow_pos, pow_mono, pow-add, shr-shr}
use native.Mathlib.Nat.{div-eq_of_lt}
use lib.Arith.{digits_mod}
use lib.Bits.{shifted_even}
use lib.Count.{count_leading_zeros, count_trailing_zeros, under, leading_top}
use lib.Pow.{high_ones, ones_split, pow-lt, shl-shr, high as high_digit, ones_lt}
use Rattle.std.proofs.lemmas.Bool.{cases_order}
use Rattle.store.specs.declared.window.Window.{Window}
use Rattle.base_stores.specs.Masks.{bit, window_of_mask, filled, Spans, Fills}
use Rattle.store.specs.Windows.{window}

clash : {n : ℕ} → n ≡ 1 → n ≡ 0 → ⊥
clash a b = omega arith

-- the lowest bit, and the others, of a number and its half
bit_zero : (n : ℕ) → bit n 0 ≡ n % 2
bit_zero n = ap (λ x. x % 2) (div-one n)

bit_suc : (n d : ℕ) → bit n (suc d) ≡ bit (n / 2) d
bit_suc n d = let e : suc d ≡ 1 + d = omega arith in rw e (ap (λ x. x % 2) (sym (shr-shr n 1 d)))

half_lt : (n k : ℕ) → n < 2 ^ suc k → n / 2 < 2 ^ k
half_lt n k h = omega (arith, pow-suc 2 k)

-- the lowest set bit
abbrev Lowest : ℕ → ℕ → Type 0
Lowest n t = (bit n t ≡ 1) × ((d : ℕ) → d < t → bit n d ≡ 0)

lowest_even : (n t : ℕ) → n % 2 ≡ 0 → Lowest (n / 2) t → Lowest n (suc t)
lowest_even n t e l = (bit_suc n t ∙ l.0, λ d h. go d h)
  where
    go : (d : ℕ) → d < suc t → bit n d ≡ 0
    go zero h = bit_zero n ∙ e
    go (suc d) h = bit_suc n d ∙ l.1 d (omega arith)

trailing_lowest : (k n : ℕ) → 0 < n → n < 2 ^ k → Lowest n (count_trailing_zeros k n)
unfolding count_trailing_zeros
trailing_lowest zero n p h = absurd (omega arith)
trailing_lowest (suc k) n p h =
    go (λ e. trailing_lowest k (n / 2) (omega arith) (half_lt n k h)) (n % 2) refl
  where
    go : (n % 2 ≡ 0 → Lowest (n / 2) (count_trailing_zeros k (n / 2))) → (b : ℕ) → n % 2 ≡ b → Lowest n (under b (count_trailing_zeros k (n / 2)))
    go rest zero e = lowest_even n _ e (rest e)
    go rest (suc b) e = (bit_zero n ∙ omega arith, λ d q. absurd (omega arith))

-- the highest set bit, j, of a number from 2 ^ j on and below 2 ^ (j + 1)
bit_top : (n j : ℕ) → 2 ^ j ≤ n → n < 2 ^ suc j → bit n j ≡ 1
bit_top n j l h =
    let e : n ≡ 1 * 2 ^ j + (n - 2 ^ j) = omega arith in
    let r : n - 2 ^ j < 2 ^ j = omega (arith, pow-suc 2 j) in
    ap (λ x. x % 2) (ap (λ m. m / 2 ^ j) e ∙ high_digit 1 j r)

bit_past : (n m d : ℕ) → n < 2 ^ m → m ≤ d → bit n d ≡ 0
bit_past n m d h l =
    let b : n < 2 ^ d = lt_of_lt_of_le h (pow_mono l) in
    ap (λ x. x % 2) (div-eq_of_lt b)

pub mask_spans : (mask : ℕ) → 0 < mask → mask < 2 ^ 64 → Spans mask (window_of_mask mask)
mask_spans mask p h =
    let lowest = trailing_lowest 64 mask p h in
    let top = leading_top 64 mask p h in
    let e : 63 - count_leading_zeros 64 mask ≡ top.0 = omega arith in
    record {
      low_set = lowest.0;
      below = lowest.1;
      high_set = ap (bit mask) e ∙ bit_top mask top.0 top.2 top.3;
      above = λ d q. bit_past mask (suc top.0) d top.3 (omega arith);
    }

-- all ones: the lowest bit of 2 ^ (e + 1) - 1 is set
ones_odd : (e : ℕ) → (2 ^ suc e - 1) % 2 ≡ 1
ones_odd e =
    let s : suc e ≡ e + 1 = omega arith in
    rw s (ap (λ x. x % 2) (ones_split e 1) ∙ digits_mod (2 ^ e - 1) (lit< tt))

-- so is bit i of 2 ^ j - 1, for i below j
bit_ones : (i n : ℕ) → bit (2 ^ (suc n + i) - 1) i ≡ 1
bit_ones i n = ap (λ x. x % 2) (ap (λ x. x / 2 ^ i) (ones_split (suc n) i) ∙ high_digit (2 ^ suc n - 1) i (ones_lt i)) ∙ ones_odd n

module _ (low high : ℕ) (order : low ≤ high) where
  filled_is : filled low high ≡ (2 ^ (suc high - low) - 1) * 2 ^ low
  filled_is = let e : suc high ≡ suc high - low + low = omega arith in ap (λ x. 2 ^ x - 2 ^ low) e ∙ high_ones (suc high - low) low

  filled_within : (d : ℕ) → low ≤ d → d ≤ high → bit (filled low high) d ≡ 1
  filled_within d l h =
      let j : suc high - low ≡ suc (high - d) + (d - low) = omega arith in
      let e : d ≡ low + (d - low) = omega arith in
      ap (λ x. bit x d) (filled_is ∙ ap (λ x. (2 ^ x - 1) * 2 ^ low) j)
      ∙ ap (λ x. (2 ^ (suc (high - d) + (d - low)) - 1) * 2 ^ low / 2 ^ x % 2) e
      ∙ ap (λ x. x % 2) (sym (shr-shr _ low (d - low)) ∙ ap (λ x. x / 2 ^ (d - low)) (shl-shr (2 ^ (suc (high - d) + (d - low)) - 1) low))
      ∙ bit_ones (d - low) (high - d)

  filled_below : (d : ℕ) → d < low → bit (filled low high) d ≡ 0
  filled_below d l =
      let a = 2 ^ (suc high - low) - 1 in
      let e : low ≡ suc (low - d - 1) + d = omega arith in
      let s : a * 2 ^ low ≡ a * 2 ^ suc (low - d - 1) * 2 ^ d =
      ap (λ x. a * 2 ^ x) e ∙ ap (λ x. a * x) (pow-add 2 (suc (low - d - 1)) d) ∙ sym (mul_assoc a (2 ^ suc (low - d - 1)) (2 ^ d)) in
      ap (λ x. bit x d) (filled_is ∙ s) ∙ ap (λ x. x % 2) (shl-shr (a * 2 ^ suc (low - d - 1)) d) ∙ shifted_even a (low - d - 1)

  filled_lt : filled low high < 2 ^ suc high
  filled_lt = omega (arith, pow_pos low, pow_pos (suc high))

  pub fills : Fills (filled low high) low high
  fills = record { within = filled_within; below = filled_below; above = λ d h. bit_past _ (suc high) d filled_lt h }

-- a mask has the window that it was filled for
same_low : (mask l h : ℕ) (w : Window) → l ≤ h → Fills mask l h → Spans mask w → w.low ≡ l
same_low mask l h w o f s =
    elim (cases_order w.low l) [
      | inl e ↦ e
      | inr (inl b) ↦ absurd (clash s.low_set (f.below w.low b))
      | inr (inr a) ↦ absurd (clash (f.within l (omega arith) o) (s.below l a))
    ]

same_high : (mask l h : ℕ) (w : Window) → l ≤ h → Fills mask l h → Spans mask w → w.high ≡ h
same_high mask l h w o f s =
    elim (cases_order w.high h) [
      | inl e ↦ e
      | inr (inl b) ↦ absurd (clash (f.within h o (omega arith)) (s.above h b))
      | inr (inr a) ↦ absurd (clash s.high_set (f.above w.high a))
    ]

pub filled_window : (low high : ℕ) → low ≤ high → high ≤ 63 → window_of_mask (filled low high) ≡ window low high
filled_window low high o b =
    let f = fills low high o in
    let some : 0 < filled low high = omega (arith, pow-lt {i = low} {j = suc high} (omega arith)) in
    let s = mask_spans (filled low high) some (lt_of_lt_of_le (filled_lt low high o) (pow_mono {i = suc high} {j = 64} (omega arith))) in
    ap₂ window (same_low _ low high _ o f s) (same_high _ low high _ o f s)

-- `fill` in machine arithmetic
pub ones_shifted : (high : ℕ) → high ≤ 63 → (2 ^ 64 - 1) / 2 ^ (63 - high) ≡ 2 ^ suc high - 1
ones_shifted high b =
    let e : 64 ≡ suc high + (63 - high) = omega arith in
    ap (λ x. (2 ^ x - 1) / 2 ^ (63 - high)) e
    ∙ ap (λ x. x / 2 ^ (63 - high)) (ones_split (suc high) (63 - high))
    ∙ high_digit (2 ^ suc high - 1) (63 - high) (ones_lt (63 - high))
