-- Windows written over some lots in a row: how many there are then, those of the stretch, and those outside it.
use Rattle.std.proofs.Common.{◌≡◌, ℕ, ◌+◌, ◌-◌, ◌<◌, ◌≤◌, ◌⊎◌, List, ◌++◌, length, take, drop, sym, ap, ◌∙◌, inl, inr, arith, rules}
use Rattle.std.proofs.lemmas.List.{append_assoc, drop-drop, places, same_lists, take-append-drop}
use borrow.Rule.Slice.PartMut.{put_mid}
use Rattle.store.specs.declared.window.Window.{Window}
use Rattle.store.specs.Windows.{window_at}
use Rattle.nvalue.specs.Choices.{part}
use Rattle.nvalue.proofs.Stretches.{part_length}
use Rattle.propagation.specs.Changes.{written}

-- a write to a part of a room is one to the windows in use
pub take_written : (n first k : ℕ) (xs us : List Window) → length us ≡ k → first + k ≤ n → n ≤ length xs → take n (put_mid first k xs us) ≡ written first us (take n xs)
take_written n first k xs us long within there = same_lists _ _ (search (rules, places)) (λ k d h. grind (arith, places))

module _ (ws us : List Window) (first : ℕ) (there : first + length us ≤ length ws) where
  pub written_length : length (written first us ws) ≡ length ws
  written_length = search (rules, places)

  pub written_part : part (written first us ws) first (length us) ≡ us
  written_part = same_lists _ _ (search (rules, places)) (λ k d h. grind (arith, places))

  pub written_outside : (i : ℕ) → (i < first) ⊎ (first + length us ≤ i) → window_at (written first us ws) i ≡ window_at ws i
  written_outside i (inl h) = search (rules, places)
  written_outside i (inr h) = search (rules, places)

  pub written_inside : (i : ℕ) → first ≤ i → i < first + length us → window_at (written first us ws) i ≡ window_at us (i - first)
  written_inside i a b = search (rules, places)

-- windows before a stretch, in it and after it
pub split_part : (ws : List Window) (first n : ℕ) → take first ws ++ part ws first n ++ drop (first + n) ws ≡ ws
split_part ws first n =
    append_assoc (take first ws) (part ws first n) (drop (first + n) ws)
    ∙ ap (λ vs. take first ws ++ (part ws first n ++ vs)) (sym (drop-drop n first ws)) ∙ ap (λ vs. take first ws ++ vs) (take-append-drop n (drop first ws)) ∙ take-append-drop first ws

-- the windows of a stretch written over themselves
pub written_same : (ws : List Window) (first n : ℕ) → first + n ≤ length ws → written first (part ws first n) ws ≡ ws
written_same ws first n there =
    ap (λ m. take first ws ++ part ws first n ++ drop (first + m) ws) (part_length ws first n there) ∙ split_part ws first n
