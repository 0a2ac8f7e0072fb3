-- A file written in three parts.
use Rattle.std.proofs.Common.{◌≡◌, ℕ, ◌+◌, ◌≤◌, List, ◌++◌, length, take, drop, sym, ap, ◌∙◌, ap₂, arith}
use Rattle.std.specs.List.{AllByRecursion}
use borrow.Rule.Slice.PartMut.{put_mid}
use Rattle.std.proofs.ByRecursion.{All-weaker}
use Rattle.std.proofs.lemmas.List.{append_assoc, drop_at, drop-drop, length-append, take_at}
use Rattle.std.proofs.lemmas.Slice.{drop-put_mid, take-put_mid}
use Rattle.store.specs.declared.window.Window.{Window}
use Rattle.store.specs.Over.{over}
use Rattle.store.specs.Sound.{Sound}
use Rattle.rules.specs.declared.row.Row.{Row}
use Rattle.rules.specs.Sheets.{Fits}
use Rattle.file.specs.Format.{SmallLot, SmallRule}

-- sound windows and rules that fit have small numbers
pub sound_small : (ws : List Window) → AllByRecursion Sound ws → AllByRecursion SmallLot ws
sound_small ws sound = All-weaker Sound SmallLot (λ w s. (omega (arith, s.0, s.1), omega (arith, s.1))) ws sound

pub fit_small : (lots : ℕ) (rows : List Row) → lots ≤ 256 → AllByRecursion (Fits lots) rows → AllByRecursion SmallRule rows
fit_small lots rows few fit =
    All-weaker (Fits lots) SmallRule
    (λ q f. (omega (arith, f.0.0, f.0.1), omega (arith, f.0.1), omega (arith, f.1.0, f.1.1), omega (arith, f.1.1))) rows fit

-- a part over the first bytes, and two more behind it
pub parts_written : (was xs ys zs : List ℕ) (a k b m : ℕ) → length xs ≡ a → length ys ≡ k → length zs ≡ m → b ≡ a + k
    → b + m ≤ length was → put_mid b m (put_mid a k (xs ++ drop a was) ys) zs ≡ over (xs ++ (ys ++ zs)) was
parts_written was xs ys zs a k b m lx ly lz eb room =
    let one = xs ++ drop a was in
    let both = put_mid a k one ys in
    let inside : a ≤ length one = omega (arith, length-append xs (drop a was)) in
    let far : b + m ≡ a + (k + m) = omega arith in
    let front : take b both ≡ xs ++ ys = take-put_mid a k one ys b (omega arith) inside ∙ ap (λ fs. fs ++ ys) (take_at xs (drop a was) a lx) in
    let past : drop (b + m) one ≡ drop (b + m) was =
    ap (λ n. drop n one) far ∙ sym (drop-drop (k + m) a one) ∙ ap (drop (k + m)) (drop_at xs (drop a was) a lx)
    ∙ drop-drop (k + m) a was ∙ ap (λ n. drop n was) (sym far) in
    let all : b + m ≡ length (xs ++ (ys ++ zs)) = omega (arith, length-append xs (ys ++ zs), length-append ys zs) in
    let behind : drop m (drop b both) ≡ drop (length (xs ++ (ys ++ zs))) was =
    drop-drop m b both ∙ drop-put_mid a k one ys (b + m) (omega arith) inside ly ∙ past ∙ ap (λ n. drop n was) all in
    ap₂ (λ fs ds. fs ++ (zs ++ ds)) front behind
    ∙ append_assoc xs ys (zs ++ drop (length (xs ++ (ys ++ zs))) was)
    ∙ ap (λ ts. xs ++ ts) (sym (append_assoc ys zs (drop (length (xs ++ (ys ++ zs))) was)))
    ∙ sym (append_assoc xs (ys ++ zs) (drop (length (xs ++ (ys ++ zs))) was))
