use Rattle.std.proofs.Common.{◌≡◌, suc, ◌-◌, ◌*◌, ◌/◌, ◌%◌, ◌^◌, sym, subst, arith, pow_pos, pow_mono}
use Rattle.std.proofs.lemmas.Nat.{one_shl}
use Rattle.base_stores.specs.Masks.{filled, Fills}
use Rattle.base_stores.proofs.Bits.{ones_shifted, fills}
use Rattle.base_stores.proofs.masks.fill.Goals as goal

pub overflow_sub-result-3 : goal.overflow_sub-result-3
overflow_sub-result-3 c =
    let low = one_shl c.args.window.low 64 (omega (arith, c.requires.ordered, c.requires.within)) in
    let high = ones_shifted c.args.window.high c.requires.within in
    omega (arith, pow_mono {i = c.args.window.low} {j = suc c.args.window.high} (omega (arith, c.requires.ordered)))

pub returns : goal.returns
returns c =
    let low = one_shl c.args.window.low 64 (omega (arith, c.requires.ordered, c.requires.within)) in
    let high = ones_shifted c.args.window.high c.requires.within in
    let value : (2 ^ 64 - 1) / 2 ^ (63 - c.args.window.high) - ((1 * 2 ^ c.args.window.low) % 2 ^ 64 - 1) ≡ filled c.args.window.low c.args.window.high =
    omega (arith, pow_pos c.args.window.low) in
    record { value = value; fills = subst (λ m. Fills m c.args.window.low c.args.window.high) (sym value) (fills c.args.window.low c.args.window.high c.requires.ordered) }
