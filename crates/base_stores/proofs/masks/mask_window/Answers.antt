use Rattle.std.proofs.Common.{◌≡◌, refl, sym, ap, ◌∙◌, subst, rules}
use lib.Count.{count_leading_zeros, count_trailing_zeros}
use Rattle.base_stores.specs.Masks.{window_of_mask, Spans}
use Rattle.store.specs.Windows.{window}
use Rattle.base_stores.proofs.Bits.{mask_spans}
use Rattle.base_stores.proofs.masks.mask_window.Goals as goal

bare : window_of_mask 0 ≡ window 64 0
unfolding count_trailing_zeros count_leading_zeros
bare = refl

pub returns : goal.returns
returns c =
    let value = ap (window (count_trailing_zeros 64 c.args.mask)) c.saturating_sub.ensures in
    record {
      value = value;
      spans = λ some. subst (Spans c.args.mask) (sym value) (mask_spans c.args.mask some (search rules));
      bare = λ zero. value ∙ ap window_of_mask zero ∙ bare;
    }
