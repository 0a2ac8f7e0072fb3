use Rattle.std.proofs.Common.{sym}
use Rattle.std.proofs.lemmas.List.{length-map}
use Rattle.base_stores.proofs.masks.MaskStoreWindowStore.lots.Goals as goal

pub returns : goal.returns
returns c = sym (length-map _ _)
