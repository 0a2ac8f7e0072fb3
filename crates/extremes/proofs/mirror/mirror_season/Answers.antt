use Rattle.std.proofs.Common.{sym, subst}
use Rattle.std.specs.List.{AllByRecursion}
use Rattle.store.specs.Sound.{Sound}
use Rattle.extremes.proofs.Mirrored.{sound_mirrored}
use Rattle.extremes.proofs.mirror.mirror_season.Goals as goal

pub invariant_of-result-clause-sound : goal.invariant_of-result-clause-sound
invariant_of-result-clause-sound c = subst (AllByRecursion Sound) (sym c.mirror_windows.ensures) (sound_mirrored _ c.args.season.sound)
