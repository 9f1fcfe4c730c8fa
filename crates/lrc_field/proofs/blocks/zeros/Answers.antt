use Rattle.std.proofs.Common.{refl}
use Rattle.std.proofs.lemmas.List.{get_or-replicate}
use Rattle.lrc_field.proofs.blocks.zeros.Goals as goal

pub returns : goal.returns
returns c = record { long = refl; each = λ k lt. get_or-replicate 32 k 0 0 lt }
