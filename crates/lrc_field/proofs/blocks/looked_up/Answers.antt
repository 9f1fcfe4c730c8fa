use Rattle.lrc_field.proofs.LaneLemmas.{picked, picks_within}
use Rattle.lrc_field.proofs.blocks.looked_up.Goals as goal

pub swizzle : goal.swizzle
swizzle c = picks_within c.args.halves c.fits-halves.0 c.requires

pub returns : goal.returns
returns c = picked c.args.table c.args.halves c.fits-halves.0 c.requires
