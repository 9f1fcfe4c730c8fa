use Rattle.store_names.proofs.MountPoints.{at_or_below, elsewhere}
use Rattle.store_names.proofs.mounts.is_at_or_below.Goals as goal

pub returns-in-Some : goal.returns-in-Some
returns-in-Some c = at_or_below c.args.path.now c.args.point.now c.in-Some.rest.now c.in-Some.ensures _ c.may_follow.ensures

pub returns-in-None : goal.returns-in-None
returns-in-None c = elsewhere c.args.path.now c.args.point.now c.in-None.ensures
