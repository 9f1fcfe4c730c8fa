use Rattle.std.proofs.Common.{None}
use Rattle.store_encoding.proofs.Sums.{no_sums, none_if_unchanged, some_if_changed}
use Rattle.store_encoding.proofs.encoding.sums.write_new_sums.Goals as goal

pub returns-then-not-target : goal.returns-then-not-target
returns-then-not-target g c = (
  None,
  no_sums c.args.target.now.folder.now _,
  tt,
  none_if_unchanged None c.args.target.now.is_changed c.if-not-target.true,
  tt,
)

pub returns : goal.returns
returns g c = (
  c.write_sums.ensures.0,
  c.write_sums.ensures.1,
  c.write_sums.ensures.2,
  some_if_changed c.write_sums.result c.write_sums.ensures.0 c.args.target.now.is_changed c.write_sums.ensures.3,
  c.write_sums.ensures.4,
)
