use Rattle.std.proofs.Common.{subst}
use Rattle.farm_core.specs.Merge.{AreOpen, HaveClose}
use Rattle.farm_files.proofs.batches.answer_piece.Goals as goal

pub returns-clause-answered : goal.returns-clause-answered
returns-clause-answered g c = rw c.if-so_far.false (
  c.in_ok-more.more.items,
  c.in_ok-more.ensures.answered,
  c.in_ok-append.ensures.items,
  λ e. subst HaveClose c.as_slice.ensures.value (c.have_close-ended.ensures.closed e),
  λ e. subst AreOpen c.as_slice.ensures.value (c.have_close-ended.ensures.opened e),
)
