use Rattle.farm_reports.proofs.ReportLines.{names_first, names_more}
use Rattle.farm_reports.proofs.report.spaced_names.Goals as goal
use Rattle.farm_reports.proofs.report.spaced_names.Goals.{then-index-gt0+in_ok-push, else-index-gt0}

pub loop-index-preserved : goal.loop-index-preserved
loop-index-preserved c =
    elim c.if-index-gt0.branch [
      | then-index-gt0+in_ok-push w ↦ rw (
        c.in_ok-extend_from_slice.ensures.items,
        c.as_bytes.ensures.value,
        c.name.ensures,
        w.text-is,
        w.in_ok-push.ensures.items,
      )
          (names_more c.args.places.now c.loop-index.index _ c.loop-index.text.items c.loop-index-test.true w.if-index-gt0.true
          c.loop-index.invariant)
      | else-index-gt0 w ↦ rw (c.in_ok-extend_from_slice.ensures.items, c.as_bytes.ensures.value, c.name.ensures, w.text-is)
          (names_first c.args.places.now c.loop-index.index _ c.loop-index.text.items c.loop-index-test.true w.if-index-gt0.false
          c.loop-index.invariant)
    ]
