use Rattle.std.proofs.Common.{◌∙◌, ap, arith, map, string_bytes}
use Rattle.std.proofs.lemmas.List.{map-append}
use Rattle.farm_reports.specs.Named.{named}
use Rattle.farm_reports.proofs.Making.{rack_done, rebuilt_step}
use Rattle.farm_reports.proofs.rack_files.push_rows.Goals as goal

pub loop-number-preserved : goal.loop-number-preserved
loop-number-preserved c =
    rebuilt_step c.args.rack c.args.rows.now c.loop-number.number c.index-rows-number.result
    (map named c.args.files.now.items) (map named c.loop-number.files.items)
    (map named c.push_rebuilt.new.files.items) c.loop-number-test.true
    c.index-rows-number.is c.loop-number.invariant c.in_ok-push_rebuilt.ensures

pub returns : goal.returns
returns c =
    rack_done c.args.rack c.args.shape c.args.rows.now c.loop-number.number (map named c.args.files.now.items)
    (map named c.loop-number.files.items) _
    (string_bytes c.in_ok-name.name) c.in_ok-report.report.items (omega (arith, c.loop-number-test.false)) c.loop-number.invariant
    (ap (map named) c.in_ok-push.ensures.items ∙ map-append named c.loop-number.files.items _) c.in_ok-name.ensures c.in_ok-report.ensures
