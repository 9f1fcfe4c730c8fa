use Rattle.std.proofs.Common.{◌≡◌, ◌∙◌, ap, arith, sym}
use Rattle.farm_reading.specs.Pieces.{listed_bytes}
use Rattle.farm_reading.proofs.PieceBytes.{sum_further, sum_of_none}
use Rattle.farm_reading.proofs.cutting.end_of_racks.Goals as goal
use Rattle.farm_reading.proofs.cutting.end_of_racks.Goals.{else-rack-first-via-then-rack-first+else-bytes-most}
use Rattle.farm_reading.proofs.cutting.end_of_racks.Goals.{else-rack-first-via-else-rack-first}

pub loop-rack-init : goal.loop-rack-init
loop-rack-init c = record {
  bytes = sym (sum_of_none listed_bytes c.args.racks.now c.args.first);
  few = omega arith;
  fits = λ later. absurd (omega (arith, later));
}

pub returns-then-bytes-most-clause-end : goal.returns-then-bytes-most-clause-end
returns-then-bytes-most-clause-end c =
    let so = c.loop-rack.invariant in
    let here : c.rack_bytes-bytes.result ≡ listed_bytes c.index-racks-rack.result =
    c.rack_bytes-bytes.ensures.bytes ∙ ap listed_bytes c.feeds.ensures.value in
    let more = sum_further listed_bytes c.args.racks.now c.args.first c.loop-rack.rack c.index-racks-rack.result c.loop-rack.auto.rack
    c.loop-rack-test.true c.index-racks-rack.is in (
      λ later. (let fits = so.fits later in omega (arith, fits, so.bytes)),
      λ less. omega (arith, more, so.bytes, here, c.if-bytes-most.true),
    )

pub loop-rack-preserved : goal.loop-rack-preserved
loop-rack-preserved c =
    let so = c.loop-rack.invariant in
    let here : c.rack_bytes-bytes.result ≡ listed_bytes c.index-racks-rack.result =
    c.rack_bytes-bytes.ensures.bytes ∙ ap listed_bytes c.feeds.ensures.value in
    let more = sum_further listed_bytes c.args.racks.now c.args.first c.loop-rack.rack c.index-racks-rack.result c.loop-rack.auto.rack
    c.loop-rack-test.true c.index-racks-rack.is in
    record {
      bytes = omega (arith, more, so.bytes, here);
      few = omega (arith, so.few, c.rack_bytes-bytes.ensures.few);
      fits = elim c.else-rack-first.branch [
        | else-rack-first-via-then-rack-first+else-bytes-most w ↦ λ later. w.if-bytes-most.false
        | else-rack-first-via-else-rack-first w ↦ λ later. absurd (omega (arith, later, w.if-rack-first.false))
      ];
    }
