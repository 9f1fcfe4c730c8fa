use Rattle.std.proofs.Common.{Bor, List, arith, map, sym}
use Rattle.farm_lists.specs.declared.listing.Record.{Record}
use Rattle.farm_reading.proofs.PieceBytes.{bytes_more, bytes_none}
use Rattle.farm_reading.proofs.cutting.end_of_positions.Goals as goal
use Rattle.farm_reading.proofs.cutting.end_of_positions.Goals.{else-position-first-via-then-position-first+else-bytes-most}
use Rattle.farm_reading.proofs.cutting.end_of_positions.Goals.{else-position-first-via-else-position-first}

abbrev lent : Bor (List Record) → List Record
lent l = l.now

pub loop-position-init : goal.loop-position-init
loop-position-init c = record {
  bytes = sym (bytes_none (map lent c.args.lists.now) c.args.first);
  few = omega arith;
  fits = λ later. absurd (omega (arith, later));
}

pub returns-then-bytes-most-clause-end : goal.returns-then-bytes-most-clause-end
returns-then-bytes-most-clause-end c =
    let so = c.loop-position.invariant in
    let more = bytes_more (map lent c.args.lists.now) c.args.first c.loop-position.position c.loop-position.auto.position in (
      λ later. (let fits = so.fits later in omega (arith, fits, so.bytes)),
      λ less. omega (arith, more, so.bytes, c.position_bytes-bytes.ensures.bytes, c.if-bytes-most.true),
    )

pub loop-position-preserved : goal.loop-position-preserved
loop-position-preserved c =
    let so = c.loop-position.invariant in
    let more = bytes_more (map lent c.args.lists.now) c.args.first c.loop-position.position c.loop-position.auto.position in
    record {
      bytes = omega (arith, more, so.bytes, c.position_bytes-bytes.ensures.bytes);
      few = omega (arith, so.few, c.position_bytes-bytes.ensures.few);
      fits = elim c.else-position-first.branch [
        | else-position-first-via-then-position-first+else-bytes-most w ↦ λ later. w.if-bytes-most.false
        | else-position-first-via-else-position-first w ↦ λ later. absurd (omega (arith, later, w.if-position-first.false))
      ];
    }
