use Rattle.std.proofs.Common.{map, arith}
use Rattle.std.proofs.lemmas.List.{length-map}
use Rattle.lrc_code.proofs.Members.{six_from}
use Rattle.lrc_code.proofs.encoding.six_copies.Goals as goal

pub returns : goal.returns
returns c = record {
  same = six_from (map (λ s. s.items) c.args.sources.now) c.args.from c.in_ok-first.first.items c.in_ok-second.second.items
      c.in_ok-third.third.items c.in_ok-fourth.fourth.items c.in_ok-fifth.fifth.items c.in_ok-sixth.sixth.items
      (omega (arith, c.requires, length-map c.args.sources.now (λ s. s.items)))
      c.in_ok-first.ensures.same c.in_ok-second.ensures.same c.in_ok-third.ensures.same c.in_ok-fourth.ensures.same
      c.in_ok-fifth.ensures.same c.in_ok-sixth.ensures.same;
  bytes = (
    c.in_ok-first.ensures.bytes,
    c.in_ok-second.ensures.bytes,
    c.in_ok-third.ensures.bytes,
    c.in_ok-fourth.ensures.bytes,
    c.in_ok-fifth.ensures.bytes,
    c.in_ok-sixth.ensures.bytes,
  );
}
