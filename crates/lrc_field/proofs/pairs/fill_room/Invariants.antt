use Rattle.std.proofs.Common.{◌≡◌, ◌≤◌, ℕ, length, take, map}
use Rattle.lrc_field.specs.Sums.{column, combination}
use Rattle.lrc_field.specs.Pairs.{first_sum_at, second_sum_at, HavePairsRoom}
use Rattle.lrc_field.specs.Terms.{HaveLengthWhereUsed}
use Rattle.lrc_field.proofs.pairs.fill_room.Given as goal

abbrev pub invariant-loop-k : goal.invariant-loop-k
invariant-loop-k g l = record {
  long : length l.room ≡ 16;
  few : l.count ≤ l.k;
  lengths : (len : ℕ) → HaveLengthWhereUsed l.firsts (map g.S.Source.bytes_of l.sources) len
      → HaveLengthWhereUsed l.seconds (map g.S.Source.bytes_of l.sources) len → HavePairsRoom len (take l.count l.room);
  first_sums : (i : ℕ) → first_sum_at (take l.count l.room) i
      ≡ combination (take l.k l.firsts) (column (map g.S.Source.bytes_of l.sources) i);
  second_sums : (i : ℕ) → second_sum_at (take l.count l.room) i
      ≡ combination (take l.k l.seconds) (column (map g.S.Source.bytes_of l.sources) i);
}
