use Rattle.std.proofs.Common.{◌≡◌, ◌≤◌, ℕ, length, take, map}
use Rattle.lrc_field.specs.Sums.{column, combination}
use Rattle.lrc_field.specs.Combined.{sum_at, HaveLength}
use Rattle.lrc_field.specs.Terms.{HaveLengthWhereUsed}
use Rattle.lrc_field.proofs.terms.fill_room.Given as goal

abbrev pub invariant-loop-k : goal.invariant-loop-k
invariant-loop-k g l = record {
  long : length l.room ≡ 16;
  few : l.count ≤ l.k;
  lengths : (len : ℕ) → HaveLengthWhereUsed l.coefficients (map g.S.Source.bytes_of l.sources) len → HaveLength len (take l.count l.room);
  sums : (i : ℕ) → sum_at (take l.count l.room) i
      ≡ combination (take l.k l.coefficients) (column (map g.S.Source.bytes_of l.sources) i);
}
