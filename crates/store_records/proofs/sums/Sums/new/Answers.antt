use Rattle.std.proofs.Common.{ap}
use Rattle.std.specs.BTreeMap.{is_at}
use Rattle.std.specs.Cmp.Lexicographic.{slice_cmp}
use Rattle.std.specs.Map.{lookup}
use Rattle.std.specs.Ordering.{nat_cmp}
use Rattle.store_records.proofs.sums.Sums.new.Goals as goal

pub returns : goal.returns
returns c = λ name. ap (lookup (is_at (λ k. slice_cmp nat_cmp name k.items))) c.new.ensures.empty
