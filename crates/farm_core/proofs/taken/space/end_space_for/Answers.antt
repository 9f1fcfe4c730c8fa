use Rattle.std.proofs.Common.{refl}
use Rattle.farm_core.proofs.taken.space.end_space_for.Goals as goal

pub invariant_of-result : goal.invariant_of-result
invariant_of-result c =
    let puts = c.in_ok-with_capacity.ensures in
    let jobs = c.in_ok-with_capacity-2.ensures in
    let replies = c.in_ok-with_capacity-3.ensures in
    let desk = c.in_ok-with_capacity-4.ensures in record {
      puts = (puts.items, puts.capacity);
      worked = (jobs.items, jobs.capacity, replies.items, replies.capacity);
      last = (desk.items, desk.capacity);
    }

pub returns : goal.returns
returns c = (refl, refl)
