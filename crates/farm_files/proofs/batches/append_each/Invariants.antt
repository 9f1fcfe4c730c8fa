use Rattle.std.proofs.Common.{◌≡◌, ◌++◌, length}
use Rattle.farm_core.specs.Merge.{joined}
use Rattle.farm_files.specs.AnsweredRacks.{rack_requests}
use Rattle.farm_files.proofs.batches.append_each.Given as goal

abbrev pub invariant-loop-requests : goal.invariant-loop-requests
invariant-loop-requests l = record {
  same : length l.requests.items ≡ length l.later.items;
  so_far : rack_requests l.all.items ++ joined (rack_requests l.requests.items) (rack_requests l.later.items)
      ≡ joined (rack_requests l.fn.requests.items) (rack_requests l.fn.later.items);
}

abbrev pub decreases-loop-requests : goal.decreases-loop-requests
decreases-loop-requests l = length l.requests.items
