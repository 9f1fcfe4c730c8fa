use Rattle.std.proofs.Common.{◌∙◌, ◌++◌, ◌∷◌, [], List, map, ap}
use Rattle.farm_reading.proofs.FewFeeds.{Rack, feeds_of_one}
use Rattle.farm_files.proofs.batches.feeds_of_rack.Goals as goal

pub from_checked-requires : goal.from_checked-requires
from_checked-requires c =
    feeds_of_one c.push.new.self.items c.args.orders.items
    (ap (map (λ (r : Rack). r.items)) (c.in_ok-push.ensures.items
    ∙ ap (λ (racks : List Rack). racks ++ c.args.orders ∷ []) c.new-racks.ensures.items)) c.requires
