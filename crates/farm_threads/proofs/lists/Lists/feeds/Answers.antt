use Rattle.std.proofs.Common.{arith, ◌≡◌, ◌+◌, ◌-◌, ◌∙◌, ◌<◌, [], ◌∷◌, List, length, map, take, drop, get_or, sym, ap, subst}
use Rattle.std.proofs.Math.ListN.{get_or-map}
use Rattle.std.specs.declared.alloc.Global.{Global}
use Rattle.std.proofs.Common.{Vec}
use Rattle.farm_orders.specs.declared.orders.Order.{Order}
use Rattle.farm_orders.specs.declared.orders.RackList.{RackList}
use Rattle.farm_threads.specs.declared.lists.Lists.{Lists}
use Rattle.farm_orders.specs.FedLists.{IsFewFeeds}
use Rattle.farm_threads.specs.RunFeeds.{lists_of}
use Rattle.farm_orders.proofs.Members.{map_length, place_is, there}
use Rattle.farm_threads.proofs.BoardRows.{one_at}
use Rattle.farm_threads.proofs.lists.Lists.feeds.Goals as goal

pub returns-in-One-clause-all : goal.returns-in-One-clause-all
returns-in-One-clause-all c =
    let k = c.args.rack in let racks = c.in-One.racks.now in
    let low : k < length (map (λ (x : List Order). x ∷ []) racks) = subst (λ (s : Lists). k < length (lists_of s)) c.in-One.is c.requires in
    let same = map_length (λ (x : List Order). x ∷ []) racks in
    let one : k + 1 - k ≡ 1 = omega arith in
    ap (λ n. take n (drop k c.lists.result.now)) one
    ∙ (ap (λ (l : List (List Order)). take 1 (drop k l)) c.lists.ensures.all
    ∙ (one_at racks k (omega arith) ∙ ap (λ (s : Lists). get_or (lists_of s) k []) (sym c.in-One.is)))

pub returns-in-Several-clause-few : goal.returns-in-Several-clause-few
returns-in-Several-clause-few c =
    let k = c.args.rack in let feeds = c.in-Several.feeds.now in
    let low : k < length feeds = subst (λ (s : Lists). k < length (lists_of s)) c.in-Several.is c.requires in
    let x = there feeds k low in let idx = c.index-racks-rack.result in
    let items : Vec RackList Global → List (List Order) = λ v. v.items in
    let is : x.0 ≡ c.as_slice.result.now =
    sym (place_is feeds k x.0 (items idx) x.1)
    ∙ (ap (λ (l : List (List (List Order))). get_or l k (items idx)) (sym c.racks.ensures.all)
    ∙ (get_or-map items c.racks.result.now k idx
    ∙ (ap items (sym c.index-racks-rack.is) ∙ sym c.as_slice.ensures.value))) in
    subst IsFewFeeds is (c.racks.ensures.few.1 k x.0 x.1)
