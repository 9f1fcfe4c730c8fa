-- Why a reply is refused, and what a collector misses.
use Rattle.std.specs.Prelude.{◌≡◌, IsSome, ℕ, List, Option}
use Rattle.farm_threads.specs.Replies.{Replied, Collected, Entry, reply_at, IsLeastMissing, IsComplete, HasCell, cell_at}
use Rattle.farm_threads.specs.declared.replies.CollectFault.{CollectFault}
use Rattle.farm_threads.specs.declared.replies.CollectFault.TheVariants.{Stranger, Double}
use Rattle.farm_threads.specs.declared.replies.FinishFault.{FinishFault}
use Rattle.farm_threads.specs.declared.replies.FinishFault.TheVariants.{Missing, OutOfMemory}
use Rattle.farm_orders.specs.Orders.{IsServed}

-- it is to no request that is served, or the second to its request; it is handed back
abbrev pub IsRefused : Collected → Replied → CollectFault → Type 0
IsRefused c reply (Stranger back) = (back ≡ reply) × (IsServed c.racks reply.rack reply.number → ⊥)
IsRefused c reply (Double back) = (back ≡ reply) × IsServed c.racks reply.rack reply.number × IsSome (reply_at c reply.rack reply.number)

-- the first reply that is missing; or none is
abbrev pub IsUnfinished : Collected → FinishFault → Type 0
IsUnfinished c (Missing rack number) = IsLeastMissing c rack number
IsUnfinished c OutOfMemory = IsComplete c

-- for this reply there is no cell at this rack, or there is an entry in it already; it is handed back
abbrev pub IsNotEntered : List (List (Option Entry)) → ℕ → Replied → CollectFault → Type 0
IsNotEntered table rack reply (Stranger back) = (back ≡ reply) × (HasCell table rack reply.number → ⊥)
IsNotEntered table rack reply (Double back) = (back ≡ reply) × HasCell table rack reply.number × IsSome (cell_at table rack reply.number)
