-- The limits of a farm.
use Rattle.std.specs.Prelude.{ℕ, ◌≤◌}
use Rattle.farm_orders.specs.declared.settings.SettingsFault.{SettingsFault}
use Rattle.farm_orders.specs.declared.settings.SettingsFault.TheVariants.{BadWorkers, BadQueue}

-- how many orders a rack's list may have, how many racks there may be, and how many feeds each
abbrev pub order_limit : ℕ
order_limit = 4096

abbrev pub rack_limit : ℕ
rack_limit = 16

abbrev pub feed_limit : ℕ
feed_limit = 4

-- so many feeds all racks may have
abbrev pub all_feeds_limit : ℕ
all_feeds_limit = 64

-- how many workers there may be, and how much each queue may hold
abbrev pub worker_limit : ℕ
worker_limit = 16

abbrev pub queue_limit : ℕ
queue_limit = 1024

-- from 1 to this
abbrev pub IsFrom1To : ℕ → ℕ → Type 0
IsFrom1To most n = (1 ≤ n) × (n ≤ most)

-- the workers are out of their limits; or they are not, and the queue is
abbrev pub IsOutOfLimits : ℕ → ℕ → SettingsFault → Type 0
IsOutOfLimits workers queue BadWorkers = IsFrom1To worker_limit workers → ⊥
IsOutOfLimits workers queue BadQueue = IsFrom1To worker_limit workers × (IsFrom1To queue_limit queue → ⊥)
