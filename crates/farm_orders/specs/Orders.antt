-- What is before a list's close.
use Rattle.std.specs.Prelude.{ℕ, ◌<◌, List, [], length, slice_index_or, Option, Some, None}
use Rattle.std.specs.List.{Contains}
use Rattle.lrc_code.specs.Lists.{requests_before_close}
use Rattle.lrc_code.specs.Requests.{Asked}
use Rattle.farm_orders.specs.declared.orders.Order.{Order}
use Rattle.farm_orders.specs.declared.orders.Order.TheVariants.{Rebuild, Close}

-- the request that an order asks for
abbrev pub asked_by : Order → Option Asked
asked_by (Rebuild request) = Some request
asked_by Close = None

-- the requests of orders before the first close, or all of them
abbrev pub before_close : List Order → List Asked
before_close orders = requests_before_close asked_by orders

-- the list has a close
abbrev pub HasClose : List Order → Type 0
HasClose orders = Contains orders Close

-- the requests of a rack that are answered; none beyond the last rack
abbrev pub served : List (List Order) → ℕ → List Asked
served racks rack = before_close (slice_index_or racks rack [])

-- the request of that number is answered
abbrev pub IsServed : List (List Order) → ℕ → ℕ → Type 0
IsServed racks rack number = number < length (served racks rack)
