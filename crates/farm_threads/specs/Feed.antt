-- What a feeder leaves in its end and its seat, and what a rack's feeders drew together.
use Rattle.std.specs.Prelude.{◌≡◌, ℕ, ◌+◌, ◌<◌, ◌≤◌, List, [], ◌∷◌, ◌++◌, length, take, Option, Some, None, Bool, true, false}
use Rattle.std.specs.Prelude.{if◌then◌else◌, ◌⊎◌, map}
use Rattle.std.specs.List.{All, sum_by}
use mathlib.Core.Option.{some}
use lib.ListN.{get_elem?}
use Rattle.farm_lanes.specs.declared.lane.item.Item.{Item}
use Rattle.farm_lanes.specs.declared.lane.item.Item.TheVariants.{End}
use Rattle.farm_lanes.specs.declared.gate.record.SeatRecord.{SeatRecord}
use Rattle.farm_lanes.specs.LaneRecord.{is_end, values}
use Rattle.list_members.specs.Lists.{Each, EachAt}
use Rattle.farm_lanes.specs.LaneEnds.{PutView, put_end}
use Rattle.farm_lanes.specs.GateView.{GateName, SeatView, GateId}
use Rattle.farm_orders.specs.declared.orders.Order.{Order}
use Rattle.farm_threads.specs.declared.jobs.Job.{Job}
use Rattle.farm_orders.specs.Orders.{before_close, HasClose}
use Rattle.farm_threads.specs.Jobs.{IsOfSlot, numbers_of, requests_of, IsOfFeed}
use Rattle.lrc_code.specs.Requests.{Asked}
use Rattle.farm_lanes.specs.Counting.{times, once_below}
use Rattle.farm_threads.specs.declared.jobs.Job.TheVariants.{Solve, Stop}
use Rattle.farm_threads.specs.declared.feeder.Fed.{Fed}
use Rattle.farm_orders.specs.Limits.{feed_limit}
use Rattle.farm_threads.specs.RunFeeds.{slot_of}
use Rattle.farm_threads.specs.declared.given.Feeder.{Feeder}

-- the numbers are 0, 1, 2 and so on
abbrev pub CountUp : List ℕ → Type 0
CountUp ns = (k x : ℕ) → get_elem? ns k ≡ some x → x ≡ k

-- the numbers rise
abbrev pub AreRising : List ℕ → Type 0
AreRising ns = (j k x y : ℕ) → j < k → get_elem? ns j ≡ some x → get_elem? ns k ≡ some y → x < y

-- the answer of a close that was made, if it made it, is in the seat
abbrev pub IsMade : List ℕ → Option ℕ → List ℕ → Type 0
IsMade was (Some n) made = made ≡ was ++ n ∷ []
IsMade was None made = made ≡ was

-- how many of a feeder's draws were refused: one, if the right is back and the seat knows of a closing
abbrev pub refused_draws : Option GateId → Bool → ℕ
refused_draws (Some right) knows = if knows then 1 else 0
refused_draws None knows = 0

-- the right is back, and unless the seat knows of a closing everything was put, of a list without a close; or the right was
-- spent on the close of the list, of which the seat knows, and everything before it was put
abbrev pub IsRightLeft : GateId → SeatRecord → List Order → Type 0 → Option GateId → Option ℕ → SeatRecord → Type 0
IsRightLeft gate was list All_put (Some right) close left =
    (right ≡ gate) × (close ≡ None) × (left.used ≡ was.used) × (left.made ≡ was.made) × (left.knows ≡ false → All_put × ¬ HasClose list)
IsRightLeft gate was list All_put None close left = (left.used ≡ was.used + 1) × IsMade was.made close left.made × All_put × HasClose list
    × (left.knows ≡ true)

-- With this seat and this end, unused at first, a feeder put a job for each of the first requests of its list, with its slot and
-- the numbers that it drew, which rise, and then its end mark.
pub record HasFed (gate : GateName) (seat : SeatView) (slot : ℕ) (list : List Order) (jobs : PutView Job) (seat_left : SeatView)
    (right_left : Option GateId) (close : Option ℕ) (jobs_left : PutView Job) : Type 0 where
  pub put : List (Item Job)
  pub only_values : Each (λ x. is_end x ≡ false) put
  pub jobs_is : jobs_left ≡ put_end jobs.lane jobs.sender (put ++ End jobs.sender (length put) ∷ [])
  pub slot_is : All (IsOfSlot slot) (values put)
  pub requests_are : requests_of (values put) ≡ take (length (values put)) (before_close list)
  pub numbers_are : seat_left.has.numbers ≡ numbers_of (values put)
  pub rising : AreRising (numbers_of (values put))
  pub lone : seat.has.share ≡ gate.size.total → CountUp (numbers_of (values put))
  pub gate_is : seat_left.gate ≡ seat.gate
  pub share_is : seat_left.has.share ≡ seat.has.share
  pub held_is : seat_left.has.held ≡ seat.has.held
  pub draws_are : seat_left.has.draws ≡ seat.has.draws + length (values put) + refused_draws right_left seat_left.has.knows
  pub within : seat_left.has.draws ≤ seat_left.has.share
  pub right : IsRightLeft gate.id seat.has list (length (values put) ≡ length (before_close list)) right_left close seat_left.has

-- the numbers that a feed drew, each with the request that it was drawn for
abbrev pub Draws : Type 0
Draws = List (ℕ × Asked)

abbrev pub drawn_numbers : Draws → List ℕ
drawn_numbers draws = map (λ x. x.0) draws

abbrev pub drawn_requests : Draws → List Asked
drawn_requests draws = map (λ x. x.1) draws

-- this feed drew for all requests before its close
abbrev pub DrewAll : Draws → List Order → Type 0
DrewAll draws list = drawn_requests draws ≡ before_close list

-- The numbers below n were drawn, each once. Each feed's rise, and it drew for its first requests in order. No feed has a close,
-- and each drew for all of its requests; or some feed that has a close did.
pub record AreDrawn (feeds : List (List Order)) (n : ℕ) (drawn : List Draws) : Type 0 where
  pub count : length drawn ≡ length feeds
  pub rising : Each (λ draws. AreRising (drawn_numbers draws)) drawn
  pub once : (x : ℕ) → sum_by (λ (draws : Draws). times x (drawn_numbers draws)) drawn ≡ once_below x n
  pub prefixes : (feed : ℕ) (list : List Order) (draws : Draws) → get_elem? feeds feed ≡ some list → get_elem? drawn feed ≡ some draws
      → drawn_requests draws ≡ take (length draws) (before_close list)
  pub ended :
      ((feed : ℕ) (list : List Order) (draws : Draws) → get_elem? feeds feed ≡ some list → get_elem? drawn feed ≡ some draws
      → ¬ HasClose list × DrewAll draws list)
      ⊎ ((feed : ℕ) × (list : List Order) × (draws : Draws) × (get_elem? feeds feed ≡ some list) × (get_elem? drawn feed ≡ some draws)
      × HasClose list × DrewAll draws list)

-- the feed drew this number for this request
abbrev pub IsDrawnBy : List Draws → ℕ → ℕ → Asked → Type 0
IsDrawnBy drawn feed number request = (draws : Draws) × (i : ℕ) × (get_elem? drawn feed ≡ some draws)
    × (get_elem? draws i ≡ some (number, request))

-- the numbers and the requests of jobs
abbrev pub draws_of : List Job → Draws
draws_of [] = []
draws_of (Solve slot number request ∷ jobs) = (number, request.now) ∷ draws_of jobs
draws_of (Stop ∷ jobs) = draws_of jobs

-- a seat that came of these: shares, numbers, rights and closes add up, and it knows a closing where one of them does
pub record IsJoint (s : SeatRecord) (parts : List SeatRecord) : Type 0 where
  pub share : s.share ≡ sum_by (λ (t : SeatRecord). t.share) parts
  pub numbers : (x : ℕ) → times x s.numbers ≡ sum_by (λ (t : SeatRecord). times x t.numbers) parts
  pub used : s.used ≡ sum_by (λ (t : SeatRecord). t.used) parts
  pub made : length s.made ≡ sum_by (λ (t : SeatRecord). length t.made) parts
  pub unclosed : s.knows ≡ false → Each (λ (t : SeatRecord). t.knows ≡ false) parts

-- the right that came back, if it did
abbrev pub right_back : Option GateId → List GateId
right_back None = []
right_back (Some right) = right ∷ []

-- the seat is this gate's, and so is the right that came back; no more was drawn than the seat's share
abbrev pub IsOfGate : GateId → Fed → Type 0
IsOfGate gate fed = (fed.seat.gate ≡ gate) × ((right : GateId) → fed.right ≡ Some right → right ≡ gate)
    × (fed.seat.has.draws ≤ fed.seat.has.share)

-- these are what the feeders of a rack left, in order, which had all seats and all rights of its gate
pub record AreFed (gate : GateName) (rack : ℕ) (lists : List (List Order)) (given_back : List Fed) : Type 0 where
  pub count : length given_back ≡ length lists
  pub rights : gate.size.rights ≡ length given_back
  pub shares : sum_by (λ (f : Fed). f.seat.has.share) given_back ≡ gate.size.total
  pub each : (feed : ℕ) (list : List Order) (fed : Fed) → get_elem? lists feed ≡ some list → get_elem? given_back feed ≡ some fed
      → (seat : SeatView) × (jobs : PutView Job) × (seat.has.used ≡ 0) × (seat.has.made ≡ [])
      × HasFed gate seat (slot_of rack feed) list jobs fed.seat fed.right fed.close fed.jobs × (feed < feed_limit)

-- the feeders of a rack drew the numbers below n, as is lawful, and each put its jobs by what it drew
pub record HasDrawn (rack : ℕ) (lists : List (List Order)) (puts : List (PutView Job)) : Type 0 where
  pub n : ℕ
  pub are : AreDrawn lists n (map (λ (e : PutView Job). draws_of (values e.put)) puts)
  pub each : EachAt (λ feed e. All (IsOfFeed rack feed) (values e.put)) puts

-- this is what this feeder left
abbrev pub LeftBy : Feeder → Fed → Type 0
LeftBy f fed = HasFed f.gate.now f.seat (slot_of f.rack f.feed) f.list.now f.jobs fed.seat fed.right fed.close fed.jobs
