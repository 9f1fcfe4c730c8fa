-- What is before the first thread starts: gates, feeders rack by rack, and ends; and what the joined feeders of all racks put.
use Rattle.std.specs.Prelude.{◌≡◌, ℕ, ◌*◌, ◌/◌, List, length, replicate, map, ◌+◌, ◌<◌, ◌≤◌, true}
use mathlib.Core.Option.{some}
use lib.ListN.{get_elem?}
use Rattle.farm_lanes.specs.GateView.{GateName, opened}
use Rattle.farm_orders.specs.declared.orders.Order.{Order}
use Rattle.farm_core.specs.declared.taken.gates.RackSeats.{RackSeats}
use Rattle.std.specs.List.{flat_map}
use Rattle.farm_lanes.specs.LaneEnds.{PutView, new_put, LaneName, AreNewPutEnds, new_take}
use Rattle.farm_threads.specs.declared.jobs.Job.{Job}
use Rattle.farm_threads.specs.declared.given.Feeder.{Feeder}
use Rattle.farm_threads.specs.declared.rack_feeders.RackFeeders.{RackFeeders}
use Rattle.farm_threads.specs.declared.rack_feeders.RackRoom.{RackRoom}
use Rattle.farm_threads.specs.Threads.{AreRackFeeders, feeders_of, AreWorkerEnds, ends_of}
use Rattle.farm_threads.specs.Settled.{HavePut}
use Rattle.farm_core.specs.declared.taken.Room.{Room}
use Rattle.farm_core.specs.declared.threads.all.Started.{Started}
use Rattle.farm_threads.specs.Replies.{Replied}
use Rattle.farm_threads.specs.Boards.{HoldsNothing}
use Rattle.farm_orders.specs.Limits.{all_feeds_limit, rack_limit, worker_limit}

-- a new gate with so many seats and rights, and these are they, with room for as many feeders
pub record IsNewGate (feeds : ℕ) (gate : GateName) (own : RackSeats) : Type 0 where
  pub size : gate.size ≡ record { total = 4294967296 / feeds * feeds; rights = feeds }
  pub seats : own.seats.items ≡ replicate feeds (opened gate.id (4294967296 / feeds))
  pub rights : own.rights.items ≡ replicate feeds gate.id
  pub space : own.space.feeds ≡ feeds

-- for each rack a new gate, with one seat and one right for each of its feeds
pub record AreGates (lists : List (List (List Order))) (gates : List GateName) (seats : List RackSeats) : Type 0 where
  pub gates_count : length gates ≡ length lists
  pub seats_count : length seats ≡ length lists
  pub each : (rack : ℕ) (feeds : List (List Order)) (gate : GateName) (own : RackSeats) → get_elem? lists rack ≡ some feeds
      → get_elem? gates rack ≡ some gate → get_elem? seats rack ≡ some own → IsNewGate (length feeds) gate own

-- the feeders of all racks, in order, with these lists
pub record AreAllFeeders (lists : List (List (List Order))) (racks : List RackFeeders) : Type 0 where
  pub count : length racks ≡ length lists
  pub each : (k : ℕ) (feeds : List (List Order)) (r : RackFeeders) → get_elem? lists k ≡ some feeds → get_elem? racks k ≡ some r
      → AreRackFeeders r.gate.now k feeds (feeders_of r.handles.items)

-- with whatever lists these were the feeders, their ends put what was drawn
abbrev pub HavePutRacks : List RackFeeders → List (PutView Job) → Type 0
HavePutRacks racks puts = (lists : List (List (List Order))) → AreAllFeeders lists racks → HavePut lists puts

-- a rack's gate, and its feeders in order
abbrev pub Given : Type 0
Given = GateName × List Feeder

-- what there is for these racks before their threads start, and what their threads were given
abbrev pub rooms_of : List RackRoom → List Given
rooms_of racks = map (λ (r : RackRoom). (r.gate.now, r.feeders.items)) racks

abbrev pub started_of : List RackFeeders → List Given
started_of racks = map (λ (r : RackFeeders). (r.gate.now, feeders_of r.handles.items)) racks

-- the feeders of all racks, rack by rack
abbrev pub all_given : List Given → List Feeder
all_given given = flat_map (λ (g : Given). g.1) given

-- the put ends of the feeders of all racks, rack by rack
abbrev pub ends_given : List Given → List (PutView Job)
ends_given given = map (λ (f : Feeder). f.jobs) (all_given given)

-- for each rack in order the feeders of its lists
pub record AreAllGiven (lists : List (List (List Order))) (given : List Given) : Type 0 where
  pub count : length given ≡ length lists
  pub each : (k : ℕ) (feeds : List (List Order)) (g : Given) → get_elem? lists k ≡ some feeds → get_elem? given k ≡ some g
      → AreRackFeeders g.0 k feeds g.1

-- a put end as it was when nothing had been put
abbrev pub as_new : PutView Job → PutView Job
as_new e = new_put e.lane e.sender

-- these are the ends of these feeders, in order, whatever was put since
abbrev pub AreEndsOf : List Feeder → List (PutView Job) → Type 0
AreEndsOf feeders puts = map as_new puts ≡ map (λ (f : Feeder). f.jobs) feeders

-- Feeders for each feed of each rack, workers, and a put end for the stops have all ends of the request lane; the workers and the
-- collector, whose board holds no reply yet, have all ends of the reply lane. Nothing was put or taken.
pub record IsReady (room : Room) : Type 0 where
  pub jobs_lane : LaneName Job
  pub replies_lane : LaneName Replied
  pub feeders : ℕ
  pub few_feeders : feeders ≤ all_feeds_limit
  pub few_racks : length room.racks.items ≤ rack_limit
  pub some_workers : 0 < length room.workers.items
  pub few_workers : length room.workers.items ≤ worker_limit
  pub all_jobs : jobs_lane.ends ≡ (feeders + 1) + length room.workers.items
  pub all_replies : replies_lane.ends ≡ length room.workers.items + 1
  pub workers_are : AreWorkerEnds jobs_lane replies_lane room.workers.items
  pub racks_are : AreAllGiven room.desk.board.racks (rooms_of room.racks.items)
  pub ends_are : AreNewPutEnds jobs_lane feeders (ends_given (rooms_of room.racks.items))
  pub stops_is : room.stops ≡ new_put jobs_lane feeders
  pub desk_is : room.desk.replies ≡ new_take replies_lane
  pub nothing : HoldsNothing room.desk.board.racks room.desk.board
  pub space_racks : room.space.ends.racks ≡ length room.racks.items
  pub space_workers : room.space.ends.workers ≡ length room.workers.items

-- all threads of a room were started, each with what it has there
pub record AreStarted (room : Room) (started : Started) : Type 0 where
  pub collecting_is : started.collecting.promise.0.value ≡ room.desk
  pub working_are : started.all ≡ true → ends_of started.working.items ≡ room.workers.items
  pub feeding_are : started.all ≡ true → started_of started.feeding.items ≡ rooms_of room.racks.items
  pub stops_is : started.stops ≡ room.stops
