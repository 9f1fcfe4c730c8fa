-- What joined workers leave.
use Rattle.std.specs.Prelude.{◌≡◌, ℕ, List, length, map, Option}
use mathlib.Core.Option.{some}
use lib.ListN.{get_elem?}
use Rattle.std.specs.declared.thread.PromisedHandle.{PromisedHandle}
use Rattle.farm_lanes.specs.LaneEnds.{LaneName, PutView, TakeView, new_put, new_take}
use Rattle.farm_threads.specs.declared.jobs.Job.{Job}
use Rattle.farm_threads.specs.declared.worker.Worked.{Worked}
use Rattle.farm_threads.specs.Replies.{Replied}
use Rattle.farm_threads.specs.declared.worker.WorkOf.{WorkOf}
use Rattle.farm_threads.specs.declared.given.WorkerEnds.{WorkerEnds}
use Rattle.farm_threads.specs.declared.given.Feeder.{Feeder}
use Rattle.std.specs.List.{sum_by}
use Rattle.farm_lanes.specs.GateView.{GateName}
use Rattle.list_members.specs.Lists.{Each}
use Rattle.farm_threads.specs.declared.feeder.Fed.{Fed}
use Rattle.farm_threads.specs.Feed.{LeftBy}
use Rattle.farm_orders.specs.declared.orders.Order.{Order}
use Rattle.list_members.specs.Lists.{EachAt}
use Rattle.farm_threads.specs.declared.feeder.FeedOf.{FeedOf}
use Rattle.farm_threads.specs.Jobs.{HasWorked}

-- the ends that these workers were given
abbrev pub ends_of : List (PromisedHandle Worked WorkOf) → List WorkerEnds
ends_of handles = map (λ h. h.promise.0.value) handles

-- what these feeders were given
abbrev pub feeders_of : List (PromisedHandle (Option Fed) FeedOf) → List Feeder
feeders_of handles = map (λ h. h.promise.0.value) handles

-- the ends at each index are what the worker of that index left
pub record WorkersJoined (handles : List (PromisedHandle Worked WorkOf)) (jobs : List (TakeView Job))
    (replies : List (PutView Replied)) : Type 0 where
  pub jobs_count : length jobs ≡ length handles
  pub replies_count : length replies ≡ length handles
  pub each : (k : ℕ) (h : PromisedHandle Worked WorkOf) (j : TakeView Job) (r : PutView Replied) → get_elem? handles k ≡ some h
      → get_elem? jobs k ≡ some j → get_elem? replies k ≡ some r → HasWorked h.promise.0.value.jobs h.promise.0.value.replies j r

-- the workers' ends as they were given: unused ends of two lanes, in order
pub record AreWorkerEnds (jobs_lane : LaneName Job) (replies_lane : LaneName Replied) (ends : List WorkerEnds) : Type 0 where
  pub each : (k : ℕ) (e : WorkerEnds) → get_elem? ends k ≡ some e → (e.jobs ≡ new_take jobs_lane) × (e.replies ≡ new_put replies_lane k)

-- what each feeder left is at its index
pub record FeedersJoined (handles : List (PromisedHandle (Option Fed) FeedOf)) (given_back : List Fed) : Type 0 where
  pub count : length given_back ≡ length handles
  pub each : (k : ℕ) (h : PromisedHandle (Option Fed) FeedOf) (f : Fed) → get_elem? handles k ≡ some h → get_elem? given_back k ≡ some f
      → LeftBy h.promise.0.value f

-- all seats and rights of these feeders are this gate's
abbrev pub AreOfGate : GateName → List (PromisedHandle (Option Fed) FeedOf) → Type 0
AreOfGate gate handles = Each (λ h. h.promise.0.value.gate.now ≡ gate) handles

-- the feeders of a rack: each at the index of its feed, with its list, and all seats and rights of their gate
pub record AreRackFeeders (gate : GateName) (rack : ℕ) (lists : List (List Order)) (feeders : List Feeder) : Type 0 where
  pub count : length feeders ≡ length lists
  pub rights : gate.size.rights ≡ length feeders
  pub shares : sum_by (λ (f : Feeder). f.seat.has.share) feeders ≡ gate.size.total
  pub each : EachAt (λ k (f : Feeder). (f.rack ≡ rack) × (f.feed ≡ k) × (get_elem? lists k ≡ some f.list.now) × (f.gate.now ≡ gate)) feeders
