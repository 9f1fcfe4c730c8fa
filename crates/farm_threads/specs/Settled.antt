-- What the collector cleared, and what there is when all threads were joined.
use Rattle.std.specs.Prelude.{◌≡◌, ℕ, ◌≤◌, List, [], ◌∷◌, ◌++◌, length, Option}
use Rattle.std.specs.List.{sum_by, AllZip}
use Rattle.lrc_code.specs.Requests.{Asked}
use Rattle.farm_lanes.specs.Counting.{once_below}
use Rattle.list_members.specs.Lists.{Each, EachAt}
use Rattle.farm_lanes.specs.declared.lane.item.Item.{Item}
use Rattle.farm_lanes.specs.LaneRecord.{values}
use Rattle.farm_lanes.specs.LaneEnds.{PutView, TakeView, take_end, AreAllEnds}
use Rattle.farm_orders.specs.declared.orders.Order.{Order}
use Rattle.farm_threads.specs.declared.jobs.Job.{Job}
use Rattle.farm_threads.specs.declared.replies.CollectFault.{CollectFault}
use Rattle.farm_threads.specs.Replies.{Replied}
use Rattle.farm_threads.specs.Boards.{Held, AreOneEach, HasHeld}
use Rattle.farm_threads.specs.Feed.{Draws, AreDrawn, IsDrawnBy}
use Rattle.farm_threads.specs.Jobs.{AreReplies, job_weight, IsSoItem, IsSoReply, HasAnswered}

-- held is what this end, unused at first, took
pub record HasCleared (racks : List (List (List Order))) (desk : TakeView Replied) (b : Held) (fault : Option CollectFault)
    (desk_left : TakeView Replied) : Type 0 where
  pub took : List (Item Replied)
  pub desk_is : desk_left ≡ take_end desk.lane took
  pub collected : HasHeld racks b fault (values took)

-- whatever the first has, the second has these too
abbrev pub HasMore : Held → Option CollectFault → List Replied → Held → Option CollectFault → Type 0
HasMore b fault more b_left fault_left = (racks : List (List (List Order))) (xs : List Replied) → HasHeld racks b fault xs
    → HasHeld racks b_left fault_left (xs ++ more)

-- an end that took these too
abbrev pub took_on : {T : Type 0} → TakeView T → List (Item T) → TakeView T
took_on e more = take_end e.lane (e.taken ++ more)

-- so many jobs were taken by this end, and replied to at the board
pub record TookLeft (jobs : TakeView Job) (count : ℕ) (b : Held) (fault : Option CollectFault) (jobs_left : TakeView Job) (b_left : Held)
    (fault_left : Option CollectFault) : Type 0 where
  pub more : List (Item Job)
  pub own : List Replied
  pub jobs_is : jobs_left ≡ took_on jobs more
  pub count_is : length more ≡ count
  pub answered : AreReplies (values more) own
  pub collected : HasMore b fault own b_left fault_left

-- so many replies were taken by this end, and handed to the board
pub record TookReplies (desk : TakeView Replied) (count : ℕ) (b : Held) (fault : Option CollectFault) (desk_left : TakeView Replied)
    (b_left : Held) (fault_left : Option CollectFault) : Type 0 where
  pub more : List (Item Replied)
  pub desk_is : desk_left ≡ took_on desk more
  pub count_is : length more ≡ count
  pub collected : HasMore b fault (values more) b_left fault_left

-- of each rack's feeds, in order, what they drew
pub record AreAllDrawn (racks : List (List (List Order))) (count : ℕ → ℕ) (drawn : ℕ → List Draws) : Type 0 where
  pub each : EachAt (λ rack feeds. AreDrawn feeds (count rack) (drawn rack)) racks
  pub beyond : (rack : ℕ) → length racks ≤ rack → (count rack ≡ 0) × (drawn rack ≡ [])

-- some feed of the rack drew this number for this request
abbrev pub IsDrawnAt : (ℕ → List Draws) → ℕ → ℕ → ℕ → Asked → Type 0
IsDrawnAt drawn rack feed number request = IsDrawnBy (drawn rack) feed number request

-- held is one reply to each number that was drawn
pub record HasOneEach (racks : List (List (List Order))) (b : Held) (fault : Option CollectFault) : Type 0 where
  pub count : ℕ → ℕ
  pub drawn : ℕ → List Draws
  pub all_drawn : AreAllDrawn racks count drawn
  pub replies : List Replied
  pub collected : HasHeld racks b fault replies
  pub each : AreOneEach count replies
  pub right : Each (IsSoReply (IsDrawnAt drawn)) replies

-- these put ends put one job for each number that the racks' feeds drew, and nothing else that asks for a reply
pub record HasPutDrawn (racks : List (List (List Order))) (count : ℕ → ℕ) (drawn : ℕ → List Draws)
    (put_ends : List (PutView Job)) : Type 0 where
  pub all_drawn : AreAllDrawn racks count drawn
  pub once : (rack number : ℕ) → sum_by (λ (e : PutView Job). sum_by (job_weight rack number) e.put) put_ends
      ≡ once_below number (count rack)
  pub right : Each (λ e. Each (IsSoItem (IsDrawnAt drawn)) e.put) put_ends

-- all feeders, workers and the collector were joined: what their ends and the board have
pub record HasJoined (racks : List (List (List Order))) (put_ends : List (PutView Job)) (job_ends : List (TakeView Job))
    (reply_ends : List (PutView Replied)) (desk : TakeView Replied) (b : Held) (fault : Option CollectFault) : Type 0 where
  pub count : ℕ → ℕ
  pub drawn : ℕ → List Draws
  pub put_drawn : HasPutDrawn racks count drawn put_ends
  pub collected : HasHeld racks b fault (values desk.taken)
  pub answered : AllZip HasAnswered job_ends reply_ends
  pub jobs_whole : AreAllEnds put_ends job_ends
  pub replies_whole : AreAllEnds reply_ends (desk ∷ [])
  pub few : (length put_ends ≤ 128) × (length reply_ends ≤ 128)

-- these put ends put one job for each number that the feeds of these racks drew
pub record HavePut (racks : List (List (List Order))) (put_ends : List (PutView Job)) : Type 0 where
  pub count : ℕ → ℕ
  pub drawn : ℕ → List Draws
  pub put_drawn : HasPutDrawn racks count drawn put_ends
