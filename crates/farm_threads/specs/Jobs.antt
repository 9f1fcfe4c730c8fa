-- Jobs, the replies to them, and what a worker leaves in its ends.
use Rattle.std.specs.Prelude.{◌≡◌, ℕ, List, [], ◌∷◌, ⊤, ◌⊎◌, ◌++◌, length, false, ◌==◌, ◌&&◌, if◌then◌else◌}
use Rattle.std.specs.List.{AllZip}
use Rattle.lrc_code.specs.Requests.{Asked}
use Rattle.farm_threads.specs.declared.jobs.Job.{Job}
use Rattle.farm_threads.specs.declared.jobs.Job.TheVariants.{Solve, Stop}
use Rattle.farm_threads.specs.Replies.{Replied}
use Rattle.farm_threads.specs.RunFeeds.{slot_rack, slot_feed}
use Rattle.list_members.specs.Lists.{Each}
use Rattle.farm_lanes.specs.declared.lane.item.Item.{Item}
use Rattle.farm_lanes.specs.declared.lane.item.Item.TheVariants.{Value, End}
use Rattle.farm_lanes.specs.LaneRecord.{is_end, values}
use Rattle.farm_lanes.specs.LaneEnds.{PutView, TakeView, put_end, take_end}

-- the jobs that ask for a reply
abbrev pub solves : List Job → List Job
solves [] = []
solves (Solve slot number request ∷ jobs) = Solve slot number request ∷ solves jobs
solves (Stop ∷ jobs) = solves jobs

-- the reply is to this job
abbrev pub IsReplyTo : Job → Replied → Type 0
IsReplyTo (Solve slot number request) reply = (reply.rack ≡ slot) × (reply.number ≡ number) × (reply.request ≡ request.now)
IsReplyTo Stop reply = ⊥

-- one reply to each job that asks for one, in order
abbrev pub AreReplies : List Job → List Replied → Type 0
AreReplies jobs replies = AllZip IsReplyTo (solves jobs) replies

-- the job asks for a reply to a request of this slot
abbrev pub IsOfSlot : ℕ → Job → Type 0
IsOfSlot slot (Solve s number request) = s ≡ slot
IsOfSlot slot Stop = ⊥

-- the job's slot is that of this feed of this rack
abbrev pub IsOfFeed : ℕ → ℕ → Job → Type 0
IsOfFeed rack feed (Solve slot number request) = (slot_rack slot ≡ rack) × (slot_feed slot ≡ feed)
IsOfFeed rack feed Stop = ⊥

-- the numbers of these jobs, and their requests
abbrev pub numbers_of : List Job → List ℕ
numbers_of [] = []
numbers_of (Solve slot number request ∷ jobs) = number ∷ numbers_of jobs
numbers_of (Stop ∷ jobs) = numbers_of jobs

abbrev pub requests_of : List Job → List Asked
requests_of [] = []
requests_of (Solve slot number request ∷ jobs) = request.now ∷ requests_of jobs
requests_of (Stop ∷ jobs) = requests_of jobs

-- With these ends, unused at first, a worker took some items, and put one reply to each job that it took, in that order, and
-- then its end mark.
pub record HasWorked (jobs : TakeView Job) (replies : PutView Replied) (jobs_left : TakeView Job)
    (replies_left : PutView Replied) : Type 0 where
  pub took : List (Item Job)
  pub put : List (Item Replied)
  pub only_values : Each (λ x. is_end x ≡ false) put
  pub answered : AreReplies (values took) (values put)
  pub jobs_is : jobs_left ≡ take_end jobs.lane took
  pub replies_is : replies_left ≡ put_end replies.lane replies.sender (put ++ End replies.sender (length put) ∷ [])

-- the item says to stop
abbrev pub SaysStop : Item Job → Type 0
SaysStop (Value s i (Solve slot number request)) = ⊥
SaysStop (Value s i Stop) = ⊤
SaysStop (End s i) = ⊥

-- of the items that a worker took just the last says to stop; or none does, and its reply end put as many items as one can
abbrev pub HasStopped : List (Item Job) → List (Item Replied) → Type 0
HasStopped taken put =
    ((before : List (Item Job)) × (last : Item Job) × (taken ≡ before ++ last ∷ []) × SaysStop last × Each (λ x. ¬ SaysStop x) before)
    ⊎ ((length put ≡ 4294967296) × Each (λ x. ¬ SaysStop x) taken)

-- the item asks for no reply
abbrev pub AsksNothing : Item Job → Type 0
AsksNothing (Value s i (Solve slot number request)) = ⊥
AsksNothing (Value s i Stop) = ⊤
AsksNothing (End s i) = ⊤

-- with this end, unused at first, nothing was put that asks for a reply
pub record HasPutStops (stops stops_left : PutView Job) : Type 0 where
  pub put : List (Item Job)
  pub stops_is : stops_left ≡ put_end stops.lane stops.sender put
  pub nothing : Each AsksNothing put

-- 1 where the item asks for a reply by this number, for a slot of this rack
abbrev pub job_weight : ℕ → ℕ → Item Job → ℕ
job_weight rack number (Value s i (Solve slot k request)) = if (slot_rack slot == rack) && (k == number) then 1 else 0
job_weight rack number (Value s i Stop) = 0
job_weight rack number (End s i) = 0

-- 1 where the item replies by this number, for a slot of this rack
abbrev pub reply_weight : ℕ → ℕ → Item Replied → ℕ
reply_weight rack number (Value s i x) = if (slot_rack x.rack == rack) && (x.number == number) then 1 else 0
reply_weight rack number (End s i) = 0

-- of the rack, the feed, the number and the request of a job this holds
abbrev pub IsSoJob : (ℕ → ℕ → ℕ → Asked → Type 0) → Job → Type 0
IsSoJob P (Solve slot number request) = P (slot_rack slot) (slot_feed slot) number request.now
IsSoJob P Stop = ⊤

abbrev pub IsSoItem : (ℕ → ℕ → ℕ → Asked → Type 0) → Item Job → Type 0
IsSoItem P (Value s i job) = IsSoJob P job
IsSoItem P (End s i) = ⊤

-- and of those of a reply
abbrev pub IsSoReply : (ℕ → ℕ → ℕ → Asked → Type 0) → Replied → Type 0
IsSoReply P x = P (slot_rack x.rack) (slot_feed x.rack) x.number x.request

-- what this end put replies to what that end took
abbrev pub HasAnswered : TakeView Job → PutView Replied → Type 0
HasAnswered jobs replies = AreReplies (values jobs.taken) (values replies.put)
