-- What a contract sees of a lane's ends.
use Rattle.std.specs.Prelude.{◌≡◌, ℕ, ◌+◌, ◌<◌, ◌≤◌, List, [], ◌∷◌, ◌++◌, length, map, min}
use Rattle.atomic_table.specs.Seated.{TableId}
use Rattle.atomic_table.specs.declared.badge.Badge.{Badge}
use Rattle.crossbeam_channel.specs.declared.flavors.array.Key.{Key}
use Rattle.list_members.specs.Lists.{Each, EachAt}
use Rattle.farm_lanes.specs.declared.lane.item.Item.{Item}

-- how many items a lane may hold at once, and how many put ends and take ends it may have
abbrev pub IsCapacity : ℕ → Type 0
IsCapacity k = (0 < k) × (k ≤ 1024)

abbrev pub IsPutterCount : ℕ → Type 0
IsPutterCount k = (0 < k) × (k ≤ 128)

abbrev pub IsTakerCount : ℕ → Type 0
IsTakerCount k = (0 < k) × (k ≤ 32)

-- a count, which stays at the greatest u64
abbrev pub counted : ℕ → ℕ
counted n = min n 18446744073709551615

-- a lane: its queue's name, and the number of its ends
pub record LaneName (T : Type 0) : Type 0 where
  pub queue : TableId × Badge (Key (Item T))
  pub ends : ℕ

-- a put end: its lane, its sender's number, and the list that it put
pub record PutView (T : Type 0) : Type 0 where
  pub lane : LaneName T
  pub sender : ℕ
  pub put : List (Item T)

-- a take end: its lane, and the list that it took
pub record TakeView (T : Type 0) : Type 0 where
  pub lane : LaneName T
  pub taken : List (Item T)

module _ {T : Type 0} where
  -- the put end of a sender that put these items, and a take end that took these
  abbrev pub put_end : LaneName T → ℕ → List (Item T) → PutView T
  put_end lane s xs = record { lane = lane; sender = s; put = xs }

  abbrev pub take_end : LaneName T → List (Item T) → TakeView T
  take_end lane xs = record { lane = lane; taken = xs }

  -- an end that has put nothing, and one that has taken nothing
  abbrev pub new_put : LaneName T → ℕ → PutView T
  new_put lane s = put_end lane s []

  abbrev pub new_take : LaneName T → TakeView T
  new_take lane = take_end lane []

  -- this end has put nothing yet; it has taken nothing yet
  abbrev pub IsUnusedPut : PutView T → Type 0
  IsUnusedPut e = e ≡ new_put e.lane e.sender

  abbrev pub IsUnusedTake : TakeView T → Type 0
  IsUnusedTake e = e ≡ new_take e.lane

  -- the end once this item was put too, or taken too
  abbrev pub with_put : PutView T → Item T → PutView T
  with_put e x = put_end e.lane e.sender (e.put ++ x ∷ [])

  abbrev pub with_taken : TakeView T → Item T → TakeView T
  with_taken e x = take_end e.lane (e.taken ++ x ∷ [])

  -- the new put ends of the senders 0 to n - 1, in order
  pub record AreNewPutEnds (lane : LaneName T) (n : ℕ) (puts : List (PutView T)) : Type 0 where
    pub count : length puts ≡ n
    pub each : EachAt (λ s e. e ≡ new_put lane s) puts

  -- n new take ends
  pub record AreNewTakeEnds (lane : LaneName T) (n : ℕ) (takes : List (TakeView T)) : Type 0 where
    pub count : length takes ≡ n
    pub each : Each (λ e. e ≡ new_take lane) takes

  -- the ends of a new lane
  pub record AreNewEnds (putters takers : ℕ) (puts : List (PutView T)) (takes : List (TakeView T)) : Type 0 where
    pub lane : LaneName T
    pub ends : lane.ends ≡ putters + takers
    pub put_ends : AreNewPutEnds lane putters puts
    pub take_ends : AreNewTakeEnds lane takers takes

  -- all ends of one lane: the put ends in the order of their senders, and the take ends
  pub record AreAllEnds (puts : List (PutView T)) (takes : List (TakeView T)) : Type 0 where
    pub lane : LaneName T
    pub all : length puts + length takes ≡ lane.ends
    pub some_put : 0 < length puts
    pub each_put : EachAt (λ s e. (e.lane ≡ lane) × (e.sender ≡ s)) puts
    pub each_take : Each (λ e. e.lane ≡ lane) takes

  -- the lists that these ends put, and took
  abbrev pub puts_of : List (PutView T) → List (List (Item T))
  puts_of ends = map (λ (e : PutView T). e.put) ends

  abbrev pub takes_of : List (TakeView T) → List (List (Item T))
  takes_of ends = map (λ (e : TakeView T). e.taken) ends
