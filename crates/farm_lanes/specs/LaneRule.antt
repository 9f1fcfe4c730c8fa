-- The rule of a lane's queue, and what each step changes in the record of its end.
use Rattle.std.specs.Prelude.{◌≡◌, ℕ, zero, suc, ◌+◌, ◌<◌, ◌≤◌, ◌==◌, List, [], ◌∷◌, ◌++◌, length, drop}
use Rattle.std.specs.List.{sum_by, count_by}
use mathlib.Core.Option.{some}
use lib.ListN.{get_elem?}
use Rattle.list_members.specs.Lists.{Each}
use Rattle.farm_lanes.specs.Counting.{once_below}
use Rattle.farm_lanes.specs.LaneRecord.{sender_of, number_of, from_sender, times_of, IsNumbered}
use Rattle.farm_lanes.specs.declared.lane.item.Item.{Item}
use Rattle.farm_lanes.specs.declared.lane.rule.EndRecord.{EndRecord}

module _ {T : Type 0} where
  abbrev pub end_record : ℕ → ℕ → List (ℕ × List (Item T)) → List (Item T) → EndRecord T
  end_record ends parts puts taken = record { ends = ends; parts = parts; puts = puts; taken = taken }

  -- how many lists of the sender s are among these
  abbrev pub lists_of : ℕ → List (ℕ × List (Item T)) → ℕ
  lists_of s ps = count_by (λ (p : ℕ × List (Item T)). p.0 == s) ps

  -- how many items were put in all
  abbrev pub put_length : List (ℕ × List (Item T)) → ℕ
  put_length ps = sum_by (λ (p : ℕ × List (Item T)). length p.1) ps

  -- the weight of all that was put
  abbrev pub put_weight : (Item T → ℕ) → List (ℕ × List (Item T)) → ℕ
  put_weight g ps = sum_by (λ (p : ℕ × List (Item T)). sum_by g p.1) ps

  -- What a record satisfies in a lane with so many ends: `sent` has each sender's list, and `prefix` how many of it were taken. Its
  -- lists are those of their senders, and what was taken is before its sender's prefix.
  pub record IsLawfulEnd (ends : ℕ) (sent : ℕ → List (Item T)) (prefix : ℕ → ℕ) (v : EndRecord T) : Type 0 where
    pub same_ends : 0 < v.parts → v.ends ≡ ends
    pub idle : v.parts ≡ 0 → (v.puts ≡ []) × (v.taken ≡ [])
    pub puts : (k : ℕ) (p : ℕ × List (Item T)) → get_elem? v.puts k ≡ some p → p.1 ≡ sent p.0
    pub taken : Each (λ x. (number_of x < prefix (sender_of x)) × (get_elem? (sent (sender_of x)) (number_of x) ≡ some x)) v.taken

  -- Between any two steps each sender's list is in one record at most, numbered from 0. Of each sender the queue holds, in order,
  -- what is after its prefix, and over all records the items before it were taken, each once. Whatever weights items have,
  -- those taken and those in the queue make up those put.
  pub record KeepsLane (items : List (Item T)) (views : List (EndRecord T)) : Type 0 where
    pub ends : ℕ
    pub sent : ℕ → List (Item T)
    pub prefix : ℕ → ℕ
    pub parts : sum_by (λ (v : EndRecord T). v.parts) views ≡ ends
    pub each : (k : ℕ) (v : EndRecord T) → get_elem? views k ≡ some v → IsLawfulEnd ends sent prefix v
    pub senders : (s : ℕ) → sum_by (λ (v : EndRecord T). lists_of s v.puts) views ≤ 1
    pub unsent : (s : ℕ) → sum_by (λ (v : EndRecord T). lists_of s v.puts) views ≡ 0 → sent s ≡ []
    pub numbered : (s : ℕ) → IsNumbered s (sent s)
    pub held : (s : ℕ) → (from_sender s items ≡ drop (prefix s) (sent s)) × (prefix s ≤ length (sent s))
    pub once : (s i : ℕ) → sum_by (λ (v : EndRecord T). times_of s i v.taken) views ≡ once_below i (prefix s)
    pub lengths : sum_by (λ (v : EndRecord T). put_length v.puts) views ≡ sum_by (λ (v : EndRecord T). length v.taken) views + length items
    pub weights : (g : Item T → ℕ) → sum_by (λ (v : EndRecord T). put_weight g v.puts) views
        ≡ sum_by (λ (v : EndRecord T). sum_by g v.taken) views + sum_by g items

  -- the empty lists of n senders, from the sender s on
  abbrev pub empty_lists : ℕ → ℕ → List (ℕ × List (Item T))
  empty_lists s zero = []
  empty_lists s (suc n) = (s, []) ∷ empty_lists (s + 1) n

  -- the list of the first sender, and that sender
  abbrev pub first_list : List (ℕ × List (Item T)) → List (Item T)
  first_list [] = []
  first_list (p ∷ ps) = p.1

  abbrev pub put_of : EndRecord T → List (Item T)
  put_of v = first_list v.puts

  -- the first sender's list alone, and the others
  abbrev pub puts_first : List (ℕ × List (Item T)) → List (ℕ × List (Item T))
  puts_first [] = []
  puts_first (p ∷ ps) = p ∷ []

  abbrev pub puts_rest : List (ℕ × List (Item T)) → List (ℕ × List (Item T))
  puts_rest [] = []
  puts_rest (p ∷ ps) = ps

  -- two records became one
  abbrev pub joined : EndRecord T → EndRecord T → EndRecord T
  joined v w = end_record v.ends (v.parts + w.parts) (v.puts ++ w.puts) (v.taken ++ w.taken)

  -- the first sender's list grew by what was put
  abbrev pub put_last : List (ℕ × List (Item T)) → Item T → List (ℕ × List (Item T))
  put_last [] x = []
  put_last (p ∷ ps) x = (p.0, p.1 ++ x ∷ []) ∷ ps

  abbrev pub put_on : EndRecord T → Item T → EndRecord T
  put_on v x = end_record v.ends v.parts (put_last v.puts x) v.taken

  -- the list of what was taken grew by the item
  abbrev pub take_on : EndRecord T → Item T → EndRecord T
  take_on v x = end_record v.ends v.parts v.puts (v.taken ++ x ∷ [])

  -- the record of a put end of this sender, which put so many items
  pub record IsPutRecord (sender count : ℕ) (v : EndRecord T) : Type 0 where
    pub puts : v.puts ≡ (sender, put_of v) ∷ []
    pub counted : count ≡ length (put_of v)
    pub parts : v.parts ≡ 1
    pub few : v.ends ≤ 65536
    pub taken : v.taken ≡ []

  -- a put end's step
  abbrev pub Puts : EndRecord T → Item T → EndRecord T → Type 0
  Puts v x w = w ≡ put_on v x

  -- a take end's step, by which its sender's numbers rise
  abbrev pub Takes : EndRecord T → Item T → EndRecord T → Type 0
  Takes v x w = (w ≡ take_on v x) × Each (λ y. sender_of y ≡ sender_of x → number_of y < number_of x) v.taken

  -- what the record with all parts knows of the queue's items
  pub record KnowsWhole (v : EndRecord T) (items : List (Item T)) : Type 0 where
    pub prefix : ℕ → ℕ
    pub puts : (k : ℕ) (p : ℕ × List (Item T)) → get_elem? v.puts k ≡ some p → (prefix p.0 ≤ length p.1) × IsNumbered p.0 p.1
    pub taken : Each (λ x. (k : ℕ) × (p : ℕ × List (Item T)) × (get_elem? v.puts k ≡ some p) × (p.0 ≡ sender_of x)
        × (get_elem? p.1 (number_of x) ≡ some x)) v.taken
    pub once : (s i : ℕ) → times_of s i v.taken ≡ once_below i (prefix s)
    pub lengths : put_length v.puts ≡ length v.taken + length items
    pub weights : (g : Item T → ℕ) → put_weight g v.puts ≡ sum_by g v.taken + sum_by g items
    pub held : (k : ℕ) (p : ℕ × List (Item T)) → get_elem? v.puts k ≡ some p → from_sender p.0 items ≡ drop (prefix p.0) p.1

  -- a read, by which the record with all parts learns the queue's items
  abbrev pub Shows : EndRecord T → List (Item T) → Type 0
  Shows v items = 0 < v.parts → v.parts ≡ v.ends → KnowsWhole v items
