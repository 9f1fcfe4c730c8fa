-- The lawful record of a lane: what each sender put, and what each taker took.
use Rattle.std.specs.Prelude.{◌≡◌, ℕ, ◌+◌, ◌<◌, ◌≤◌, ◌==◌, ◌&&◌, List, [], ◌∷◌, length, Bool, true, false, filter}
use Rattle.std.specs.List.{sum_by, count_by}
use mathlib.Core.Option.{some}
use lib.ListN.{get_elem?}
use Rattle.list_members.specs.Lists.{Each, EachAt}
use Rattle.farm_lanes.specs.Counting.{once_below}
use Rattle.farm_lanes.specs.declared.lane.item.Item.{Item}
use Rattle.farm_lanes.specs.declared.lane.item.Item.TheVariants.{Value, End}

module _ {T : Type 0} where
  abbrev pub sender_of : Item T → ℕ
  sender_of (Value s i v) = s
  sender_of (End s i) = s

  abbrev pub number_of : Item T → ℕ
  number_of (Value s i v) = i
  number_of (End s i) = i

  abbrev pub is_end : Item T → Bool
  is_end (Value s i v) = false
  is_end (End s i) = true

  -- the values among these items, in order
  abbrev pub values : List (Item T) → List T
  values [] = []
  values (Value s i v ∷ xs) = v ∷ values xs
  values (End s i ∷ xs) = values xs

  -- the items of one sender, in order
  abbrev pub from_sender : ℕ → List (Item T) → List (Item T)
  from_sender s xs = filter (λ x. sender_of x == s) xs

  -- how often the item i of the sender s is in the list
  abbrev pub times_of : ℕ → ℕ → List (Item T) → ℕ
  times_of s i xs = count_by (λ x. (sender_of x == s) && (number_of x == i)) xs

  -- the list is one that the sender s put: its items are numbered 0, 1, 2 and so on
  abbrev pub IsNumbered : ℕ → List (Item T) → Type 0
  IsNumbered s xs = EachAt (λ i x. (sender_of x ≡ s) × (number_of x ≡ i)) xs

  -- no item is after an end mark
  abbrev pub EndsLast : List (Item T) → Type 0
  EndsLast xs = EachAt (λ i x. is_end x ≡ true → i + 1 ≡ length xs) xs

  -- within the list the numbers of each sender rise
  abbrev pub Rises : List (Item T) → Type 0
  Rises xs = (i j : ℕ) (x y : Item T) → i < j → get_elem? xs i ≡ some x → get_elem? xs j ≡ some y → sender_of x ≡ sender_of y
      → number_of x < number_of y

  -- the item is at its number in its sender's list
  abbrev pub WasPut : List (List (Item T)) → Item T → Type 0
  WasPut puts x = (xs : List (Item T)) × (get_elem? puts (sender_of x) ≡ some xs) × (get_elem? xs (number_of x) ≡ some x)

  -- The lawful record of a lane: puts has each sender's list, and takes each taker's. Of the sender s the first `prefix s` items
  -- were taken, each once and unaltered, and no others; each taker took them in rising numbers.
  pub record IsLawful (puts takes : List (List (Item T))) (prefix : ℕ → ℕ) : Type 0 where
    pub within : EachAt (λ s xs. (prefix s ≤ length xs) × IsNumbered s xs × EndsLast xs) puts
    pub unaltered : Each (Each (WasPut puts)) takes
    pub once : (s i : ℕ) → sum_by (times_of s i) takes ≡ once_below i (prefix s)
    pub rises : Each Rises takes

  -- all that the sender s put was taken
  abbrev pub IsAllTaken : List (List (Item T)) → (ℕ → ℕ) → ℕ → Type 0
  IsAllTaken puts prefix s = (xs : List (Item T)) → get_elem? puts s ≡ some xs → prefix s ≡ length xs
