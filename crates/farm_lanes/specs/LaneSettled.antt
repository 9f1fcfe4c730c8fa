-- What is known once a lane is settled.
use Rattle.std.specs.Prelude.{◌≡◌, ℕ, ◌+◌, List, [], length, true, drop}
use Rattle.std.specs.List.{sum_by}
use Rattle.list_members.specs.Lists.{Each, EachAt}
use Rattle.farm_lanes.specs.LaneRecord.{sender_of, is_end, from_sender, IsLawful, IsAllTaken}
use Rattle.farm_lanes.specs.declared.lane.item.Item.{Item}

module _ {T : Type 0} where
  -- the weights of all items in these lists
  abbrev pub weight : (Item T → ℕ) → List (List (Item T)) → ℕ
  weight g lists = sum_by (λ (xs : List (Item T)). sum_by g xs) lists

  -- The record is lawful, and the sums are those of the lists. Where a sender's end mark was taken, all that it put was; where as
  -- many items were taken as were put, everything was. `left` has what was not taken: of each sender what is after its prefix.
  -- Whatever weights items have, those taken and those left make up those put.
  pub record IsSettled (put taken : ℕ) (puts takes : List (List (Item T))) : Type 0 where
    pub prefix : ℕ → ℕ
    pub lawful : IsLawful puts takes prefix
    pub put_is : put ≡ sum_by length puts
    pub taken_is : taken ≡ sum_by length takes
    pub ended : Each (Each (λ y. is_end y ≡ true → IsAllTaken puts prefix (sender_of y))) takes
    pub all_taken : taken ≡ put → (s : ℕ) → IsAllTaken puts prefix s
    pub left : List (Item T)
    pub left_is : EachAt (λ s xs. from_sender s left ≡ drop (prefix s) xs) puts
    pub weights : (g : Item T → ℕ) → weight g puts ≡ weight g takes + sum_by g left
    pub none_left : taken ≡ put → left ≡ []
