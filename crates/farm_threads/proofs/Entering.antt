-- A reply put in a cell of a table, or not.
use Rattle.std.proofs.Common.{ℕ, ◌≡◌, ◌<◌, List, [], length, get_or, set, arith, ap, ◌∙◌, Option, Some, length-set}
use Rattle.std.specs.Prelude.{Result, Ok, Err, OnOk, IfErr}
use Rattle.std.proofs.Math.Seq.{map-set_same}
use Rattle.farm_orders.specs.declared.orders.Order.{Order}
use Rattle.farm_threads.specs.declared.replies.CollectFault.{CollectFault}
use Rattle.farm_threads.specs.declared.replies.CollectFault.TheVariants.{Stranger, Double}
use Rattle.farm_threads.specs.Boards.{HasRooms, IsNotHeld}
use Rattle.farm_threads.specs.Replies.{IsEntered, Replied, Entry, HasShape}
use Rattle.farm_threads.specs.Faults.{IsNotEntered, IsRefused}
use Rattle.farm_threads.specs.RunFeeds.{slot_rack}
use Rattle.farm_threads.proofs.BoardRows.{rooms_at}
use Rattle.farm_threads.proofs.Rows.{shape_at}
use Rattle.farm_threads.proofs.Tables.{row_is, added}

abbrev Table : Type 0
Table = List (List (Option Entry))

module _ {V E : Type 0} where
  pub on_ok : {P Q : Type 0} (r : Result V E) → (P → Q) → OnOk r P → OnOk r Q
  on_ok (Ok v) step is = step is
  on_ok (Err e) step is = tt

  pub if_err : (P Q : E → Type 0) (r : Result V E) → ((e : E) → P e → Q e) → IfErr r P → IfErr r Q
  if_err P Q (Ok v) step is = tt
  if_err P Q (Err e) step is = step e is

pub entered : (table : Table) (rack number : ℕ) (row new : List (Option Entry)) (e : Entry) → row ≡ get_or table rack row
    → rack < length table → number < length row → new ≡ set row number (Some e) → IsEntered table rack number e (set table rack new)
entered table rack number row new e is low within now =
    let all = added [] table rack number row new e is low within now in
    let same : length new ≡ length (get_or table rack []) =
    ap (λ (r : List (Option Entry)). length r) now ∙ (length-set row number (Some e)
    ∙ ap (λ (r : List (Option Entry)). length r) (row_is table rack row is low)) in
    (map-set_same (λ (r : List (Option Entry)). length r) table rack new [] same, all.1, all.2)

-- a board holds what its table has
pub not_held : (racks : List (List (List Order))) (table : Table) → HasRooms racks table → (reply : Replied) (e : CollectFault)
    → IsNotEntered table (slot_rack reply.rack) reply e → IsNotHeld (record { racks = racks; table = table }) reply e
not_held racks table rooms reply (Stranger back) is = (
  is.0,
  λ h. is.1
      (let len = rooms_at racks table rooms (slot_rack reply.rack) in omega arith),
)
not_held racks table rooms reply (Double back) is = (
  is.0,
  (let len = rooms_at racks table rooms (slot_rack reply.rack) in
      let h = is.1 in omega arith),
  is.2,
)

-- and so does a collector
pub refused : (racks : List (List Order)) (table : Table) → HasShape racks table → (reply : Replied) (e : CollectFault)
    → IsNotEntered table reply.rack reply e → IsRefused (record { racks = racks; table = table }) reply e
refused racks table shape reply (Stranger back) is = (is.0, λ h. is.1 (let len = shape_at racks table shape reply.rack in omega arith))
refused racks table shape reply (Double back) is = (
  is.0,
  (let len = shape_at racks table shape reply.rack in
      let h = is.1 in omega arith),
  is.2,
)
