-- Laws of the rows of a board.
use Rattle.std.proofs.Common.{ℕ, zero, suc, ◌≡◌, ◌<◌, List, [], ◌∷◌, length, get_or, map, take, drop, replicate, arith, refl, sym, ap, ◌∙◌}
use Rattle.std.proofs.Common.{Option, None}
use Rattle.std.proofs.lemmas.List.{length-replicate}
use Rattle.std.proofs.Math.ListN.{get_or-map}
use Rattle.farm_orders.specs.declared.orders.Order.{Order}
use Rattle.farm_threads.specs.Replies.{Entry}
use Rattle.farm_threads.specs.Boards.{HasRooms, most_served}

abbrev Table : Type 0
Table = List (List (Option Entry))

-- a row has a cell for each number that the feeds may draw
pub rooms_at : (racks : List (List (List Order))) (table : Table) → HasRooms racks table → (rack : ℕ)
    → length (get_or table rack []) ≡ most_served (get_or racks rack [])
rooms_at racks table rooms rack =
    sym (get_or-map (λ (row : List (Option Entry)). length row) table rack [])
    ∙ ap (λ ns. get_or ns rack 0) rooms
    ∙ get_or-map most_served racks rack []

pub rooms_nothing : (racks : List (List (List Order))) → HasRooms racks (map (λ feeds. replicate (most_served feeds) None) racks)
rooms_nothing [] = refl
rooms_nothing (feeds ∷ racks) =
    let here : length (replicate {A = Option Entry} (most_served feeds) None) ≡ most_served feeds = length-replicate _ _ in
    let rest = rooms_nothing racks in cc

get_none : (n k : ℕ) → get_or (replicate {A = Option Entry} n None) k None ≡ None
get_none zero k = refl
get_none (suc n) zero = refl
get_none (suc n) (suc k) = get_none n k

pub nothing_held : (racks : List (List (List Order))) (r k : ℕ)
    → get_or (get_or (map (λ feeds. replicate {A = Option Entry} (most_served feeds) None) racks) r []) k None ≡ None
nothing_held [] r k = refl
nothing_held (feeds ∷ racks) zero k = get_none (most_served feeds) k
nothing_held (feeds ∷ racks) (suc r) k = nothing_held racks r k

-- the only list of a rack
pub one_at : (xs : List (List Order)) (k : ℕ) → k < length xs → take 1 (drop k xs) ≡ get_or (map (λ x. x ∷ []) xs) k []
one_at [] k low = absurd (omega arith)
one_at (x ∷ xs) zero low = refl
one_at (x ∷ xs) (suc k) low = one_at xs k (omega arith)
