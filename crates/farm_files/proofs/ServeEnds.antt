-- What was read, answered and made, brought together as what serving promises.
use Rattle.std.proofs.Common.{◌≡◌, ◌+◌, ◌∙◌, Vec, Global, ℕ, List, [], ◌∷◌, Some, None, Err, length, map, refl, sym, ap, inr}
use Rattle.std.specs.Prelude.{IfSome, sum_by}
use Rattle.std.proofs.lemmas.List.Sums.{sum_by-cons}
use Rattle.lrc_code.specs.declared.outcomes.Outcome.{Outcome}
use Rattle.farm_orders.specs.declared.error.FarmError.{FarmError}
use Rattle.farm_orders.specs.declared.error.FarmError.TheVariants as farm
use Rattle.farm_shelves.specs.Files.{CountsFailure, Files, Shown}
use Rattle.farm_lists.specs.Requests.{RequestRead, read_of}
use Rattle.farm_reading.specs.Reading.{AreLists, Reads, all_read}
use Rattle.farm_files.specs.Serving.{written_files}
use Rattle.farm_reports.specs.Written.{files_from}
use Rattle.farm_reading.specs.Faults.{Explains}
use Rattle.farm_files.specs.Faults.{LeavesOutput, StopsServing}
use Rattle.farm_reading.specs.Causes.{of_farm, of_shelf}
use Rattle.farm_lists.specs.declared.listing.Record.{Record}
use Rattle.farm_lists.specs.declared.requests.ReadRequest.{ReadRequest}
use Rattle.farm_shelves.specs.declared.shelf.ShelfFault.{ShelfFault}
use Rattle.farm_shelves.specs.declared.shelf.ShelfFault.TheVariants as shelf

abbrev pub Lists : Type 0
Lists = List (List Record)

abbrev pub Answers : Type 0
Answers = Vec (ℕ × Outcome) Global

abbrev pub Requests : Type 0
Requests = Vec (Vec ReadRequest Global) Global

abbrev requests : Requests → List (List RequestRead)
requests rack = map (λ (rs : Vec ReadRequest Global). map read_of rs.items) rack.items

-- ---- how many answers

pub total_is : (answers : List Answers) → sum_by (λ a. length a.items) answers
    ≡ sum_by (λ (a : List (ℕ × Outcome)). length a) (map (λ a. a.items) answers)
total_is [] = refl
total_is (a ∷ answers) =
    sum_by-cons (λ (x : Answers). length x.items) a answers ∙ ap (λ n. length a.items + n) (total_is answers)
    ∙ sym (sum_by-cons (λ (x : List (ℕ × Outcome)). length x) a.items (map (λ (x : Answers). x.items) answers))

-- ---- the files

pub written_is : (there : Files) (lists : List Lists) (racks lent : List Requests) (answers given : List Answers)
    (reads : List (List (List Reads))) (files : List (List ℕ × List ℕ))
    → lent ≡ racks → given ≡ answers → map requests racks ≡ all_read there lists reads
    → files ≡ files_from 0 (map requests lent) (map (λ a. a.items) given)
    → files ≡ written_files there lists reads (map (λ a. a.items) answers)
written_is there lists racks lent answers given reads files a b is made =
    let outcomes : Answers → List (ℕ × Outcome) = λ o. o.items in
    made
    ∙ ap (λ (x : List Requests). files_from 0 (map requests x) (map outcomes given)) a
    ∙ ap (λ (x : List Answers). files_from 0 (map requests racks) (map outcomes x)) b
    ∙ ap (λ (x : List (List (List RequestRead))). files_from 0 x (map outcomes answers)) is

-- ---- where the input shows its files

pub where_shown : (shown : Shown) (P : Files → Type 0) → ((there : Files) → shown ≡ Some there → P there) → IfSome shown P
where_shown None P each = tt
where_shown (Some there) P each = each there refl

-- what a failed write leaves
pub write_leaves : (f : ShelfFault) (shown old new : Shown) (before after : ℕ) → CountsFailure {A = Unit {0}} (Err f) before after
    → StopsServing f shown old new → LeavesOutput (of_shelf f) shown old new before after
write_leaves shelf.Device shown old new before after rose stops = inr (rose, stops)
write_leaves shelf.OutOfMemory shown old new before after calm stops = (calm, inr stops)

-- why the farm ended: where a thread was refused, all lists had been read
pub farm_explains : (f : FarmError) (there : Files) (lists : List (List (List Record))) → AreLists there lists → Explains (of_farm f) there
farm_explains farm.OutOfMemory there lists are = tt
farm_explains farm.NoThread there lists are = (lists, are)
