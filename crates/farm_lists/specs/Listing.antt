-- What a request list reads as.
use Rattle.std.specs.Prelude.{◌≡◌, not, true, false, ◌+◌, ◌==◌, ◌&&◌, nat_lt, Bool, ℕ, List, [], ◌∷◌, length, map, Option, Some, None}
use Rattle.std.specs.Prelude.{Result, Ok, Err, option_map, option_and_then, if◌then◌else◌, codes}
use Rattle.std.specs.List.{slice_split}
use Rattle.std.specs.Str.{bytes_eq}
use Rattle.lrc_code.specs.Text.{every, is_space, number}
use Rattle.std.specs.Option.{option_map_or}
use Rattle.std.specs.Cmp.Lexicographic.{pointwise}
use Rattle.csv.specs.Reading.{default_config, records, strip_bom}
use Rattle.lrc_code.specs.declared.places.Place.{Place}
use Rattle.lrc_code.specs.Text.{place_named}
use Rattle.lrc_code.specs.declared.codes.Code.{Code as CodeName}
use Rattle.lrc_code.specs.declared.codes.Code.TheVariants.{Narrow}
use Rattle.lrc_code.specs.Codes.{code_named, tables_of}
use Rattle.farm_lists.specs.Listed.{ListedRequest, listed_refusal}
use Rattle.farm_lists.specs.declared.listing.Record.{Record}
use Rattle.farm_lists.specs.declared.listing.Record.TheVariants as rec
use Rattle.farm_lists.specs.declared.listing.ListFault.{ListFault}
use Rattle.farm_lists.specs.declared.listing.ListFault.TheVariants as fault

-- how many bytes a list may have, and how many records after its header
abbrev pub list_limit : ℕ
list_limit = 1048576

abbrev pub record_limit : ℕ
record_limit = 4096

-- ---- one record

-- place names of a code with one space between two
abbrev pub places : CodeName → List ℕ → Option (List Place)
places code [] = Some []
places code (b ∷ bs) = every (map (place_named (tables_of code)) (slice_split is_space (b ∷ bs)))

-- the request that four fields list over a code, where each has its form
abbrev pub listed : CodeName → List ℕ → List ℕ → List ℕ → List ℕ → Option ListedRequest
listed code stripe target size survivors =
    option_and_then (λ p. option_and_then (λ n. option_map
    (λ s. record { code = code; stripe = stripe; target = p; len = n; survivors = s }) (places code survivors)) (number size))
    (place_named (tables_of code) target)

-- the order of record n that lists a request, where it has its form
abbrev pub rebuild_at : ℕ → Option ListedRequest → Result Record ListFault
rebuild_at n None = Err (fault.BadRecord n)
rebuild_at n (Some r) = option_map_or (λ e. Err (fault.Refused n e)) (listed_refusal r) (Ok (rec.Rebuild r))

-- the order of record n that is to be a close
abbrev pub close_at : ℕ → Bool → Result Record ListFault
close_at n is_close = if is_close then Ok rec.Close else Err (fault.BadRecord n)

-- the order that five fields of record n give, over the code that is named, where one is, and with nothing else after
abbrev pub order_in : Option CodeName → Bool → ℕ → List ℕ → List ℕ → List ℕ → List ℕ → List ℕ → Result Record ListFault
order_in code blank n word stripe target size survivors =
    if bytes_eq word (codes "rebuild") then rebuild_at n (option_and_then (λ c. listed c stripe target size survivors) code)
    else close_at n (bytes_eq word (codes "close") && (length stripe == 0 &&
    (length target == 0 && (length size == 0 && (length survivors == 0 && blank)))))

-- the order that the fields of record n give; in a list with codes the sixth names the code
abbrev pub order_at : Bool → ℕ → List (List ℕ) → Result Record ListFault
order_at false n (word ∷ stripe ∷ target ∷ size ∷ survivors ∷ []) = order_in (Some Narrow) true n word stripe target size survivors
order_at true n (word ∷ stripe ∷ target ∷ size ∷ survivors ∷ code ∷ []) =
    order_in (code_named code) (length code == 0) n word stripe target size survivors
order_at coded n _ = Err (fault.BadRecord n)

-- ---- all records

abbrev pub header : List (List ℕ)
header = codes "order" ∷ codes "stripe" ∷ codes "target" ∷ codes "length" ∷ codes "survivors" ∷ []

-- that of a list with codes
abbrev pub coded_header : List (List ℕ)
coded_header = codes "order" ∷ codes "stripe" ∷ codes "target" ∷ codes "length" ∷ codes "survivors" ∷ codes "code" ∷ []

abbrev pub and_then : Result Record ListFault → Result (List Record) ListFault → Result (List Record) ListFault
and_then (Err e) more = Err e
and_then (Ok o) (Err e) = Err e
and_then (Ok o) (Ok os) = Ok (o ∷ os)

-- the orders of the records from the n-th on
abbrev pub orders : Bool → ℕ → List (List (List ℕ)) → Result (List Record) ListFault
orders coded n [] = Ok []
orders coded n (row ∷ rows) = if nat_lt record_limit n then Err fault.TooManyOrders else and_then (order_at coded n row)
    (orders coded (n + 1) rows)

-- the orders of a header and the records after it
abbrev pub list_of_rows : List (List (List ℕ)) → Result (List Record) ListFault
list_of_rows [] = Err fault.BadHeader
list_of_rows (row ∷ rows) = if pointwise bytes_eq row header then orders false 1 rows
    else if pointwise bytes_eq row coded_header then orders true 1 rows else Err fault.BadHeader

-- ---- the whole text

-- the orders of a list, or its first fault
unfoldable pub list_of : List ℕ → Result (List Record) ListFault
list_of bytes = if nat_lt list_limit (length bytes) then Err fault.InputTooLong else list_of_rows (records default_config (strip_bom bytes))

-- the fault is the list's; a refusal of memory says nothing of it
abbrev pub IsFaultOf : ListFault → Result (List Record) ListFault → Type 0
IsFaultOf fault.OutOfMemory r = Unit {0}
IsFaultOf fault.InputTooLong r = r ≡ Err fault.InputTooLong
IsFaultOf fault.BadHeader r = r ≡ Err fault.BadHeader
IsFaultOf (fault.BadRecord n) r = r ≡ Err (fault.BadRecord n)
IsFaultOf (fault.Refused n e) r = r ≡ Err (fault.Refused n e)
IsFaultOf fault.TooManyOrders r = r ≡ Err fault.TooManyOrders

-- why a record is refused
abbrev pub IsRecordFault : ListFault → Bool → ℕ → List (List ℕ) → Type 0
IsRecordFault fault.OutOfMemory coded n fields = Unit {0}
IsRecordFault fault.InputTooLong coded n fields = ⊥
IsRecordFault fault.BadHeader coded n fields = ⊥
IsRecordFault fault.TooManyOrders coded n fields = ⊥
IsRecordFault (fault.BadRecord m) coded n fields = order_at coded n fields ≡ Err (fault.BadRecord m)
IsRecordFault (fault.Refused m e) coded n fields = order_at coded n fields ≡ Err (fault.Refused m e)

-- the orders of the records so far, and whether the header has the field for codes
abbrev pub SoFar : Bool → List (List (List ℕ)) → List Record → Type 0
SoFar coded [] os = os ≡ []
SoFar coded (row ∷ rows) os = (not (pointwise bytes_eq row header) ≡ coded) × (list_of_rows (row ∷ rows) ≡ Ok os)

-- the records show the fault
abbrev pub Stops : ListFault → List (List (List ℕ)) → Type 0
Stops fault.OutOfMemory rows = Unit {0}
Stops fault.InputTooLong rows = ⊥
Stops fault.BadHeader rows = list_of_rows rows ≡ Err fault.BadHeader
Stops fault.TooManyOrders rows = list_of_rows rows ≡ Err fault.TooManyOrders
Stops (fault.BadRecord n) rows = list_of_rows rows ≡ Err (fault.BadRecord n)
Stops (fault.Refused n e) rows = list_of_rows rows ≡ Err (fault.Refused n e)
