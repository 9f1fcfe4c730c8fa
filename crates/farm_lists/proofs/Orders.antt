-- One more record after those so far.
use Rattle.std.proofs.Common.{◌≡◌, ◌<◌, ◌≤◌, ◌+◌, ◌++◌, ◌∙◌, ℕ, Bool, true, false, cond, List, [], ◌∷◌, Result, Ok, Err, length, refl, sym}
use Rattle.std.proofs.Common.{ap, arith}
use Rattle.std.proofs.lemmas.Bool.{le-ltb, lt-ltb, ltb-false}
use Rattle.std.specs.Prelude.{nat_lt, not}
use Rattle.std.specs.Cmp.Lexicographic.{pointwise}
use Rattle.std.specs.Str.{bytes_eq}
use Rattle.farm_lists.specs.declared.listing.ListFault.{ListFault}
use Rattle.farm_lists.specs.declared.listing.ListFault.TheVariants as fault
use Rattle.farm_lists.specs.Listing.{IsFaultOf, IsRecordFault, SoFar, Stops, and_then, coded_header, header, list_limit, list_of}
use Rattle.farm_lists.specs.Listing.{list_of_rows, order_at, record_limit, orders}
use Rattle.farm_lists.specs.declared.listing.Record.{Record}
use Rattle.csv.specs.Reading.{AreRecords, Reached, default_config, records, strip_bom}
use Rattle.csv.specs.declared.parser.State.{State}
use Rattle.csv.specs.declared.parser.State.TheVariants as st
use Rattle.farm_lists.proofs.Fuel.{records_are, records_begin}

abbrev Rows : Type 0
Rows = List (List (List ℕ))

-- after some orders, one more
abbrev pub then_one : List Record → Result Record ListFault → Result (List Record) ListFault
then_one os (Ok o) = Ok (os ++ o ∷ [])
then_one os (Err e) = Err e

abbrev after : Bool → ℕ → List Record → List (List ℕ) → Result (List Record) ListFault
after coded n os row = cond (nat_lt record_limit n) (Err fault.TooManyOrders) (then_one os (order_at coded n row))

first_one : (b : Bool) (x : Result Record ListFault) → cond b (Err fault.TooManyOrders) (and_then x (Ok []))
    ≡ cond b (Err fault.TooManyOrders) (then_one [] x)
first_one true x = refl
first_one false (Ok o) = refl
first_one false (Err e) = refl

-- what an `Ok` of one record and the rest comes of
record Parts (b : Bool) (x : Result Record ListFault) (y : Result (List Record) ListFault) (os : List Record) : Type 0 where
  one : Record
  rest : List Record
  within : b ≡ false
  first : x ≡ Ok one
  others : y ≡ Ok rest
  whole : os ≡ one ∷ rest

parts : (b : Bool) (x : Result Record ListFault) (y : Result (List Record) ListFault) (os : List Record)
    → cond b (Err fault.TooManyOrders) (and_then x y) ≡ Ok os → Parts b x y os
parts true x y os e = cc
parts false (Err f) y os e = cc
parts false (Ok o) (Err f) os e = cc
parts false (Ok o) (Ok rest) os e = record { one = o; rest = rest; within = refl; first = refl; others = refl; whole = cc }

ahead : (o : Record) (os : List Record) (b : Bool) (x : Result Record ListFault)
    → and_then (Ok o) (cond b (Err fault.TooManyOrders) (then_one os x)) ≡ cond b (Err fault.TooManyOrders) (then_one (o ∷ os) x)
ahead o os true x = refl
ahead o os false (Ok y) = refl
ahead o os false (Err e) = refl

over : (b : Bool) (x : Result Record ListFault) (y : Result (List Record) ListFault) (one : Record) (rest os : List Record) (b2 : Bool)
    (x2 : Result Record ListFault)
    → b ≡ false → x ≡ Ok one → y ≡ cond b2 (Err fault.TooManyOrders) (then_one rest x2) → os ≡ one ∷ rest
    → cond b (Err fault.TooManyOrders) (and_then x y) ≡ cond b2 (Err fault.TooManyOrders) (then_one os x2)
over b x y one rest os b2 x2 hb hx hy ho = rw (hb, hx, hy, ho) (ahead one rest b2 x2)

pub orders_push : (coded : Bool) (n : ℕ) (rows : Rows) (os : List Record) (row : List (List ℕ)) → orders coded n rows ≡ Ok os
    → orders coded n (rows ++ row ∷ []) ≡ after coded (n + length rows) os row
orders_push coded n [] os row e =
    let none : os ≡ [] = cc in
    let same : n + 0 ≡ n = omega arith in
    rw (none, same) (first_one (nat_lt record_limit n) (order_at coded n row))
orders_push coded n (r ∷ rows) os row e =
    let p = parts (nat_lt record_limit n) (order_at coded n r) (orders coded (n + 1) rows) os e in
    let more = orders_push coded (n + 1) rows p.rest row p.others in
    let same : n + length (r ∷ rows) ≡ (n + 1) + length rows = omega arith in
    rw same (over (nat_lt record_limit n) (order_at coded n r) (orders coded (n + 1) (rows ++ row ∷ [])) p.one p.rest os
    (nat_lt record_limit ((n + 1) + length rows)) (order_at coded ((n + 1) + length rows) row) p.within p.first more p.whole)

-- one more record after a header and the orders so far
pub push_any : (coded : Bool) (rows : Rows) (os : List Record) (row : List (List ℕ)) (number : ℕ) → length rows ≡ number → (number ≡ 0 → ⊥)
    → SoFar coded rows os
    → list_of_rows (rows ++ row ∷ []) ≡ after coded number os row
push_any coded [] os row number e some so = absurd (some (sym e))
push_any coded (h ∷ rows) os row number e some so = by (pointwise bytes_eq h header) (pointwise bytes_eq h coded_header) so.0 so.1
  where
    same : 1 + length rows ≡ number
    same = omega (arith, e)

    by : (b d : Bool) → not b ≡ coded → cond b (orders false 1 rows) (cond d (orders true 1 rows) (Err fault.BadHeader)) ≡ Ok os
        → cond b (orders false 1 (rows ++ row ∷ [])) (cond d (orders true 1 (rows ++ row ∷ [])) (Err fault.BadHeader))
        ≡ after coded number os row
    by true d c k = rw (orders_push false 1 rows os row k, same) (ap (λ x. after x number os row) c)
    by false true c k = rw (orders_push true 1 rows os row k, same) (ap (λ x. after x number os row) c)
    by false false c k = cc

so_far_of : (coded : Bool) (rows : Rows) (row : List (List ℕ)) (before os : List Record) (number : ℕ) → length rows ≡ number
    → (number ≡ 0 → ⊥) → SoFar coded rows before
    → list_of_rows (rows ++ row ∷ []) ≡ Ok os → SoFar coded (rows ++ row ∷ []) os
so_far_of coded [] row before os number l some so e = absurd (some (sym l))
so_far_of coded (h ∷ rows) row before os number l some so e = (so.0, e)

pub push_order : (coded : Bool) (rows : Rows) (os : List Record) (row : List (List ℕ)) (number : ℕ) (o : Record) → length rows ≡ number
    → (number ≡ 0 → ⊥) → number ≤ 4096 → SoFar coded rows os
    → order_at coded number row ≡ Ok o → SoFar coded (rows ++ row ∷ []) (os ++ o ∷ [])
push_order coded rows os row number o e some few so is =
    let low : nat_lt record_limit number ≡ false = le-ltb 4096 number few in
    so_far_of coded rows row os (os ++ o ∷ []) number e some so (push_any coded rows os row number e some so ∙ rw (low, is) refl)

pub push_many : (coded : Bool) (rows : Rows) (os : List Record) (row : List (List ℕ)) (number : ℕ) → length rows ≡ number → 4096 < number
    → SoFar coded rows os
    → list_of_rows (rows ++ row ∷ []) ≡ Err fault.TooManyOrders
push_many coded rows os row number e many so =
    let some : number ≡ 0 → ⊥ = omega arith in
    let high : nat_lt record_limit number ≡ true = lt-ltb 4096 number many in
    push_any coded rows os row number e some so ∙ rw high refl

pub push_fault : (f : ListFault) (coded : Bool) (rows : Rows) (os : List Record) (row : List (List ℕ)) (number : ℕ) → length rows ≡ number
    → (number ≡ 0 → ⊥) → number ≤ 4096 → SoFar coded rows os
    → IsRecordFault f coded number row → Stops f (rows ++ row ∷ [])
push_fault fault.OutOfMemory coded rows os row number e some few so is = tt
push_fault fault.InputTooLong coded rows os row number e some few so is = is
push_fault fault.BadHeader coded rows os row number e some few so is = absurd is
push_fault fault.TooManyOrders coded rows os row number e some few so is = absurd is
push_fault (fault.BadRecord n) coded rows os row number e some few so is =
    let low : nat_lt record_limit number ≡ false = le-ltb 4096 number few in push_any coded rows os row number e some so ∙ rw (low, is) refl
push_fault (fault.Refused n k) coded rows os row number e some few so is =
    let low : nat_lt record_limit number ≡ false = le-ltb 4096 number few in push_any coded rows os row number e some so ∙ rw (low, is) refl

-- the orders of all records, where there are some
pub listed_all : (coded : Bool) (rows : Rows) (os : List Record) (number : ℕ) → length rows ≡ number → (number ≡ 0 → ⊥)
    → SoFar coded rows os → list_of_rows rows ≡ Ok os
listed_all coded [] os number e some so = absurd (some (sym e))
listed_all coded (row ∷ rows) os number e some so = so.1

pub so_far_empty : (rows : Rows) → length rows ≡ 0 → rows ≡ []
so_far_empty [] e = refl
so_far_empty (row ∷ rows) e = absurd (omega arith)

-- what a first fault shows, it shows whatever follows
failed_more : (coded : Bool) (n : ℕ) (rows more : Rows) (f : ListFault) → orders coded n rows ≡ Err f
    → orders coded n (rows ++ more) ≡ Err f
failed_more coded n [] more f e = cc
failed_more coded n (row ∷ rows) more f e = by (nat_lt record_limit n) (order_at coded n row) (orders coded (n + 1) rows)
    (failed_more coded (n + 1) rows more f) e
  where
    by : (b : Bool) (x : Result Record ListFault) (y : Result (List Record) ListFault)
        → (y ≡ Err f → orders coded (n + 1) (rows ++ more) ≡ Err f)
        → cond b (Err fault.TooManyOrders) (and_then x y) ≡ Err f
        → cond b (Err fault.TooManyOrders) (and_then x (orders coded (n + 1) (rows ++ more))) ≡ Err f
    by true x y h k = k
    by false (Err g) y h k = k
    by false (Ok o) (Err g) h k = let same : g ≡ f = cc in rw (h (ap Err same)) refl
    by false (Ok o) (Ok os) h k = cc

pub fault_more : (rows more : Rows) (f : ListFault) → 0 < length rows → list_of_rows rows ≡ Err f → list_of_rows (rows ++ more) ≡ Err f
fault_more [] more f some e = absurd (omega arith)
fault_more (row ∷ rows) more f some e = by (pointwise bytes_eq row header) (pointwise bytes_eq row coded_header) e
  where
    by : (b d : Bool) → cond b (orders false 1 rows) (cond d (orders true 1 rows) (Err fault.BadHeader)) ≡ Err f
        → cond b (orders false 1 (rows ++ more)) (cond d (orders true 1 (rows ++ more)) (Err fault.BadHeader)) ≡ Err f
    by true d k = failed_more false 1 rows more f k
    by false true k = failed_more true 1 rows more f k
    by false false k = k

-- a text within the limit lists what its records do
within : (bytes : List ℕ) → length bytes ≤ list_limit → list_of bytes ≡ list_of_rows (records default_config (strip_bom bytes))
unfolding list_of
within bytes small = let low : nat_lt list_limit (length bytes) ≡ false = le-ltb list_limit (length bytes) small in rw low refl

first_fault : (bytes : List ℕ) (rows : Rows) (s : State) (rest : List ℕ) (f : ListFault) → length bytes ≤ list_limit → 0 < length rows
    → Reached default_config st.StartRecord (strip_bom bytes) rows s rest → list_of_rows rows ≡ Err f → list_of bytes ≡ Err f
first_fault bytes rows s rest f small some reached e =
    let (more, is) = records_begin default_config (length (strip_bom bytes) + 1) st.StartRecord s (strip_bom bytes) rest rows refl
    (omega arith) reached in
    within bytes small ∙ ap list_of_rows is ∙ fault_more rows more f some e

-- the first records show the fault
pub explain : (f : ListFault) (bytes : List ℕ) (rows : Rows) (s : State) (rest : List ℕ) → length bytes ≤ list_limit → 0 < length rows
    → Reached default_config st.StartRecord (strip_bom bytes) rows s rest → Stops f rows → IsFaultOf f (list_of bytes)
explain fault.OutOfMemory bytes rows s rest small some reached stops = tt
explain fault.InputTooLong bytes rows s rest small some reached stops = absurd stops
explain fault.BadHeader bytes rows s rest small some reached stops = first_fault bytes rows s rest fault.BadHeader small some reached stops
explain fault.TooManyOrders bytes rows s rest small some reached stops =
    first_fault bytes rows s rest fault.TooManyOrders small some reached stops
explain (fault.BadRecord n) bytes rows s rest small some reached stops =
    first_fault bytes rows s rest (fault.BadRecord n) small some reached stops
explain (fault.Refused n k) bytes rows s rest small some reached stops =
    first_fault bytes rows s rest (fault.Refused n k) small some reached stops

-- all records were read
pub lists_all : (bytes : List ℕ) (rows : Rows) → length bytes ≤ list_limit → AreRecords default_config st.StartRecord (strip_bom bytes) rows
    → list_of bytes ≡ list_of_rows rows
lists_all bytes rows small all = within bytes small ∙ ap list_of_rows (records_are (strip_bom bytes) rows all)

pub too_long : (bytes : List ℕ) → list_limit < length bytes → list_of bytes ≡ Err fault.InputTooLong
unfolding list_of
too_long bytes long = let high : nat_lt list_limit (length bytes) ≡ true = lt-ltb list_limit (length bytes) long in rw high refl

-- ---- how many orders there are

orders_few : (coded : Bool) (n : ℕ) (rows : List (List (List ℕ))) (os : List Record) → n ≤ 4097 → orders coded n rows ≡ Ok os
    → n + length os ≤ 4097
orders_few coded n [] os small e = let none : os ≡ [] = cc in let l = ap (λ (x : List Record). length x) none in omega (arith, l)
orders_few coded n (row ∷ rows) os small e =
    let p = parts (nat_lt record_limit n) (order_at coded n row) (orders coded (n + 1) rows) os e in
    let low = ltb-false record_limit n p.within in
    let l = ap (λ (x : List Record). length x) p.whole in
    let later = orders_few coded (n + 1) rows p.rest (omega (arith, low)) p.others in
    omega (arith, l, later)

rows_few : (rows : List (List (List ℕ))) (os : List Record) → list_of_rows rows ≡ Ok os → length os ≤ 4096
rows_few [] os e = cc
rows_few (row ∷ rows) os e = by (pointwise bytes_eq row header) (pointwise bytes_eq row coded_header) e
  where
    by : (b d : Bool) → cond b (orders false 1 rows) (cond d (orders true 1 rows) (Err fault.BadHeader)) ≡ Ok os → length os ≤ 4096
    by true d h = let few = orders_few false 1 rows os (omega arith) h in omega (arith, few)
    by false true h = let few = orders_few true 1 rows os (omega arith) h in omega (arith, few)
    by false false h = cc

-- a list has at most 4,096 orders
pub list_few : (bytes : List ℕ) (os : List Record) → list_of bytes ≡ Ok os → length os ≤ 4096
unfolding list_of
list_few bytes os e = by (nat_lt list_limit (length bytes)) e
  where
    by : (b : Bool) → cond b (Err fault.InputTooLong) (list_of_rows (records default_config (strip_bom bytes))) ≡ Ok os → length os ≤ 4096
    by true h = cc
    by false h = rows_few (records default_config (strip_bom bytes)) os h
