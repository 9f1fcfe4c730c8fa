-- What a read of a file gives.
use Rattle.std.proofs.Common.{◌≡◌, ◌<◌, ◌≤◌, ◌∙◌, ℕ, Bool, true, false, cond, List, Option, Some, None, Result, length, take, refl, sym, ap}
use Rattle.std.proofs.Common.{arith, inl, inr, option_map}
use Rattle.std.specs.Prelude.{◌==◌, ◌⊎◌, IfSome, nat_lt, option_and_then}
use Rattle.std.proofs.lemmas.List.{take_all, length-take}
use Rattle.std.proofs.lemmas.Bool.Decides.{eqb_tells}
use Rattle.lrc_code.specs.declared.places.Place.{Place}
use Rattle.farm_lists.specs.Listed.{ListedRequest}
use Rattle.farm_lists.specs.Listing.{list_of}
use Rattle.farm_lists.specs.declared.listing.Record.{Record}
use Rattle.farm_lists.specs.declared.listing.ListFault.{ListFault}
use Rattle.farm_lists.proofs.Orders.{too_long}
use Rattle.farm_shelves.specs.Files.{Files, Shown}
use Rattle.farm_lists.specs.declared.listing.ListFault.TheVariants as list_fault
use Rattle.farm_lists.specs.Listing.{IsFaultOf}
use Rattle.farm_reading.specs.Faults.{IsListFault, serve_fault}
use Rattle.farm_lists.specs.Names.{fragment_name, list_name}
use Rattle.farm_reading.specs.Reading.{fragment}

-- what is known of the files that are shown
pub shown_bytes : (t : Shown) (there : Files) (x : Option (List ℕ)) (limit : ℕ) (name : List ℕ)
    → IfSome t (λ f. x ≡ option_map (take limit) (f name)) → t ≡ Some there → x ≡ option_map (take limit) (there name)
shown_bytes None there x limit name h e = cc
shown_bytes (Some f) there x limit name h e = let same : f ≡ there = cc in h ∙ ap (λ (m : Files). option_map (take limit) (m name)) same

-- ---- lists

-- what is after the room for a list doesn't count
take_list : (b : List ℕ) → list_of (take 1048577 b) ≡ list_of b
take_list b = elim (small (length b)) [
  | inl h ↦ ap list_of (take_all 1048577 b h)
  | inr h ↦ too_long (take 1048577 b) (omega (arith, length-take 1048577 b)) ∙ sym (too_long b (omega arith))
]
  where
    small : (n : ℕ) → (n ≤ 1048577) ⊎ (1048577 < n)
    small n = by (nat_lt 1048577 n) refl
      where
        by : (c : Bool) → nat_lt 1048577 n ≡ c → (n ≤ 1048577) ⊎ (1048577 < n)
        by true e = inr (grind arith)
        by false e = inl (grind arith)

list_from : (x : Option (List ℕ)) (bytes : List ℕ) (l : Result (List Record) ListFault) → Some bytes ≡ option_map (take 1048577) x
    → list_of bytes ≡ l → option_map list_of x ≡ Some l
list_from None bytes l e h = cc
list_from (Some b) bytes l e h = let same : bytes ≡ take 1048577 b = cc in ap Some (sym (take_list b) ∙ ap list_of (sym same) ∙ h)

pub list_read : (there : Files) (rack feed : ℕ) (name bytes : List ℕ) (l : Result (List Record) ListFault) → name ≡ list_name rack feed
    → Some bytes ≡ option_map (take 1048577) (there name) → list_of bytes ≡ l
    → option_map list_of (there (list_name rack feed)) ≡ Some l
list_read there rack feed name bytes l named e h = ap (λ n. option_map list_of (there n)) (sym named) ∙ list_from (there name) bytes l e h

list_none : (x : Option (List ℕ)) → None ≡ option_map (take 1048577) x → option_map list_of x ≡ None
list_none None e = refl
list_none (Some b) e = cc

pub list_absent : (there : Files) (rack feed : ℕ) (name : List ℕ) → name ≡ list_name rack feed
    → None ≡ option_map (take 1048577) (there name) → option_map list_of (there (list_name rack feed)) ≡ None
list_absent there rack feed name named e = ap (λ n. option_map list_of (there n)) (sym named) ∙ list_none (there name) e

-- ---- fragments

abbrev counted : ℕ → List ℕ → Option (List ℕ)
counted len b = cond (length b == len) (Some b) None

whole_from : (x : Option (List ℕ)) (bytes : List ℕ) (len limit : ℕ) → len < limit → Some bytes ≡ option_map (take limit) x
    → length bytes ≡ len → option_and_then (counted len) x ≡ Some bytes
whole_from None bytes len limit more e h = cc
whole_from (Some b) bytes len limit more e h =
    let same : bytes ≡ take limit b = cc in
    let size : length (take limit b) ≡ len = ap length (sym same) ∙ h in
    let all : take limit b ≡ b = take_all limit b (omega (arith, length-take limit b, size, more)) in
    let long : length b ≡ len = ap length (sym all) ∙ size in
    elim (eqb_tells (length b) len) as (λ _. counted len b
    ≡ Some bytes) [ inl p ↦ rw (p.0) (ap Some (sym all ∙ sym same)) | inr p ↦ absurd (p.1 long) ]

other_from : (x : Option (List ℕ)) (bytes : List ℕ) (len limit : ℕ) → len < limit → Some bytes ≡ option_map (take limit) x
    → (length bytes ≡ len → ⊥) → option_and_then (counted len) x ≡ None
other_from None bytes len limit more e h = cc
other_from (Some b) bytes len limit more e h =
    let same : bytes ≡ take limit b = cc in
    elim (eqb_tells (length b) len) as (λ _. counted len b ≡ None) [
      | inl p ↦ absurd (h (ap length (same ∙ take_all limit b (omega (arith, p.1, more))) ∙ p.1))
      | inr p ↦ rw (p.0) refl
    ]

pub fragment_read : (there : Files) (r : ListedRequest) (p : Place) (name bytes : List ℕ) (limit : ℕ) → r.len < limit
    → name ≡ fragment_name r.stripe p → Some bytes ≡ option_map (take limit) (there name) → length bytes ≡ r.len
    → Some bytes ≡ fragment there r (p, false)
unfolding fragment
fragment_read there r p name bytes limit more named e h =
    sym (ap (λ n. option_and_then (counted r.len) (there n)) (sym named) ∙ whole_from (there name) bytes r.len limit more e h)

pub fragment_other : (there : Files) (r : ListedRequest) (p : Place) (name bytes : List ℕ) (limit : ℕ) → r.len < limit
    → name ≡ fragment_name r.stripe p → Some bytes ≡ option_map (take limit) (there name) → (length bytes ≡ r.len → ⊥)
    → None ≡ fragment there r (p, false)
unfolding fragment
fragment_other there r p name bytes limit more named e h =
    sym (ap (λ n. option_and_then (counted r.len) (there n)) (sym named) ∙ other_from (there name) bytes r.len limit more e h)

absent_from : (x : Option (List ℕ)) (len limit : ℕ) → None ≡ option_map (take limit) x → option_and_then (counted len) x ≡ None
absent_from None len limit e = refl
absent_from (Some b) len limit e = cc

pub fragment_absent : (there : Files) (r : ListedRequest) (p : Place) (name : List ℕ) (limit : ℕ) → name ≡ fragment_name r.stripe p
    → None ≡ option_map (take limit) (there name) → None ≡ fragment there r (p, false)
unfolding fragment
fragment_absent there r p name limit named e = sym (ap (λ n. option_and_then (counted r.len) (there n)) (sym named)
    ∙ absent_from (there name) r.len limit e)

pub fragment_failed : (there : Files) (r : ListedRequest) (p : Place) → None ≡ fragment there r (p, true)
unfolding fragment
fragment_failed there r p = refl

-- ---- faults of a list

pub list_refused : (f : ListFault) (shown : Shown) (rack feed n m : ℕ) (name bytes : List ℕ) → m ≡ n → name ≡ list_name rack feed
    → ((t : Files) → shown ≡ Some t → Some bytes ≡ option_map (take 1048577) (t name))
    → IsFaultOf f (list_of bytes) → IsListFault (serve_fault rack feed f) rack feed shown n m
list_refused list_fault.OutOfMemory shown rack feed n m name bytes calm named read is = calm
list_refused list_fault.InputTooLong shown rack feed n m name bytes calm named read is =
    (refl, refl, calm, λ t e. list_read t rack feed name bytes _ named (read t e) is)
list_refused list_fault.BadHeader shown rack feed n m name bytes calm named read is =
    (refl, refl, calm, λ t e. list_read t rack feed name bytes _ named (read t e) is)
list_refused list_fault.TooManyOrders shown rack feed n m name bytes calm named read is =
    (refl, refl, calm, λ t e. list_read t rack feed name bytes _ named (read t e) is)
list_refused (list_fault.BadRecord k) shown rack feed n m name bytes calm named read is =
    (refl, refl, calm, λ t e. list_read t rack feed name bytes _ named (read t e) is)
list_refused (list_fault.Refused k x) shown rack feed n m name bytes calm named read is =
    (refl, refl, calm, λ t e. list_read t rack feed name bytes _ named (read t e) is)
