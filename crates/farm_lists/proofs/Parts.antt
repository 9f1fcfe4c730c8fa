-- A part of the listed survivors keeps what the list's form promises of them.
use Rattle.std.proofs.Common.{◌≡◌, ◌<◌, ◌≤◌, ◌+◌, ◌++◌, ◌∙◌, ℕ, Bool, true, false, cond, List, [], ◌∷◌, Some, None, length, map, take}
use Rattle.std.proofs.Common.{get_or, refl, ap, ap₂, arith, inl, inr, eqb}
use Rattle.std.specs.Prelude.{◌||◌, ◌&&◌, not, nat_le}
use Rattle.std.specs.List.{list_any, list_all, AllByRecursion, IsDistinct}
use Rattle.std.proofs.lemmas.Map.Steps.{length-le_from_distinct_below}
use Rattle.std.proofs.lemmas.List.{length-map, take_more}
use Rattle.std.proofs.lemmas.Bool.{eqb-true, eq-eqb}
use Rattle.lrc_code.specs.declared.places.Place.{Place}
use Rattle.lrc_code.specs.declared.requests.RequestFault.TheVariants as fault
use Rattle.lrc_code.specs.declared.codes.Code.{Code as CodeName}
use Rattle.lrc_code.specs.Code.{has_place}
use Rattle.lrc_code.specs.Codes.{tables_of}
use Rattle.lrc_code.specs.Places.{index_of, same_place}
use Rattle.lrc_code.specs.Requests.{Asked, Survivor, has_other_length, is_among, is_name, is_repeated, refusal}
use Rattle.lrc_code.proofs.PlaceSums.{index_of-lt}
use Rattle.farm_lists.specs.Listed.{ListedRequest, is_listed, lists_places, listed_refusal, is_listed_twice}
use Rattle.farm_lists.specs.Parts.{ArePart}

or_parts : (a b : Bool) → (a || b) ≡ false → (a ≡ false) × (b ≡ false)
or_parts true b h = cc
or_parts false b h = (refl, h)

-- ---- one place more

pub part_skips : (len : ℕ) (ps : List Place) (p : Place) (ss : List Survivor) → ArePart len ps ss → ArePart len (ps ++ p ∷ []) ss
part_skips len [] p ss part = inl part
part_skips len (q ∷ ps) p ss part = elim part [
  | inl less ↦ inl (part_skips len ps p ss less)
  | inr here ↦ inr (here.0, here.1, here.2, here.3, here.4, part_skips len ps p here.1 here.5)
]

pub part_takes : (len : ℕ) (ps : List Place) (p : Place) (ss : List Survivor) (s : Survivor) → s.place ≡ p → length s.bytes ≡ len
    → ArePart len ps ss → ArePart len (ps ++ p ∷ []) (ss ++ s ∷ [])
part_takes len [] p ss s at long part = inr (s, [], ap (λ t. t ++ s ∷ []) part, at, long, refl)
part_takes len (q ∷ ps) p ss s at long part = elim part [
  | inl less ↦ inl (part_takes len ps p ss s at long less)
  | inr here ↦ inr (here.0, here.1 ++ s ∷ [], ap (λ t. t ++ s ∷ []) here.2, here.3, here.4, part_takes len ps p here.1 s at long here.5)
]

pub part_skipped : (len : ℕ) (ps : List Place) (i : ℕ) (d : Place) (ss after : List Survivor) → i < length ps → after ≡ ss
    → ArePart len (take i ps) ss → ArePart len (take (i + 1) ps) after
part_skipped len ps i d ss after within same part = rw (take_more ps i d within, same) (part_skips len (take i ps) (get_or ps i d) ss part)

pub part_taken : (len : ℕ) (ps : List Place) (i : ℕ) (d : Place) (ss after : List Survivor) (s : Survivor) → i < length ps
    → after ≡ ss ++ s ∷ [] → s.place ≡ get_or ps i d → length s.bytes ≡ len
    → ArePart len (take i ps) ss → ArePart len (take (i + 1) ps) after
part_taken len ps i d ss after s within same at long part =
    rw (take_more ps i d within, same) (part_takes len (take i ps) (get_or ps i d) ss s at long part)

-- ---- what a part keeps

not_among : (len : ℕ) (ps : List Place) (ss : List Survivor) (q : Place) → ArePart len ps ss → is_listed q ps ≡ false
    → is_among q ss ≡ false
not_among len [] ss q part none = ap (is_among q) part
not_among len (p ∷ ps) ss q part none =
    let parts = or_parts (same_place q p) (is_listed q ps) none in
    elim part [
      | inl less ↦ not_among len ps ss q less parts.1
      | inr here ↦ ap (is_among q) here.2 ∙ ap₂ (λ a b. a || b) (ap (same_place q) here.3 ∙ parts.0)
          (not_among len ps here.1 q here.5 parts.1)
    ]

not_repeated : (len : ℕ) (ps : List Place) (ss : List Survivor) → ArePart len ps ss → is_listed_twice ps ≡ false → is_repeated ss ≡ false
not_repeated len [] ss part none = ap is_repeated part
not_repeated len (p ∷ ps) ss part none =
    let parts = or_parts (is_listed p ps) (is_listed_twice ps) none in
    elim part [
      | inl less ↦ not_repeated len ps ss less parts.1
      | inr here ↦ ap is_repeated here.2 ∙ ap₂ (λ a b. a || b)
          (ap (λ (q : Place). is_among q here.1) here.3 ∙ not_among len ps here.1 p here.5 parts.0)
          (not_repeated len ps here.1 here.5 parts.1)
    ]

same_lengths : (len : ℕ) (ps : List Place) (ss : List Survivor) → ArePart len ps ss → has_other_length len ss ≡ false
same_lengths len [] ss part = ap (has_other_length len) part
same_lengths len (p ∷ ps) ss part = elim part [
  | inl less ↦ same_lengths len ps ss less
  | inr here ↦ ap (has_other_length len) here.2 ∙ ap₂ (λ a b. a || b) (ap not (eq-eqb (length here.0.bytes) len here.4))
      (same_lengths len ps here.1 here.5)
]

and_parts : (a b : Bool) → (a && b) ≡ true → (a ≡ true) × (b ≡ true)
and_parts true b h = (refl, h)
and_parts false b h = cc

at_places : (q : Place → Bool) (len : ℕ) (ps : List Place) (ss : List Survivor) → ArePart len ps ss → list_all q ps ≡ true
    → list_all (λ (s : Survivor). q s.place) ss ≡ true
at_places q len [] ss part all = ap (list_all (λ (s : Survivor). q s.place)) part
at_places q len (p ∷ ps) ss part all =
    let parts = and_parts (q p) (list_all q ps) all in
    elim part [
      | inl less ↦ at_places q len ps ss less parts.1
      | inr here ↦ ap (list_all (λ (s : Survivor). q s.place)) here.2
          ∙ ap₂ (λ a b. a && b) (ap q here.3 ∙ parts.0) (at_places q len ps here.1 here.5 parts.1)
    ]

-- what isn't refused as it is listed
pub record Passes (r : ListedRequest) : Type 0 where
  pub named : is_name r.stripe ≡ true
  pub sized : (nat_le 1 r.len && nat_le r.len 65536) ≡ true
  pub placed : lists_places r ≡ true
  pub once : is_listed_twice r.survivors ≡ false
  pub lost : is_listed r.target r.survivors ≡ false

pub passes : (r : ListedRequest) → listed_refusal r ≡ None → Passes r
passes r e = by (is_name r.stripe) (nat_le 1 r.len && nat_le r.len 65536) (lists_places r) (is_listed_twice r.survivors)
    (is_listed r.target r.survivors) refl refl refl refl refl e
  where
    by : (a b w c d : Bool) → is_name r.stripe ≡ a → (nat_le 1 r.len && nat_le r.len 65536) ≡ b → lists_places r ≡ w
        → is_listed_twice r.survivors ≡ c → is_listed r.target r.survivors ≡ d
        → cond (not a) (Some fault.BadStripe) (cond (not b) (Some fault.BadLength)
        (cond (not w) (Some fault.WrongCode) (cond c (Some fault.Repeated) (cond d (Some fault.NotLost) None)))) ≡ None → Passes r
    by true true true false false h k o l m q = record { named = h; sized = k; placed = o; once = l; lost = m }
    by true true true false true h k o l m q = cc
    by true true true true d h k o l m q = cc
    by true true false c d h k o l m q = cc
    by true false w c d h k o l m q = cc
    by false b w c d h k o l m q = cc

-- a listed request with a part of its survivors isn't refused
pub part_accepted : (r : ListedRequest) (ss : List Survivor) → listed_refusal r ≡ None → ArePart r.len r.survivors ss
    → refusal (record { code = r.code; stripe = r.stripe; target = r.target; len = r.len; survivors = ss }) ≡ None
part_accepted r ss e part =
    let p = passes r e in
    let placed = and_parts (has_place (tables_of r.code) r.target) (list_all (has_place (tables_of r.code)) r.survivors) p.placed in
    rw (
      p.named,
      p.sized,
      placed.0,
      at_places (has_place (tables_of r.code)) r.len r.survivors ss part placed.1,
      not_repeated r.len r.survivors ss part p.once,
      not_among r.len r.survivors ss r.target part p.lost,
      same_lengths r.len r.survivors ss part,
    ) refl

-- so is one with the same code, name, target and length
pub same_accepted : (r : ListedRequest) (code : CodeName) (stripe : List ℕ) (target : Place) (len : ℕ) (ss : List Survivor)
    → listed_refusal r ≡ None → ArePart r.len r.survivors ss
    → code ≡ r.code → stripe ≡ r.stripe → target ≡ r.target → len ≡ r.len
    → refusal (record { code = code; stripe = stripe; target = target; len = len; survivors = ss }) ≡ None
same_accepted r code stripe target len ss e part o a b c =
    let asked : ℕ → Asked = λ n. record { code = r.code; stripe = r.stripe; target = r.target; len = n; survivors = ss } in
    ap (λ (k : CodeName). refusal (record { code = k; stripe = stripe; target = target; len = len; survivors = ss })) o
    ∙ ap (λ (s : List ℕ). refusal (record { code = r.code; stripe = s; target = target; len = len; survivors = ss })) a
    ∙ ap (λ (p : Place). refusal (record { code = r.code; stripe = r.stripe; target = p; len = len; survivors = ss })) b
    ∙ ap (λ n. refusal (asked n)) c ∙ part_accepted r ss e part

-- ---- how many survivors are listed

apart : (p : Place) (ps : List Place) → is_listed p ps ≡ false → AllByRecursion (λ n. eqb (index_of p) n ≡ false) (map index_of ps)
apart p [] none = tt
apart p (q ∷ ps) none = let parts = or_parts (same_place p q) (is_listed p ps) none in (parts.0, apart p ps parts.1)

distinct : (ps : List Place) → is_listed_twice ps ≡ false → IsDistinct eqb (map index_of ps)
unfolding IsDistinct
distinct [] once = tt
distinct (p ∷ ps) once = let parts = or_parts (is_listed p ps) (is_listed_twice ps) once in (apart p ps parts.0, distinct ps parts.1)

below_sixteen : (ps : List Place) (n : ℕ) → list_any (eqb n) (map index_of ps) ≡ true → n < 16
below_sixteen [] n is = cc
below_sixteen (p ∷ ps) n is = by (eqb n (index_of p)) refl is (λ rest. below_sixteen ps n rest)
  where
    by : (b : Bool) → eqb n (index_of p) ≡ b → (b || list_any (eqb n) (map index_of ps)) ≡ true
        → (list_any (eqb n) (map index_of ps) ≡ true → n < 16) → n < 16
    by true e h later = let same = eqb-true n (index_of p) e in omega (arith, same, index_of-lt p)
    by false e h later = later h

-- with the target, which is none of them, they are sixteen places at most
pub at_most_fifteen : (r : ListedRequest) → listed_refusal r ≡ None → length r.survivors ≤ 15
at_most_fifteen r e =
    let all : List Place = r.target ∷ r.survivors in
    let once : is_listed_twice all ≡ false = ap₂ (λ a b. a || b) (passes r e).lost (passes r e).once in
    let bound = length-le_from_distinct_below (map index_of all) 16 (distinct all once) (below_sixteen all) in
    omega (arith, bound, length-map all index_of)
