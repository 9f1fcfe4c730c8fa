-- Laws of the table of replies.
use Rattle.std.proofs.Common.{ℕ, ◌≡◌, ◌<◌, List, [], ◌∷◌, length, get_or, set, map, replicate, arith, refl, sym, ap, ◌∙◌, subst, suc, zero}
use Rattle.std.proofs.Common.{inl, inr, Option, Some, None}
use Rattle.std.specs.List.{AllZip}
use Rattle.std.proofs.lemmas.List.{get_or_default, length-replicate, get_or-set_same, get_or-set_other}
use Rattle.std.proofs.lemmas.Bool.{cases_eq}
use Rattle.farm_orders.specs.Orders.{before_close}
use Rattle.farm_threads.specs.Expected.{AreAnswers, AreExpected}
use Rattle.farm_threads.specs.Replies.{Entry, IsAdded, IsMissing, IsLeastMissing, IsComplete, Answers, HasShape, IsGap, HasNoGaps}
use Rattle.farm_threads.specs.Replies.{IsLeastGap}
use Rattle.farm_orders.specs.declared.orders.Order.{Order}
use Rattle.farm_threads.specs.declared.replies.ReplyResult.TheVariants.{Starved}
use Rattle.lrc_code.specs.Requests.{Asked}
use Rattle.lrc_code.specs.declared.outcomes.Outcome.{Outcome}
use Rattle.lrc_code.specs.Answers.{IsAnswer}
use Rattle.farm_threads.proofs.Rows.{shape_at}

abbrev Table : Type 0
Table = List (List (Option Entry))

-- the row at a rack, whatever is in for one that is not there
pub row_is : (table : Table) (rack : ℕ) (row : List (Option Entry)) → row ≡ get_or table rack row → rack < length table
    → row ≡ get_or table rack []
row_is table rack row is low = is ∙ get_or_default table rack row [] low

-- a row for each list, with no reply
pub shape_nothing : (racks : List (List Order)) → HasShape racks (map (λ orders. replicate (length (before_close orders)) None) racks)
shape_nothing [] = refl
shape_nothing (orders ∷ racks) =
    let here : length (replicate {A = Option Entry} (length (before_close orders)) None) ≡ length (before_close orders) =
    length-replicate _ _ in
    let rest = shape_nothing racks in cc

pub missing_from_gap : (racks : List (List Order)) (table : Table) → HasShape racks table → (r k : ℕ) → IsGap (get_or table r []) k
    → IsMissing (record { racks = racks; table = table }) r k
missing_from_gap racks table shape r k gap = let len = shape_at racks table shape r in let low = gap.0 in (omega arith, gap.1)

pub gap_from_missing : (racks : List (List Order)) (table : Table) → HasShape racks table → (r k : ℕ)
    → IsMissing (record { racks = racks; table = table }) r k → IsGap (get_or table r []) k
gap_from_missing racks table shape r k missing = let len = shape_at racks table shape r in let low = missing.0 in (omega arith, missing.1)

pub least_missing_from_gap : (racks : List (List Order)) (table : Table) → HasShape racks table → (rack number : ℕ)
    → IsLeastGap table rack number → IsLeastMissing (record { racks = racks; table = table }) rack number
least_missing_from_gap racks table shape rack number least = (
  missing_from_gap racks table shape rack number least.1.0,
  λ r k before missing.
      let gap = gap_from_missing racks table shape r k missing in
      elim before [
        | inl low ↦ least.2 r low k gap
        | inr same ↦ least.1.1 k same.1 (subst (λ i. IsGap (get_or table i []) k) same.0 gap)
      ],
)

pub complete_from_no_gaps : (racks : List (List Order)) (table : Table) → HasShape racks table → HasNoGaps table
    → IsComplete (record { racks = racks; table = table })
complete_from_no_gaps racks table shape none r k missing = none r k (gap_from_missing racks table shape r k missing)

-- the answers of one rack
pub row_answers : (row : List (Option Entry)) (rs : List Asked) (os : List Outcome) → length row ≡ length rs
    → ((k : ℕ) (e : Entry) (d : Asked) → get_or row k None ≡ Some e → e.request ≡ get_or rs k d) → AllZip Answers row os → AreAnswers rs os
row_answers [] [] [] len place all = tt
row_answers [] [] (o ∷ os) len place all = absurd all
row_answers [] (r ∷ rs) os len place all = absurd (omega arith)
row_answers (c ∷ row) [] os len place all = absurd (omega arith)
row_answers (c ∷ row) (r ∷ rs) [] len place all = absurd all
row_answers (None ∷ row) (r ∷ rs) (o ∷ os) len place all = absurd all.0
row_answers (Some e ∷ row) (r ∷ rs) (o ∷ os) len place all =
    let same : e.request ≡ r = place 0 e r refl in
    (subst (λ (q : Asked). IsAnswer q o) same all.0.0, row_answers row rs os (omega arith) (λ k f d is. place (suc k) f d is) all.1)

-- the answers of all racks
pub table_answers : {V : Type 0} (items : V → List Outcome) (racks : List (List Order)) (table : Table) (vs : List V) → HasShape racks table
    → ((rack k : ℕ) (e : Entry) (d : Asked) → get_or (get_or table rack []) k None ≡ Some e
    → e.request ≡ get_or (before_close (get_or racks rack [])) k d)
    → AllZip (λ row v. AllZip Answers row (items v)) table vs → AreExpected racks (map items vs)
table_answers items [] [] [] shape place all = tt
table_answers items racks [] (v ∷ vs) shape place all = absurd all
table_answers items racks (row ∷ table) [] shape place all = absurd all
table_answers items [] (row ∷ table) (v ∷ vs) shape place all = cc
table_answers items (orders ∷ racks) [] [] shape place all = cc
table_answers items (orders ∷ racks) (row ∷ table) (v ∷ vs) shape place all =
    let len : length row ≡ length (before_close orders) = cc in
    let less : HasShape racks table = cc in (
      row_answers row (before_close orders) (items v) len (λ k e d is. place 0 k e d is) all.0,
      table_answers items racks table vs less
          (λ r k e d is. place (suc r) k e d is) all.1,
    )

pub none_starved_row : (row : List (Option Entry)) (os : List Outcome) → AllZip Answers row os → (k : ℕ) (e : Entry)
    → get_or row k None ≡ Some e → e.result ≡ Starved → ⊥
none_starved_row [] os all k e is starved = cc
none_starved_row (c ∷ row) [] all k e is starved = absurd all
none_starved_row (None ∷ row) (o ∷ os) all k e is starved = absurd all.0
none_starved_row (Some f ∷ row) (o ∷ os) all zero e is starved = let done = all.0.1 in cc
none_starved_row (Some f ∷ row) (o ∷ os) all (suc k) e is starved = none_starved_row row os all.1 k e is starved

pub none_starved : {V : Type 0} (items : V → List Outcome) (table : Table) (vs : List V)
    → AllZip (λ row v. AllZip Answers row (items v)) table vs
    → (r k : ℕ) (e : Entry) → get_or (get_or table r []) k None ≡ Some e → e.result ≡ Starved → ⊥
none_starved items [] vs all r k e is starved = cc
none_starved items (row ∷ table) [] all r k e is starved = absurd all
none_starved items (row ∷ table) (v ∷ vs) all zero k e is starved = none_starved_row row (items v) all.0 k e is starved
none_starved items (row ∷ table) (v ∷ vs) all (suc r) k e is starved = none_starved items table vs all.1 r k e is starved

get_none : (n k : ℕ) → get_or (replicate {A = Option Entry} n None) k None ≡ None
get_none zero k = refl
get_none (suc n) zero = refl
get_none (suc n) (suc k) = get_none n k

pub none_yet : (racks : List (List Order)) (r k : ℕ) → get_or
    (get_or (map (λ orders. replicate {A = Option Entry} (length (before_close orders)) None) racks) r []) k None ≡ None
none_yet [] r k = refl
none_yet (orders ∷ racks) zero k = get_none (length (before_close orders)) k
none_yet (orders ∷ racks) (suc r) k = none_yet racks r k

-- a reply put into its row
pub added : (racks : List (List Order)) (table : Table) (rack number : ℕ) (row new : List (Option Entry)) (e : Entry)
    → row ≡ get_or table rack row → rack < length table → number < length row
    → new ≡ set row number (Some e) → IsAdded (record { racks = racks; table = table }) rack number e
    (record { racks = racks; table = set table rack new })
added racks table rack number row new e is low within now =
    let at : get_or (set table rack new) rack [] ≡ new = get_or-set_same table rack new [] low in
    let was : row ≡ get_or table rack [] = row_is table rack row is low in
    let Seen : ℕ → List (Option Entry) → Option Entry = λ k r. get_or r k None in (
      refl,
      ap (Seen number) (at ∙ now) ∙ get_or-set_same row number (Some e) None within,
      λ r k other.
          elim (cases_eq r rack) [
            | inl same ↦
                (let apart : k ≡ number → ⊥ = λ h. other (same, h) in
                ap (λ (i : ℕ). get_or (get_or (set table rack new) i []) k None) same
                ∙ ap (Seen k) (at ∙ now)
                ∙ get_or-set_other row number k (Some e) None apart
                ∙ ap (Seen k) was
                ∙ ap (λ (i : ℕ). get_or (get_or table i []) k None) (sym same))
            | inr apart ↦ ap (Seen k) (get_or-set_other table rack r new [] apart)
          ],
    )
