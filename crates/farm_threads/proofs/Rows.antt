-- Laws of rows and tables of replies.
use Rattle.std.proofs.Common.{ℕ, ◌≡◌, List, [], ◌∷◌, ◌++◌, length, get_or, map, replicate, arith, refl, sym, ap, ◌∙◌, subst, suc, zero}
use Rattle.std.proofs.Common.{Option, Some, None, Vec, Global}
use Rattle.std.specs.Option.{option_map}
use Rattle.std.specs.List.{AllZip}
use Rattle.std.proofs.Math.ListN.{get_or-map}
use Rattle.farm_orders.specs.Orders.{before_close, served}
use Rattle.farm_orders.proofs.Members.{all_zip_push}
use Rattle.farm_threads.specs.Replies.{Entry, entries, Answers, HasShape, IsGap, entry_of, Replied}
use Rattle.farm_threads.specs.Boards.{filled, IsOutcomeOf}
use Rattle.farm_threads.specs.RunFeeds.{slot_feed}
use Rattle.lrc_code.specs.Answers.{IsAnswer}
use Rattle.farm_threads.specs.declared.replies.ReplyResult.TheVariants.{Done}
use Rattle.std.proofs.lemmas.List.{map-append}
use Rattle.farm_orders.specs.declared.orders.Order.{Order}
use Rattle.lrc_code.specs.declared.outcomes.Outcome.{Outcome}

pub entries-replicate : (n : ℕ) → entries (replicate n None) ≡ replicate n None
entries-replicate zero = refl
entries-replicate (suc n) = ap (λ t. None ∷ t) (entries-replicate n)

-- a row has a cell for each request that is served
pub shape_at : (racks : List (List Order)) (table : List (List (Option Entry))) → HasShape racks table → (rack : ℕ)
    → length (get_or table rack []) ≡ length (served racks rack)
shape_at racks table shape rack =
    sym (get_or-map (λ (row : List (Option Entry)). length row) table rack [])
    ∙ ap (λ ns. get_or ns rack 0) shape
    ∙ get_or-map (λ (orders : List Order). length (before_close orders)) racks rack []

-- a cell without a reply is a gap
pub gap_at_seam : (done rest : List (Option Replied)) → IsGap (entries (done ++ None ∷ rest)) (length done)
gap_at_seam [] rest = (omega arith, refl)
gap_at_seam (x ∷ done) rest = let h = gap_at_seam done rest in (omega (arith, h.0), h.1)

-- one answer more
pub Answers-more : (cells : List (Option Replied)) (cell : Option Replied) (reply : Replied) (os os' : List Outcome) (o : Outcome) →
    AllZip Answers (entries cells) os → cell ≡ Some reply → reply.result ≡ Done o → IsAnswer reply.request o → os' ≡ os ++ o ∷ []
    → AllZip Answers (entries (cells ++ cell ∷ [])) os'
Answers-more cells cell reply os os' o all is says right grown =
    let here : Answers (option_map entry_of cell) o = subst (λ (c : Option Replied). Answers (option_map entry_of c) o) (sym is)
    (right, says) in
    let more : AllZip Answers (entries cells ++ option_map entry_of cell ∷ []) (os ++ o ∷ []) =
    all_zip_push Answers (entries cells) os (option_map entry_of cell) o all here in
    let seen : AllZip Answers (entries (cells ++ cell ∷ [])) (os ++ o ∷ []) =
    subst (λ (row : List (Option Entry)). AllZip Answers row (os ++ o ∷ []))
    (sym (map-append (option_map entry_of) cells (cell ∷ []))) more in
    subst (λ (t : List Outcome). AllZip Answers (entries (cells ++ cell ∷ [])) t) (sym grown) seen

-- a row that begins with these entries
pub filled_all : (es : List Entry) → filled (map Some es) ≡ es
filled_all [] = refl
filled_all (e ∷ es) = ap (λ l. e ∷ l) (filled_all es)

pub filled_front : (es : List Entry) (rest : List (Option Entry)) → filled (map Some es ++ None ∷ rest) ≡ es
filled_front [] rest = refl
filled_front (e ∷ es) rest = ap (λ l. e ∷ l) (filled_front es rest)

-- one entry more, and its outcome
pub outcomes_more : {B : Type 0} (R : Entry → B → Type 0) (cells : List (Option Replied)) (cell : Option Replied) (reply : Replied)
    (os os' : List B) (o : B)
    → ((es : List Entry) × (entries cells ≡ map Some es) × AllZip R es os) → cell ≡ Some reply → R (entry_of reply) o → os' ≡ os ++ o ∷ []
    → (es : List Entry) × (entries (cells ++ cell ∷ []) ≡ map Some es) × AllZip R es os'
outcomes_more R cells cell reply os os' o was is one grown = (
  was.0 ++ entry_of reply ∷ [],
  map-append (option_map entry_of) cells (cell ∷ []) ∙ (ap (λ (l : List (Option Entry)). l ++ option_map entry_of cell ∷ []) was.1
      ∙ (ap (λ (x : Option Replied). map Some was.0 ++ option_map entry_of x ∷ []) is ∙ sym (map-append Some was.0 (entry_of reply ∷ [])))),
  subst (λ l. AllZip R (was.0 ++ entry_of reply ∷ []) l) (sym grown) (all_zip_push R was.0 os (entry_of reply) o was.2 one),
)

-- the outcomes of answers with their feeds
pub outcomes_without : (es : List Entry) (answers : List (ℕ × Outcome)) → AllZip IsOutcomeOf es answers
    → AllZip (λ (e : Entry) (o : Outcome). IsOutcomeOf e (slot_feed e.rack, o)) es (map (λ (answer : ℕ × Outcome). answer.1) answers)
outcomes_without [] [] all = tt
outcomes_without [] (a ∷ more) all = absurd all
outcomes_without (e ∷ es) [] all = absurd all
outcomes_without (e ∷ es) (a ∷ more) all = ((refl, all.0.1, all.0.2), outcomes_without es more all.1)

pub rows_without : (table : List (List (Option Entry))) (rows : List (Vec (ℕ × Outcome) Global)) (all : List (Vec Outcome Global))
    → AllZip (λ (row : List (Option Entry)) (answers : Vec (ℕ × Outcome) Global). AllZip IsOutcomeOf (filled row) answers.items) table rows
    → AllZip (λ (row : Vec (ℕ × Outcome) Global) (answers : Vec Outcome Global).
    answers.items ≡ map (λ (answer : ℕ × Outcome). answer.1) row.items) rows all
    → AllZip (λ (row : List (Option Entry)) (answers : Vec Outcome Global).
    AllZip (λ (e : Entry) (o : Outcome). IsOutcomeOf e (slot_feed e.rack, o)) (filled row) answers.items) table all
rows_without [] [] [] are same = tt
rows_without [] [] (a ∷ all) are same = absurd same
rows_without [] (r ∷ rows) all are same = absurd are
rows_without (row ∷ table) [] all are same = absurd are
rows_without (row ∷ table) (r ∷ rows) [] are same = absurd same
rows_without (row ∷ table) (r ∷ rows) (a ∷ all) are same = (
  subst (λ (l : List Outcome). AllZip (λ (e : Entry) (o : Outcome). IsOutcomeOf e (slot_feed e.rack, o)) (filled row) l) (sym same.0)
      (outcomes_without (filled row) r.items are.0),
  rows_without table rows all are.1 same.1,
)
