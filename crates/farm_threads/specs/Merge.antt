-- What a rack answers that is fed by several lists, with laws of merges.
use Rattle.std.specs.Prelude.{◌≡◌, ℕ, ◌<◌, ◌==◌, ◌⊎◌, ◌++◌, if◌then◌else◌, List, [], ◌∷◌, length, take, map}
use Rattle.std.specs.List.{All, AllZip}
use mathlib.Core.Option.{some}
use lib.ListN.{get_elem?}
use Rattle.lrc_code.specs.declared.outcomes.Outcome.{Outcome}
use Rattle.lrc_code.specs.Answers.{IsAnswer}
use Rattle.lrc_code.specs.Requests.{Asked}
use Rattle.list_members.specs.Lists.{EachAt}
use Rattle.farm_orders.specs.declared.orders.Order.{Order}
use Rattle.farm_orders.specs.Orders.{before_close, HasClose}
use Rattle.farm_threads.specs.Expected.{AreAnswers}

-- the requests of this feed among requests that each have their feed's number, in order
abbrev pub of_feed : ℕ → List (ℕ × Asked) → List Asked
of_feed feed [] = []
of_feed feed (x ∷ xs) = if x.0 == feed then x.1 ∷ of_feed feed xs else of_feed feed xs

-- of this feed the merge has all requests before its close
abbrev pub IsWhole : List (ℕ × Asked) → ℕ → List Order → Type 0
IsWhole merge feed list = of_feed feed merge ≡ before_close list

-- no feed has a close
abbrev pub AreOpen : List (List Order) → Type 0
AreOpen feeds = EachAt (λ _ list. ¬ HasClose list) feeds

-- some feed has a close
abbrev pub HaveClose : List (List Order) → Type 0
HaveClose feeds = (feed : ℕ) × (list : List Order) × (get_elem? feeds feed ≡ some list) × HasClose list

-- no feed has a close, and the merge has each of them whole; or it has some feed whole that has a close
abbrev pub IsEnded : List (List Order) → List (ℕ × Asked) → Type 0
IsEnded feeds merge =
    EachAt (λ feed list. ¬ HasClose list × IsWhole merge feed list) feeds
    ⊎ ((feed : ℕ) × (list : List Order) × (get_elem? feeds feed ≡ some list) × HasClose list × IsWhole merge feed list)

-- A lawful merge of a rack's feeds: a list of requests, each with its feed's number. Those of one feed are the first requests
-- before that feed's close, in order. Without a close in any feed it has each feed whole; otherwise some feed that has a close.
pub record IsLawfulMerge (feeds : List (List Order)) (merge : List (ℕ × Asked)) : Type 0 where
  pub known : All (λ x. x.0 < length feeds) merge
  pub prefixes : EachAt (λ feed list. of_feed feed merge ≡ take (length (of_feed feed merge)) (before_close list)) feeds
  pub ended : IsEnded feeds merge

-- the answer to a request, with its feed's number
abbrev pub IsFedAnswer : ℕ × Asked → ℕ × Outcome → Type 0
IsFedAnswer asked answer = (answer.0 ≡ asked.0) × IsAnswer asked.1 answer.1

-- the answers to the requests of a lawful merge of a rack's feeds, in order
abbrev pub AreMergedAnswers : List (List Order) → List (ℕ × Outcome) → Type 0
AreMergedAnswers feeds answers = (merge : List (ℕ × Asked)) × IsLawfulMerge feeds merge × AllZip IsFedAnswer merge answers

-- for each rack in order, the answers to a lawful merge of its feeds
abbrev pub AreAllMergedAnswers : List (List (List Order)) → List (List (ℕ × Outcome)) → Type 0
AreAllMergedAnswers racks answers = AllZip AreMergedAnswers racks answers

-- a merge of one feed is what is before its close
abbrev pub MergeOfOneIsIt : Type 0
MergeOfOneIsIt = (list : List Order) (merge : List (ℕ × Asked)) → IsLawfulMerge (list ∷ []) merge → map (λ x. x.1) merge ≡ before_close list

-- so the answers of a rack with one feed are the answers to its list
abbrev pub AnswersOfOneAreIts : Type 0
AnswersOfOneAreIts = (list : List Order) (answers : List (ℕ × Outcome)) → AreMergedAnswers (list ∷ []) answers
    → AreAnswers (before_close list) (map (λ x. x.1) answers)

-- lists, each with the one of the same number after it, where there is one
abbrev pub joined : {A : Type 0} → List (List A) → List (List A) → List (List A)
joined [] further = []
joined (xs ∷ lists) [] = xs ∷ lists
joined (xs ∷ lists) (ys ∷ further) = (xs ++ ys) ∷ joined lists further

-- Lawful merges of consecutive pieces of feeds, of which the first has no close, joined are a lawful merge of the feeds.
abbrev pub PiecesJoin : Type 0
PiecesJoin = (feeds further : List (List Order)) (merge more : List (ℕ × Asked)) → length feeds ≡ length further → AreOpen feeds
    → IsLawfulMerge feeds merge → IsLawfulMerge further more → IsLawfulMerge (joined feeds further) (merge ++ more)

-- A lawful merge of feeds of which one has a close is one too of these feeds with whatever is after them.
abbrev pub CloseEndsAll : Type 0
CloseEndsAll = (feeds further : List (List Order)) (merge : List (ℕ × Asked)) → HaveClose feeds → IsLawfulMerge feeds merge
    → IsLawfulMerge (joined feeds further) merge
