-- What a farm answers.
use Rattle.std.specs.Prelude.{List, map}
use Rattle.std.specs.List.{AllZip}
use Rattle.lrc_code.specs.declared.outcomes.Outcome.{Outcome}
use Rattle.lrc_code.specs.Answers.{IsAnswer}
use Rattle.lrc_code.specs.Requests.{Asked}
use Rattle.farm_orders.specs.declared.orders.Order.{Order}
use Rattle.farm_orders.specs.Orders.{before_close}

-- to each request of a list its answer, in order
abbrev pub AreAnswers : List Asked → List Outcome → Type 0
AreAnswers requests outcomes = AllZip IsAnswer requests outcomes

-- to each request of each list its answer
abbrev pub AreAllAnswers : List (List Asked) → List (List Outcome) → Type 0
AreAllAnswers racks answers = AllZip AreAnswers racks answers

-- for each rack in order, the answers to the requests before its list's close, in order
abbrev pub AreExpected : List (List Order) → List (List Outcome) → Type 0
AreExpected racks answers = AreAllAnswers (map before_close racks) answers
