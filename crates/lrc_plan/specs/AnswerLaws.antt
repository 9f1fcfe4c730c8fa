-- That a request has an answer.
use Rattle.std.specs.Prelude.{◌≡◌}
use Rattle.lrc_code.specs.declared.outcomes.Outcome.{Outcome}
use Rattle.lrc_code.specs.Answers.{IsAnswer}
use Rattle.lrc_code.specs.Requests.{Asked}

-- some outcome is the request's answer, and no other is
abbrev pub HasOneAnswer : Asked → Type 0
HasOneAnswer r = (o : Outcome) × IsAnswer r o × ((other : Outcome) → IsAnswer r other → other ≡ o)
