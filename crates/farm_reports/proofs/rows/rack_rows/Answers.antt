use Rattle.std.proofs.Common.{◌≡◌, ◌<◌, ◌+◌, ◌++◌, ◌∷◌, [], ◌∙◌, Vec, Global, ℕ, length, map, set, get_or, sym, ap, arith}
use Rattle.std.proofs.lemmas.List.{length-set, map-append}
use Rattle.farm_lists.specs.declared.requests.ReadRequest.{ReadRequest}
use Rattle.farm_lists.specs.Requests.{read_of}
use Rattle.farm_reports.specs.Report.{row_of}
use Rattle.farm_reports.specs.Rows.{position, row_of_number}
use Rattle.farm_reports.proofs.RackRows.{counts_step, known_in, number_is, numbers_push, position_in, position_most, position_read}
use Rattle.farm_reports.proofs.RackRows.{said_step}
use Rattle.farm_reports.proofs.rows.rack_rows.Goals as goal
use Rattle.farm_reports.proofs.rows.rack_rows.Goals.{After-index-position}

size : Vec ReadRequest Global → ℕ
size rs = length rs.items

known : (c : After-index-position) → c.index-answers-number.result.0 < length c.args.requests.now
unfolding size
known c = known_in size c.args.requests.now c.args.answers.now c.loop-number.number c.index-answers-number.result c.requires
    c.loop-number-test.true c.index-answers-number.is

at : (c : After-index-position) → c.index-position.result.now
    ≡ position c.args.answers.now c.index-answers-number.result.0 c.loop-number.number
unfolding size
at c =
    position_read size c.args.requests.now c.args.answers.now c.loop-number.counts.items c.loop-number.number c.index-position.result.now
    c.index-answers-number.result
    c.requires c.loop-number-test.true c.index-answers-number.is c.loop-number.invariant.sized c.loop-number.invariant.counted
    c.index-position.ensures

pub index-position-requires : goal.index-position-requires
unfolding size
index-position-requires c =
    omega (
      arith,
      known_in size c.args.requests.now c.args.answers.now c.loop-number.number c.index-answers-number.result c.requires
          c.loop-number-test.true c.index-answers-number.is,
      c.loop-number.invariant.sized,
      c.loop-number.counts.ok.0,
    )

pub overflow_add-position : goal.overflow_add-position
overflow_add-position c =
    omega (
      arith,
      at (goal.at.overflow_add-position c).After-index-position,
      position_most c.args.answers.now c.index-answers-number.result.0 c.loop-number.number,
      c.loop-number-test.true,
    )

pub index_mut-requires : goal.index_mut-requires
index_mut-requires c = omega (
  arith,
  known (goal.at.index_mut-requires c).After-index-position,
  c.loop-number.invariant.sized,
  c.loop-number.counts.ok.0,
)

pub answer_row-requires-clause-feed : goal.answer_row-requires-clause-feed
answer_row-requires-clause-feed c = known (goal.at.answer_row-requires-clause-feed c).After-index-position

pub answer_row-requires-clause-position : goal.answer_row-requires-clause-position
answer_row-requires-clause-position c =
    position_in (λ (rs : Vec ReadRequest Global). rs.items) c.args.requests.now c.args.answers.now c.loop-number.number
    c.index-position.result.now c.index-answers-number.result c.requires
    c.loop-number-test.true c.index-answers-number.is (at (goal.at.answer_row-requires-clause-position c).After-index-position)

pub loop-number-preserved : goal.loop-number-preserved
loop-number-preserved c =
    let here = (goal.at.loop-number-preserved c).After-index-position in
    let requests = map (λ (rs : Vec ReadRequest Global). map read_of rs.items) c.args.requests.now in
    let made = number_is requests c.args.answers.now c.loop-number.number c.index-position.result.now c.index-answers-number.result
    (row_of c.answer_row.result)
    c.loop-number-test.true c.index-answers-number.is (at here) c.answer_row.ensures.row in
    record {
      made = ap (map row_of) c.in_ok-push.ensures.items ∙ map-append row_of c.loop-number.rows.items _
          ∙ ap (λ t. t ++ row_of c.answer_row.result ∷ []) c.loop-number.invariant.made
          ∙ sym (numbers_push (row_of_number requests c.args.answers.now) c.loop-number.number (row_of c.answer_row.result) made);
      said = said_step (λ r. r.outcome.now) c.args.answers.now c.loop-number.number c.index-answers-number.result c.answer_row.result
          c.loop-number.rows.items c.push.new.self.items
          c.loop-number-test.true c.index-answers-number.is c.answer_row.ensures.outcome c.loop-number.invariant.said
          c.in_ok-push.ensures.items;
      sized = length-set c.loop-number.counts.items c.index-answers-number.result.0 (c.index-position.result.now + 1)
          ∙ c.loop-number.invariant.sized;
      counted = λ f below.
          ap (λ p. get_or (set c.loop-number.counts.items c.index-answers-number.result.0 (p + 1)) f 0)
          (at here ∙ sym (c.loop-number.invariant.counted c.index-answers-number.result.0 (known here)))
          ∙ counts_step c.args.answers.now c.loop-number.counts.items
          (length c.args.requests.now) c.loop-number.number c.index-answers-number.result c.loop-number-test.true
          c.index-answers-number.is
          c.loop-number.invariant.sized (known here) c.loop-number.invariant.counted f below;
    }
