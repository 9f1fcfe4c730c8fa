use Rattle.std.proofs.Common.{◌≡◌, ◌∙◌, ◌++◌, ◌+◌, ◌-◌, ◌*◌, ◌≤◌, Vec, Global, ℕ, List, [], ap, arith, map, refl, subst, take}
use Rattle.std.proofs.Common.{le-add_right, le_of_lt, le_trans}
use Rattle.std.proofs.lemmas.List.{map-append}
use Rattle.std.proofs.lemmas.Result.{IfOk-from_err}
use Rattle.std.proofs.lemmas.List.Sums.{sum_by-append}
use Rattle.std.specs.List.{slice_range}
use Rattle.lrc_code.specs.declared.outcomes.Outcome.{Outcome}
use Rattle.farm_files.specs.AnsweredRacks.{AreAnswered, all_answers, all_requests}
use Rattle.farm_orders.specs.Limits.{rack_limit}
use Rattle.farm_reading.specs.Reading.{Reads, all_failures, rack_failures}
use Rattle.farm_lists.specs.declared.listing.Record.{Record}
use Rattle.farm_lists.specs.declared.requests.ReadRequest.{ReadRequest}
use Rattle.farm_files.proofs.AnsweredRacks.{answered_append, answered_none, range_length, take_range}
use Rattle.farm_lists.specs.Requests.{RequestRead, read_of}
use Rattle.farm_files.proofs.batches.answer_lists.Goals as goal

abbrev outcomes : Vec (ℕ × Outcome) Global → List (ℕ × Outcome)
outcomes answers = answers.items

abbrev requests : Vec (Vec ReadRequest Global) Global → List (List RequestRead)
requests rack = map (λ (us : Vec ReadRequest Global). map read_of us.items) rack.items

-- ---- numbers alone

none_more : (old : ℕ) → old ≡ old + all_failures []
none_more old = omega arith

from_the_first : (count : ℕ) → 0 ≤ count
from_the_first count = omega arith

all_more : (old before now : ℕ) (reads qs : List (List (List Reads))) → before ≡ old + all_failures reads → now ≡ before + all_failures qs
    → now ≡ old + all_failures (reads ++ qs)
all_more old before now reads qs had rose = omega (arith, had, rose, sum_by-append rack_failures reads qs)

few_more : (old before now first end count : ℕ) → first ≤ end → count ≡ end - first → before ≤ old + 245760 * first
    → now ≤ before + 245760 * count → now ≤ old + 245760 * end
few_more old before now first end count ordered is few more = omega arith

few_at : (old now first count : ℕ) → first ≤ count → count ≤ rack_limit → now ≤ old + 245760 * first → now ≤ old + 3932160
few_at old now first count within racks few = omega arith

few_part : (old before now first end count racks : ℕ) → first ≤ end → end ≤ racks → racks ≤ rack_limit → count ≡ end - first
    → before ≤ old + 245760 * first → now ≤ before + 245760 * count → now ≤ old + 3932160
few_part old before now first end count racks ordered within limit is few more = omega arith

no_fewer : (old now more : ℕ) → now ≡ old + more → old ≤ now
no_fewer old now more is = omega arith

-- ---- the loop

pub loop-first-init : goal.loop-first-init
loop-first-init g c = (
  [],
  rw (c.new-answers.ensures.items, c.new-requests.ensures.items) (answered_none (g.I.Shelf.files c.args.input.now)),
  from_the_first _,
  refl,
  none_more _,
  le-add_right _ _,
)

pub loop-first-preserved : goal.loop-first-preserved
loop-first-preserved g c =
    let (reads, so, within, same, failed, few) = c.loop-first.invariant in
    let (qs, now, rose) = c.in_ok-part.ensures.answered in
    let shown = g.I.Shelf.files c.args.input.now in
    let racks : List (List (List Record)) = c.args.racks.now in
    let i : ℕ = c.loop-first.first in
    let j : ℕ = c.end_of_racks-end.result in
    let part : List (List (List Record)) = slice_range racks i j in
    let ordered : i ≤ j = le_of_lt c.end_of_racks-end.ensures.within.0 in
    let split = take_range racks i j ordered in
    let here = subst (λ t. AreAnswered t part qs (all_answers c.in_ok-part.part.answers.items)
    (all_requests c.in_ok-part.part.requests.items)) same now in
    let answers_are : all_answers c.append.new.self.items
    ≡ all_answers c.loop-first.answers.items ++ all_answers c.in_ok-part.part.answers.items =
    ap all_answers c.in_ok-append.ensures.items ∙ map-append outcomes c.loop-first.answers.items c.in_ok-part.part.answers.items in
    let requests_are : all_requests c.append-in-loop-first.new.self.items
    ≡ all_requests c.loop-first.requests.items ++ all_requests c.in_ok-part.part.requests.items =
    ap all_requests c.in_ok-append-2.ensures.items ∙ map-append requests c.loop-first.requests.items c.in_ok-part.part.requests.items in (
      reads ++ qs,
      rw (split, answers_are, requests_are)
          (answered_append shown (take i racks) part reads qs (all_answers c.loop-first.answers.items)
          (all_answers c.in_ok-part.part.answers.items)
          (all_requests c.loop-first.requests.items) (all_requests c.in_ok-part.part.requests.items) so here),
      c.end_of_racks-end.ensures.within.1,
      c.in_ok-part.ensures.same ∙ same,
      all_more _ _ _ reads qs failed rose,
      few_more _ _ _ i j _ ordered (range_length racks i j ordered c.end_of_racks-end.ensures.within.1) few c.in_ok-part.ensures.few,
    )

-- ---- the other clauses

pub returns-in_err-part-clause-same : goal.returns-in_err-part-clause-same
returns-in_err-part-clause-same g c = c.in_err-part.ensures.same ∙ c.loop-first.invariant.3

pub returns-in_err-part-clause-answered : goal.returns-in_err-part-clause-answered
returns-in_err-part-clause-answered g c = IfOk-from_err _ _ c.from_residual.ensures.0

pub returns-in_err-part-clause-more : goal.returns-in_err-part-clause-more
returns-in_err-part-clause-more g c = le_trans (no_fewer _ _ _ c.loop-first.invariant.4) c.in_err-part.ensures.more

pub returns-in_err-part-clause-few : goal.returns-in_err-part-clause-few
returns-in_err-part-clause-few g c =
    let ordered = le_of_lt c.end_of_racks-end.ensures.within.0 in
    let part = range_length c.args.racks.now c.loop-first.first c.end_of_racks-end.result ordered c.end_of_racks-end.ensures.within.1 in
    few_part _ _ _ _ _ _ _ ordered c.end_of_racks-end.ensures.within.1 c.requires.count part c.loop-first.invariant.5
    c.in_err-part.ensures.few

pub returns-in_err-append-clause-same : goal.returns-in_err-append-clause-same
returns-in_err-append-clause-same g c = c.in_ok-part.ensures.same ∙ c.loop-first.invariant.3

pub returns-in_err-append-clause-answered : goal.returns-in_err-append-clause-answered
returns-in_err-append-clause-answered g c = IfOk-from_err _ _ c.from_residual-in_err-append.ensures.0

pub returns-in_err-append-clause-more : goal.returns-in_err-append-clause-more
returns-in_err-append-clause-more g c = le_trans (no_fewer _ _ _ c.loop-first.invariant.4) c.in_ok-part.ensures.more

pub returns-in_err-append-clause-few : goal.returns-in_err-append-clause-few
returns-in_err-append-clause-few g c =
    let ordered = le_of_lt c.end_of_racks-end.ensures.within.0 in
    let part = range_length c.args.racks.now c.loop-first.first c.end_of_racks-end.result ordered c.end_of_racks-end.ensures.within.1 in
    few_part _ _ _ _ _ _ _ ordered c.end_of_racks-end.ensures.within.1 c.requires.count part c.loop-first.invariant.5
    c.in_ok-part.ensures.few

pub returns-in_err-append-2-clause-same : goal.returns-in_err-append-2-clause-same
returns-in_err-append-2-clause-same g c = c.in_ok-part.ensures.same ∙ c.loop-first.invariant.3

pub returns-in_err-append-2-clause-answered : goal.returns-in_err-append-2-clause-answered
returns-in_err-append-2-clause-answered g c = IfOk-from_err _ _ c.from_residual-in_err-append-2.ensures.0

pub returns-in_err-append-2-clause-more : goal.returns-in_err-append-2-clause-more
returns-in_err-append-2-clause-more g c = le_trans (no_fewer _ _ _ c.loop-first.invariant.4) c.in_ok-part.ensures.more

pub returns-in_err-append-2-clause-few : goal.returns-in_err-append-2-clause-few
returns-in_err-append-2-clause-few g c =
    let ordered = le_of_lt c.end_of_racks-end.ensures.within.0 in
    let part = range_length c.args.racks.now c.loop-first.first c.end_of_racks-end.result ordered c.end_of_racks-end.ensures.within.1 in
    few_part _ _ _ _ _ _ _ ordered c.end_of_racks-end.ensures.within.1 c.requires.count part c.loop-first.invariant.5
    c.in_ok-part.ensures.few

pub returns-clause-same : goal.returns-clause-same
returns-clause-same g c = c.loop-first.invariant.3

pub returns-clause-more : goal.returns-clause-more
returns-clause-more g c = no_fewer _ _ _ c.loop-first.invariant.4

pub returns-clause-few : goal.returns-clause-few
returns-clause-few g c = few_at _ _ _ _ c.loop-first.invariant.2 c.requires.count c.loop-first.invariant.5
