use Rattle.std.proofs.Common.{◌≡◌, ◌∙◌, ◌+◌, ◌*◌, ◌<◌, ◌≤◌, Bor, Vec, Global, ℕ, List, [], All, ap, arith, length, map, refl, subst}
use Rattle.std.proofs.Common.{le-add_right, le_antisymm, le_of_lt, le_refl, lt_of_le_of_lt}
use Rattle.farm_orders.specs.Limits.{feed_limit, order_limit}
use Rattle.std.proofs.Common.{sym}
use Rattle.std.specs.List.{AllZip}
use Rattle.std.proofs.lemmas.Result.{IfOk-from_err}
use Rattle.std.proofs.lemmas.Simd.{map-map}
use Rattle.farm_core.specs.Merge.{joined}
use Rattle.farm_files.specs.AnsweredRacks.{rack_requests}
use Rattle.farm_reading.specs.Pieces.{AreOrdersOf, record_count}
use Rattle.farm_reading.specs.Reading.{AreRackReads, orders_rack, rack_failures, rack_read}
use Rattle.farm_lists.specs.Requests.{RequestRead, listed_before_close}
use Rattle.farm_lists.specs.declared.listing.Record.{Record}
use Rattle.farm_files.proofs.AnsweredRacks.{lengths_same}
use Rattle.farm_files.proofs.RackBatches.{AreSoFar, cut_is, failures_more, fails_few, fronts, fronts_few, fronts_further, none_fail}
use Rattle.farm_files.proofs.RackBatches.{none_same, orders_size, pieces, pieces_few, pieces_split, requests_size, served, so_far_all}
use Rattle.farm_files.proofs.RackBatches.{so_far_more, so_far_none}
use Rattle.farm_files.proofs.batches.answer_rack.Goals as goal
use Rattle.farm_files.proofs.batches.answer_rack.Goals.{After-as_slice-in-loop-first-3}

abbrev lent : Bor (List Record) → List Record
lent l = l.now

-- the lists that are read are the piece
the_piece : (g : Rattle.farm_files.proofs.batches.answer_rack.Given.Over) (c : After-as_slice-in-loop-first-3 g)
    → map lent c.as_slice-in-loop-first-3.result.now ≡ pieces c.args.lists.now c.loop-first.first c.end_of_positions-end.result
the_piece g c =
    cut_is c.args.lists.now c.in_ok-served.served.items c.as_slice-in-loop-first-2.result.now c.in_ok-part.part.items
    c.as_slice-in-loop-first-3.result.now c.loop-first.first c.end_of_positions-end.result
    c.in_ok-served.ensures c.as_slice-in-loop-first-2.ensures.value c.in_ok-part.ensures c.as_slice-in-loop-first-3.ensures.value

-- how often the device may have failed when the piece was read
fails : (g : Rattle.farm_files.proofs.batches.answer_rack.Given.Over) (c : After-as_slice-in-loop-first-3 g) (after : ℕ)
    → after ≤ g.I.Shelf.failed c.loop-first.input + 15 * record_count (map lent c.as_slice-in-loop-first-3.result.now)
    → (after ≤ g.I.Shelf.failed c.args.input.now + 15 * record_count (fronts c.args.lists.now c.end_of_positions-end.result))
    × (after ≤ g.I.Shelf.failed c.args.input.now + 245760)
fails g c after most =
    let (reads, so, within, same, failed, few) = c.loop-first.invariant in
    fails_few (g.I.Shelf.failed c.args.input.now) (g.I.Shelf.failed c.loop-first.input) after c.args.lists.now c.loop-first.first
    c.end_of_positions-end.result (le_of_lt c.end_of_positions-end.ensures.within.0) c.requires.orders c.requires.feeds.1 few
    (subst (λ (ls : List (List Record)). after ≤ g.I.Shelf.failed c.loop-first.input + 15 * record_count ls) (the_piece g c) most)

-- ---- numbers alone

few_at : (old now : ℕ) (lists : List (Vec Record Global)) (first : ℕ) → All (λ l. length l.items ≤ order_limit) lists
    → length lists ≤ feed_limit → now ≤ old + 15 * record_count (fronts lists first) → now ≤ old + 245760
few_at old now lists first ordered feeds few = omega (arith, few, fronts_few lists first ordered, feeds)

few_still : (before now most : ℕ) → before ≤ most → now ≡ before → now ≤ most
few_still before now most few calm = omega arith

no_fewer : (old now more : ℕ) → now ≡ old + more → old ≤ now
no_fewer old now more is = omega arith

no_fewer_still : (old before now new more : ℕ) → before ≡ old + more → before ≤ now → new ≡ now → old ≤ new
no_fewer_still old before now new more is rose calm = omega arith

none_more : (old : ℕ) (lists : List (Vec Record Global)) → old ≡ old + rack_failures (map (λ (_ : Vec Record Global). []) lists)
none_more old lists = omega (arith, none_fail lists)

all_more : (old before now new first further all : ℕ) → before ≡ old + first → now ≡ before + further → new ≡ now → all ≡ first + further
    → new ≡ old + all
all_more old before now new first further all had rose calm is = omega arith

from_the_first : 0 ≤ order_limit
from_the_first = omega arith

-- ---- the loop

pub loop-first-init : goal.loop-first-init
loop-first-init g c =
    let lists : List (Vec Record Global) = c.args.lists.now in
    let through : map lent c.as_slice.result.now ≡ map served lists = ap (map lent) c.as_slice.ensures.value ∙ c.in_ok-served.ensures in (
      map (λ _. []) lists,
      rw c.new.ensures.items
          (so_far_none (g.I.Shelf.files c.args.input.now) lists (rack_requests c.in_ok-requests.requests.items)
          (c.in_ok-requests.ensures ∙ none_same lent served c.as_slice.result.now lists through)),
      from_the_first,
      refl,
      none_more _ lists,
      le-add_right _ _,
    )

pub loop-first-preserved : goal.loop-first-preserved
loop-first-preserved g c =
    let (reads, so, most, same, failed, few) = c.loop-first.invariant in
    let (qs, are, rose, gives) = c.in_ok-orders.ensures.read in
    let at : After-as_slice-in-loop-first-3 g = (goal.at.loop-first-preserved g c).After-as_slice-in-loop-first-3 in
    let shown = g.I.Shelf.files c.args.input.now in
    let lists : List (Vec Record Global) = c.args.lists.now in
    let i : ℕ = c.loop-first.first in
    let j : ℕ = c.end_of_positions-end.result in
    let is = the_piece g at in
    let split = pieces_split lists i j in
    let ordered : i ≤ j = le_of_lt c.end_of_positions-end.ensures.within.0 in
    let read : AreRackReads (pieces lists i j) qs = subst (λ (ls : List (List Record)). AreRackReads ls qs) is are in
    let counted : map (λ (requests : List RequestRead). length requests) (rack_requests c.in_ok-orders.later.items)
    ≡ map (λ (list : List Record). length (listed_before_close list)) (pieces lists i j) =
    lengths_same c.in_ok-orders.later.items ∙ c.in_ok-orders.ensures.counted
    ∙ sym (map-map (λ (l : List Record). length (listed_before_close l)) lent c.as_slice-in-loop-first-3.result.now)
    ∙ ap (map (λ (l : List Record). length (listed_before_close l))) is in
    let more = so_far_more shown (fronts lists i) (pieces lists i j) reads qs c.loop-first.so_far.answers.items
    c.in_ok-so_far.so_far.answers.items
    (rack_requests c.loop-first.requests.items) (rack_requests c.in_ok-orders.later.items)
    c.loop-first.so_far.ended c.in_ok-so_far.so_far.ended c.in_ok-orders.orders.items split so read
    (subst (λ (ls : List (List Record)). AllZip AreOrdersOf ls c.in_ok-orders.orders.items) is c.in_ok-orders.ensures.orders) counted
    (λ there e.
    let t = gives there (same ∙ e) in
    (t.0 ∙ ap (λ (ls : List (List Record)). orders_rack there ls qs) is, t.1 ∙ ap (λ (ls : List (List Record)). rack_read there ls qs) is))
    c.in_ok-so_far.ensures.answered in (
      joined reads qs,
      rw c.in_ok-requests-2.ensures
          (subst (λ (fs : List (List Record)). AreSoFar shown fs (joined reads qs) c.in_ok-so_far.so_far.answers.items
          (joined (rack_requests c.loop-first.requests.items) (rack_requests c.in_ok-orders.later.items)) c.in_ok-so_far.so_far.ended)
          (fronts_further lists i j ordered) more),
      c.end_of_positions-end.ensures.within.1,
      c.in_ok-so_far.ensures.same ∙ c.in_ok-orders.ensures.same ∙ same,
      all_more _ _ _ _ _ _ _ failed rose c.in_ok-so_far.ensures.calm
          (failures_more (fronts lists i) (pieces lists i j) reads qs split so.read read),
      few_still _ _ _ (fails g at _ c.in_ok-orders.ensures.few).0 c.in_ok-so_far.ensures.calm,
    )

pub read_piece-requires-clause-room : goal.read_piece-requires-clause-room
read_piece-requires-clause-room g c κs within =
    let most = fails g (goal.at.read_piece-requires-clause-room g c).After-as_slice-in-loop-first-3 _ (le_refl _) in
    lt_of_le_of_lt most.1 c.requires.room

pub read_piece-requires-clause-orders : goal.read_piece-requires-clause-orders
read_piece-requires-clause-orders g c κs within =
    pieces_few c.as_slice-in-loop-first-3.result.now c.args.lists.now c.loop-first.first c.end_of_positions-end.result
    (the_piece g (goal.at.read_piece-requires-clause-orders g c).After-as_slice-in-loop-first-3) c.requires.orders

pub append_each-requires : goal.append_each-requires
append_each-requires g c =
    let (reads, so, most, same, failed, few) = c.loop-first.invariant in
    let at : After-as_slice-in-loop-first-3 g = (goal.at.append_each-requires g c).After-as_slice-in-loop-first-3 in
    requests_size (g.I.Shelf.files c.args.input.now) c.args.lists.now c.as_slice-in-loop-first-3.result.now c.loop-first.first
    c.end_of_positions-end.result reads c.loop-first.so_far.answers.items c.loop-first.so_far.ended
    c.loop-first.requests.items c.in_ok-orders.later.items so (the_piece g at) c.in_ok-orders.ensures.counted

pub answer_piece-requires-after_bounds : goal.answer_piece-requires-after_bounds
answer_piece-requires-after_bounds g c = λ κs within.
    let at : After-as_slice-in-loop-first-3 g = (goal.at.answer_piece-requires-after_bounds g c).After-as_slice-in-loop-first-3 in
    let size = orders_size c.args.lists.now c.as_slice-in-loop-first-3.result.now c.loop-first.first c.end_of_positions-end.result
    c.in_ok-orders.orders.items (the_piece g at) c.in_ok-orders.ensures.orders in
    (subst (λ (n : ℕ). 0 < n) (sym size) c.requires.feeds.0, subst (λ (n : ℕ). n ≤ feed_limit) (sym size) c.requires.feeds.1)

pub returns-in_err-part-clause-few : goal.returns-in_err-part-clause-few
returns-in_err-part-clause-few g c =
    few_at _ _ c.args.lists.now c.loop-first.first c.requires.orders c.requires.feeds.1 c.loop-first.invariant.5

pub returns-in_err-orders-clause-few : goal.returns-in_err-orders-clause-few
returns-in_err-orders-clause-few g c = (fails g (goal.at.returns-in_err-orders-clause-few g c).After-as_slice-in-loop-first-3 _
    c.in_err-orders.ensures.few).1

pub returns-in_err-requests-2-clause-few : goal.returns-in_err-requests-2-clause-few
returns-in_err-requests-2-clause-few g c = (fails g (goal.at.returns-in_err-requests-2-clause-few g c).After-as_slice-in-loop-first-3 _
    c.in_ok-orders.ensures.few).1

pub returns-in_err-so_far-clause-few : goal.returns-in_err-so_far-clause-few
returns-in_err-so_far-clause-few g c =
    let few = fails g (goal.at.returns-in_err-so_far-clause-few g c).After-as_slice-in-loop-first-3 _ c.in_ok-orders.ensures.few in
    few_still _ _ _ few.1 c.in_err-so_far.ensures.calm

pub returns-in_err-one_rack-clause-few : goal.returns-in_err-one_rack-clause-few
returns-in_err-one_rack-clause-few g c =
    few_at _ _ c.args.lists.now c.loop-first.first c.requires.orders c.requires.feeds.1 c.loop-first.invariant.5

pub returns-clause-few : goal.returns-clause-few
returns-clause-few g c =
    few_at _ _ c.args.lists.now c.loop-first.first c.requires.orders c.requires.feeds.1 c.loop-first.invariant.5

pub returns-clause-answered : goal.returns-clause-answered
returns-clause-answered g c =
    let (reads, so, most, same, failed, few) = c.loop-first.invariant in
    let all : c.loop-first.first ≡ order_limit = le_antisymm most c.loop-first-test.false in (
      reads,
      rw (c.in_ok-one_rack.ensures.answers, c.in_ok-one_rack.ensures.requests)
          (so_far_all (g.I.Shelf.files c.args.input.now) c.args.lists.now reads c.loop-first.so_far.answers.items
          (rack_requests c.loop-first.requests.items) c.loop-first.so_far.ended c.loop-first.first
          (subst (λ (n : ℕ). All (λ (l : Vec Record Global). length l.items ≤ n) c.args.lists.now) (sym all) c.requires.orders) so),
      failed,
    )

-- ---- the other clauses

pub returns-in_err-part-clause-same : goal.returns-in_err-part-clause-same
returns-in_err-part-clause-same g c = c.loop-first.invariant.3

pub returns-in_err-part-clause-answered : goal.returns-in_err-part-clause-answered
returns-in_err-part-clause-answered g c = IfOk-from_err _ _ c.from_residual-in_err-part.ensures.0

pub returns-in_err-part-clause-more : goal.returns-in_err-part-clause-more
returns-in_err-part-clause-more g c = no_fewer _ _ _ c.loop-first.invariant.4

pub returns-in_err-orders-clause-same : goal.returns-in_err-orders-clause-same
returns-in_err-orders-clause-same g c = c.in_err-orders.ensures.same ∙ c.loop-first.invariant.3

pub returns-in_err-orders-clause-answered : goal.returns-in_err-orders-clause-answered
returns-in_err-orders-clause-answered g c = IfOk-from_err _ _ c.from_residual-in_err-orders.ensures.0

pub returns-in_err-orders-clause-more : goal.returns-in_err-orders-clause-more
returns-in_err-orders-clause-more g c = no_fewer_still _ _ _ _ _ c.loop-first.invariant.4 c.in_err-orders.ensures.more refl

pub returns-in_err-requests-2-clause-same : goal.returns-in_err-requests-2-clause-same
returns-in_err-requests-2-clause-same g c = c.in_ok-orders.ensures.same ∙ c.loop-first.invariant.3

pub returns-in_err-requests-2-clause-answered : goal.returns-in_err-requests-2-clause-answered
returns-in_err-requests-2-clause-answered g c = IfOk-from_err _ _ c.from_residual-in_err-requests-2.ensures.0

pub returns-in_err-requests-2-clause-more : goal.returns-in_err-requests-2-clause-more
returns-in_err-requests-2-clause-more g c = no_fewer_still _ _ _ _ _ c.loop-first.invariant.4 c.in_ok-orders.ensures.more refl

pub returns-in_err-so_far-clause-same : goal.returns-in_err-so_far-clause-same
returns-in_err-so_far-clause-same g c = c.in_err-so_far.ensures.same ∙ c.in_ok-orders.ensures.same ∙ c.loop-first.invariant.3

pub returns-in_err-so_far-clause-answered : goal.returns-in_err-so_far-clause-answered
returns-in_err-so_far-clause-answered g c = IfOk-from_err _ _ c.from_residual-in_err-so_far.ensures.0

pub returns-in_err-so_far-clause-more : goal.returns-in_err-so_far-clause-more
returns-in_err-so_far-clause-more g c =
    no_fewer_still _ _ _ _ _ c.loop-first.invariant.4 c.in_ok-orders.ensures.more c.in_err-so_far.ensures.calm

pub returns-in_err-one_rack-clause-same : goal.returns-in_err-one_rack-clause-same
returns-in_err-one_rack-clause-same g c = c.loop-first.invariant.3

pub returns-in_err-one_rack-clause-answered : goal.returns-in_err-one_rack-clause-answered
returns-in_err-one_rack-clause-answered g c = IfOk-from_err _ _ c.from_residual-in_err-one_rack.ensures.0

pub returns-in_err-one_rack-clause-more : goal.returns-in_err-one_rack-clause-more
returns-in_err-one_rack-clause-more g c = no_fewer _ _ _ c.loop-first.invariant.4

pub returns-clause-same : goal.returns-clause-same
returns-clause-same g c = c.loop-first.invariant.3

pub returns-clause-more : goal.returns-clause-more
returns-clause-more g c = no_fewer _ _ _ c.loop-first.invariant.4
