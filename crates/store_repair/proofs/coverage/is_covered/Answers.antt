use Rattle.std.proofs.Common.{◌≡◌, ◌≤◌, ◌∙◌, arith, subst}
use Rattle.std.proofs.Math.Path.{fun_ext}
use Rattle.lrc_code.specs.declared.places.Place.{Place}
use Rattle.lrc_code.specs.Code.{has_place}
use Rattle.lrc_code.specs.Codes.{tables_of}
use Rattle.lrc_code.specs.Places.{index_of, same_place}
use Rattle.lrc_code.specs.Sets.{is_in}
use Rattle.lrc_code.proofs.PlaceSums.{index_of-lt}
use Rattle.lrc_plan.specs.Planned.{ExtensionsDiffer}
use Rattle.store_repair.specs.Damage.{IsDetermined, without}
use Rattle.store_repair.proofs.CoverLemmas.{covered_by_order, right_despite_two, still_out}
use Rattle.store_repair.proofs.SuspectLemmas.{before_next}
use Rattle.store_repair.proofs.coverage.is_covered.Goals as goal

pub loop-index-preserved : goal.loop-index-preserved
loop-index-preserved c =
    let code = c.args.code in
    let survives = is_in c.args.survivors in
    let p = c.nth_place.result in
    let left : is_in c.without-left.result ≡ without code survives p = fun_ext c.without-left.ensures in
    before_next
    (λ e. (f : Place) → index_of e ≤ index_of f → IsDetermined code (without code (without code survives e) f) c.args.place)
    c.loop-index.index p c.nth_place.ensures c.loop-index.invariant
    (λ f le. subst (λ set. IsDetermined code (without code set f) c.args.place) left
    (c.is_covered_beside.ensures.yes c.if-not-is_covered_beside.false f (let here = c.nth_place.ensures in omega (arith, le, here))))

pub returns-then-not-is_covered_beside-clause-open : goal.returns-then-not-is_covered_beside-clause-open
returns-then-not-is_covered_beside-clause-open c = λ off has out.
    let code = c.args.code in
    let survives = is_in c.args.survivors in
    let p = c.nth_place.result in
    let left : is_in c.without-left.result ≡ without code survives p = fun_ext c.without-left.ensures in
    let found = c.is_covered_beside.ensures.no c.if-not-is_covered_beside.true has
    (c.without-left.ensures c.args.place
    ∙ still_out (has_place (tables_of code) c.args.place) (survives c.args.place) (same_place p c.args.place) out) in
    (p, found.0, subst (λ set. ExtensionsDiffer (tables_of code) (without code set found.0) c.args.place) left found.1)

pub returns-clause-covered : goal.returns-clause-covered
returns-clause-covered c = λ on.
    covered_by_order c.args.code (is_in c.args.survivors) c.args.place
    (λ e f le. c.loop-index.invariant e (let lt = index_of-lt e in omega (arith, lt)) f le)

pub returns-clause-right : goal.returns-clause-right
returns-clause-right c = λ on.
    right_despite_two c.args.code (is_in c.args.survivors) c.args.place
    (covered_by_order c.args.code (is_in c.args.survivors) c.args.place
    (λ e f le. c.loop-index.invariant e (let lt = index_of-lt e in omega (arith, lt)) f le))
