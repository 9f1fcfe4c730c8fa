use Rattle.std.proofs.Common.{◌≡◌, ◌≤◌, ◌∙◌, subst}
use Rattle.std.proofs.Math.Path.{fun_ext}
use Rattle.lrc_code.specs.Code.{has_place}
use Rattle.lrc_code.specs.Codes.{tables_of}
use Rattle.lrc_code.specs.Places.{index_of, same_place}
use Rattle.lrc_code.specs.Sets.{is_in}
use Rattle.lrc_plan.specs.Planned.{ExtensionsDiffer}
use Rattle.store_repair.specs.Damage.{IsDetermined, without}
use Rattle.store_repair.proofs.CoverLemmas.{still_out}
use Rattle.store_repair.proofs.SuspectLemmas.{before_next}
use Rattle.store_repair.proofs.coverage.is_covered_beside.Goals as goal

pub loop-index-preserved : goal.loop-index-preserved
loop-index-preserved c =
    let code = c.args.code in
    let left = is_in c.args.left in
    let p = c.nth_place.result in
    let fewer : is_in c.without-fewer.result ≡ without code left p = fun_ext c.without-fewer.ensures in
    before_next (λ f. c.args.from ≤ index_of f → IsDetermined code (without code left f) c.args.place) c.loop-index.index p
    c.nth_place.ensures c.loop-index.invariant
    (λ le. subst (λ set. IsDetermined code set c.args.place) fewer (c.determine.ensures.yes c.if-not-determine.false))

pub returns-then-not-determine-clause-no : goal.returns-then-not-determine-clause-no
returns-then-not-determine-clause-no c = λ off has out.
    let code = c.args.code in
    let left = is_in c.args.left in
    let p = c.nth_place.result in
    let fewer : is_in c.without-fewer.result ≡ without code left p = fun_ext c.without-fewer.ensures in (
      p,
      subst (λ set. ExtensionsDiffer (tables_of code) set c.args.place) fewer (c.determine.ensures.no c.if-not-determine.true has
          (c.without-fewer.ensures c.args.place
          ∙ still_out (has_place (tables_of code) c.args.place) (left c.args.place) (same_place p c.args.place) out)),
    )
