use Rattle.std.proofs.Common.{◌≡◌, arith, subst}
use Rattle.std.proofs.Math.Path.{fun_ext}
use Rattle.lrc_code.specs.Sets.{is_in}
use Rattle.lrc_code.proofs.PlaceSums.{index_of-lt}
use Rattle.store_repair.specs.Damage.{IsDetermined, IsOneDetermined, without}
use Rattle.store_repair.proofs.SuspectLemmas.{before_next}
use Rattle.store_repair.proofs.damage.is_suspect.Goals as goal

pub loop-index-preserved : goal.loop-index-preserved
loop-index-preserved c =
    let code = c.args.code in
    let left = is_in c.without-left.result in
    let third = c.nth_place.result in
    let fewer : is_in c.without-fewer.result ≡ without code left third = fun_ext c.without-fewer.ensures in
    record {
      alone = c.loop-index.invariant.alone;
      paired = before_next (λ f. IsOneDetermined code (without code left f) c.args.other c.args.place) c.loop-index.index third
          c.nth_place.ensures c.loop-index.invariant.paired
          (subst (λ set. IsOneDetermined code set c.args.other c.args.place) fewer (c.determine_one.ensures c.if-not-determine_one.false));
    }

pub returns : goal.returns
returns c = λ _.
    let code = c.args.code in
    let left : is_in c.without-left.result ≡ without code (is_in c.args.others) c.args.other = fun_ext c.without-left.ensures in
    record {
      alone = subst (λ set. IsDetermined code set c.args.other) left c.loop-index.invariant.alone;
      paired = λ f. subst (λ set. IsOneDetermined code (without code set f) c.args.other c.args.place) left
          (c.loop-index.invariant.paired f (let lt = index_of-lt f in omega (arith, lt)));
    }
