use Rattle.std.proofs.Common.{◌≡◌, sym, subst, ℕ, List, true}
use Rattle.folders.proofs.Runs.{keeps_all, keeps_after}
use Rattle.store_folder.proofs.Written.{puts_nothing}
use Rattle.store_encoding.specs.Taken.{AreTaken, GoesFrom}
use Rattle.store_encoding.proofs.Taken.{before_last, last_goes, one_left, rest_after, rest_none}
use Rattle.store_encoding.proofs.taking.take_files.Goals as goal

pub paths-init : goal.paths-init
paths-init g c = record {
  keeps = λ taken are. keeps_all _ _ _;
  others = rest_none _;
  gone = puts_nothing (GoesFrom c.args.paths.items) _;
  rest = λ taken are. are;
  among = λ path one. one;
}

pub returns-in-Err-clause-only : goal.returns-in-Err-clause-only
returns-in-Err-clause-only g c = λ taken are. keeps_after _ _ _ _ _ (c.paths.invariant.keeps taken are)
    (c.take_file.ensures.whenever taken (subst (λ (path : List ℕ). taken path ≡ true) (sym c.as_str.ensures.value)
    ((before_last taken c.pop.new.self.items c.in-Some.name
    (subst (AreTaken taken) c.in-Some.ensures.items (c.paths.invariant.rest taken are))).1)))

pub paths-preserved : goal.paths-preserved
paths-preserved g c = record {
  keeps = λ taken are. keeps_after _ _ _ _ _ (c.paths.invariant.keeps taken are)
      (c.take_file.ensures.whenever taken (subst (λ (path : List ℕ). taken path ≡ true) (sym c.as_str.ensures.value)
      ((before_last taken c.pop.new.self.items c.in-Some.name
      (subst (AreTaken taken) c.in-Some.ensures.items (c.paths.invariant.rest taken are))).1)));
  others = rest_after _ _ _ c.paths.invariant.others c.take_file.ensures.rest;
  gone = last_goes c.args.paths.items _ _ c.in-Some.name c.as_str.result.now c.in-Some.ensures.items c.as_str.ensures.value
      c.paths.invariant.among _ _ _ c.paths.invariant.gone c.take_file.ensures.one;
  among = λ path one. c.paths.invariant.among path (one_left _ _ c.in-Some.name c.in-Some.ensures.items path one);
  rest = λ taken are. (before_last taken c.pop.new.self.items c.in-Some.name
      (subst (AreTaken taken) c.in-Some.ensures.items (c.paths.invariant.rest taken are))).0;
}

pub returns-in-Err-clause-rest : goal.returns-in-Err-clause-rest
returns-in-Err-clause-rest g c = rest_after _ _ _ c.paths.invariant.others c.take_file.ensures.rest

pub returns-in-Err-clause-gone : goal.returns-in-Err-clause-gone
returns-in-Err-clause-gone g c = last_goes c.args.paths.items _ _ c.in-Some.name c.as_str.result.now c.in-Some.ensures.items
    c.as_str.ensures.value c.paths.invariant.among _ _ _ c.paths.invariant.gone c.take_file.ensures.one
