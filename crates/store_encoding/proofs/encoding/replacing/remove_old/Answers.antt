use Rattle.std.proofs.Common.{◌≡◌, ◌∙◌, ap, refl, ℕ, List, Bor, arith, string_bytes}
use Rattle.store_encoding.specs.Own.{has}
use Rattle.store_encoding.proofs.Digests.{changes_next, others_next}
use Rattle.store_encoding.proofs.Replaced.{can_next, gives_none, next_gives, rest_of, same_pairs}
use Rattle.store_encoding.proofs.encoding.replacing.remove_old.Goals as goal

pub names-init : goal.names-init
names-init g c =
    let is : c.into_iter-name-iterator.result.a.rest.now ≡ c.args.names.now = grind arith in
    let is_other : c.into_iter-name-iterator.result.b.rest.now ≡ c.args.others.now = grind arith in record {
      same = refl;
      sums = λ name out. refl;
      rest_others = λ name out. ap (λ all. has all name) is_other ∙ out;
      gives = gives_none _ _;
      rest = same_pairs _ _ _ _ _ _ refl is is_other;
    }

pub remove_lost-requires : goal.remove_lost-requires
remove_lost-requires g c = can_next c.args.target.now.folder.now c.names.target.folder.now c.in-Some.name.now c.in-Some.other.now
    c.args.names.now c.args.others.now _ _ _ _ c.as_str.result.now _
    (ap (λ (f : Bor (List ℕ)). f.now) c.names.invariant.same) c.in-Some.ensures.steps.0 c.in-Some.ensures.steps.1
    c.as_str.ensures.value refl c.requires c.names.invariant.rest

pub names-preserved : goal.names-preserved
names-preserved g c = record {
  same = c.remove_lost.ensures.folder ∙ c.names.invariant.same;
  sums = changes_next c.args.others.now _ _ c.in-Some.other.now c.in-Some.ensures.steps.1 c.names.invariant.rest_others
      c.args.target.now.sums c.names.target.sums c.remove_lost.new.target.sums (string_bytes c.in-Some.other.now) refl
      c.remove_lost.ensures.sums c.names.invariant.sums;
  rest_others = others_next c.args.others.now _ _ c.in-Some.other.now c.in-Some.ensures.steps.1 c.names.invariant.rest_others;
  gives = next_gives c.args.target.now.folder.now c.names.target.folder.now c.in-Some.name.now c.in-Some.other.now
      c.args.names.now c.args.others.now _ _ _ _ c.as_str.result.now _
      (ap (λ (f : Bor (List ℕ)). f.now) c.names.invariant.same) c.in-Some.ensures.steps.0 c.in-Some.ensures.steps.1
      c.as_str.ensures.value refl c.requires c.names.invariant.rest _ _ _ c.names.invariant.gives c.remove_lost.ensures.whenever;
  rest = rest_of c.args.target.now.folder.now c.names.target.folder.now c.in-Some.name.now c.in-Some.other.now
      c.args.names.now c.args.others.now _ _ _ _ c.as_str.result.now _
      (ap (λ (f : Bor (List ℕ)). f.now) c.names.invariant.same) c.in-Some.ensures.steps.0 c.in-Some.ensures.steps.1
      c.as_str.ensures.value refl c.requires c.names.invariant.rest;
}

pub returns-in_err-remove_lost-clause-whenever : goal.returns-in_err-remove_lost-clause-whenever
returns-in_err-remove_lost-clause-whenever g c = next_gives c.args.target.now.folder.now c.names.target.folder.now c.in-Some.name.now
    c.in-Some.other.now c.args.names.now c.args.others.now _ _ _ _ c.as_str.result.now _
    (ap (λ (f : Bor (List ℕ)). f.now) c.names.invariant.same) c.in-Some.ensures.steps.0 c.in-Some.ensures.steps.1
    c.as_str.ensures.value refl c.requires c.names.invariant.rest _ _ _ c.names.invariant.gives c.remove_lost.ensures.whenever

pub returns-in_err-remove_lost-clause-sums : goal.returns-in_err-remove_lost-clause-sums
returns-in_err-remove_lost-clause-sums g c = changes_next c.args.others.now _ _ c.in-Some.other.now c.in-Some.ensures.steps.1
    c.names.invariant.rest_others c.args.target.now.sums c.names.target.sums c.remove_lost.new.target.sums (string_bytes
    c.in-Some.other.now) refl c.remove_lost.ensures.sums c.names.invariant.sums
