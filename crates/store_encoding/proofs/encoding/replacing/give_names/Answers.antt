use Rattle.std.proofs.Common.{◌≡◌, ◌∙◌, ap, inl, inr, refl, sym, ℕ, List, Bor, arith}
use Rattle.std.proofs.lemmas.List.{nil_from_length}
use Rattle.store_encoding.specs.Names.{IsPairOf}
use Rattle.store_encoding.specs.Own.{has}
use Rattle.store_encoding.proofs.Digests.{changes_next, others_next}
use Rattle.store_encoding.proofs.Replaced.{all_last, can_next, gives_none, next_gives, next_got, no_pair, rest_of, same_pairs}
use Rattle.store_encoding.proofs.encoding.replacing.give_names.Goals as goal

pub names-init : goal.names-init
names-init g c =
    let is : c.into_iter-name-iterator.result.a.rest.now ≡ c.args.names.now = grind arith in
    let is_other : c.into_iter-name-iterator.result.b.rest.now ≡ c.args.others.now = grind arith in record {
      same = refl;
      sums = λ name out. refl;
      rest_others = λ name out. ap (λ all. has all name) is_other ∙ out;
      gives = gives_none _ _;
      got = λ w went from to gets ours. inl (same_pairs _ _ _ _ _ _ refl (sym is) (sym is_other) from to gets);
      rest = same_pairs _ _ _ _ _ _ refl is is_other;
    }

pub give_one-requires : goal.give_one-requires
give_one-requires g c = can_next c.args.target.now.folder.now c.names.target.folder.now c.in-Some.name.now c.in-Some.other.now
    c.args.names.now c.args.others.now _ _ _ _ c.as_str.result.now c.as_str-in-names.result.now
    (ap (λ (f : Bor (List ℕ)). f.now) c.names.invariant.same) c.in-Some.ensures.steps.0 c.in-Some.ensures.steps.1
    c.as_str.ensures.value c.as_str-in-names.ensures.value c.requires c.names.invariant.rest

pub names-preserved : goal.names-preserved
names-preserved g c = record {
  same = c.give_one.ensures.folder ∙ c.names.invariant.same;
  sums = changes_next c.args.others.now _ _ c.in-Some.other.now c.in-Some.ensures.steps.1 c.names.invariant.rest_others
      c.args.target.now.sums c.names.target.sums c.give_one.new.target.sums c.as_str-in-names.result.now c.as_str-in-names.ensures.value
      c.in_ok-give_one.ensures.sums c.names.invariant.sums;
  rest_others = others_next c.args.others.now _ _ c.in-Some.other.now c.in-Some.ensures.steps.1 c.names.invariant.rest_others;
  gives = next_gives c.args.target.now.folder.now c.names.target.folder.now c.in-Some.name.now c.in-Some.other.now
      c.args.names.now c.args.others.now _ _ _ _ c.as_str.result.now c.as_str-in-names.result.now
      (ap (λ (f : Bor (List ℕ)). f.now) c.names.invariant.same) c.in-Some.ensures.steps.0 c.in-Some.ensures.steps.1
      c.as_str.ensures.value c.as_str-in-names.ensures.value c.requires c.names.invariant.rest _ _ _ c.names.invariant.gives
      c.give_one.ensures.whenever;
  got = next_got c.args.target.now.folder.now c.names.target.folder.now c.in-Some.name.now c.in-Some.other.now
      c.args.names.now c.args.others.now _ _ _ _ c.as_str.result.now c.as_str-in-names.result.now
      (ap (λ (f : Bor (List ℕ)). f.now) c.names.invariant.same) c.in-Some.ensures.steps.0 c.in-Some.ensures.steps.1
      c.as_str.ensures.value c.as_str-in-names.ensures.value c.requires c.names.invariant.rest _ _ _ c.names.invariant.gives
      c.give_one.ensures.whenever c.in_ok-give_one.ensures.given c.names.invariant.got;
  rest = rest_of c.args.target.now.folder.now c.names.target.folder.now c.in-Some.name.now c.in-Some.other.now
      c.args.names.now c.args.others.now _ _ _ _ c.as_str.result.now c.as_str-in-names.result.now
      (ap (λ (f : Bor (List ℕ)). f.now) c.names.invariant.same) c.in-Some.ensures.steps.0 c.in-Some.ensures.steps.1
      c.as_str.ensures.value c.as_str-in-names.ensures.value c.requires c.names.invariant.rest;
}

pub returns-in_err-give_one-clause-whenever : goal.returns-in_err-give_one-clause-whenever
returns-in_err-give_one-clause-whenever g c = next_gives c.args.target.now.folder.now c.names.target.folder.now c.in-Some.name.now
    c.in-Some.other.now c.args.names.now c.args.others.now _ _ _ _ c.as_str.result.now c.as_str-in-names.result.now
    (ap (λ (f : Bor (List ℕ)). f.now) c.names.invariant.same) c.in-Some.ensures.steps.0 c.in-Some.ensures.steps.1
    c.as_str.ensures.value c.as_str-in-names.ensures.value c.requires c.names.invariant.rest _ _ _ c.names.invariant.gives
    c.give_one.ensures.whenever

pub returns-clause-got : goal.returns-clause-got
returns-clause-got g c =
    let folder = c.args.target.now.folder.now in
    all_last (IsPairOf folder c.args.names.now c.args.others.now)
    (IsPairOf folder c.names.name-iterator.a.rest.now c.names.name-iterator.b.rest.now) _ _
    (no_pair folder c.names.name-iterator.a.rest.now c.names.name-iterator.b.rest.now (elim c.in-None.ensures.steps [
      | inl none ↦ inl (nil_from_length _ none.1.0)
      | inr none ↦ inr (nil_from_length _ none.1.0)
    ])) c.names.invariant.got
