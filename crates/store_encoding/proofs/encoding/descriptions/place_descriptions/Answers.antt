use Rattle.std.proofs.Common.{◌≡◌, ◌∙◌, ◌⊎◌, ◌++◌, ◌∷◌, ◌+◌, ap, inl, inr, refl, sym, ℕ, List, Bor, Some, false}
use Rattle.std.proofs.Common.{arith}
use Rattle.store_folder.specs.Temporary.{is_temporary}
use Rattle.store_encoding.specs.Encoded.{IsThereAt}
use Rattle.store_encoding.proofs.Encoded.{WaitFrom, each_after, each_none, each_one, there_over, there_same, wait_first, wait_none}
use Rattle.store_encoding.proofs.Encoded.{wait_one}
use Rattle.store_encoding.proofs.Replaced.{path_is}
use Rattle.store_encoding.proofs.encoding.descriptions.place_descriptions.Goals as goal

pub names-init : goal.names-init
names-init g c = record {
  same = refl;
  gives = each_none _ _ _ _;
  got = λ path content all. inl all;
  rest = λ path content waits. waits;
}

pub returns-in_err-place_description-clause-folder : goal.returns-in_err-place_description-clause-folder
returns-in_err-place_description-clause-folder g c = c.place_description.ensures.folder ∙ c.names.invariant.same

pub returns-in_err-place_description-clause-whenever : goal.returns-in_err-place_description-clause-whenever
returns-in_err-place_description-clause-whenever g c =
    let folder = c.args.target.now.folder.now in
    let path = c.names.target.folder.now ++ 47 ∷ c.as_str.result.now in
    let is = path_is folder c.names.target.folder.now c.name-item.result c.as_str.result.now
    (ap (λ (f : Bor (List ℕ)). f.now) c.names.invariant.same) c.as_str.ensures.value in
    each_after _ _ _ _ _ _ c.names.invariant.gives (each_one _ _ _ path (Some c.args.text.now) _ _
    (c.names.invariant.rest path (Some c.args.text.now) (wait_one folder c.args.names.now c.args.text.now c.names.name-index _
    c.name-item.result c.names-test.true c.name-item.is path (Some c.args.text.now) (inl (is, refl))))
    c.place_description.ensures.whenever)

pub names-preserved : goal.names-preserved
names-preserved g c =
    let folder = c.args.target.now.folder.now in
    let text = c.args.text.now in
    let k = c.names.name-index in
    let name = c.name-item.result in
    let path = c.names.target.folder.now ++ 47 ∷ c.as_str.result.now in
    let waiting = WaitFrom folder c.args.names.now text (k + 1) in
    let calls = g.F.Folder.calls c.place_description.new.files in
    let there = λ (p : List ℕ) (content : _). is_temporary p ≡ false → IsThereAt calls p content in
    let is = path_is folder c.names.target.folder.now name c.as_str.result.now
    (ap (λ (f : Bor (List ℕ)). f.now) c.names.invariant.same) c.as_str.ensures.value in record {
      same = c.place_description.ensures.folder ∙ c.names.invariant.same;
      gives = each_after _ _ _ _ _ _ c.names.invariant.gives (each_one _ _ _ path (Some text) _ _
          (c.names.invariant.rest path (Some text) (wait_one folder c.args.names.now text k _ name c.names-test.true c.name-item.is path
          (Some text) (inl (is, refl)))) c.place_description.ensures.whenever);
      got = λ p content all. elim (c.names.invariant.got p content all) as (λ _. waiting p content ⊎ there p content) [
        | inl waits ↦ elim (wait_first folder c.args.names.now text k _ name c.names-test.true c.name-item.is p content waits) as
            (λ _. waiting p content ⊎ there p content) [
              | inl here ↦ inr (there_same p path content (Some text) calls (here.0 ∙ sym is) here.1
                  c.in_ok-place_description.ensures.done)
              | inr more ↦ inl more
            ]
        | inr before ↦ inr (λ lasting. there_over _ p content _ _ lasting c.place_description.ensures.whenever (before lasting))
      ];
      rest = λ p content waits. c.names.invariant.rest p content
          (wait_one folder c.args.names.now text k _ name c.names-test.true c.name-item.is p content (inr waits));
    }

pub returns-clause-folder : goal.returns-clause-folder
returns-clause-folder g c = c.names.invariant.same

pub returns-clause-whenever : goal.returns-clause-whenever
returns-clause-whenever g c = c.names.invariant.gives

pub returns-clause-done : goal.returns-clause-done
returns-clause-done g c = λ path content all lasting. elim (c.names.invariant.got path content all) [
  | inl waits ↦ absurd (wait_none c.args.target.now.folder.now c.args.names.now c.args.text.now c.names.name-index
      (let end = c.names-test.false in omega (arith, end)) path content waits)
  | inr there ↦ there lasting
]
