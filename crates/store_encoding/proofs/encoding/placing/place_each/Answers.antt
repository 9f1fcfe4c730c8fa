use Rattle.std.proofs.Common.{◌≡◌, ◌∙◌, ◌⊎◌, ◌++◌, ◌∷◌, ap, inl, inr, refl, sym, ℕ, List, [], Bor, false, arith}
use Rattle.std.proofs.lemmas.List.{nil_from_length}
use Rattle.store_folder.specs.Placed.{content_of}
use Rattle.store_folder.specs.Temporary.{is_temporary}
use Rattle.store_encoding.specs.Encoded.{IsDueAt, IsMadeOf, contents_of}
use Rattle.store_encoding.proofs.Encoded.{due_at_over, due_same, each_after, each_none, each_one, each_quiet, if_no_error, is_none}
use Rattle.store_encoding.proofs.Encoded.{made_first, made_one, none_wait, not_none, on_ok_then, same_made, there_at}
use Rattle.store_encoding.proofs.Replaced.{path_is}
use Rattle.store_encoding.proofs.encoding.placing.place_each.Goals as goal

pub names-init : goal.names-init
names-init g c =
    let is : c.into_iter-name-iterator.result.a.rest.now ≡ c.args.names.now = grind arith in
    let are : c.into_iter-name-iterator.result.b.rest.items ≡ c.args.made.items = grind arith in record {
      same = refl;
      gives = each_none _ _ _ _;
      got = λ none path content all. inl (same_made _ _ _ _ _ (sym is) (ap contents_of (sym are)) path content all);
      rest = same_made _ _ _ _ _ is (ap contents_of are);
    }

pub names-preserved-then-is_some : goal.names-preserved-then-is_some
names-preserved-then-is_some g c =
    let step = c.in-Some.ensures.steps in record {
      same = c.names.invariant.same;
      gives = each_after _ _ _ _ _ _ c.names.invariant.gives (each_quiet _ _ _ _ _ c.discard_new.ensures.whenever);
      got = λ none. absurd (not_none c.names.refused c.is_some.result c.is_some.ensures c.if-is_some.true none);
      rest = λ path content made. c.names.invariant.rest path content
          (made_one c.args.target.now.folder.now c.in-Some.name.now (content_of c.in-Some.one.file) _ _ _ _ step.0
          (ap contents_of step.1.0) path content (inr made));
    }

pub names-preserved : goal.names-preserved
names-preserved g c =
    let folder = c.args.target.now.folder.now in
    let step = c.in-Some.ensures.steps in
    let own = content_of c.in-Some.one.file in
    let path = c.names.target.folder.now ++ 47 ∷ c.as_str.result.now in
    let calls = g.F.Folder.calls c.place_one.new.files in
    let waiting = IsMadeOf folder c.next.new.self.a.rest.now (contents_of c.next.new.self.b.rest.items) in
    let due = λ (p : List ℕ) (content : _). is_temporary p ≡ false → IsDueAt c.place_one.new.touched.folders.items calls p content in
    let is = path_is folder c.names.target.folder.now c.in-Some.name.now c.as_str.result.now
    (ap (λ (f : Bor (List ℕ)). f.now) c.names.invariant.same) c.as_str.ensures.value in
    let was = is_none c.names.refused c.is_some.result c.is_some.ensures c.if-is_some.false in record {
      same = c.place_one.ensures.folder ∙ c.names.invariant.same;
      gives = each_after _ _ _ _ _ _ c.names.invariant.gives (each_one _ _ _ path own _ _ (c.names.invariant.rest path own
          (made_one folder c.in-Some.name.now own _ _ _ _ step.0 (ap contents_of step.1.0) path own (inl (is, refl))))
          c.place_one.ensures.whenever);
      got = λ none p content all. elim (c.names.invariant.got was p content all) as (λ _. waiting p content ⊎ due p content) [
        | inl waits ↦ elim (made_first folder c.in-Some.name.now own _ _ _ _ step.0 (ap contents_of step.1.0) p content waits) as
            (λ _. waiting p content ⊎ due p content) [
              | inl here ↦ inr (due_same p path content own _ _ (here.0 ∙ sym is) here.1
                  (if_no_error c.place_one.result _ (sym c.err-refused.ensures.value ∙ none) c.place_one.ensures.due))
              | inr more ↦ inl more
            ]
        | inr before ↦ inr (λ lasting. due_at_over _ p content _ _ _ _ lasting c.place_one.ensures.had c.place_one.ensures.whenever
            (before lasting))
      ];
      rest = λ p content made. c.names.invariant.rest p content
          (made_one folder c.in-Some.name.now own _ _ _ _ step.0 (ap contents_of step.1.0) p content (inr made));
    }

pub returns-in-None-refused-clause-whenever : goal.returns-in-None-refused-clause-whenever
returns-in-None-refused-clause-whenever g c =
    each_after _ _ _ _ _ _ c.names.invariant.gives (each_quiet _ _ _ _ _ c.sync_names.ensures.whenever)

pub returns-in-None-refused-clause-done : goal.returns-in-None-refused-clause-done
returns-in-None-refused-clause-done g c =
    let waiting = c.names.name-iterator in
    let empty : (waiting.a.rest.now ≡ []) ⊎ (contents_of waiting.b.rest.items ≡ []) = elim c.in-None.ensures.steps [
      | inl none ↦ inl (nil_from_length waiting.a.rest.now none.1.0)
      | inr none ↦ inr (ap contents_of (nil_from_length waiting.b.rest.items (omega (arith, none.1.0, waiting.b.rest.ok.0))))
    ] in
    on_ok_then c.sync_names.result _ _ c.sync_names.ensures.done (λ done path content all lasting.
    elim (c.names.invariant.got c.in-None-refused.is path content all) [
      | inl waits ↦ absurd (none_wait _ _ _ empty path content waits)
      | inr due ↦ there_at path content _ _ _ lasting c.sync_names.ensures.whenever done (due lasting)
    ])
