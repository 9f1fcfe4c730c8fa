use Rattle.std.proofs.Common.{◌≡◌, ◌∙◌, sym, ap, refl, subst, inl, inr, ℕ, ◌<◌, arith, true, List, [], ◌∷◌, ◌++◌, map, take, length}
use Rattle.std.proofs.Common.{length-take}
use Rattle.std.specs.List.{list_all}
use Rattle.std.specs.Str.{IsUtf8, chars}
use Rattle.std.proofs.lemmas.Bool.{and_from, cases_Bool, lt-ltb, cond-true, cond-false}
use Rattle.std.proofs.lemmas.List.{length-map}
use Rattle.std.proofs.Math.Utf8.{encodes}
use Rattle.std.proofs.lemmas.Str.{encodes-chars}
use Rattle.std.proofs.lemmas.Iterator.{YieldsList-from_chars, YieldsList-from_take}
use Rattle.std.proofs.lemmas.Iterator.Consumers.{YieldsList-end}
use Rattle.std.proofs.lemmas.Result.{IfOk-from_err}
use Rattle.store_names.specs.RunFiles.{IsRun, is_host, is_of_host, kept}
use Rattle.store_names.proofs.Letters.{as_they_are}
use Rattle.store_names.proofs.temporary.run_named.Goals as goal

pub returns-clause-is : goal.returns-clause-is
returns-clause-is c =
    let letters = YieldsList-from_take 64 (YieldsList-from_chars c.args.host.now c.utf8.host cc) cc in
    let all = YieldsList-end letters c.loop-letter.yielded _ c.loop-letter.yielded_by _ _ c.in-None.is c.next.ensures.steps in
    c.loop-letter.invariant ∙ ap (λ t. c.args.process.now ++ (64 ∷ map kept t)) (sym (as_they_are c.loop-letter.yielded) ∙ all.0)

-- ---- the letters that are kept are a host's name

kept_is : (letter : ℕ) → is_of_host (kept letter) ≡ true
kept_is letter = elim (cases_Bool (is_of_host letter)) [
  | inl is ↦ ap is_of_host (cond-true (is_of_host letter) letter 95 is) ∙ is
  | inr other ↦ ap is_of_host (cond-false (is_of_host letter) letter 95 other)
]

all_kept : (letters : List ℕ) → list_all is_of_host (map kept letters) ≡ true
all_kept [] = refl
all_kept (x ∷ letters) = and_from _ _ (kept_is x) (all_kept letters)

some_letter : (text : List ℕ) → IsUtf8 text → 0 < length text → 0 < length (chars text)
some_letter text is some = none (chars text) (encodes-chars text is) where
  none : (letters : List ℕ) → encodes letters ≡ text → 0 < length letters
  none [] same = omega (arith, ap length same)
  none (x ∷ letters) same = omega arith

host_is : (text : List ℕ) → IsUtf8 text → 0 < length text → is_host (map kept (take 64 (chars text))) ≡ true
host_is text is some =
    let letters = some_letter text is some in
    let long = length-map (take 64 (chars text)) kept in
    let cut = length-take 64 (chars text) in
    and_from _ _ (and_from _ _ (lt-ltb 0 (length (map kept (take 64 (chars text)))) (omega (arith, letters, long, cut)))
    (lt-ltb (length (map kept (take 64 (chars text)))) 65 (omega (arith, long, cut))))
    (all_kept (take 64 (chars text)))

pub returns-clause-taken : goal.returns-clause-taken
returns-clause-taken c = λ number some. subst IsRun (sym (returns-clause-is c)) (record {
  process = c.args.process.now;
  host = map kept (take 64 (chars c.args.host.now));
  is = refl;
  is_process = number;
  is_host = host_is c.args.host.now c.utf8.host some;
})

pub returns-in_err-run-clause-is : goal.returns-in_err-run-clause-is
returns-in_err-run-clause-is c = IfOk-from_err _ _ c.from_residual.ensures.0

pub returns-in_err-run-clause-taken : goal.returns-in_err-run-clause-taken
returns-in_err-run-clause-taken c = λ _ _. IfOk-from_err _ _ c.from_residual.ensures.0

pub returns-in_err-push-clause-is : goal.returns-in_err-push-clause-is
returns-in_err-push-clause-is c = IfOk-from_err _ _ c.from_residual-in_err-push.ensures.0

pub returns-in_err-push-clause-taken : goal.returns-in_err-push-clause-taken
returns-in_err-push-clause-taken c = λ _ _. IfOk-from_err _ _ c.from_residual-in_err-push.ensures.0

pub returns-in_err-push-2-clause-is : goal.returns-in_err-push-2-clause-is
returns-in_err-push-2-clause-is c = IfOk-from_err _ _ c.from_residual-in_err-push-2.ensures.0

pub returns-in_err-push-2-clause-taken : goal.returns-in_err-push-2-clause-taken
returns-in_err-push-2-clause-taken c = λ _ _. IfOk-from_err _ _ c.from_residual-in_err-push-2.ensures.0
