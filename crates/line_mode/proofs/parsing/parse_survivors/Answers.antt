use Rattle.std.proofs.Common.{◌≡◌, ◌++◌, ◌∙◌, ◌∷◌, List, ℕ, [], Option, Some, None, ap, map, refl, sym}
use Rattle.std.specs.Option.{option_map}
use Rattle.std.proofs.lemmas.List.{map-append}
use Rattle.std.proofs.lemmas.Result.{IfOk-from_err}
use Rattle.lrc_code.specs.declared.fragments.Fragment.{Fragment}
use Rattle.lrc_code.specs.Requests.{Survivor}
use Rattle.lrc_code.specs.Survivors.{survivor_of, survivors_of}
use Rattle.lrc_code.specs.Text.{every}
use Rattle.lrc_code.specs.declared.codes.Code.{Code}
use Rattle.line_mode.specs.declared.words.LineWords.{LineWords}
use Rattle.line_mode.specs.Line.{survivor, words}
use Rattle.line_mode.proofs.Survivors.{every_ends, every_step, every_stops}
use Rattle.line_mode.proofs.parsing.parse_survivors.Goals as goal

-- before the first word
none_yet : (all : Option (List Survivor)) (fragments : List Fragment) → fragments ≡ []
    → all ≡ option_map (λ more. survivors_of fragments ++ more) all
none_yet None fragments none = refl
none_yet (Some more) fragments none = rw none refl

-- one more fragment
one_more : (code : Code) (words left : List (List ℕ)) (word : List ℕ) (fragments more : List Fragment) (fragment : Fragment)
    (all : Option (List Survivor)) → all ≡ option_map (λ rest. survivors_of fragments ++ rest) (every (map (survivor code) words))
    → words ≡ word ∷ left → Some (survivor_of fragment) ≡ survivor code word → more ≡ fragments ++ fragment ∷ []
    → all ≡ option_map (λ rest. survivors_of more ++ rest) (every (map (survivor code) left))
one_more code words left word fragments more fragment all so is gives added =
    let now : survivors_of more ≡ survivors_of fragments ++ survivor_of fragment ∷ [] =
    ap survivors_of added ∙ map-append survivor_of fragments (fragment ∷ []) in
    so ∙ (ap (λ ws. option_map (λ rest. survivors_of fragments ++ rest) (every (map (survivor code) ws))) is
    ∙ (every_step (survivor code) word left (survivor_of fragment) (survivors_of fragments) (sym gives)
    ∙ ap (λ ss. option_map (λ rest. ss ++ rest) (every (map (survivor code) left))) (sym now)))

pub returns-in_err-survivors : goal.returns-in_err-survivors
returns-in_err-survivors c = IfOk-from_err c.from_residual.result _ c.from_residual.ensures.0

pub loop-word-init : goal.loop-word-init
loop-word-init c =
    let seen = survivors_of c.in_ok-survivors.survivors.items in
    let gives : words c.into_iter-word-iterator.result.rest.now ≡ words c.args.words.rest.now =
    ap (λ (ws : LineWords). words ws.rest.now) c.into_iter-word-iterator.ensures.into_iter_gives in
    none_yet _ c.in_ok-survivors.survivors.items c.in_ok-survivors.ensures
    ∙ ap (λ ws. option_map (λ more. seen ++ more) (every (map (survivor c.args.code) ws))) (sym gives)

pub returns-in_err-fragment : goal.returns-in_err-fragment
returns-in_err-fragment c = IfOk-from_err c.from_residual-in_err-fragment.result _ c.from_residual-in_err-fragment.ensures.0

pub returns-in_default : goal.returns-in_default
returns-in_default c =
    let seen = survivors_of c.loop-word.survivors.items in
    sym (c.loop-word.invariant
    ∙ (ap (λ ws. option_map (λ rest. seen ++ rest) (every (map (survivor c.args.code) ws))) c.in-Some.ensures.steps
    ∙ every_stops (survivor c.args.code) c.in-Some.word.now (words c.next.new.self.rest.now) seen
    (sym c.in_ok-fragment.ensures ∙ ap (option_map survivor_of) c.in_default.is)))

pub loop-word-preserved : goal.loop-word-preserved
loop-word-preserved c =
    one_more c.args.code (words c.loop-word.word-iterator.rest.now) (words c.next.new.self.rest.now) c.in-Some.word.now
    c.loop-word.survivors.items c.push.new.self.items c.in-Some-2.fragment _ c.loop-word.invariant c.in-Some.ensures.steps
    (sym (ap (option_map survivor_of) c.in-Some-2.is) ∙ c.in_ok-fragment.ensures) c.in_ok-push.ensures.items

pub returns-in_err-push : goal.returns-in_err-push
returns-in_err-push c = IfOk-from_err c.from_residual-in_err-push.result _ c.from_residual-in_err-push.ensures.0

pub returns : goal.returns
returns c =
    let seen = survivors_of c.loop-word.survivors.items in
    sym (c.loop-word.invariant
    ∙ every_ends (survivor c.args.code) (words c.loop-word.word-iterator.rest.now) seen c.in-None.ensures.steps.0)
