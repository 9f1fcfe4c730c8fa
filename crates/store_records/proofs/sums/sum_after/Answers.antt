use Rattle.std.proofs.Common.{◌≡◌, ◌∙◌, sym, ap, refl, rules, ◌<◌, ℕ, Bool, true, false, List, Option, Some, None, take, drop, length, lit≤}
use Rattle.std.specs.Prelude.{if◌then◌else◌, nat_le, option_map, option_and_then}
use Rattle.std.specs.Result.{result_ok}
use Rattle.std.proofs.lemmas.Bool.Decides.{nat_tests}
use Rattle.std.proofs.lemmas.List.{take-take}
use Rattle.store_records.specs.ReadLines.{digest_of, is_separator, said_after, unescaped, without_dot}
use Rattle.store_records.proofs.sums.sum_after.Goals as goal

-- the name that a text is written as
abbrev name_in : Bool → List ℕ → Option (List ℕ)
name_in is_escaped text = if is_escaped then unescaped text else Some text

abbrev joined : Option (List ℕ) → Option (List ℕ) → Option (List ℕ × List ℕ)
joined digest name = option_and_then (λ d. option_map (λ n. (n, d)) name) digest

-- what a line says that has the length and the separator
said : (is_escaped : Bool) (line before after : List ℕ) (digest name : Option (List ℕ)) → 66 < length line → before ≡ take 66 line
    → after ≡ drop 66 line → is_separator (drop 64 before) ≡ true → digest ≡ digest_of (take 64 before)
    → name ≡ name_in is_escaped (without_dot after) → joined digest name ≡ said_after is_escaped line
said is_escaped line before after digest name long first last separates digits named =
    let longer : nat_le (length line) 66 ≡ false = search (rules, nat_tests) in
    let separated : is_separator (drop 64 (take 66 line)) ≡ true = ap (λ t. is_separator (drop 64 t)) (sym first) ∙ separates in
    let short : digest_of (take 64 before) ≡ digest_of (take 64 line)
    = ap digest_of (ap (take 64) first ∙ take-take 64 66 line (lit≤ tt)) in
    rw (longer, separated) (ap (λ d. joined d name) (digits ∙ short)
    ∙ ap (joined (digest_of (take 64 line))) (named ∙ ap (λ t. name_in is_escaped (without_dot t)) last))

pub returns-in_default : goal.returns-in_default
returns-in_default c =
    let none : None ≡ digest_of (take 64 c.split_at.result.0.now)
    = ap result_ok (sym c.in_default.is ∙ c.from_hex.ensures) ∙ ap digest_of c.split_at-2.ensures.front in
    said c.args.is_escaped c.args.line.now _ _ None _ c.if-line-le-BEFORE_NAME.false c.split_at.ensures.front c.split_at.ensures.back
    (ap is_separator (sym c.split_at-2.ensures.back) ∙ sym c.if-not-is_separator.ensures) none refl

pub returns-in-Some : goal.returns-in-Some
returns-in-Some c =
    let digest : Some c.in-Ok.digest ≡ digest_of (take 64 c.split_at.result.0.now)
    = ap result_ok (sym c.in-Ok.is ∙ c.from_hex.ensures) ∙ ap digest_of c.split_at-2.ensures.front in
    let separates = ap is_separator (sym c.split_at-2.ensures.back) ∙ sym c.if-not-is_separator.ensures in
    said c.args.is_escaped c.args.line.now _ _ (Some c.in-Ok.digest) (Some c.in-Some.name.items) c.if-line-le-BEFORE_NAME.false
    c.split_at.ensures.front c.split_at.ensures.back separates digest
    (sym (ap (option_map (λ n. n.items)) c.in-Some.is) ∙ c.in_ok-name.ensures ∙ ap (name_in c.args.is_escaped) c.without_dot.ensures)

pub returns-in-None : goal.returns-in-None
returns-in-None c =
    let digest : Some c.in-Ok.digest ≡ digest_of (take 64 c.split_at.result.0.now)
    = ap result_ok (sym c.in-Ok.is ∙ c.from_hex.ensures) ∙ ap digest_of c.split_at-2.ensures.front in
    let separates = ap is_separator (sym c.split_at-2.ensures.back) ∙ sym c.if-not-is_separator.ensures in
    said c.args.is_escaped c.args.line.now _ _ (Some c.in-Ok.digest) None c.if-line-le-BEFORE_NAME.false
    c.split_at.ensures.front c.split_at.ensures.back separates digest
    (sym (ap (option_map (λ n. n.items)) c.in-None.is) ∙ c.in_ok-name.ensures ∙ ap (name_in c.args.is_escaped) c.without_dot.ensures)
