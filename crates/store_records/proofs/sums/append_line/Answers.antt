use Rattle.std.proofs.Common.{◌≡◌, ◌∙◌, ap, refl, ℕ, List, [], ◌∷◌, ◌++◌, append_assoc, codes, take}
use Rattle.std.proofs.lemmas.List.{take_all}
use Rattle.std.specs.Prelude.{if◌then◌else◌}
use Rattle.std.specs.List.{list_any}
use Rattle.hex.specs.Hex.{encode_lower}
use Rattle.store_records.specs.SumLines.{escaped, is_escaped}
use Rattle.store_records.proofs.sums.append_line.Goals.{then-has_escaped+in_ok-push, else-has_escaped}
use Rattle.std.proofs.lemmas.Result.{IfOk-from_err}
use Rattle.store_records.proofs.sums.append_line.Goals as goal

regroup : (old first digits spaces name end : List ℕ) → ((((old ++ first) ++ digits) ++ spaces) ++ name) ++ end
    ≡ old ++ ((((first ++ digits) ++ spaces) ++ name) ++ end)
regroup old first digits spaces name end = simp append_assoc

no_more : (xs : List ℕ) → xs ≡ xs ++ []
no_more [] = refl
no_more (x ∷ xs) = ap (λ t. x ∷ t) (no_more xs)

pub returns : goal.returns
returns c =
    let name = c.args.name.now in
    let first = (if list_any is_escaped name then codes "\\" else []) in
    let begun : c.if-has_escaped.text.items ≡ c.args.text.now.items ++ first
    = elim c.if-has_escaped.branch [
      | then-has_escaped+in_ok-push w ↦ rw (← w.if-has_escaped.ensures) (ap (λ t. t.items) w.text-is ∙ w.in_ok-push.ensures.items)
      | else-has_escaped w ↦ rw (← w.if-has_escaped.ensures) (ap (λ t. t.items) w.text-is ∙ no_more c.args.text.now.items)
    ] in
    let whole : take c.loop-byte.byte-index name ≡ name = take_all _ name c.loop-byte-test.false in
    let digest = encode_lower c.args.digest.now in
    let digits : c.extend_from_slice.new.self.items ≡ c.if-has_escaped.text.items ++ digest
    = c.in_ok-extend_from_slice.ensures.items
    ∙ ap (λ t. c.if-has_escaped.text.items ++ t) (c.as_bytes.ensures.value ∙ c.in_ok-digits_of.ensures) in
    let spaces : c.extend_from_slice-2.new.self.items ≡ c.extend_from_slice.new.self.items ++ codes "  "
    = c.in_ok-extend_from_slice-2.ensures.items ∙ ap (λ t. c.extend_from_slice.new.self.items ++ t) c.as_slice.ensures in
    let before : c.extend_from_slice-2.new.self.items ≡ ((c.args.text.now.items ++ first) ++ digest) ++ codes "  "
    = spaces ∙ ap (λ t. t ++ codes "  ") (digits ∙ ap (λ t. t ++ digest) begun) in
    let named : c.loop-byte.text.items ≡ (((c.args.text.now.items ++ first) ++ digest) ++ codes "  ") ++ escaped name
    = c.loop-byte.invariant ∙ ap (λ t. c.extend_from_slice-2.new.self.items ++ escaped t) whole ∙ ap (λ t. t ++ escaped name) before in
    c.in_ok-push-2.ensures.items ∙ ap (λ t. t ++ codes "\n") named
    ∙ regroup c.args.text.now.items first digest (codes "  ") (escaped name) (codes "\n")

pub returns-in_err-push : goal.returns-in_err-push
returns-in_err-push c = IfOk-from_err _ _ c.from_residual.ensures.0

pub returns-in_err-digits_of : goal.returns-in_err-digits_of
returns-in_err-digits_of c = IfOk-from_err _ _ c.from_residual-in_err-digits_of.ensures.0

pub returns-in_err-extend_from_slice : goal.returns-in_err-extend_from_slice
returns-in_err-extend_from_slice c = IfOk-from_err _ _ c.from_residual-in_err-extend_from_slice.ensures.0

pub returns-in_err-extend_from_slice-2 : goal.returns-in_err-extend_from_slice-2
returns-in_err-extend_from_slice-2 c = IfOk-from_err _ _ c.from_residual-in_err-extend_from_slice-2.ensures.0

pub returns-in_err-append_escaped : goal.returns-in_err-append_escaped
returns-in_err-append_escaped c = IfOk-from_err _ _ c.from_residual-in_err-append_escaped.ensures.0

pub returns-in_err-push-2 : goal.returns-in_err-push-2
returns-in_err-push-2 c = IfOk-from_err _ _ c.from_residual-in_err-push-2.ensures.0
