use Rattle.std.proofs.Common.{◌≡◌, ◌∙◌, ◌+◌, ◌∷◌, [], ℕ, true, ap, sym, cond, arith, unwrap_or}
use Rattle.std.proofs.lemmas.List.{get_or_append_left}
use Rattle.lrc_code.specs.declared.places.Place.{Place}
use Rattle.lrc_code.specs.Places.{same_place}
use Rattle.lrc_plan.specs.Form.{Form, Leaf, grafted, place_total}
use Rattle.lrc_plan.specs.Tree.{form_of}
use Rattle.lrc_plan.proofs.PlaceTests.{same_place-eq_true}
use Rattle.lrc_plan.proofs.tree.Tree.+replace_leaves.Goals as goal

-- a leaf of the place becomes the scion
leaf_replaced : (q p : Place) (copy scion : Form) → same_place q p ≡ true → copy ≡ scion → copy ≡ grafted (Leaf q) p scion
leaf_replaced q p copy scion same e = e ∙ sym (ap (λ b. cond b scion (Leaf q)) same)

-- and takes one copy
one_taken : (q p : Place) (before after : ℕ) → same_place q p ≡ true → after + 1 ≡ before → after + place_total (Leaf q) p ≡ before
one_taken q p before after same e = ap (λ b. after + cond b 1 0) same ∙ e

pub returns-in-Some-clause-grafted : goal.returns-in-Some-clause-grafted
returns-in-Some-clause-grafted g t c =
    let some = c.in-Some.ensures.value c.in-Some.copy (omega (arith, c.in-Some.ensures.len)) in
    let copy = ap (λ o. form_of (unwrap_or o c.in-Some.copy)) some ∙ c.requires.alike _ _ (omega (arith, c.in-Some.ensures.len)) in
    rw c.in-Leaf.is (leaf_replaced _ _ _ _ (same_place-eq_true _ _ _ c.eq.ensures c.if-eq.true) copy)

pub returns-in-Some-clause-left : goal.returns-in-Some-clause-left
returns-in-Some-clause-left g t c =
    rw c.in-Leaf.is (one_taken _ _ _ _ (same_place-eq_true _ _ _ c.eq.ensures c.if-eq.true) c.in-Some.ensures.len)

pub returns-in-Some-clause-alike : goal.returns-in-Some-clause-alike
returns-in-Some-clause-alike g t c = λ k d lt.
    ap form_of (sym (get_or_append_left _ (c.in-Some.copy ∷ []) d k lt)) ∙ rw (sym c.in-Some.ensures.items)
    (c.requires.alike k d (omega (arith, c.in-Some.ensures.len, lt)))
