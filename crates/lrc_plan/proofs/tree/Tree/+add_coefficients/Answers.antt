use Rattle.std.proofs.Common.{◌≡◌, ◌<◌, ◌∙◌, ap, sym, ℕ, List, length, map, get_or, slice_set, arith}
use Rattle.std.proofs.lemmas.Grind.{get_or_default_zero}
use Rattle.lrc_code.specs.declared.places.Place.{Place}
use Rattle.std.specs.Int.Bits.{bit_xor}
use Rattle.lrc_field.specs.Field.{times}
use Rattle.lrc_code.specs.Places.{index_of, all_places}
use Rattle.lrc_field.specs.Sums.{combination}
use Rattle.std.specs.Int.Bits.{xor_assoc}
use Rattle.lrc_field.proofs.FieldLaws.{times-xor, times-assoc}
use Rattle.lrc_code.proofs.PlaceSums.{combination-set}
use Rattle.lrc_plan.proofs.tree.Tree.+add_coefficients.Goals as goal

-- one coefficient grows by the factor
added_at : (out : List ℕ) (q : Place) (i x v d : ℕ) (b : Place → ℕ) → length out ≡ 16 → i ≡ index_of q → i < 16
    → v ≡ bit_xor (get_or out i x) d → combination (slice_set out i v) (map b all_places) ≡ bit_xor
    (combination out (map b all_places)) (times d (b q))
added_at out q i x v d b len at small sum =
    let r = get_or_default_zero out i x (omega arith) in
    let e = combination-set out q d b len in
    rw (sum, r, at) e

-- a scalar goes into the factor
scaled : (o f s m x : ℕ) → x ≡ times f s → bit_xor o (times x m) ≡ bit_xor o (times f (times s m))
scaled o f s m x e = ap (λ y. bit_xor o y) (ap (λ y. times y m) e ∙ times-assoc f s m)

-- the two branches, one after the other
summed : (o f m n x : ℕ) → x ≡ bit_xor o (times f m) → bit_xor x (times f n) ≡ bit_xor o (times f (bit_xor m n))
summed o f m n x e =
    ap (λ y. bit_xor y (times f n)) e ∙ xor_assoc o (times f m) (times f n)
    ∙ ap (λ y. bit_xor o y) (sym (times-xor f m n))

pub returns-in-Leaf : goal.returns-in-Leaf
returns-in-Leaf g t c = λ b. rw c.in-Leaf.is
    (added_at _ _ _ _ _ _ b c.told-sums c.index-i.ensures.value c.index-i.ensures.bound c.add.ensures)

pub returns-in-Scale : goal.returns-in-Scale
returns-in-Scale g t c = λ b. rw c.in-Scale.is
    (c.add_coefficients.ensures b ∙ rw c.deref.ensures (scaled _ _ _ _ _ c.mul.ensures.value))

pub returns-in-Sum : goal.returns-in-Sum
returns-in-Sum g t c = λ b. rw c.in-Sum.is
    (c.add_coefficients-in-Sum-2.ensures b ∙ rw c.deref-in-Sum-2.ensures
    (summed _ _ _ _ _ (rw c.deref-in-Sum.ensures at (c.add_coefficients-in-Sum.ensures b))))
