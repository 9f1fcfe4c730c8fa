-- Sums in which one name was given a digest, or none.
use Rattle.std.proofs.Common.{◌≡◌, ◌∙◌, sym, subst, ap, inl, inr, ℕ, true, false, cond, List, Option, Vec, Global}
use Rattle.std.specs.BTreeMap.{BTreeMap, UpdatesBy, get_by, is_at}
use Rattle.std.specs.Cmp.Lexicographic.{slice_cmp}
use Rattle.std.specs.Map.{KeepsOthers}
use Rattle.std.specs.Ordering.{eq_by_cmp, is_eq, nat_cmp}
use Rattle.std.specs.Str.{bytes_eq}
use Rattle.std.specs.declared.cmp.Ordering.{Ordering}
use Rattle.std.proofs.lemmas.Bool.{cases_Bool}
use Rattle.std.proofs.lemmas.Map.Text.{is_eq-slice_cmp}
use Rattle.std.proofs.lemmas.Slice.Eq.{bytes_eq-Decides}

abbrev pub in_order : Vec ℕ Global → Vec ℕ Global → Ordering
in_order x y = slice_cmp nat_cmp x.items y.items

same : (a b : List ℕ) → is_eq (slice_cmp nat_cmp a b) ≡ true → a ≡ b
same a b is = (bytes_eq-Decides a b).0 (sym (is_eq-slice_cmp a b) ∙ is)

apart : (a b c : List ℕ) → bytes_eq a b ≡ false → is_eq (slice_cmp nat_cmp a c) ≡ true → is_eq (slice_cmp nat_cmp b c) ≡ false
apart a b c differ is = is_eq-slice_cmp b c ∙ elim (cases_Bool (bytes_eq b c)) as (λ _. bytes_eq b c ≡ false) [
  | inl same_too ↦ absurd (
      let equal = (bytes_eq-Decides a b).1 (same a c is ∙ sym ((bytes_eq-Decides b c).0 same_too)) in
      cc)
  | inr other ↦ other
]

module _ {X : Type 0} (name other : List ℕ) (m n : BTreeMap (Vec ℕ Global) X) (w : Option X) where
  others : bytes_eq name other ≡ false
      → KeepsOthers (eq_by_cmp in_order) (is_at (λ k. slice_cmp nat_cmp name k.items)) m.entries n.entries
      → get_by (λ k. slice_cmp nat_cmp other k.items) n ≡ get_by (λ k. slice_cmp nat_cmp other k.items) m
  unfolding KeepsOthers
  others differ keeps = keeps (is_at (λ k. slice_cmp nat_cmp other k.items))
      (λ x y is. ap (λ l. is_eq (slice_cmp nat_cmp l y.items)) (same other x.items is))
      (λ k is. apart name other k.items differ is)

  pub changed : UpdatesBy in_order (λ k. slice_cmp nat_cmp name k.items) m n w
      → get_by (λ k. slice_cmp nat_cmp other k.items) n
      ≡ cond (bytes_eq name other) w (get_by (λ k. slice_cmp nat_cmp other k.items) m)
  changed updates = elim (cases_Bool (bytes_eq name other)) as (λ _. get_by (λ k. slice_cmp nat_cmp other k.items) n
      ≡ cond (bytes_eq name other) w (get_by (λ k. slice_cmp nat_cmp other k.items) m)) [
        | inl is ↦ rw is (subst (λ l. get_by (λ k. slice_cmp nat_cmp l k.items) n ≡ w) ((bytes_eq-Decides name other).0 is) updates.1)
        | inr differ ↦ rw differ (others differ updates.3)
      ]
