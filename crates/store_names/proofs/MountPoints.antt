-- What is at a mount point or below it.
use Rattle.std.proofs.Common.{Decides, ◌≡◌, ◌∙◌, sym, ap, inl, inr, ℕ, arith, Bool, true, false, ◌||◌, ◌==◌, List, [], ◌∷◌, ◌++◌}
use Rattle.std.proofs.Common.{append-nil, codes, length, length-append}
use Rattle.std.specs.Prelude.{slice_index}
use Rattle.std.specs.Str.{bytes_eq}
use Rattle.std.proofs.lemmas.Bool.{eq-eqb, eqb-true, or_cases, or_left, or_right}
use Rattle.std.proofs.lemmas.List.{append_cancel_left}
use Rattle.std.proofs.lemmas.Slice.Eq.{bytes_eq-Decides}
use Rattle.store_names.specs.Mounts.{IsAtOrBelow, may_follow}
use Rattle.store_names.specs.Mounts.IsAtOrBelow.{of_root, at_it, below_it}
use Rattle.store_names.proofs.RunTexts.{never}

no_rest : (path point rest : List ℕ) → path ≡ point ++ rest → length rest ≡ 0 → IsAtOrBelow path point
no_rest path point [] is none = at_it (is ∙ append-nil point)
no_rest path point (x ∷ rest) is none = absurd (omega (arith, none))

after_slash : (path point rest : List ℕ) → path ≡ point ++ rest → slice_index rest 0 ≡ 47 → IsAtOrBelow path point
after_slash path point [] is slash = absurd (omega (arith, slash))
after_slash path point (x ∷ rest) is slash = below_it rest (is ∙ ap (λ b. point ++ (b ∷ rest)) slash)

module _ (path point rest : List ℕ) (is : path ≡ point ++ rest) where
  follows : may_follow point rest ≡ true → IsAtOrBelow path point
  follows so = elim (or_cases (bytes_eq point (codes "/") || length rest == 0) (slice_index rest 0 == 47) so) [
    | inl first ↦ elim (or_cases (bytes_eq point (codes "/")) (length rest == 0) first) [
      | inl root ↦ of_root rest is ((bytes_eq-Decides point (codes "/")).0 root)
      | inr none ↦ no_rest path point rest is (eqb-true _ _ none)
    ]
    | inr slash ↦ after_slash path point rest is (eqb-true _ _ slash)
  ]

  followed : IsAtOrBelow path point → may_follow point rest ≡ true
  followed (of_root other _ root) = or_left _ _ (or_left _ _ ((bytes_eq-Decides point (codes "/")).1 root))
  followed (at_it same) =
      let none : length rest ≡ 0 = omega (arith, length-append point rest, ap length is, ap length same) in
      or_left (bytes_eq point (codes "/") || length rest == 0) _ (or_right (bytes_eq point (codes "/")) _ (eq-eqb (length rest) 0 none))
  followed (below_it other below) =
      or_right (bytes_eq point (codes "/") || length rest == 0) _
      (ap (λ (t : List ℕ). slice_index t 0 == 47) (append_cancel_left point rest (47 ∷ other) (sym is ∙ below)))

  pub at_or_below : (b : Bool) → b ≡ may_follow point rest → Decides b (IsAtOrBelow path point)
  at_or_below b is_b = (λ so. follows (sym is_b ∙ so), λ at. is_b ∙ followed at)

pub elsewhere : (path point : List ℕ) → ((rest : List ℕ) → path ≡ point ++ rest → ⊥) → Decides false (IsAtOrBelow path point)
elsewhere path point none = never from where
  from : IsAtOrBelow path point → ⊥
  from (of_root rest is _) = none rest is
  from (at_it same) = none [] (same ∙ sym (append-nil point))
  from (below_it rest is) = none (47 ∷ rest) is
