-- What the file of a lock has: a line is told by its end.
use Rattle.std.proofs.Common.{◌≡◌, ◌∙◌, ◌↔◌, sym, ap, subst, Bool, true, false, List, ℕ, [], ◌∷◌, ◌++◌, IsTrue}
use Rattle.std.specs.List.{list_all}
use Rattle.std.proofs.lemmas.Bool.{and_parts, false≢true}
use Rattle.std.proofs.lemmas.List.{append_cancel_right}
use Rattle.std.proofs.lemmas.List.Folds.{list_all-append}
use Rattle.store_names.specs.RunFiles.{IsLockText, IsRun, is_zero}
use Rattle.store_names.specs.RunFiles.IsLockText.{said, lost}

module _ (text line : List ℕ) (is : text ≡ line ++ (10 ∷ [])) where
  no_zeros : list_all is_zero text ≡ true → ⊥
  no_zeros zeros = false≢true (and_parts _ _ (sym (list_all-append is_zero line (10 ∷ [])) ∙ ap (list_all is_zero) (sym is) ∙ zeros)).1

  run_of_line : IsLockText text → IsRun line
  run_of_line (said run is_run_line of_run) = subst IsRun (append_cancel_right run line (10 ∷ []) (sym is_run_line ∙ is)) of_run
  run_of_line (lost zeros) = absurd (no_zeros zeros)

  pub line_is_lock_text : (b : Bool) → (IsTrue b ↔ IsRun line) → IsTrue b ↔ IsLockText text
  line_is_lock_text b decides = (λ yes. said line is (decides.0 yes), λ held. decides.1 (run_of_line held))
