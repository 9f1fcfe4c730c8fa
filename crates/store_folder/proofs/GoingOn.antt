-- A repair that begins with what a crash left of another one.
use Rattle.std.proofs.Common.{◌≡◌, ◌⊎◌, ◌∙◌, inl, inr, sym, ℕ, List, Some, None}
use Rattle.folders.specs.Files.{Files, under}
use Rattle.folders.specs.Kept.{IsKept}
use Rattle.store_folder.specs.GoingOn.{GoesOn}
use Rattle.store_folder.specs.Kept.{IsOneOf}

module _ (one two : List ℕ → List ℕ → Type 0) (first mid shown old new : Files) (path : List ℕ)
    (same_shown : under shown path ≡ under mid path) (same : under old path ≡ under mid path) where
  -- what one run leaves, and then another one
  pub both_kept : IsKept one first first mid path → IsKept two shown old new path
      → IsKept (λ p bytes. one p bytes ⊎ two p bytes) first first new path
  both_kept (inl had) (inl has) = inl (has ∙ same ∙ had)
  both_kept (inr got) (inl has) = inr (got.0, (got.1.0, inl got.1.1, has ∙ same ∙ got.1.2))
  both_kept (inl had) (inr gets) = inr (sym had ∙ sym same_shown ∙ gets.0, (gets.1.0, inr gets.1.1, gets.1.2))
  both_kept (inr got) (inr gets) =
      absurd (let both : None ≡ Some got.1.0 = sym gets.0 ∙ same_shown ∙ got.1.2 in cc)

-- what is kept of files that are at rest
at_rest : (one : List ℕ → List ℕ → Type 0) (first left mid : Files) (path : List ℕ) → under left path ≡ under first path
    → IsKept one first left mid path → IsKept one first first mid path
at_rest one first left mid path same (inl had) = inl (had ∙ same)
at_rest one first left mid path same (inr got) = inr got

pub both_go_on : GoesOn
both_go_on site stripe first second w later old calls run start new rerun are path ours lasting =
    let ours_too = are.ours path ∙ ours in
    let rest = are.at_rest path ours lasting in
    let begins = are.starts path ours_too lasting in
    let one = IsOneOf site stripe first run in
    let two = IsOneOf site stripe second rerun in
    let stopped = at_rest one (w.seen old) (w.left old) (w.left calls) path rest.1 (are.stopped path ours lasting).1 in
    let again = are.again path ours_too lasting in (
      both_kept one two (w.seen old) (w.left calls) (later.seen start) (later.seen start) (later.seen new) path begins.0 begins.0 stopped
          again.0,
      both_kept one two (w.seen old) (w.left calls) (later.seen start) (later.left start) (later.left new) path begins.0 begins.1 stopped
          again.1,
    )
