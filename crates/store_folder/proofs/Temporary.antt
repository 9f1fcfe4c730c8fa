-- A name as unfinished files have it, in a folder.
use Rattle.std.proofs.Common.{◌≡◌, ◌∙◌, ap, ℕ, List, ◌∷◌, ◌++◌, Bool, true, false, not, ◌&&◌, refl}
use Rattle.store_names.specs.Temporary.{is_free}
use Rattle.store_names.proofs.Free.{free_in}
use Rattle.store_folder.specs.Temporary.{is_temporary}

and_false : (b : Bool) → (b && false) ≡ false
and_false true = refl
and_false false = refl

pub is_made : (folder name : List ℕ) → is_free name ≡ false → is_temporary (folder ++ 47 ∷ name) ≡ true
is_made folder name is = ap not (free_in folder name ∙ ap (λ b. is_free folder && b) is ∙ and_false (is_free folder))
