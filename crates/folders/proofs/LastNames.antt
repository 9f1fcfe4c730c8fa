-- A path's last name.
use Rattle.std.proofs.Common.{◌≡◌, ◌∙◌, inl, inr, refl, sym, ap, subst, ℕ, List, [], ◌∷◌, ◌++◌, All, take, drop, lit<}
use Rattle.std.proofs.lemmas.List.{take-append-drop}
use Rattle.std.specs.Str.{NoCharPasses}
use Rattle.std.specs.Str.Pattern.{RFindsChar, SplitsAroundMatch}
use Rattle.std.proofs.Math.Dec.{eqb}
use Rattle.std.proofs.lemmas.Str.Pattern.{NoCharPasses-char, drop_at_char}
use Rattle.std.proofs.lemmas.List.Elements.{All-from_get_or}
use Rattle.folders.specs.Files.{IsIn, slash, dot}

pub no_slash : (bytes : List ℕ) → NoCharPasses (λ d. eqb d 47) bytes → All (λ letter. letter ≡ slash → ⊥) bytes
no_slash bytes none = All-from_get_or (λ letter. letter ≡ slash → ⊥) bytes 0 (λ i below. NoCharPasses-char 47 bytes i none (lit< tt) below)

-- what is before the last '/' and after it
pub record IsCut (path front back : List ℕ) : Type 0 where
  pub is : path ≡ front ++ slash ∷ back
  pub last : All (λ letter. letter ≡ slash → ⊥) back

pub cut : (path front back : List ℕ) → SplitsAroundMatch (RFindsChar 47) path front back → IsCut path front back
cut path front back split =
    let i = split.0 in let j = split.1 in let found = split.2 in
    let from : drop i path ≡ slash ∷ drop j path = drop_at_char 47 path i j found.1 (lit< tt) in record {
      is = sym (take-append-drop i path) ∙ ap (λ (l : List ℕ). take i path ++ l) from
          ∙ ap (λ (l : List ℕ). l ++ slash ∷ drop j path) (sym split.3) ∙ ap (λ (l : List ℕ). front ++ slash ∷ l) (sym split.4);
      last = subst (λ (l : List ℕ). All (λ letter. letter ≡ slash → ⊥) l) (sym split.4) (no_slash (drop j path) found.0);
    }

-- a folder that isn't the root
pub in_folder : (path folder name : List ℕ) → IsCut path folder name → IsIn folder path
in_folder path folder name at = (name, at.last, inl at.is)

-- a name in the root
pub in_root : (path folder name : List ℕ) → folder ≡ [] → IsCut path folder name → IsIn (slash ∷ []) path
in_root path folder name none at = (name, at.last, inr (inl (refl, at.is ∙ ap (λ (l : List ℕ). l ++ slash ∷ name) none)))

-- a name in the folder that a program works in
pub in_this : (path : List ℕ) → NoCharPasses (λ d. eqb d 47) path → IsIn (dot ∷ []) path
in_this path none = (path, no_slash path none, inr (inr (refl, refl)))
