-- Bytes of fragments, where they are shown.
use Rattle.std.specs.Prelude.{◌≡◌, ℕ, List, [], length, map, take, drop, All, Option, Some, None}
use Rattle.lrc_code.specs.Code.{AreBytes}

-- bytes that were read from a position on, where the fragment is shown
abbrev pub IsReadAt : Option (List ℕ) → ℕ → List ℕ → Type 0
IsReadAt None from got = Unit
IsReadAt (Some bytes) from got = got ≡ take (length got) (drop from bytes)

-- what is shown of a fragment that may be lost: of a lost one, no bytes
abbrev pub shown_of : {F : Type 0} → (F → Option (List ℕ)) → Option F → Option (List ℕ)
shown_of shown None = Some []
shown_of shown (Some fragment) = shown fragment

-- the fragments, listed by the places' indexes, are shown with these bytes
pub record AreShown {F : Type 0} (shown : F → Option (List ℕ)) (fragments : List (Option F)) (at : List (List ℕ)) : Type 0 where
  pub are : map (shown_of shown) fragments ≡ map Some at
  pub bytes : All AreBytes at

-- nothing is written in a file that is shown
abbrev pub IsEmpty : Option (List ℕ) → Type 0
IsEmpty None = Unit
IsEmpty (Some bytes) = bytes ≡ []
