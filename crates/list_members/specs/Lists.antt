-- Facts about each member of a list.
use Rattle.std.specs.Prelude.{◌≡◌, ℕ, List}
use mathlib.Core.Option.{some}
use lib.ListN.{get_elem?}

module _ {A : Type 0} where
  -- of each member, with its index, this holds
  abbrev pub EachAt : (ℕ → A → Type 0) → List A → Type 0
  EachAt P xs = (k : ℕ) (x : A) → get_elem? xs k ≡ some x → P k x

  -- of each member this holds
  abbrev pub Each : (A → Type 0) → List A → Type 0
  Each P xs = EachAt (λ _ x. P x) xs
