-- What the names of descriptions say.
use Rattle.std.specs.Prelude.{◌≡◌, ℕ, true, List, codes}
use Rattle.store_names.specs.Names.{is_stripe}
use Rattle.store_names.specs.Folders.{IsLastOf}
use Rattle.store_names.specs.Descriptions.{Describes, description_in}

-- the name of a description says by its last part the stripe that it was made of, and no other
pub record SaysItsStripe (stripe : List ℕ) : Type 0 where
  pub first : (folder last : List ℕ) → IsLastOf (description_in folder stripe (codes ".file")) last → Describes last stripe
  pub second : (folder last : List ℕ) → IsLastOf (description_in folder stripe (codes ".file.copy")) last → Describes last stripe
  pub only : (last other : List ℕ) → Describes last stripe → Describes last other → other ≡ stripe

abbrev pub DescriptionsSayTheirStripe : Type 0
DescriptionsSayTheirStripe = (stripe : List ℕ) → is_stripe stripe ≡ true → SaysItsStripe stripe
