-- What a name says: it has one last part, and that says one stripe.
use Rattle.std.proofs.Common.{◌≡◌, ◌∙◌, sym, inl, inr, ℕ, List}
use Rattle.store_names.specs.Descriptions.{Describes}
use Rattle.store_names.specs.Folders.{IsLastOf}
use Rattle.store_names.specs.Folders.IsLastOf.{whole_name, last_after}
use Rattle.store_names.proofs.Described.{said_by_first, said_by_second}
use Rattle.store_names.proofs.Marks.{last_same, not_both}

pub one_last : (name a b : List ℕ) → IsLastOf name a → IsLastOf name b → a ≡ b
one_last name a b (whole_name _ is) (whole_name _ is') = is ∙ sym is'
one_last name a b (whole_name lack _) (last_after folder at) = absurd (not_both 47 name folder b at.is lack)
one_last name a b (last_after folder at) (whole_name lack _) = absurd (not_both 47 name folder a at.is lack)
one_last name a b (last_after folder at) (last_after other at') =
    (last_same 47 folder other a b at.last at'.last (sym at.is ∙ at'.is)).1

pub one_stripe : (last a b : List ℕ) → Describes last a → Describes last b → a ≡ b
one_stripe last a b one two = elim one.is [
  | inl first ↦ said_by_first last a first b two
  | inr second ↦ said_by_second last a second b two
]
