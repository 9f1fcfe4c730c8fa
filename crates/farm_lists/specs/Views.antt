-- The fields of a record, and why one that is to list a request is refused.
use Rattle.std.specs.Prelude.{◌≡◌, ℕ, List, [], ◌∷◌, Bool, Option, Some, None, Result, Err, if◌then◌else◌, is_some, option_map}
use Rattle.farm_lists.specs.declared.listing.Fields.{Fields}
use Rattle.farm_lists.specs.declared.listing.Record.{Record}
use Rattle.farm_lists.specs.declared.listing.ListFault.{ListFault}
use Rattle.farm_lists.specs.declared.listing.ListFault.TheVariants as fault
use Rattle.farm_lists.specs.Listed.{ListedRequest}
use Rattle.farm_lists.specs.Listing.{rebuild_at}

-- how many fields a record has, in a list with codes or without
abbrev pub field_count : Bool → ℕ
field_count coded = if coded then 6 else 5

-- a field that a record may lack
abbrev pub last_field : Option (List ℕ) → List (List ℕ)
last_field None = []
last_field (Some code) = code ∷ []

-- these are the fields of a record, in a list with codes or without
abbrev pub HasFields : Bool → List (List ℕ) → Fields → Type 0
HasFields coded fields f =
    (fields ≡ f.order.now ∷ f.stripe.now ∷ f.target.now ∷ f.length.now ∷ f.survivors.now ∷ last_field (option_map (λ c. c.now) f.code))
    × (is_some f.code ≡ coded)

-- why an order is refused
abbrev pub IsOrderFault : ListFault → ℕ → Result Record ListFault → Type 0
IsOrderFault fault.OutOfMemory n r = Unit {0}
IsOrderFault fault.InputTooLong n r = ⊥
IsOrderFault fault.BadHeader n r = ⊥
IsOrderFault fault.TooManyOrders n r = ⊥
IsOrderFault (fault.BadRecord m) n r = r ≡ Err (fault.BadRecord m)
IsOrderFault (fault.Refused m e) n r = r ≡ Err (fault.Refused m e)

-- why a record that is to list a request is refused
abbrev pub IsRebuildFault : ListFault → ℕ → Option ListedRequest → Type 0
IsRebuildFault fault.OutOfMemory n r = Unit {0}
IsRebuildFault fault.InputTooLong n r = ⊥
IsRebuildFault fault.BadHeader n r = ⊥
IsRebuildFault fault.TooManyOrders n r = ⊥
IsRebuildFault (fault.BadRecord m) n r = rebuild_at n r ≡ Err (fault.BadRecord m)
IsRebuildFault (fault.Refused m e) n r = rebuild_at n r ≡ Err (fault.Refused m e)
