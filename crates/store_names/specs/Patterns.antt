-- When the digits of a number can't be taken for those of a stripe's name beside it.
use Rattle.std.specs.Prelude.{ℕ, ◌-◌, Bool, true, not, ◌&&◌, nat_lt, List, length, slice_index, if◌then◌else◌}
use Rattle.std.specs.Char.{is_ascii_digit}
use Rattle.store_names.specs.declared.layouts.Naming.{Naming}
use Rattle.store_names.specs.declared.layouts.Naming.TheVariants.{ByPlace, ByShard}

-- where a place has a number, the byte beside the number, in the text between it and the stripe, is no digit
abbrev pub keeps_apart : Naming → Bool → List ℕ → Bool
keeps_apart ByPlace is_stripe_first between = true
keeps_apart ByShard is_stripe_first between = nat_lt 0 (length between)
    && not (is_ascii_digit (slice_index between (if is_stripe_first then length between - 1 else 0)))
