-- The names of fragments: the texts of a pattern round a stripe and the key of a place.
use Rattle.std.specs.Prelude.{◌≡◌, ℕ, Bool, true, not, ◌&&◌, ◌==◌, nat_lt, List, [], ◌∷◌, ◌++◌, ◌+◌, ◌/◌, ◌%◌, length, Option, Some}
use Rattle.std.specs.Prelude.{option_map, codes, if◌then◌else◌}
use Rattle.std.specs.List.{ends_with, list_all}
use Rattle.std.proofs.Math.Dec.{eqb}
use Rattle.std.specs.Str.{bytes_eq}
use Rattle.lrc_code.specs.declared.places.Place.{Place}
use Rattle.lrc_code.specs.declared.codes.Code.{Code as CodeName}
use Rattle.lrc_code.specs.Places.{name_of}
use Rattle.store_names.specs.declared.layouts.Layout.{Layout}
use Rattle.store_names.specs.declared.layouts.Naming.{Naming}
use Rattle.store_names.specs.declared.layouts.Naming.TheVariants.{ByPlace, ByShard}
use Rattle.store_names.specs.declared.patterns.Pattern.{Pattern}
use Rattle.store_names.specs.Layouts.{shard_of}
use Rattle.store_names.specs.Temporary.{is_free, parts}

-- a number below 100 in decimal digits
abbrev pub number : ℕ → List ℕ
number n = if nat_lt n 10 then (48 + n) ∷ [] else (48 + n / 10) ∷ (48 + n % 10) ∷ []

-- how a place is named: by its name, or by its shard's number; none where the code has no such place in the layout
abbrev pub key_of : Naming → Layout → CodeName → Place → Option (List ℕ)
key_of ByPlace layout code place = Some (name_of place)
key_of ByShard layout code place = option_map number (shard_of layout code place)

-- a pattern's name for a stripe and a key
abbrev pub name_with : Pattern → List ℕ → List ℕ → List ℕ
name_with p stripe key =
    p.before.now ++ (if p.is_stripe_first then stripe else key) ++ p.between.now ++ (if p.is_stripe_first then key else stripe)
    ++ p.after.now

-- what stands for the place in a pattern's text: `{place}`, or `{shard}` where it has a number
abbrev pub written_key : Naming → List ℕ
written_key ByPlace = codes "{place}"
written_key ByShard = codes "{shard}"

-- a pattern's text: its name of `{stripe}` for the place that is written so
abbrev pub text_of : Pattern → List ℕ
text_of p = name_with p (codes "{stripe}") (written_key p.naming)

-- what may be a stripe's name: not empty, and without '/'
abbrev pub is_stripe : List ℕ → Bool
is_stripe stripe = nat_lt 0 (length stripe) && list_all (λ byte. not (byte == 47)) stripe

-- a name that leads nowhere out of the folder that it is in: none of its parts is empty, so it doesn't begin with '/', and none is `..`
abbrev pub is_below : List ℕ → Bool
is_below name = list_all (λ part. not (bytes_eq part []) && not (bytes_eq part (codes ".."))) (parts name)

-- the second name of a fragment that was replaced and is kept
abbrev pub is_second : List ℕ → Bool
is_second name = ends_with eqb name (codes ".damaged")

-- a name that a fragment may have: it leads nowhere out of the store's folder, no unfinished file has it, and it is no second name
abbrev pub is_for_fragments : List ℕ → Bool
is_for_fragments name = is_below name && is_free name && not (is_second name)

-- a pattern makes this name of a stripe and a place
pub record IsMade (p : Pattern) (code : CodeName) (stripe : List ℕ) (place : Place) (name : List ℕ) : Type 0 where
  pub key : List ℕ
  pub is_key : key_of p.naming p.layout code place ≡ Some key
  pub is : name ≡ name_with p stripe key
  pub is_stripe : is_stripe stripe ≡ true

-- and a fragment may have the name: it is that of the stripe's fragment at the place
pub record IsNameOf (p : Pattern) (code : CodeName) (stripe : List ℕ) (place : Place) (name : List ℕ) : Type 0 where
  pub made : IsMade p code stripe place name
  pub may_be : is_for_fragments name ≡ true
