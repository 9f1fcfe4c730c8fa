-- Laws of the fields of a list's record: its places by their parts, its stripe's name as text.
use Rattle.std.proofs.Common.{◌≡◌, ◌<◌, ◌∙◌, Bor, ℕ, List, [], ◌∷◌, length, map, refl, sym, ap}
use Rattle.std.proofs.lemmas.Simd.{map-map}
use Rattle.std.specs.List.{slice_split}
use Rattle.lrc_code.specs.Text.{place_named}
use Rattle.lrc_code.specs.declared.codes.Code.{Code as CodeName}
use Rattle.lrc_code.specs.Codes.{tables_of}
use Rattle.lrc_code.specs.Text.{every, is_space}
use Rattle.std.specs.Prelude.{nat_le, ◌&&◌, Some, Err}
use Rattle.std.proofs.Common.{Bool, true, false, zero, suc, arith}
use Rattle.std.specs.List.{list_all}
use Rattle.std.specs.Str.{IsAscii, IsUtf8}
use Rattle.std.proofs.lemmas.Str.{IsUtf8-from_ascii}
use Rattle.lrc_code.specs.declared.places.Place.{Place}
use Rattle.lrc_code.specs.declared.requests.RequestFault.TheVariants as refused
use Rattle.lrc_code.specs.Requests.{is_name, is_name_byte}
use Rattle.lrc_code.specs.Text.{number}
use Rattle.farm_lists.specs.declared.listing.ListFault.TheVariants as fault
use Rattle.farm_lists.specs.Listing.{listed, places, rebuild_at}

pub and_left : (a b : Bool) → (a && b) ≡ true → a ≡ true
and_left true b h = refl
and_left false b h = h

pub and_right : (a b : Bool) → (a && b) ≡ true → b ≡ true
and_right true b h = h
and_right false b h = cc

low : (b : ℕ) → is_name_byte b ≡ true → b < 128
low b h = grind arith

pub places_by_parts : (code : CodeName) (text : List ℕ) (names items : List (Bor (List ℕ))) → (length text ≡ 0 → ⊥) → names ≡ items
    → map (λ w. w.now) items ≡ slice_split is_space text
    → every (map (λ n. place_named (tables_of code) n.now) names) ≡ places code text
places_by_parts code [] names items some same parts = absurd (some refl)
places_by_parts code (b ∷ bs) names items some same parts =
    ap (λ (ns : List (Bor (List ℕ))). every (map (λ n. place_named (tables_of code) n.now) ns)) same
    ∙ ap every (sym (map-map (place_named (tables_of code)) (λ (w : Bor (List ℕ)). w.now) items))
    ∙ ap (λ ns. every (map (place_named (tables_of code)) ns)) parts

-- a stripe's name is text
ascii_name : (bs : List ℕ) → list_all is_name_byte bs ≡ true → IsAscii bs
ascii_name [] h i = omega arith
ascii_name (b ∷ bs) h zero = low b (and_left (is_name_byte b) (list_all is_name_byte bs) h)
ascii_name (b ∷ bs) h (suc i) = ascii_name bs (and_right (is_name_byte b) (list_all is_name_byte bs) h) i

pub name_is_text : (bs : List ℕ) → is_name bs ≡ true → IsUtf8 bs
name_is_text bs h = IsUtf8-from_ascii bs (ascii_name bs (and_right (nat_le 1 (length bs) && nat_le (length bs) 32)
    (list_all is_name_byte bs) h))

-- a stripe's name that isn't text is refused, where the other fields have their forms
pub bad_stripe : (code : CodeName) (n : ℕ) (stripe target size survivors : List ℕ) (p : Place) (m : ℕ) (s : List Place)
    → Some p ≡ place_named (tables_of code) target → Some m ≡ number size → Some s ≡ places code survivors
    → (IsUtf8 stripe → ⊥) → rebuild_at n (listed code stripe target size survivors) ≡ Err (fault.Refused n refused.BadStripe)
bad_stripe code n stripe target size survivors p m s is_target is_size are bad =
    let form : listed code stripe target size survivors ≡ Some
    (record { code = code; stripe = stripe; target = p; len = m; survivors = s }) = rw (sym is_target, sym is_size, sym are) refl in
    ap (rebuild_at n) form ∙ by (is_name stripe) refl
  where
    by : (b : Bool) → is_name stripe ≡ b → rebuild_at n (Some (record { code = code; stripe = stripe; target = p; len = m; survivors = s }))
        ≡ Err (fault.Refused n refused.BadStripe)
    by true h = absurd (bad (name_is_text stripe h))
    by false h = rw h refl
