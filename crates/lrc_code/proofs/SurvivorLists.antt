-- Survivors as the fragments that are handed in.
use Rattle.std.proofs.Common.{◌≡◌, ℕ, suc, zero, ◌+◌, ◌<◌, List, [], ◌∷◌, length, get_or, map, Bool, true, false, refl, ap, ap₂, sym, ◌∙◌}
use Rattle.std.proofs.Common.{arith, take, cond, All}
use Rattle.std.specs.Prelude.{◌||◌, ◌&&◌, not, ◌==◌}
use Rattle.std.specs.List.{list_any, list_all}
use Rattle.std.proofs.lemmas.List.Folds.{list_any_more}
use Rattle.lrc_code.specs.Sets.{is_in}
use Rattle.lrc_code.specs.declared.fragments.Fragment.{Fragment}
use Rattle.lrc_code.specs.declared.places.Place.{Place}
use Rattle.lrc_code.specs.Places.{same_place}
use Rattle.lrc_code.specs.Requests.{is_among, has_other_length, bytes_of}
use Rattle.lrc_code.specs.Code.{AreBytes}
use Rattle.lrc_code.proofs.PlaceSums.{same_place-comm}
use Rattle.lrc_code.specs.Survivors.{survivor_of, survivors_of}

pub list_any-map : {X Y : Type 0} (p : X → Bool) (h : Y → X) (ys : List Y) → list_any p (map h ys) ≡ list_any (λ y. p (h y)) ys
list_any-map p h [] = refl
list_any-map p h (y ∷ ys) = ap (λ b. p (h y) || b) (list_any-map p h ys)

pub list_all-map : {X Y : Type 0} (p : X → Bool) (h : Y → X) (ys : List Y) → list_all p (map h ys) ≡ list_all (λ y. p (h y)) ys
list_all-map p h [] = refl
list_all-map p h (y ∷ ys) = ap (λ b. p (h y) && b) (list_all-map p h ys)

pub all_survivors : (p : Place → Bool) (xs : List Fragment) → list_all (λ f. p f.place) xs ≡ list_all (λ s. p s.place) (survivors_of xs)
all_survivors p xs = sym (list_all-map (λ s. p s.place) survivor_of xs)

pub among_survivors : (p : Place) (xs : List Fragment) → list_any (λ f. same_place p f.place) xs ≡ is_among p (survivors_of xs)
among_survivors p xs = sym (list_any-map (λ s. same_place p s.place) survivor_of xs)

pub other_lengths : (n : ℕ) (xs : List Fragment) → list_any (λ f. not (length f.bytes.items == n)) xs ≡ has_other_length n (survivors_of xs)
other_lengths n xs = sym (list_any-map (λ s. not (length s.bytes == n)) survivor_of xs)

-- ---- the survivors' places

pub among_more : (p : Place) (xs : List Fragment) (i : ℕ) (d : Fragment) → i < length xs
    → is_among p (survivors_of (take (i + 1) xs)) ≡ (is_among p (survivors_of (take i xs)) || same_place p (get_or xs i d).place)
among_more p xs i d h =
    sym (among_survivors p (take (i + 1) xs)) ∙ list_any_more (λ f. same_place p f.place) xs i d h
    ∙ ap (λ b. b || same_place p (get_or xs i d).place) (among_survivors p (take i xs))

or_symmetric : (a b : Bool) → (a || b) ≡ (b || a)
or_symmetric true true = refl
or_symmetric true false = refl
or_symmetric false true = refl
or_symmetric false false = refl

-- the set with a fragment's place more
pub places_more : (before after : List Bool) (xs : List Fragment) (i : ℕ) (f : Fragment) → i < length xs → f ≡ get_or xs i f
    → ((p : Place) → is_in after p ≡ (same_place f.place p || is_in before p))
    → ((p : Place) → is_in before p ≡ is_among p (survivors_of (take i xs))) → (p : Place)
    → is_in after p ≡ is_among p (survivors_of (take (i + 1) xs))
places_more before after xs i f h e more so_far p =
    more p ∙ or_symmetric (same_place f.place p) (is_in before p) ∙ ap₂ (λ a b. a || b) (so_far p) (same_place-comm f.place p)
    ∙ ap (λ (x : Fragment). is_among p (survivors_of (take i xs)) || same_place p x.place) e ∙ sym (among_more p xs i f h)

or_parts : (a b : Bool) → (a || b) ≡ false → (a ≡ false) × (b ≡ false)
or_parts true b h = absurd (cc)
or_parts false b h = (refl, h)

-- ---- the survivor at a place

pub bytes_at_found : (p : Place) (xs : List Fragment) (i : ℕ) (f : Fragment) → i < length xs → f ≡ get_or xs i f
    → is_among p (survivors_of (take i xs)) ≡ false → same_place p f.place ≡ true
    → (is_among p (survivors_of xs) ≡ true) × (f.bytes.items ≡ bytes_of (survivors_of xs) p)
bytes_at_found p [] i f h e a t = absurd (omega arith)
bytes_at_found p (x ∷ xs) zero f h e a t =
    let same : same_place p x.place ≡ true = ap (λ (y : Fragment). same_place p y.place) (sym e) ∙ t in (
      ap (λ b. b || is_among p (survivors_of xs)) same,
      ap (λ (y : Fragment). y.bytes.items) e
          ∙ sym (ap (λ b. cond b x.bytes.items (bytes_of (survivors_of xs) p)) same),
    )
bytes_at_found p (x ∷ xs) (suc i) f h e a t =
    let parts = or_parts (same_place p x.place) (is_among p (survivors_of (take i xs))) a in
    let later = bytes_at_found p xs i f (omega arith) e parts.1 t in (
      ap (λ b. b || is_among p (survivors_of xs)) parts.0 ∙ later.0,
      later.1
          ∙ sym (ap (λ b. cond b x.bytes.items (bytes_of (survivors_of xs) p)) parts.0),
    )

-- fragments of bytes are survivors of bytes
pub survivors_bytes : (xs : List Fragment) → ((k : ℕ) (d : Fragment) → k < length xs → AreBytes (get_or xs k d).bytes.items)
    → All (λ s. AreBytes s.bytes) (survivors_of xs)
survivors_bytes [] h k d lt = absurd (omega arith)
survivors_bytes (x ∷ xs) h zero d lt = h 0 x (omega arith)
survivors_bytes (x ∷ xs) h (suc k) d lt = survivors_bytes xs (λ j e l. h (suc j) e (omega arith)) k d (omega arith)
