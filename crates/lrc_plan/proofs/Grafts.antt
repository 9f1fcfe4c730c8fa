-- Grafts where no leaf is of the place.
use Rattle.std.proofs.Common.{◌≡◌, ℕ, ◌+◌, Bool, true, false, ◌||◌, cond, refl, ap, ap₂, arith}
use Rattle.lrc_code.specs.declared.places.Place.{Place}
use Rattle.lrc_code.specs.Places.{same_place}
use Rattle.lrc_plan.specs.Form.{Form, Leaf, Scale, Sum, has_leaf, place_total, grafted}

-- a form without a leaf of the place
pub place_total-none : (t : Form) (p : Place) → has_leaf t p ≡ false → place_total t p ≡ 0
place_total-none (Leaf q) p h = ap (λ b. cond b 1 0) h
place_total-none (Scale c t) p h = place_total-none t p h
place_total-none (Sum s t) p h = none (has_leaf s p) (has_leaf t p) h (place_total-none s p) (place_total-none t p)
  where
    none : {m n : ℕ} (a b : Bool) → (a || b) ≡ false → (a ≡ false → m ≡ 0) → (b ≡ false → n ≡ 0) → m + n ≡ 0
    none true b e f g = absurd (cc)
    none false b e f g = let x = f refl in let y = g e in omega (arith, x, y)

-- is its own graft
pub grafted-none : (t : Form) (p : Place) (scion : Form) → place_total t p ≡ 0 → t ≡ grafted t p scion
grafted-none (Leaf q) p scion h = at (same_place q p) h
  where
    at : (b : Bool) → ◌≡◌ {A = ℕ} (cond b 1 0) 0 → Leaf q ≡ cond b scion (Leaf q)
    at true e = absurd (cc)
    at false e = refl
grafted-none (Scale c t) p scion h = ap (Scale c) (grafted-none t p scion h)
grafted-none (Sum s t) p scion h = ap₂ Sum (grafted-none s p scion (omega arith)) (grafted-none t p scion (omega arith))
