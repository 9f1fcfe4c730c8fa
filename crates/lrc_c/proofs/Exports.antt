-- What the arguments of the exports determine.
use Rattle.std.proofs.Common.{◌≡◌, ℕ, Bool, List, Option, Some, None, sym, ap, ◌∙◌, subst}
use Rattle.std.proofs.Math.Path.{fun_ext}
use Rattle.lrc_code.specs.declared.places.Place.{Place}
use Rattle.lrc_code.specs.declared.codes.Code.{Code as CodeName}
use Rattle.lrc_code.specs.declared.codes.Code.TheVariants.{Narrow}
use Rattle.lrc_code.specs.Sets.{is_in}
use Rattle.lrc_code.proofs.PlaceSums.{index_of-eq}
use Rattle.lrc_plan.specs.Stripes.{AreWhole}
use Rattle.lrc_c.specs.Arguments.{code_numbered, is_set, IsLost}

code_or : Option CodeName → CodeName → CodeName
code_or None d = d
code_or (Some a) d = a

pub same_code : (o : Option CodeName) (a b : CodeName) → o ≡ Some a → o ≡ Some b → b ≡ a
unfolding code_or
same_code o a b e f = ap (λ x. code_or x Narrow) (sym f ∙ e)

pub same_lost : {n m t : ℕ} {a b : CodeName} {p q : Place} → IsLost n m t a p → IsLost n m t b q → (b ≡ a) × (q ≡ p)
same_lost {n = n} {a = a} {b = b} {p = p} {q = q} x y = (
  same_code (code_numbered n) a b x.code_is y.code_is,
  index_of-eq q p
      (y.place_is ∙ sym x.place_is),
)

pub set_is : (mask : ℕ) (set : List Bool) → ((p : Place) → is_in set p ≡ is_set mask p) → is_in set ≡ is_set mask
set_is mask set h = fun_ext h

pub whole_is : (mask : ℕ) (set : List Bool) (code : CodeName) (at : List (List ℕ)) (len : ℕ) → ((p : Place) → is_in set p ≡ is_set mask p)
    → AreWhole code (is_in set) at len → AreWhole code (is_set mask) at len
whole_is mask set code at len h w = subst (λ s. AreWhole code s at len) (set_is mask set h) w

-- what is said of one code, set and place, of the same ones under other names
pub said_of : (P : CodeName → (Place → Bool) → Place → Type 0) (mask : ℕ) (set : List Bool) (a b : CodeName) (p q : Place)
    → ((x : Place) → is_in set x ≡ is_set mask x) → b ≡ a → q ≡ p → P a (is_in set) p → P b (is_set mask) q
said_of P mask set a b p q h e f x =
    subst (λ c. P c (is_set mask) q) (sym e) (subst (λ r. P a (is_set mask) r) (sym f) (subst (λ s. P a s p) (set_is mask set h) x))

-- the same of two sets
pub said_of_sets : (P : CodeName → (Place → Bool) → (Place → Bool) → Type 0) (m n : ℕ) (set other : List Bool) (a b : CodeName)
    → ((x : Place) → is_in set x ≡ is_set m x) → ((x : Place) → is_in other x ≡ is_set n x) → b ≡ a → P a (is_in set) (is_in other)
    → P b (is_set m) (is_set n)
said_of_sets P m n set other a b g h e x =
    subst (λ c. P c (is_set m) (is_set n)) (sym e)
    (subst (λ s. P a s (is_set n)) (set_is m set g) (subst (P a (is_in set)) (set_is n other h) x))
