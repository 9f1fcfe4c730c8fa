-- What is determined without any two survivors.
use Rattle.std.proofs.Common.{◌≡◌, ◌∙◌, ◌≤◌, ℕ, List, [], Bool, true, false, refl, sym, ap, subst, inl, inr, arith, length, map, cond}
use Rattle.std.proofs.Common.{All, get_or}
use Rattle.std.specs.Prelude.{not, ◌&&◌, ◌||◌, ◌==◌}
use Rattle.std.proofs.Math.Path.{fun_ext}
use Rattle.std.proofs.lemmas.Bool.{cases_lt, eq-eqb}
use Rattle.std.proofs.lemmas.List.{get_or-map, length-map}
use Rattle.std.proofs.lemmas.List.Elements.{All-map}
use Rattle.lrc_code.specs.declared.places.Place.{Place}
use Rattle.lrc_code.specs.declared.places.Place.TheVariants.{X0}
use Rattle.lrc_code.specs.declared.codes.Code.{Code as CodeName}
use Rattle.lrc_code.specs.Code.{AreBytes, IsInCode, has_place}
use Rattle.lrc_code.specs.Codes.{tables_of}
use Rattle.lrc_code.specs.Places.{all_places, index_of, same_place}
use Rattle.lrc_code.proofs.PlaceSums.{index_of-lt, place_at}
use Rattle.lrc_plan.specs.Stripes.{at_place, AreWhole}
use Rattle.lrc_plan.proofs.Stripes.{in_list}
use Rattle.store_repair.specs.Damage.{all_but, IsDetermined, without}
use Rattle.store_repair.specs.Losses.{IsCovered, IsRightDespiteTwo}
use Rattle.store_repair.proofs.SuspectLemmas.{agree, in_without, stays}

-- ---- which of two is left out first plays no part

swapped : (h s a b : Bool) → (h && ((h && (s && not a)) && not b)) ≡ (h && ((h && (s && not b)) && not a))
swapped false s a b = refl
swapped true false a b = refl
swapped true true true true = refl
swapped true true true false = refl
swapped true true false true = refl
swapped true true false false = refl

without_swapped : (code : CodeName) (survives : Place → Bool) (e f : Place)
    → without code (without code survives e) f ≡ without code (without code survives f) e
without_swapped code survives e f =
    fun_ext (λ q. swapped (has_place (tables_of code) q) (survives q) (same_place e q) (same_place f q))

-- what is determined without each two of which the first comes first is covered
pub covered_by_order : (code : CodeName) (survives : Place → Bool) (p : Place)
    → ((e f : Place) → index_of e ≤ index_of f → IsDetermined code (without code (without code survives e) f) p)
    → IsCovered code survives p
covered_by_order code survives p so e f = elim (cases_lt (index_of f) (index_of e)) as
    (λ _. IsDetermined code (without code (without code survives e) f) p) [
      | inl less ↦ subst (λ set. IsDetermined code set p) (without_swapped code survives f e) (so f e (omega (arith, less)))
      | inr le ↦ so e f le
    ]

-- a place that isn't in a set isn't in it without another one
pub still_out : (h s a : Bool) → s ≡ false → (h && (s && not a)) ≡ false
still_out true s a off = rw off refl
still_out false s a off = refl

-- ---- stripes that have the same bytes at all survivors but two

module _ (code : CodeName) (len : ℕ) (s : Place → List ℕ) (of_code : IsInCode (tables_of code) len s) where
  -- the bytes of a stripe at the places of the code, and none at others
  abbrev own : Place → List ℕ
  own q = cond (has_place (tables_of code) q) (s q) []

  own_is : (q : Place) → has_place (tables_of code) q ≡ true → own q ≡ s q
  own_is q has = rw has refl

  long : (q : Place) → has_place (tables_of code) q ≡ true → (length (s q) ≡ len) × AreBytes (s q)
  long q has = in_list (λ p. (length (s p) ≡ len) × AreBytes (s p)) (tables_of code).places of_code.is_stripe q has

  no_bytes : AreBytes []
  no_bytes k d lt = absurd (omega (arith, lt))

  small_own : (b : Bool) (xs : List ℕ) → (b ≡ true → AreBytes xs) → AreBytes (cond b xs [])
  small_own true xs are = are refl
  small_own false xs are = no_bytes

  abbrev listed : List (List ℕ)
  listed = map own all_places

  sixteen : length listed ≡ 16
  sixteen = length-map all_places own

  listed_at : (q : Place) → at_place listed q ≡ own q
  listed_at q = get_or-map own all_places (index_of q) X0 [] (index_of-lt q) ∙ ap own (place_at q)

  small : All AreBytes listed
  small = All-map AreBytes own all_places
      (λ k d lt. small_own (has_place (tables_of code) (get_or all_places k d)) (s (get_or all_places k d))
      (λ has. (long (get_or all_places k d) has).1))

  implied : (t h e : Bool) → (t ≡ true → h ≡ true) → (h ≡ true → e ≡ true) → (not t || (h && e)) ≡ true
  implied false h e first second = refl
  implied true h e first second = rw (first refl, second (first refl)) refl

  kept : (q : Place) → has_place (tables_of code) q ≡ true → s q ≡ at_place listed q
  kept q has = sym (listed_at q ∙ own_is q has)

  module _ (set : Place → Bool) (inside : (q : Place) → set q ≡ true → has_place (tables_of code) q ≡ true) where
    whole : AreWhole code set listed len
    whole q = implied (set q) (has_place (tables_of code) q) (length (at_place listed q) == len) (inside q)
        (λ has. eq-eqb (length (at_place listed q)) len (ap length (sym (kept q has)) ∙ (long q has).0))

    -- stripes that have the same bytes where these determine them
    pub same_there : (p : Place) → has_place (tables_of code) p ≡ true → IsDetermined code set p → (t : Place → List ℕ)
        → IsInCode (tables_of code) len t → ((q : Place) → set q ≡ true → s q ≡ t q) → s p ≡ t p
    same_there p has determined t also same =
        agree code set listed len whole small sixteen p has determined s t
        (record { in_code = of_code; kept = λ q h. kept q (inside q h) })
        (record { in_code = also; kept = λ q h. sym (same q h) ∙ kept q (inside q h) })

pub right_despite_two : (code : CodeName) (survives : Place → Bool) (p : Place) → IsCovered code survives p
    → IsRightDespiteTwo code survives p
right_despite_two code survives p covered has len s t of_code also e f same =
    same_there code len s of_code (without code (without code survives e) f)
    (λ q h. (in_without code (without code survives e) f q h).0) p has (covered e f) t also
    (λ q h. (let second = in_without code (without code survives e) f q h in
    let first = in_without code survives e q second.1 in
    same q (stays (all_but survives e) f q (stays survives e q first.1 first.2) second.2)))
