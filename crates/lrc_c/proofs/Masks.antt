-- Sets by the bits of a number.
use Rattle.std.proofs.Common.{◌≡◌, ◌<◌, ◌≤◌, ◌+◌, ◌*◌, ◌^◌, ◌%◌, w16, ℕ, Bool, true, false, List, sym, ap, ◌∙◌, arith, inl, inr}
use Rattle.std.specs.Prelude.{◌||◌, ◌==◌}
use Rattle.std.specs.Int.{bit_at}
use Rattle.std.specs.Int.RustNames.{bit_or}
use Rattle.std.proofs.lemmas.Nat.Bits.{bit_at_set_same, bit_at_set_other}
use Rattle.std.proofs.lemmas.Bool.{cases_lt}
use Rattle.std.proofs.lemmas.Bool.Decides.{eqb_tells}
use Rattle.lrc_code.specs.declared.places.Place.{Place}
use Rattle.lrc_code.specs.Places.{index_of, same_place}
use Rattle.lrc_code.specs.Sets.{is_in}
use Rattle.lrc_code.proofs.PlaceSums.{index_of-eq}
use Rattle.lrc_c.specs.Arguments.{is_set}

-- the places of the first indexes are in the set as their bits say, and no others
pub record IsSetBelow (mask i : ℕ) (set : List Bool) : Type 0 where
  pub below : (p : Place) → index_of p < i → is_in set p ≡ is_set mask p
  pub above : (p : Place) → i ≤ index_of p → is_in set p ≡ false

pub set_more : (mask i : ℕ) (set next : List Bool) (place : Place) → index_of place ≡ i → (bit_at mask i == 1) ≡ true
    → ((p : Place) → is_in next p ≡ (same_place place p || is_in set p)) → IsSetBelow mask i set → IsSetBelow mask (i + 1) next
set_more mask i set next place e bit is s = record {
  below = λ p lt. elim (eqb_tells (index_of place) (index_of p)) as (λ _. is_in next p ≡ is_set mask p) [
    | inl w ↦ is p ∙ ap (λ b. b || is_in set p) w.0 ∙ sym (ap (λ k. bit_at mask k == 1) (sym w.1 ∙ e) ∙ bit)
    | inr w ↦ is p ∙ ap (λ b. b || is_in set p) w.0 ∙ s.below p (omega (arith, lt, w.1, e))
  ];
  above = λ p le. elim (eqb_tells (index_of place) (index_of p)) as (λ _. is_in next p ≡ false) [
    | inl w ↦ absurd (omega (arith, le, w.1, e))
    | inr w ↦ is p ∙ ap (λ b. b || is_in set p) w.0 ∙ s.above p (omega (arith, le))
  ];
}

pub set_same : (mask i : ℕ) (set : List Bool) → (bit_at mask i == 1) ≡ false → IsSetBelow mask i set → IsSetBelow mask (i + 1) set
set_same mask i set bit s = record {
  below = λ p lt. elim (cases_lt (index_of p) i) as (λ _. is_in set p ≡ is_set mask p) [
    | inl less ↦ s.below p less
    | inr more ↦ (let e : index_of p ≡ i = omega (arith, lt, more) in s.above p more ∙ sym (ap (λ k. bit_at mask k == 1) e ∙ bit))
  ];
  above = λ p le. s.above p (omega (arith, le));
}

-- the bits of the first indexes are set as their places are in the set, and no others
pub record AreBitsBelow (set : List Bool) (i mask : ℕ) : Type 0 where
  pub below : (p : Place) → index_of p < i → is_set mask p ≡ is_in set p
  pub above : (p : Place) → i ≤ index_of p → is_set mask p ≡ false

pub bit_more : (set : List Bool) (i mask : ℕ) (place : Place) → i < 16 → index_of place ≡ i → is_in set place ≡ true
    → AreBitsBelow set i mask → AreBitsBelow set (i + 1) (bit_or mask (1 * 2 ^ i % 65536))
bit_more set i mask place within e there s = record {
  below = λ p lt. elim (cases_lt (index_of p) i) as (λ _. is_set (bit_or mask (1 * 2 ^ i % 65536)) p ≡ is_in set p) [
    | inl less ↦
        ap (λ b. b == 1) (bit_at_set_other w16 mask i within (index_of p) (λ h. absurd (omega (arith, less, h)))) ∙ s.below p less
    | inr more ↦
        (let at : index_of p ≡ i = omega (arith, lt, more) in
        let same : p ≡ place = index_of-eq p place (at ∙ sym e) in
        ap (λ k. bit_at (bit_or mask (1 * 2 ^ i % 65536)) k == 1) at ∙ ap (λ b. b == 1) (bit_at_set_same w16 mask i within)
        ∙ sym (ap (is_in set) same ∙ there))
  ];
  above = λ p le.
      ap (λ b. b == 1) (bit_at_set_other w16 mask i within (index_of p) (λ h. absurd (omega (arith, le, h))))
      ∙ s.above p (omega (arith, le));
}

pub bit_same : (set : List Bool) (i mask : ℕ) (place : Place) → index_of place ≡ i → is_in set place ≡ false
    → AreBitsBelow set i mask → AreBitsBelow set (i + 1) mask
bit_same set i mask place e there s = record {
  below = λ p lt. elim (cases_lt (index_of p) i) as (λ _. is_set mask p ≡ is_in set p) [
    | inl less ↦ s.below p less
    | inr more ↦
        (let at : index_of p ≡ i = omega (arith, lt, more) in
        let same : p ≡ place = index_of-eq p place (at ∙ sym e) in
        s.above p more ∙ sym (ap (is_in set) same ∙ there))
  ];
  above = λ p le. s.above p (omega (arith, le));
}
