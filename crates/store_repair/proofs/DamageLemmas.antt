-- Sets of places without one of them.
use Rattle.std.proofs.Common.{◌≡◌, ℕ, List, Bool, true, false, refl, sym, subst, inl, inr, length}
use Rattle.std.specs.Prelude.{not, ◌&&◌, ◌||◌, ◌==◌}
use Rattle.lrc_code.specs.declared.places.Place.{Place}
use Rattle.lrc_code.specs.declared.codes.Code.{Code as CodeName}
use Rattle.lrc_code.specs.Places.{same_place}
use Rattle.lrc_code.specs.Code.{has_place}
use Rattle.lrc_code.specs.Codes.{tables_of}
use Rattle.lrc_code.specs.Places.{index_of}
use Rattle.lrc_code.proofs.PlaceSums.{index_of-eq, index_of-lt, same_place-refl}
use Rattle.std.proofs.Common.{◌<◌, ◌≤◌, ◌+◌, Option, Some, None, arith}
use Rattle.std.specs.Prelude.{IfSome, is_some}
use Rattle.std.proofs.lemmas.Bool.{cases_lt}
use Rattle.lrc_plan.specs.Stripes.{at_place, AreWhole}
use Rattle.store_repair.specs.Damage.{all_but, ClashWithout, FitWithout, IsDamaged, IsDamagedBefore, IsFit}
use Rattle.store_repair.specs.Mended.{IsConsistency}

pub others_of_others : (h s i : Bool) → (h && not (s || (h && not i))) ≡ (h && (i && not s))
others_of_others true true true = refl
others_of_others true true false = refl
others_of_others true false true = refl
others_of_others true false false = refl
others_of_others false true true = refl
others_of_others false true false = refl
others_of_others false false true = refl
others_of_others false false false = refl

-- where what is in the set is the code's, the code needs no mention
own : (h i s w : Bool) → (not i || (h && w)) ≡ true → (h && (i && not s)) ≡ (i && not s)
own true i s w e = refl
own false true s w e = absurd (cc)
own false false s w e = refl

fewer : (h i s w : Bool) → (not i || (h && w)) ≡ true → (not (i && not s) || (h && w)) ≡ true
fewer h true true w e = refl
fewer h true false w e = e
fewer h false s w e = refl

module _ (code : CodeName) (survives : Place → Bool) (at : List (List ℕ)) (len : ℕ) (whole : AreWhole code survives at len) (p : Place)
  where
    pub own_others : (q : Place) → (has_place (tables_of code) q && all_but survives p q) ≡ all_but survives p q
    own_others q = own (has_place (tables_of code) q) (survives q) (same_place p q) (length (at_place at q) == len) (whole q)

    pub whole_others : AreWhole code (all_but survives p) at len
    whole_others q = fewer (has_place (tables_of code) q) (survives q) (same_place p q) (length (at_place at q) == len) (whole q)

module _ (code : CodeName) (survives : Place → Bool) (at : List (List ℕ)) (len n : ℕ) (p : Place) (here : index_of p ≡ n) where
  -- a place at the index n is p
  it_is : (q : Place) → index_of q < n + 1 → n ≤ index_of q → q ≡ p
  it_is q more le = index_of-eq q p (omega (arith, more, le, here))

  -- what holds of each place before the index n, and of p, holds of each before the next index
  clash_more : (P : Place → Type 0) → ((q : Place) → index_of q < n → P q) → P p → (q : Place) → index_of q < n + 1 → P q
  clash_more P before this q more = elim (cases_lt (index_of q) n) as (λ _. P q) [
    | inl less ↦ before q less
    | inr le ↦ subst P (sym (it_is q more le)) this
  ]

  pub next_absent : (d : Option Place) → survives p ≡ false → IsDamagedBefore code survives at len n d
      → IsDamagedBefore code survives at len (n + 1) d
  next_absent None absent before =
      clash_more (λ r. survives r ≡ true → ClashWithout code survives at len r) before (λ t. absurd (cc))
  next_absent (Some r) absent before = (
    before.0,
    before.1,
    clash_more (λ q. survives q ≡ true → same_place r q ≡ false → ClashWithout code survives at len q) before.2 (λ t. absurd (cc)),
  )

  pub next_clash : (d : Option Place) → ClashWithout code survives at len p → IsDamagedBefore code survives at len n d
      → IsDamagedBefore code survives at len (n + 1) d
  next_clash None clash before =
      clash_more (λ r. survives r ≡ true → ClashWithout code survives at len r) before (λ t. clash)
  next_clash (Some r) clash before = (
    before.0,
    before.1,
    clash_more (λ q. survives q ≡ true → same_place r q ≡ false → ClashWithout code survives at len q) before.2 (λ t o. clash),
  )

  pub next_fit : survives p ≡ true → FitWithout code survives at len p → IsDamagedBefore code survives at len n None
      → IsDamagedBefore code survives at len (n + 1) (Some p)
  next_fit there fit before = (
    there,
    fit,
    clash_more (λ q. survives q ≡ true → same_place p q ≡ false → ClashWithout code survives at len q) (λ q less t o. before q less t)
        (λ t other. absurd (cc (same_place-refl p))),
  )

pub at_end : (code : CodeName) (survives : Place → Bool) (at : List (List ℕ)) (len n : ℕ) (d : Option Place) → 16 ≤ n
    → IsDamagedBefore code survives at len n d → IfSome d (IsDamaged code survives at len)
at_end code survives at len n None le before = tt
at_end code survives at len n (Some p) le before = record {
  survivor = before.0;
  fit = before.1;
  only = λ q there other. before.2 q (let lt = index_of-lt q in omega (arith, lt, le)) there other;
}

-- the survivors without one are fit where they are consistent
pub same_fit : (code : CodeName) (survives : Place → Bool) (at : List (List ℕ)) (len : ℕ) (p : Place) (b : Bool)
    → IsConsistency code (all_but survives p) at len b → IsFit code survives at len p b
same_fit code survives at len p true h = h
same_fit code survives at len p false h = h

pub none_of : {A : Type 0} (o : Option A) → is_some o ≡ false → o ≡ None
none_of None e = refl
none_of (Some x) e = absurd (cc)
