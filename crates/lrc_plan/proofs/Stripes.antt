-- From plans as rows to what is said of stripes: stripes made of extensions at each position.
use Rattle.std.proofs.Common.{◌≡◌, ℕ, suc, Option, Some, None, ◌<◌, ◌≤◌, List, [], ◌∷◌, length, map, get_or, slice_index, Bool, true, false}
use Rattle.std.proofs.Common.{cond, refl, ap, ap₂, sym, ◌∙◌, subst, arith, inl, inr, ◌⊎◌, All, lit<, zero-add}
use Rattle.std.specs.Prelude.{◌||◌, ◌&&◌, ◌==◌, not}
use Rattle.std.specs.List.{range_with_len, list_any}
use Rattle.std.specs.Int.Bits.{bit_xor, xor_self, xor_zero_r}
use Rattle.std.proofs.lemmas.Nat.{xor_lt}
use Rattle.std.proofs.lemmas.Bool.{cases_lt, cases_Bool, eqb-true}
use Rattle.std.proofs.lemmas.List.{ext_get_or, get_or_past, get_or-map, length-map}
use Rattle.std.proofs.lemmas.List.FromFn.{get_or-map-range_with_len, length-map-range_with_len}
use Rattle.lrc_field.proofs.Shift.{cancel}
use Rattle.lrc_code.specs.declared.places.Place.{Place}
use Rattle.lrc_code.specs.declared.places.Place.TheVariants.{X0}
use Rattle.lrc_code.specs.declared.codes.Code.{Code as CodeName}
use Rattle.lrc_code.specs.Places.{index_of, same_place, all_places}
use Rattle.lrc_field.specs.Sums.{combination, column}
use Rattle.lrc_code.specs.Code.{Code, AreBytes, has_place, Solves, bytes_at}
use Rattle.lrc_code.specs.Codes.{tables_of}
use Rattle.lrc_code.specs.Encoding.{IsParity}
use Rattle.lrc_code.specs.Sums.{GivesBytes}
use Rattle.lrc_code.proofs.CodeTables.{own_places}
use Rattle.lrc_code.proofs.CodeLaws.{code-linear}
use Rattle.lrc_code.proofs.PlaceSums.{same_place-eq, index_of-lt, index_at}
use Rattle.lrc_plan.specs.Planned.{Extends, ExtensionsDiffer}
use Rattle.lrc_plan.specs.RowPlans.{IsRowValue, IsValueRow, AreCheckRows, ReadsSurvivors}
use Rattle.lrc_plan.specs.Stripes.{Keeps, IsPossible, IsContradiction, IsRebuilt, AreSeveral, AreZeroRows}
use Rattle.lrc_plan.specs.Stripes.{at_place, AreUsed, AreWhole, IsUsedAt}

pub map_same : (ps : List Place) (b d : Place → ℕ) → ((p : Place) → b p ≡ d p) → map b ps ≡ map d ps
map_same [] b d h = refl
map_same (p ∷ ps) b d h = ap₂ (λ x xs. x ∷ xs) (h p) (map_same ps b d h)

pub solves_same : (rows : List (List ℕ)) (ps : List Place) (b d : Place → ℕ) → ((p : Place) → b p ≡ d p)
    → Solves rows ps b → Solves rows ps d
solves_same rows ps b d h s = λ k row lt. ap (combination (get_or rows k row)) (sym (map_same ps b d h)) ∙ s k row lt

-- what holds along a list holds at its members
pub in_list : (P : Place → Type 0) (ps : List Place) → All P ps → (p : Place) → list_any (same_place p) ps ≡ true → P p
in_list P [] h p a = absurd (cc)
in_list P (q ∷ ps) h p a = elim (cases_Bool (same_place p q)) [
  | inl t ↦ subst P (sym (same_place-eq p q t)) (h 0 q (omega arith))
  | inr f ↦ in_list P ps (λ k d lt. h (suc k) d (omega arith)) p (sym (ap (λ b. b || list_any (same_place p) ps) f) ∙ a)
]

-- equal bytes along the places
pub map_along : (ps : List Place) (b d : Place → ℕ) → All (λ p. b p ≡ d p) ps → map b ps ≡ map d ps
map_along [] b d h = refl
map_along (p ∷ ps) b d h = ap₂ (λ x xs. x ∷ xs) (h 0 p (omega arith)) (map_along ps b d (λ k e lt. h (suc k) e (omega arith)))

pub solves_along : (rows : List (List ℕ)) (ps : List Place) (b d : Place → ℕ) → All (λ p. b p ≡ d p) ps
    → Solves rows ps b → Solves rows ps d
solves_along rows ps b d h s = λ k row lt. ap (combination (get_or rows k row)) (sym (map_along ps b d h)) ∙ s k row lt

-- where each index does, all do
pub used_from : (len : ℕ) (row : List ℕ) (xss : List (List ℕ)) → ((k : ℕ) → k < length row → IsUsedAt row xss len k) → AreUsed row xss len
used_from len [] xss h = tt
used_from len (c ∷ row) [] h = tt
used_from len (c ∷ row) (xs ∷ xss) h = (
  λ n. h 0 (omega arith) (omega arith) n,
  used_from len row xss
      (λ k less lt n. h (suc k) (omega arith) (omega arith) n),
)

whole_parts : (s h e : Bool) → (not s || (h && e)) ≡ true → s ≡ true → (h ≡ true) × (e ≡ true)
whole_parts true true e w k = (refl, w)
whole_parts true false e w k = absurd (cc)
whole_parts false h e w k = absurd (cc)

-- sixteen lists are those at the places
by_places : (xss : List (List ℕ)) → length xss ≡ 16 → xss ≡ map (at_place xss) all_places
by_places xss l = ext_get_or [] xss (map (at_place xss) all_places) (l ∙ sym (length-map all_places (at_place xss)))
    (λ k lt. let h : k < 16 = omega (arith, lt, l) in
    sym (get_or-map (at_place xss) all_places k X0 [] h ∙ ap (λ n. get_or xss n []) (index_at k h)))

map-map : (f : Place → List ℕ) (g : List ℕ → ℕ) (ps : List Place) → map g (map f ps) ≡ map (λ p. g (f p)) ps
map-map f g [] = refl
map-map f g (p ∷ ps) = ap (λ xs. g (f p) ∷ xs) (map-map f g ps)

pub column_by_places : (xss : List (List ℕ)) → length xss ≡ 16 → (k : ℕ)
    → column xss k ≡ map (λ p. slice_index (at_place xss p) k) all_places
column_by_places xss l k = ap (λ yss. column yss k) (by_places xss l) ∙ map-map (at_place xss) (λ xs. slice_index xs k) all_places

-- a plan's value, if there is none or some
pub value_none : (code : Code) (survives : Place → Bool) (t : Place) (value : Option (List ℕ)) → value ≡ None
    → IsRowValue code survives t value → ExtensionsDiffer code survives t
value_none code survives t value e h = subst (IsRowValue code survives t) e h

pub value_some : (code : Code) (survives : Place → Bool) (t : Place) (value : Option (List ℕ)) (row : List ℕ) → value ≡ Some row
    → IsRowValue code survives t value → IsValueRow code survives t row
value_some code survives t value row e h = subst (IsRowValue code survives t) e h

module _ (code_name : CodeName) (survives : Place → Bool) (at : List (List ℕ)) (len : ℕ)
    (whole : AreWhole code_name survives at len) (small : All AreBytes at) (sixteen : length at ≡ 16) where
  abbrev code : Code
  code = tables_of code_name

  abbrev byte : ℕ → Place → ℕ
  byte i p = slice_index (at_place at p) i

  own : (p : Place) → survives p ≡ true → (has_place code p ≡ true) × (length (at_place at p) ≡ len)
  own p h = let w = whole_parts (survives p) (has_place code p) (length (at_place at p) == len) (whole p) h in (w.0, eqb-true _ _ w.1)

  at_bytes : (p : Place) → AreBytes (at_place at p)
  at_bytes p = small (index_of p) [] (subst (λ n. index_of p < n) (sym sixteen) (index_of-lt p))

  byte-lt : (i : ℕ) → GivesBytes (byte i)
  byte-lt i p = elim (cases_lt i (length (at_place at p))) as (λ _. byte i p < 256) [
    | inl lt ↦ at_bytes p i 0 lt
    | inr past ↦ subst (λ x. x < 256) (sym (get_or_past (at_place at p) i 0 past)) (lit< tt)
  ]

  -- ---- a stripe that keeps the bytes extends them at each position

  keeps_at : (st : Place → List ℕ) → Keeps code survives (at_place at) len st → (p : Place) → has_place code p ≡ true
      → (length (st p) ≡ len) × AreBytes (st p)
  keeps_at st f p h = in_list (λ q. (length (st q) ≡ len) × AreBytes (st q)) code.places f.in_code.is_stripe p h

  -- its bytes at a position, and 00 at the places outside the code
  abbrev trimmed : (Place → List ℕ) → ℕ → Place → ℕ
  trimmed st i p = cond (has_place code p) (bytes_at st i p) 0

  trimmed_at : (st : Place → List ℕ) (i : ℕ) (p : Place) → has_place code p ≡ true → trimmed st i p ≡ bytes_at st i p
  trimmed_at st i p h = ap (λ b. cond b (bytes_at st i p) 0) h

  keeps_extends : (st : Place → List ℕ) → Keeps code survives (at_place at) len st → (i : ℕ) → i < len
      → Extends code survives (byte i) (trimmed st i)
  keeps_extends st f i h = record {
    bytes = below;
    solves = solves_along code.equations code.places (bytes_at st i) (trimmed st i)
        (λ k d lt. sym (trimmed_at st i (get_or code.places k d) (own_places code_name k d lt))) (f.in_code.solves i h);
    kept = λ p l. trimmed_at st i p (own p l).0 ∙ ap (λ xs. get_or xs i 0) (f.kept p l);
  }
    where
      below : (p : Place) → trimmed st i p < 256
      below p = elim (cases_Bool (has_place code p)) as (λ _. trimmed st i p < 256) [
        | inl t ↦ (let w = keeps_at st f p t in
            subst (λ x. x < 256) (sym (trimmed_at st i p t)) (w.1 i 0 (subst (λ n. i < n) (sym w.0) h)))
        | inr o ↦ subst (λ b. cond b (bytes_at st i p) 0 < 256) (sym o) (lit< tt)
      ]

  -- ---- extensions at each position make a stripe that keeps the bytes

  abbrev made : (ℕ → Place → ℕ) → Place → List ℕ
  made e p = map (λ i. e i p) (range_with_len 0 len)

  made_at : (e : ℕ → Place → ℕ) (i : ℕ) (p : Place) (d : ℕ) → i < len → get_or (made e p) i d ≡ e i p
  made_at e i p d h = get_or-map-range_with_len (λ j. e j p) 0 len i i d h (zero-add i)

  length-made : (e : ℕ → Place → ℕ) (p : Place) → length (made e p) ≡ len
  length-made e p = length-map-range_with_len (λ j. e j p) 0 len

  made_keeps : (e : ℕ → Place → ℕ) → ((i : ℕ) → i < len → Extends code survives (byte i) (e i))
      → Keeps code survives (at_place at) len (made e)
  made_keeps e x = record {
    in_code = record {
      is_stripe = λ k d lt. stripe (get_or code.places k d);
      solves = λ k h. solves_same code.equations code.places (e k) (bytes_at (made e) k)
          (λ p. sym (made_at e k p 0 h)) (x k h).solves;
    };
    kept = λ p l. ext_get_or 0 (made e p) (at_place at p) (length-made e p ∙ sym (own p l).1)
        (λ i lt. let h : i < len = subst (λ n. i < n) (length-made e p) lt in made_at e i p 0 h ∙ (x i h).kept p l);
  }
    where
      stripe : (p : Place) → (length (made e p) ≡ len) × AreBytes (made e p)
      stripe p = (
        length-made e p,
        λ k d lt.
            (let h : k < len = subst (λ n. k < n) (length-made e p) lt in subst (λ v. v < 256)
            (sym (made_at e k p d h)) ((x k h).bytes p)),
      )

  -- a row that reads survivors alone reads bytes of the right length
  pub row_used : (row : List ℕ) → ReadsSurvivors survives row → AreUsed row at len
  row_used row reads = used_from len row at (λ k less lt n. each k lt n)
    where
      lost : (k : ℕ) → k < 16 → (p : Place) → index_of p ≡ k → (u : Bool) → survives p ≡ u → ¬ (get_or row k 0 ≡ 0)
          → length (get_or at k []) ≡ len
      lost k h p e true l n = ap (λ j. length (get_or at j [])) (sym e) ∙ (own p l).1
      lost k h p e false l n = absurd (n (ap (λ j. get_or row j 0) (sym e) ∙ reads p l))

      each : (k : ℕ) → k < length at → ¬ (get_or row k 0 ≡ 0) → length (get_or at k []) ≡ len
      each k lt n =
          let h : k < 16 = omega (arith, lt, sixteen) in
          lost k h (get_or all_places k X0) (index_at k h) (survives (get_or all_places k X0)) refl n

  -- the target's row gives the bytes of each stripe that keeps the others
  pub applied : (target : Place) → has_place code target ≡ true → (row out : List ℕ) → IsValueRow code survives target row
      → IsParity row at len out
      → (st : Place → List ℕ) → Keeps code survives (at_place at) len st → st target ≡ out
  applied target of_code row out value v st f =
      let long = (keeps_at st f target of_code).0 in
      ext_get_or 0 (st target) out (long ∙ sym v.long)
      (λ i lt. let h : i < len = subst (λ n. i < n) long lt in
      sym (v.each i h ∙ ap (combination row) (column_by_places at sixteen i)
      ∙ value.right (byte i) (trimmed st i) (byte-lt i) (keeps_extends st f i h) ∙ trimmed_at st i target of_code))

  module _ (checks : List (List ℕ)) (of_survivors : AreCheckRows code survives checks) where
    -- the rows read bytes of the right length
    pub used : All (λ row. AreUsed row at len) checks
    used k d lt = row_used (get_or checks k d) (of_survivors.reads k d lt)

    -- some check isn't 0
    pub contradiction : (¬ AreZeroRows checks at len) → IsContradiction code survives (at_place at) len
    contradiction n st f = n (λ k d lt i h. ap (combination (get_or checks k d)) (column_by_places at sixteen i)
        ∙ (of_survivors.possible (byte i) (byte-lt i)).0 (trimmed st i, keeps_extends st f i h) k d lt)

    -- all checks are 0
    module _ (zero_checks : AreZeroRows checks at len) where
      extension : (i : ℕ) → i < len → (e : Place → ℕ) × Extends code survives (byte i) e
      extension i h = (of_survivors.possible (byte i) (byte-lt i)).1
          (λ k d lt. sym (ap (combination (get_or checks k d)) (column_by_places at sixteen i)) ∙ zero_checks k d lt i h)

      pick : (i : ℕ) → (i < len) ⊎ (len ≤ i) → Place → ℕ
      pick i (inl lt) = (extension i lt).0
      pick i (inr le) = λ p. 0

      pick_is : (i : ℕ) (w : (i < len) ⊎ (len ≤ i)) → i < len → Extends code survives (byte i) (pick i w)
      unfolding pick extension
      pick_is i (inl lt) h = (extension i lt).1
      pick_is i (inr le) h = absurd (omega (arith, le, h))

      chosen : ℕ → Place → ℕ
      chosen i = pick i (cases_lt i len)

      chosen_is : (i : ℕ) → i < len → Extends code survives (byte i) (chosen i)
      unfolding chosen pick
      chosen_is i h = pick_is i (cases_lt i len) h

      pub possible : IsPossible code survives (at_place at) len
      possible = (made chosen, made_keeps chosen chosen_is)

      module _ (target : Place) (of_code : has_place code target ≡ true) where
        pub rebuilt : (row out : List ℕ) → IsValueRow code survives target row → IsParity row at len out
            → IsRebuilt code survives (at_place at) len target out
        rebuilt row out value v = (possible, applied target of_code row out value v)

        -- a second stripe: the first and the sum of two extensions that differ
        pub several : 0 < len → ExtensionsDiffer code survives target → AreSeveral code survives (at_place at) len target
        several some (s, d, e, hs, hd, he, apart) = (
          made chosen,
          made other,
          made_keeps chosen chosen_is,
          made_keeps other other_is,
          λ same_bytes. apart (equal same_bytes),
        )
          where
            other : ℕ → Place → ℕ
            other i p = bit_xor (chosen i p) (bit_xor (d p) (e p))

            other_is : (i : ℕ) → i < len → Extends code survives (byte i) (other i)
            other_is i h = record {
              bytes = λ p. xor_lt 8 _ _ ((chosen_is i h).bytes p) (xor_lt 8 _ _ (hd.bytes p) (he.bytes p));
              solves = code-linear code (chosen i) (λ p. bit_xor (d p) (e p)) (chosen_is i h).solves
                  (code-linear code d e hd.solves he.solves);
              kept = λ p l. ap (bit_xor (chosen i p))
                  (ap₂ bit_xor (hd.kept p l) (he.kept p l) ∙ xor_self (s p)) ∙ xor_zero_r (chosen i p) ∙
                  (chosen_is i h).kept p l;
            }

            no_change : (a w : ℕ) → a ≡ bit_xor a w → w ≡ 0
            no_change a w k = sym (cancel a w) ∙ ap (bit_xor a) (sym k) ∙ xor_self a

            equal : made chosen target ≡ made other target → d target ≡ e target
            equal k =
                let at_first : chosen 0 target ≡ other 0 target = sym (made_at chosen 0 target 0 some) ∙ ap
                (λ xs. get_or xs 0 0) k ∙ made_at other 0 target 0 some in
                sym (xor_zero_r (d target)) ∙ ap (bit_xor (d target))
                (sym (no_change (chosen 0 target) (bit_xor (d target) (e target)) at_first)) ∙ cancel
                (d target) (e target)
