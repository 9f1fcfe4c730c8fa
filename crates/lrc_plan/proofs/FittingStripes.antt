-- From plans to answers: stripes made of extensions at each position.
use Rattle.std.proofs.Common.{◌≡◌, ℕ, suc, ◌<◌, ◌≤◌, List, [], ◌∷◌, length, map, get_or, Bool, true, cond, None, ap, ap₂, sym, ◌∙◌}
use Rattle.std.proofs.Common.{subst, arith, inl, inr, ◌⊎◌, All, lit<, zero-add}
use Rattle.std.specs.Prelude.{◌↔◌, ◌||◌}
use Rattle.std.specs.List.{range_with_len}
use Rattle.std.specs.Int.Bits.{bit_xor, xor_self, xor_zero_r}
use Rattle.std.proofs.lemmas.Nat.{xor_lt}
use Rattle.std.proofs.lemmas.Bool.{cases_lt, cases_Bool}
use Rattle.std.proofs.lemmas.List.{ext_get_or, get_or-map, get_or_past, length-map}
use Rattle.std.proofs.lemmas.List.Elements.{All-map}
use Rattle.std.proofs.lemmas.List.FromFn.{get_or-map-range_with_len, length-map-range_with_len}
use Rattle.lrc_field.proofs.Shift.{cancel}
use Rattle.lrc_code.specs.declared.places.Place.{Place}
use Rattle.lrc_code.specs.declared.outcomes.Outcome.TheVariants.{Rebuilt, Contradiction, Several}
use Rattle.lrc_code.specs.Places.{same_place, all_places}
use Rattle.lrc_field.specs.Sums.{combination}
use Rattle.lrc_code.specs.Code.{Code, AreBytes, has_place, bytes_at}
use Rattle.lrc_code.specs.Codes.{tables_of}
use Rattle.lrc_code.proofs.CodeTables.{own_places}
use Rattle.lrc_code.specs.Requests.{Asked, Survivor, is_among, bytes_of, refusal}
use Rattle.lrc_code.specs.Answers.{Fits, IsAnswer}
use Rattle.lrc_code.specs.Sums.{GivesBytes}
use Rattle.lrc_code.proofs.PlaceSums.{same_place-eq}
use Rattle.lrc_code.proofs.CodeLaws.{code-linear}
use Rattle.lrc_code.proofs.RequestLaws.{accepted_target, accepted_places, accepted_length, accepted_lengths, accepted_bytes}
use Rattle.lrc_code.proofs.RequestLaws.{survivors_hold_bytes, among_at}
use Rattle.lrc_plan.specs.Form.{Form, meaning}
use Rattle.lrc_plan.specs.Planned.{Extends, LeavesSurvive, ExtensionsDiffer}
use Rattle.lrc_plan.specs.Evaluation.{byte_at, CanEvaluate}
use Rattle.lrc_plan.specs.EvaluationParts.{AreWhole, IsZeroTree}
use Rattle.lrc_plan.specs.RowPlans.{GivesTarget}
use Rattle.lrc_plan.specs.Terms.{AreRowSums, IsZeroRow}
use Rattle.lrc_plan.proofs.Stripes.{in_list, solves_along, solves_same}

-- a stripe that equals survivors has at their places what survives there
stripe_bytes : (st : Place → List ℕ) (ss : List Survivor) → All (λ x. st x.place ≡ x.bytes) ss → (p : Place)
    → is_among p ss ≡ true → st p ≡ bytes_of ss p
stripe_bytes st [] h p a = absurd (cc)
stripe_bytes st (s ∷ ss) h p a = elim (cases_Bool (same_place p s.place)) as (λ _. st p ≡ bytes_of (s ∷ ss) p) [
  | inl t ↦ ap st (same_place-eq p s.place t) ∙ h 0 s (omega arith) ∙ sym (ap (λ b. cond b s.bytes (bytes_of ss p)) t)
  | inr f ↦ stripe_bytes st ss (λ k d lt. h (suc k) d (omega arith)) p
      (sym (ap (λ b. b || is_among p ss) f) ∙ a) ∙ sym (ap (λ b. cond b s.bytes (bytes_of ss p)) f)
]

-- what checks as rows ask of bytes
abbrev pub ZeroRows : List (List ℕ) → (Place → ℕ) → Type 0
ZeroRows checks s = All (λ row. combination row (map s all_places) ≡ 0) checks

-- what checks as trees ask of bytes
abbrev pub ZeroTrees : List Form → (Place → ℕ) → Type 0
ZeroTrees checks s = All (λ t. meaning s t ≡ 0) checks

pub rows_at : (r : Asked) (checks : List (List ℕ)) → All (IsZeroRow r) checks → (i : ℕ) → i < r.len → ZeroRows checks (byte_at r i)
rows_at r checks all i h k d lt = all k d lt i h

pub rows_along : (r : Asked) (checks : List (List ℕ)) → ((i : ℕ) → i < r.len → ZeroRows checks (byte_at r i)) → All (IsZeroRow r) checks
rows_along r checks all k d lt i h = all i h k d lt

module _ {T : Type 0} (form : T → Form) (r : Asked) (checks : List T) where
  pub trees_at : All (λ t. IsZeroTree r (form t)) checks → (i : ℕ) → i < r.len → ZeroTrees (map form checks) (byte_at r i)
  trees_at all i h = All-map (λ t. meaning (byte_at r i) t ≡ 0) form checks (λ k d lt. all k d lt i h)

  pub trees_along : ((i : ℕ) → i < r.len → ZeroTrees (map form checks) (byte_at r i)) → All (λ t. IsZeroTree r (form t)) checks
  trees_along all k d lt i h = subst (λ t. meaning (byte_at r i) t ≡ 0) (get_or-map form checks k d (form d) lt)
      (all i h k (form d) (subst (λ n. k < n) (sym (length-map checks form)) lt))

  pub forms_at : All (λ t. IsZeroTree r (form t)) checks → All (IsZeroTree r) (map form checks)
  forms_at all = All-map (IsZeroTree r) form checks all

  pub forms_along : All (IsZeroTree r) (map form checks) → All (λ t. IsZeroTree r (form t)) checks
  forms_along all k d lt = subst (IsZeroTree r) (get_or-map form checks k d (form d) lt)
      (all k (form d) (subst (λ n. k < n) (sym (length-map checks form)) lt))

module _ (r : Asked) (accepted : refusal r ≡ None) (bytes : All (λ s. AreBytes s.bytes) r.survivors) where
  abbrev code : Code
  code = tables_of r.code

  pub whole : AreWhole r
  whole p h = (accepted_lengths r accepted p h, survivors_hold_bytes r p bytes)

  pub byte_at-lt : (i : ℕ) → GivesBytes (byte_at r i)
  byte_at-lt i p = elim (cases_lt i (length (bytes_of r.survivors p))) as (λ _. byte_at r i p < 256) [
    | inl lt ↦ survivors_hold_bytes r p bytes i 0 lt
    | inr past ↦ subst (λ x. x < 256) (sym (get_or_past (bytes_of r.survivors p) i 0 past)) (lit< tt)
  ]

  module _ (survives : Place → Bool) (same : (p : Place) → survives p ≡ is_among p r.survivors) where
    pub can_evaluate : (t : Form) → LeavesSurvive survives t → CanEvaluate r t
    can_evaluate t h = λ p l. sym (same p) ∙ h p l

    -- ---- a fitting stripe extends the survivors' bytes at each position

    fits_at : (st : Place → List ℕ) → Fits r st → (p : Place) → has_place code p ≡ true → (length (st p) ≡ r.len) × AreBytes (st p)
    fits_at st f p h = in_list (λ q. (length (st q) ≡ r.len) × AreBytes (st q)) code.places f.in_code.is_stripe p h

    -- its bytes at a position, and 00 at the places outside the code
    abbrev trimmed : (Place → List ℕ) → ℕ → Place → ℕ
    trimmed st i p = cond (has_place code p) (bytes_at st i p) 0

    trimmed_at : (st : Place → List ℕ) (i : ℕ) (p : Place) → has_place code p ≡ true → trimmed st i p ≡ bytes_at st i p
    trimmed_at st i p h = ap (λ b. cond b (bytes_at st i p) 0) h

    fits_extends : (st : Place → List ℕ) → Fits r st → (i : ℕ) → i < r.len
        → Extends code survives (byte_at r i) (trimmed st i)
    fits_extends st f i h = record {
      bytes = small;
      solves = solves_along code.equations code.places (bytes_at st i) (trimmed st i)
          (λ k d lt. sym (trimmed_at st i (get_or code.places k d) (own_places r.code k d lt))) (f.in_code.solves i h);
      kept = λ p l. trimmed_at st i p (accepted_places r accepted p (sym (same p) ∙ l))
          ∙ ap (λ xs. get_or xs i 0) (stripe_bytes st r.survivors f.survivors p (sym (same p) ∙ l));
    }
      where
        small : (p : Place) → trimmed st i p < 256
        small p = elim (cases_Bool (has_place code p)) as (λ _. trimmed st i p < 256) [
          | inl t ↦ (let w = fits_at st f p t in
              subst (λ x. x < 256) (sym (trimmed_at st i p t)) (w.1 i 0 (subst (λ n. i < n) (sym w.0) h)))
          | inr o ↦ subst (λ b. cond b (bytes_at st i p) 0 < 256) (sym o) (lit< tt)
        ]

    -- a fitting stripe's byte at the target
    target_at : (st : Place → List ℕ) (i : ℕ) → trimmed st i r.target ≡ bytes_at st i r.target
    target_at st i = trimmed_at st i r.target (accepted_target r accepted)

    -- ---- extensions at each position make a fitting stripe

    abbrev made : (ℕ → Place → ℕ) → Place → List ℕ
    made e p = map (λ i. e i p) (range_with_len 0 r.len)

    made_at : (e : ℕ → Place → ℕ) (i : ℕ) (p : Place) (d : ℕ) → i < r.len → get_or (made e p) i d ≡ e i p
    made_at e i p d h = get_or-map-range_with_len (λ j. e j p) 0 r.len i i d h (zero-add i)

    length-made : (e : ℕ → Place → ℕ) (p : Place) → length (made e p) ≡ r.len
    length-made e p = length-map-range_with_len (λ j. e j p) 0 r.len

    made_fits : (e : ℕ → Place → ℕ) → ((i : ℕ) → i < r.len → Extends code survives (byte_at r i) (e i))
        → Fits r (made e)
    made_fits e x = record {
      in_code = record {
        is_stripe = λ k d lt. stripe (get_or code.places k d);
        solves = λ k h. solves_same code.equations code.places (e k) (bytes_at (made e) k)
            (λ p. sym (made_at e k p 0 h)) (x k h).solves;
      };
      survivors = λ k d lt. survivor (get_or r.survivors k d) (among_at r.survivors k d lt)
          ∙ accepted_bytes r accepted k d lt;
    }
      where
        stripe : (p : Place) → (length (made e p) ≡ r.len) × AreBytes (made e p)
        stripe p = (
          length-made e p,
          λ k d lt.
              (let h : k < r.len = subst (λ n. k < n) (length-made e p) lt in subst (λ v. v < 256)
              (sym (made_at e k p d h)) ((x k h).bytes p)),
        )

        survivor : (y : Survivor) → is_among y.place r.survivors ≡ true
            → made e y.place ≡ bytes_of r.survivors y.place
        survivor y a = ext_get_or 0 (made e y.place) (bytes_of r.survivors y.place)
            (length-made e y.place ∙ sym (accepted_lengths r accepted y.place a))
            (λ i lt. let h : i < r.len =
            subst (λ n. i < n) (length-made e y.place) lt in made_at e i y.place 0 h
            ∙ (x i h).kept y.place (same y.place ∙ a))

    module _ (AreZero : (Place → ℕ) → Type 0)
        (possible : (s : Place → ℕ) → GivesBytes s → ((e : Place → ℕ) × Extends code survives s e) ↔ AreZero s) where
      -- ---- some check isn't 0

      pub contradiction : (¬ ((i : ℕ) → i < r.len → AreZero (byte_at r i))) → IsAnswer r Contradiction
      contradiction n st f = n (λ i h. (possible (byte_at r i) (byte_at-lt i)).0 (trimmed st i, fits_extends st f i h))

      -- ---- all checks are 0

      module _ (zero_checks : (i : ℕ) → i < r.len → AreZero (byte_at r i)) where
        extension : (i : ℕ) → i < r.len → (e : Place → ℕ) × Extends code survives (byte_at r i) e
        extension i h = (possible (byte_at r i) (byte_at-lt i)).1 (zero_checks i h)

        pick : (i : ℕ) → (i < r.len) ⊎ (r.len ≤ i) → Place → ℕ
        pick i (inl lt) = (extension i lt).0
        pick i (inr le) = λ p. 0

        pick_is : (i : ℕ) (w : (i < r.len) ⊎ (r.len ≤ i)) → i < r.len
            → Extends code survives (byte_at r i) (pick i w)
        unfolding pick extension
        pick_is i (inl lt) h = (extension i lt).1
        pick_is i (inr le) h = absurd (omega (arith, le, h))

        chosen : ℕ → Place → ℕ
        chosen i = pick i (cases_lt i r.len)

        chosen_is : (i : ℕ) → i < r.len → Extends code survives (byte_at r i) (chosen i)
        unfolding chosen pick
        chosen_is i h = pick_is i (cases_lt i r.len) h

        pub rebuilt : (row out : List ℕ) → GivesTarget code survives r.target row → AreRowSums r row out → IsAnswer r (Rebuilt out)
        rebuilt row out value v = (
          (made chosen, made_fits chosen chosen_is),
          (λ st f.
              let long = (fits_at st f r.target (accepted_target r accepted)).0 in
              ext_get_or 0 (st r.target) out (long ∙ sym v.len)
              (λ i lt. let h : i < r.len = subst (λ n. i < n) long lt in
              sym (v.at i h ∙ value (byte_at r i) (trimmed st i) (byte_at-lt i) (fits_extends st f i h) ∙ target_at st i))),
        )

        -- a second stripe: the first and the sum of two extensions that differ
        pub several : ExtensionsDiffer code survives r.target → IsAnswer r Several
        several (s, d, e, hs, hd, he, apart) = (
          made chosen,
          made other,
          made_fits chosen chosen_is,
          made_fits other other_is,
          λ same_bytes.
              apart (equal same_bytes),
        )
          where
            other : ℕ → Place → ℕ
            other i p = bit_xor (chosen i p) (bit_xor (d p) (e p))

            other_is : (i : ℕ) → i < r.len → Extends code survives (byte_at r i) (other i)
            other_is i h = record {
              bytes = λ p. xor_lt 8 _ _ ((chosen_is i h).bytes p) (xor_lt 8 _ _ (hd.bytes p) (he.bytes p));
              solves = code-linear code (chosen i) (λ p. bit_xor (d p) (e p)) (chosen_is i h).solves
                  (code-linear code d e hd.solves he.solves);
              kept = λ p l. ap (bit_xor (chosen i p))
                  (ap₂ bit_xor (hd.kept p l) (he.kept p l) ∙ xor_self (s p)) ∙ xor_zero_r (chosen i p) ∙
                  (chosen_is i h).kept p l;
            }

            no_change : (a w : ℕ) → a ≡ bit_xor a w → w ≡ 0
            no_change a w k = sym (cancel a w) ∙ ap (bit_xor a) (sym k) ∙ xor_self a

            equal : made chosen r.target ≡ made other r.target → d r.target ≡ e r.target
            equal k =
                let h : 0 < r.len = accepted_length r accepted in
                let at : chosen 0 r.target ≡ other 0 r.target = sym (made_at chosen 0 r.target 0 h) ∙ ap
                (λ xs. get_or xs 0 0) k ∙ made_at other 0 r.target 0 h in
                sym (xor_zero_r (d r.target)) ∙ ap (bit_xor (d r.target))
                (sym (no_change (chosen 0 r.target) (bit_xor (d r.target) (e r.target)) at)) ∙ cancel
                (d r.target) (e r.target)
