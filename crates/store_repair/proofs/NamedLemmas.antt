-- What lists of findings name.
use Rattle.std.proofs.Common.{◌≡◌, ◌≢◌, ◌∙◌, ◌<◌, ℕ, zero, suc, List, [], ◌∷◌, ◌++◌}
use Rattle.std.proofs.Common.{ap, sym, subst, arith, get_or, length, append-nil, append_assoc}
use Rattle.std.proofs.Common.{◌+◌, refl, inl, inr, Bool, true, false, Option, Some, None}
use Rattle.std.specs.Prelude.{◌||◌, Contains}
use Rattle.std.proofs.lemmas.Bool.{cases_lt, or_parts}
use Rattle.std.proofs.lemmas.List.{get_or_default}
use Rattle.std.proofs.lemmas.List.Elements.{Contains-append_left, Contains-append_right, Contains-push}
use Rattle.lrc_code.specs.declared.places.Place.{Place}
use Rattle.store_repair.specs.Findings.{AreAllMended, IsMendedBy, NamesStay, differing_by, is_unsettled, named, named_by, said_differing}
use Rattle.store_repair.specs.Findings.{is_without_length, says_no_length, says_unsettled}
use Rattle.store_repair.specs.Scrubbed.{damaged_by, said_damaged}
use Rattle.store_repair.specs.declared.outcomes.Finding.{Finding}

pub named_append : (xs ys : List Finding) → named (xs ++ ys) ≡ named xs ++ named ys
named_append [] ys = refl
named_append (x ∷ xs) ys =
    ap (λ ps. named_by x.place ++ ps) (named_append xs ys) ∙ sym (append_assoc (named_by x.place) (named xs) (named ys))

pub damaged_append : (xs ys : List Finding) → said_damaged (xs ++ ys) ≡ said_damaged xs ++ said_damaged ys
damaged_append [] ys = refl
damaged_append (x ∷ xs) ys = ap (λ ps. damaged_by x.reason x.place ++ ps) (damaged_append xs ys)
    ∙ sym (append_assoc (damaged_by x.reason x.place) (said_damaged xs) (said_damaged ys))

pub differing_append : (xs ys : List Finding) → said_differing (xs ++ ys) ≡ said_differing xs ++ said_differing ys
differing_append [] ys = refl
differing_append (x ∷ xs) ys = ap (λ ps. differing_by x.reason x.place ++ ps) (differing_append xs ys)
    ∙ sym (append_assoc (differing_by x.reason x.place) (said_differing xs) (said_differing ys))

or_assoc : (a b c : Bool) → (a || (b || c)) ≡ ((a || b) || c)
or_assoc true b c = refl
or_assoc false b c = refl

or_none : (a : Bool) → (a || false) ≡ a
or_none true = refl
or_none false = refl

pub unsettled_append : (xs ys : List Finding) → is_unsettled (xs ++ ys) ≡ (is_unsettled xs || is_unsettled ys)
unsettled_append [] ys = refl
unsettled_append (x ∷ xs) ys =
    ap (λ b. says_unsettled x.reason || b) (unsettled_append xs ys)
    ∙ or_assoc (says_unsettled x.reason) (is_unsettled xs) (is_unsettled ys)

pub unsettled_push : (xs : List Finding) (f : Finding) → is_unsettled (xs ++ (f ∷ [])) ≡ (is_unsettled xs || says_unsettled f.reason)
unsettled_push xs f = unsettled_append xs (f ∷ []) ∙ ap (λ b. is_unsettled xs || b) (or_none (says_unsettled f.reason))

pub without_length_push : (xs : List Finding) (f : Finding)
    → is_without_length (xs ++ (f ∷ [])) ≡ (is_without_length xs || says_no_length f.reason)
without_length_push [] f = or_none (says_no_length f.reason)
without_length_push (x ∷ xs) f = ap (λ b. says_no_length x.reason || b) (without_length_push xs f)
    ∙ or_assoc (says_no_length x.reason) (is_without_length xs) (says_no_length f.reason)

-- where none of two lists of findings says that something is unsettled, the second doesn't
pub settled_later : (all first later : List Finding) → all ≡ first ++ later → is_unsettled all ≡ false → is_unsettled later ≡ false
settled_later all first later are none =
    (or_parts (is_unsettled first) (is_unsettled later) (sym (unsettled_append first later) ∙ ap is_unsettled (sym are) ∙ none)).1

-- a finding more
pub named_push : (xs : List Finding) (f : Finding) → named (xs ++ (f ∷ [])) ≡ named xs ++ named_by f.place
named_push xs f = named_append xs (f ∷ []) ∙ ap (λ ps. named xs ++ ps) (append-nil (named_by f.place))

-- what one of the findings names, they name
pub named_at : (xs : List Finding) (k : ℕ) (d : Finding) (p : Place) → k < length xs → Contains (named_by (get_or xs k d).place) p
    → Contains (named xs) p
named_at [] k d p lt is = absurd (omega (arith, lt))
named_at (x ∷ xs) zero d p lt is = Contains-append_left (named_by x.place) (named xs) p is
named_at (x ∷ xs) (suc k) d p lt is =
    Contains-append_right (named_by x.place) (named xs) p (named_at xs k d p (omega (arith, lt)) is)

pub damaged_at : (xs : List Finding) (k : ℕ) (d : Finding) (p : Place) → k < length xs
    → Contains (damaged_by (get_or xs k d).reason (get_or xs k d).place) p → Contains (said_damaged xs) p
damaged_at [] k d p lt is = absurd (omega (arith, lt))
damaged_at (x ∷ xs) zero d p lt is = Contains-append_left (damaged_by x.reason x.place) (said_damaged xs) p is
damaged_at (x ∷ xs) (suc k) d p lt is =
    Contains-append_right (damaged_by x.reason x.place) (said_damaged xs) p (damaged_at xs k d p (omega (arith, lt)) is)

pub differing_at : (xs : List Finding) (k : ℕ) (d : Finding) (p : Place) → k < length xs
    → Contains (differing_by (get_or xs k d).reason (get_or xs k d).place) p → Contains (said_differing xs) p
differing_at [] k d p lt is = absurd (omega (arith, lt))
differing_at (x ∷ xs) zero d p lt is = Contains-append_left (differing_by x.reason x.place) (said_differing xs) p is
differing_at (x ∷ xs) (suc k) d p lt is =
    Contains-append_right (differing_by x.reason x.place) (said_differing xs) p (differing_at xs k d p (omega (arith, lt)) is)

-- where nothing was rebuilt, findings are left
pub some_left : (findings : List Finding) → findings ≢ [] → ¬ AreAllMended findings []
some_left [] some all = absurd (some refl)
some_left (f ∷ fs) some all = none f.place (all 0 f (omega arith))
  where
    none : (o : Option Place) → ¬ IsMendedBy [] o
    none None is = is
    none (Some p) (k, lt, e) = absurd (omega (arith, lt))

mended_first : (o : Option Place) (rebuilt names : List Place) (p : Place) → IsMendedBy rebuilt o
    → (Contains names p → Contains rebuilt p) → Contains (named_by o ++ names) p → Contains rebuilt p
mended_first None rebuilt names p mended rest h = rest h
mended_first (Some q) rebuilt names p mended rest (zero, lt, e) = subst (Contains rebuilt) e mended
mended_first (Some q) rebuilt names p mended rest (suc k, lt, e) = rest (k, omega (arith, lt), e)

-- what findings name was rebuilt, where none of them is left
pub mended_named : (findings : List Finding) (rebuilt : List Place) → AreAllMended findings rebuilt → (p : Place)
    → Contains (named findings) p → Contains rebuilt p
mended_named [] rebuilt all p (k, lt, e) = absurd (omega (arith, lt))
mended_named (f ∷ fs) rebuilt all p is =
    mended_first f.place rebuilt (named fs) p (all 0 f (omega arith))
    (mended_named fs rebuilt (λ k d lt. all (suc k) d (omega (arith, lt))) p) is

-- what a list of places and one place more name
pub named_more : (places : List Place) (n : ℕ) (old new : List Finding) (p e : Place) → n < length places → get_or places n e ≡ p
    → named new ≡ named old ++ (p ∷ []) → ((k : ℕ) (d : Place) → k < n → Contains (named old) (get_or places k d))
    → (k : ℕ) (d : Place) → k < n + 1 → Contains (named new) (get_or places k d)
named_more places n old new p e within here is before k d lt = elim (cases_lt k n) as (λ _. Contains (named new) (get_or places k d)) [
  | inl less ↦ subst (λ ps. Contains ps (get_or places k d)) (sym is)
      (Contains-append_left (named old) (p ∷ []) (get_or places k d) (before k d less))
  | inr le ↦ (let at : k ≡ n = omega (arith, lt, le) in
      subst (λ ps. Contains ps (get_or places k d)) (sym is)
      (subst (Contains (named old ++ (p ∷ []))) (sym (ap (λ j. get_or places j d) at ∙ get_or_default places n d e within ∙ here))
      (Contains-push (named old) p)))
]

-- the same where the place is named by what was there or by what came
pub named_kept_more : (places : List Place) (n : ℕ) (old new : List Finding) (p e : Place) → n < length places → get_or places n e ≡ p
    → Contains (named new) p → NamesStay old new → ((k : ℕ) (d : Place) → k < n → Contains (named old) (get_or places k d))
    → (k : ℕ) (d : Place) → k < n + 1 → Contains (named new) (get_or places k d)
named_kept_more places n old new p e within here is stay before k d lt =
    elim (cases_lt k n) as (λ _. Contains (named new) (get_or places k d)) [
      | inl less ↦ stay (get_or places k d) (before k d less)
      | inr le ↦ (let at : k ≡ n = omega (arith, lt, le) in
          subst (Contains (named new)) (sym (ap (λ j. get_or places j d) at ∙ get_or_default places n d e within ∙ here)) is)
    ]

-- the same of findings and of what was rebuilt that are known by equations
pub none_mended : (findings own : List Finding) (rebuilt : List Place) → own ≡ findings → rebuilt ≡ [] → findings ≢ []
    → ¬ AreAllMended own rebuilt
none_mended findings own rebuilt is none some all =
    some_left findings some (subst (AreAllMended findings) none (subst (λ fs. AreAllMended fs rebuilt) is all))
