-- Lists of terms, one term after another, and the combinations that they add up to.
use Rattle.std.proofs.Common.{◌≡◌, ℕ, zero, suc, ◌+◌, ◌<◌, ◌≤◌, List, [], ◌∷◌, length, get_or, set, take, ap, sym, subst, ◌∙◌, arith}
use Rattle.std.specs.Int.Bits.{bit_xor, xor_assoc, xor_zero_l, xor_zero_r}
use Rattle.std.proofs.lemmas.Bool.{cases_lt}
use Rattle.std.proofs.Common.{inl, inr}
use Rattle.std.proofs.lemmas.List.{get_or-map, get_or_past, length-map, take_all, take_more_set}
use Rattle.std.proofs.lemmas.List.Elements.{All-append}
use Rattle.lrc_field.specs.Field.{times}
use Rattle.lrc_field.specs.Sums.{column, combination}
use Rattle.lrc_field.specs.declared.terms.Term.{Term}
use Rattle.lrc_field.specs.Combined.{product_at, sum_at, HaveLength}
use Rattle.lrc_field.proofs.FieldLaws.{times-zero_r}
use Rattle.lrc_field.proofs.TermSums.{sum_at-snoc}

-- a list's byte at a position, where there is a list and past the last
pub column_at : (xss : List (List ℕ)) (k i : ℕ) → k < length xss → get_or (column xss i) k 0 ≡ get_or (get_or xss k []) i 0
column_at xss k i h = get_or-map (λ xs. get_or xs i 0) xss k [] 0 h

pub column_past : (xss : List (List ℕ)) (k i : ℕ) → length xss ≤ k → get_or (column xss i) k 0 ≡ 0
column_past xss k i h =
    let e = length-map xss (λ xs. get_or xs i 0) in
    get_or_past (column xss i) k 0 (omega (arith, e, h))

pub column_is : (xss : List (List ℕ)) (k i : ℕ) → get_or (column xss i) k 0 ≡ get_or (get_or xss k []) i 0
column_is xss k i = elim (cases_lt k (length xss)) as (λ _. get_or (column xss i) k 0 ≡ get_or (get_or xss k []) i 0) [
  | inl lt ↦ column_at xss k i lt
  | inr past ↦ column_past xss k i past ∙ sym (ap (λ xs. get_or xs i 0) (get_or_past xss k [] past))
]

-- one coefficient more
combination-suc : (cs xs : List ℕ) (k : ℕ) → k < length cs
    → combination (take (suc k) cs) xs ≡ bit_xor (combination (take k cs) xs) (times (get_or cs k 0) (get_or xs k 0))
combination-suc [] xs k h = absurd (omega arith)
combination-suc (c ∷ cs) [] zero h = sym (ap (bit_xor 0) (times-zero_r c) ∙ xor_zero_r 0)
combination-suc (c ∷ cs) [] (suc k) h = sym (ap (bit_xor 0) (times-zero_r (get_or cs k 0)) ∙ xor_zero_r 0)
combination-suc (c ∷ cs) (x ∷ xs) zero h = xor_zero_r (times c x) ∙ sym (xor_zero_l (times c x))
combination-suc (c ∷ cs) (x ∷ xs) (suc k) h =
    ap (bit_xor (times c x)) (combination-suc cs xs k (omega arith))
    ∙ sym (xor_assoc (times c x) (combination (take k cs) xs) (times (get_or cs k 0) (get_or xs k 0)))

pub combination-more : (cs xs : List ℕ) (k : ℕ) → k < length cs
    → combination (take (k + 1) cs) xs ≡ bit_xor (combination (take k cs) xs) (times (get_or cs k 0) (get_or xs k 0))
combination-more cs xs k h =
    let next : k + 1 ≡ suc k = omega arith in
    ap (λ n. combination (take n cs) xs) next ∙ combination-suc cs xs k h

pub combination-all : (cs xs : List ℕ) (k : ℕ) → length cs ≤ k → combination (take k cs) xs ≡ combination cs xs
combination-all cs xs k h = ap (λ ds. combination ds xs) (take_all k cs h)

-- one term more
pub sums-more : (ts : List Term) (n i : ℕ) (t : Term) → n < length ts
    → sum_at (take (n + 1) (set ts n t)) i ≡ bit_xor (sum_at (take n ts) i) (product_at t i)
sums-more ts n i t h = ap (λ us. sum_at us i) (take_more_set ts n t h) ∙ sum_at-snoc (take n ts) t i

pub lengths-more : (len : ℕ) (ts : List Term) (n : ℕ) (t : Term) → n < length ts → HaveLength len (take n ts) → length t.bytes.now ≡ len
    → HaveLength len (take (n + 1) (set ts n t))
lengths-more len ts n t h all l = subst (HaveLength len) (sym (take_more_set ts n t h))
    (All-append (λ (u : Term). length u.bytes.now ≡ len) (take n ts) (t ∷ []) all one)
  where
    one : HaveLength len (t ∷ [])
    one zero d lt = l
    one (suc k) d lt = absurd (omega arith)
