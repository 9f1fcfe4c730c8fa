-- Sums of terms, one term after another, and the vectors that hold them.
use Rattle.std.proofs.Common.{◌≡◌, ℕ, ◌+◌, ◌<◌, ◌≤◌, ◌^◌, List, [], ◌∷◌, ◌++◌, length, get_or, take, ap, ap₂, sym, ◌∙◌, arith}
use Rattle.std.specs.Int.Bits.{bit_xor, xor_assoc, xor_zero_l, xor_zero_r}
use Rattle.std.proofs.lemmas.Grind.{take_at_read}
use Rattle.std.proofs.lemmas.List.{take_all}
use Rattle.lrc_field.specs.Field.{times}
use Rattle.lrc_field.specs.declared.terms.Term.{Term}
use Rattle.lrc_field.specs.declared.blocks.Quad.{Quad}
use Rattle.lrc_field.specs.declared.blocks.Trio.{Trio}
use Rattle.lrc_field.specs.declared.blocks.Six.{Six}
use Rattle.lrc_field.specs.Blocks.{AreSet, HasLanes, HasQuad, HasSix, HasTrio}
use Rattle.lrc_field.specs.Combined.{product_at, sum_at, three_at}
use Rattle.lrc_field.proofs.FieldLaws.{times-one}

sum_at-append : (xs ys : List Term) (i : ℕ) → sum_at (xs ++ ys) i ≡ bit_xor (sum_at xs i) (sum_at ys i)
sum_at-append [] ys i = sym (xor_zero_l (sum_at ys i))
sum_at-append (x ∷ xs) ys i = ap (bit_xor (product_at x i)) (sum_at-append xs ys i)
    ∙ sym (xor_assoc (product_at x i) (sum_at xs i) (sum_at ys i))

pub sum_at-snoc : (xs : List Term) (t : Term) (i : ℕ) → sum_at (xs ++ t ∷ []) i ≡ bit_xor (sum_at xs i) (product_at t i)
sum_at-snoc xs t i = sum_at-append xs (t ∷ []) i ∙ ap (bit_xor (sum_at xs i)) (xor_zero_r (product_at t i))

-- one term more
pub sum_at-more : (ts : List Term) (j i : ℕ) (d : Term) → j < length ts
    → sum_at (take (j + 1) ts) i ≡ bit_xor (sum_at (take j ts) i) (product_at (get_or ts j d) i)
sum_at-more ts j i d h =
    ap (λ us. sum_at us i) (take_at_read ts j d h).1 ∙ sum_at-snoc (take j ts) (get_or ts j d) i

pub sum_at-with : (ts : List Term) (j i : ℕ) (t : Term) → j < length ts → t ≡ get_or ts j t
    → bit_xor (sum_at (take j ts) i) (product_at t i) ≡ sum_at (take (j + 1) ts) i
sum_at-with ts j i t h e = ap (λ (u : Term). bit_xor (sum_at (take j ts) i) (product_at u i)) e ∙ sym (sum_at-more ts j i t h)

-- all terms
pub sum_at-all : (ts : List Term) (n i : ℕ) → length ts ≤ n → sum_at (take n ts) i ≡ sum_at ts i
sum_at-all ts n i h = ap (λ us. sum_at us i) (take_all n ts h)

-- ---- vectors

pub lanes_same : (v : List ℕ) (f g : ℕ → ℕ) → ((k : ℕ) → k < 32 → f k ≡ g k) → HasLanes v f → HasLanes v g
lanes_same v f g e h = record { long = h.long; each = λ k lt. h.each k lt ∙ e k lt }

pub quad_same : (q : Quad) (f g : ℕ → ℕ) → ((k : ℕ) → k < 128 → f k ≡ g k) → HasQuad q f → HasQuad q g
quad_same q f g e h = record {
  in_first = lanes_same q.first f g (λ k lt. e k (omega arith)) h.in_first;
  in_second = lanes_same q.second (λ k. f (32 + k)) (λ k. g (32 + k)) (λ k lt. e (32 + k) (omega arith)) h.in_second;
  in_third = lanes_same q.third (λ k. f (64 + k)) (λ k. g (64 + k)) (λ k lt. e (64 + k) (omega arith)) h.in_third;
  in_fourth = lanes_same q.fourth (λ k. f (96 + k)) (λ k. g (96 + k)) (λ k lt. e (96 + k) (omega arith)) h.in_fourth;
}

pub trio_same : (t : Trio) (f g : ℕ → ℕ) → ((k : ℕ) → k < 96 → f k ≡ g k) → HasTrio t f → HasTrio t g
trio_same t f g e h = record {
  in_first = lanes_same t.first f g (λ k lt. e k (omega arith)) h.in_first;
  in_second = lanes_same t.second (λ k. f (32 + k)) (λ k. g (32 + k)) (λ k lt. e (32 + k) (omega arith)) h.in_second;
  in_third = lanes_same t.third (λ k. f (64 + k)) (λ k. g (64 + k)) (λ k lt. e (64 + k) (omega arith)) h.in_third;
}

pub six_same : (s : Six) (f g : ℕ → ℕ) → ((k : ℕ) → k < 192 → f k ≡ g k) → HasSix s f → HasSix s g
six_same s f g e h = record {
  in_front = trio_same s.front f g (λ k lt. e k (omega arith)) h.in_front;
  in_back = trio_same s.back (λ k. f (96 + k)) (λ k. g (96 + k)) (λ k lt. e (96 + k) (omega arith)) h.in_back;
}

-- the lanes of a sum
pub lanes_added : (s v r : List ℕ) (f g : ℕ → ℕ) → HasLanes r (λ k. bit_xor (get_or s k 0) (get_or v k 0)) → HasLanes s f → HasLanes v g
    → HasLanes r (λ k. bit_xor (f k) (g k))
lanes_added s v r f g a hf hg = record { long = a.long; each = λ k lt. a.each k lt ∙ ap₂ bit_xor (hf.each k lt) (hg.each k lt) }

-- the sum of three terms of scalar 1
pub sum_of_three : (ts : List Term) (s t u : Term) (i : ℕ) → length ts ≡ 3 → s ≡ get_or ts 0 s → t ≡ get_or ts 1 t → u ≡ get_or ts 2 u
    → s.scalar ≡ 1 → t.scalar ≡ 1 → u.scalar ≡ 1 → three_at s.bytes.now t.bytes.now u.bytes.now i ≡ sum_at ts i
sum_of_three ts s t u i three first second third a b c =
    ap₂ bit_xor (ap (λ x. times x (get_or s.bytes.now i 0)) (sym a)) (ap₂ bit_xor (ap (λ x. times x (get_or t.bytes.now i 0)) (sym b))
    (ap (λ x. times x (get_or u.bytes.now i 0)) (sym c)))
    ∙ sym (xor_assoc (product_at s i) (product_at t i) (product_at u i))
    ∙ ap (λ x. bit_xor (bit_xor x (product_at t i)) (product_at u i)) one
    ∙ ap (λ x. bit_xor x (product_at u i)) (sum_at-with ts 1 i t (omega (arith, three)) second)
    ∙ sum_at-with ts 2 i u (omega (arith, three)) third
    ∙ sum_at-all ts 3 i (omega (arith, three))
  where
    one : product_at s i ≡ sum_at (take 1 ts) i
    one = sym (xor_zero_l (product_at s i)) ∙ sum_at-with ts 0 i s (omega (arith, three)) first

-- a product with 1, and with 0
pub one_product : (c x : ℕ) → c ≡ 1 → x < 2 ^ 8 → x ≡ times c x
one_product c x e h = sym (ap (λ s. times s x) e ∙ times-one x h)

-- ---- products that are added byte by byte

-- the bytes are the sums of the first j terms; with those of the next, they are of one more
pub term_added : (ts : List Term) (j from n : ℕ) (d : Term) (before after : List ℕ) (f : ℕ → ℕ) → j < length ts
    → ((k : ℕ) → k < n → f k ≡ product_at (get_or ts j d) (from + k)) → AreSet (λ k. sum_at (take j ts) (from + k)) before n
    → ((k : ℕ) → k < n → get_or after k 0 ≡ bit_xor (get_or before k 0) (f k)) → AreSet (λ k. sum_at (take (j + 1) ts) (from + k)) after n
term_added ts j from n d before after f lt same so_far added k h =
    added k h ∙ ap₂ bit_xor (so_far k h) (same k h) ∙ sym (sum_at-more ts j (from + k) d lt)
