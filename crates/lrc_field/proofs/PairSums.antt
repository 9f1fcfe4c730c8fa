-- Sums of pairs, one pair after another.
use Rattle.std.proofs.Common.{◌≡◌, ℕ, zero, suc, ◌+◌, ◌<◌, ◌≤◌, List, [], ◌∷◌, ◌++◌, length, get_or, set, take, ap, sym, subst, ◌∙◌, arith}
use Rattle.std.specs.Int.Bits.{bit_xor, xor_assoc, xor_zero_l, xor_zero_r}
use Rattle.std.proofs.lemmas.Grind.{take_at_read}
use Rattle.std.proofs.lemmas.List.{take_all, take_more_set}
use Rattle.std.proofs.lemmas.List.Elements.{All-append}
use Rattle.lrc_field.specs.Field.{times}
use Rattle.lrc_field.specs.declared.pairs.Pair.{Pair}
use Rattle.lrc_field.specs.Pairs.{scaled_sum_at, HavePairsRoom}

abbrev pub scaled_at : (Pair → ℕ) → Pair → ℕ → ℕ
scaled_at g p i = times (g p) (get_or p.bytes.now i 0)

append : (g : Pair → ℕ) (xs ys : List Pair) (i : ℕ) → scaled_sum_at g (xs ++ ys) i ≡ bit_xor (scaled_sum_at g xs i) (scaled_sum_at g ys i)
append g [] ys i = sym (xor_zero_l (scaled_sum_at g ys i))
append g (x ∷ xs) ys i = ap (bit_xor (scaled_at g x i)) (append g xs ys i)
    ∙ sym (xor_assoc (scaled_at g x i) (scaled_sum_at g xs i) (scaled_sum_at g ys i))

pub pair_snoc : (g : Pair → ℕ) (xs : List Pair) (p : Pair) (i : ℕ)
    → scaled_sum_at g (xs ++ p ∷ []) i ≡ bit_xor (scaled_sum_at g xs i) (scaled_at g p i)
pair_snoc g xs p i = append g xs (p ∷ []) i ∙ ap (bit_xor (scaled_sum_at g xs i)) (xor_zero_r (scaled_at g p i))

-- one pair more
pub pair_with : (g : Pair → ℕ) (ps : List Pair) (j i : ℕ) (p : Pair) → j < length ps → p ≡ get_or ps j p
    → bit_xor (scaled_sum_at g (take j ps) i) (scaled_at g p i) ≡ scaled_sum_at g (take (j + 1) ps) i
pair_with g ps j i p h e =
    ap (λ (q : Pair). bit_xor (scaled_sum_at g (take j ps) i) (scaled_at g q i)) e
    ∙ sym (ap (λ qs. scaled_sum_at g qs i) (take_at_read ps j p h).1 ∙ pair_snoc g (take j ps) (get_or ps j p) i)

-- all pairs
pub pair_all : (g : Pair → ℕ) (ps : List Pair) (n i : ℕ) → length ps ≤ n → scaled_sum_at g (take n ps) i ≡ scaled_sum_at g ps i
pair_all g ps n i h = ap (λ qs. scaled_sum_at g qs i) (take_all n ps h)

-- one pair more, which is put at the end
pub pairs-more : (g : Pair → ℕ) (ps : List Pair) (n i : ℕ) (p : Pair) → n < length ps
    → scaled_sum_at g (take (n + 1) (set ps n p)) i ≡ bit_xor (scaled_sum_at g (take n ps) i) (scaled_at g p i)
pairs-more g ps n i p h = ap (λ qs. scaled_sum_at g qs i) (take_more_set ps n p h) ∙ pair_snoc g (take n ps) p i

pub rooms-more : (len : ℕ) (ps : List Pair) (n : ℕ) (p : Pair) → n < length ps → HavePairsRoom len (take n ps) → length p.bytes.now ≡ len
    → HavePairsRoom len (take (n + 1) (set ps n p))
rooms-more len ps n p h all l = subst (HavePairsRoom len) (sym (take_more_set ps n p h))
    (All-append (λ (q : Pair). length q.bytes.now ≡ len) (take n ps) (p ∷ []) all one)
  where
    one : HavePairsRoom len (p ∷ [])
    one zero d lt = l
    one (suc k) d lt = absurd (omega arith)
