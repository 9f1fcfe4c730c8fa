-- Vectors of 32 bytes, lane by lane.
use Rattle.std.proofs.Common.{◌≡◌, ℕ, ◌+◌, ◌*◌, ◌/◌, ◌<◌, ◌^◌, List, length, get_or, replicate, refl, ap, sym, ◌∙◌, subst, arith}
use Rattle.std.proofs.Common.{w8, Fits}
use Rattle.std.specs.Simd.Lanes.{zip2, Each1}
use Rattle.std.proofs.lemmas.Simd.{Each1-get_or, Each1-from_get_or, length-zip2, get_or-zip2, length-replicate, get_or-replicate, swz_l}
use Rattle.std.proofs.lemmas.Simd.{SwzOk, length-swz_l, get_or-swz_l_below, SwzOk-from_below}
use Rattle.std.specs.Simd.Lanes.{pick_l}
use Rattle.std.proofs.Common.{◌%◌, [], ◌∷◌, ◌++◌, true, eqb}
use Rattle.std.proofs.Math.ListN.{get_or-append}
use Rattle.std.proofs.lemmas.Bool.{eqb-true}
use Rattle.std.proofs.lemmas.List.{get_or-map}
use Rattle.lrc_field.specs.Blocks.{HasLanes}
use Rattle.lrc_field.proofs.Shift.{all_below, below_at}

-- two vectors, lane by lane
pub zipped : (f : ℕ → ℕ → ℕ) (a b : List ℕ) → length a ≡ 32 → length b ≡ 32 → HasLanes (zip2 f a b) (λ k. f (get_or a k 0) (get_or b k 0))
zipped f a b la lb = record {
  long = length-zip2 f a b (la ∙ sym lb) ∙ la;
  each = λ k lt. get_or-zip2 f a b k 0 0 0 (omega arith) (omega arith);
}

-- a vector and a number, lane by lane
pub zipped_all : (f : ℕ → ℕ → ℕ) (a : List ℕ) (n : ℕ) → length a ≡ 32 → HasLanes (zip2 f a (replicate 32 n)) (λ k. f (get_or a k 0) n)
zipped_all f a n la = record {
  long = length-zip2 f a (replicate 32 n) (la ∙ sym (length-replicate 32 n)) ∙ la;
  each = λ k lt. get_or-zip2 f a (replicate 32 n) k 0 0 0 (omega arith) (subst (λ m. k < m) (sym (length-replicate 32 n)) lt)
      ∙ ap (f (get_or a k 0)) (get_or-replicate 32 k n 0 lt);
}

-- places within blocks of 16 lanes
pub picks_within : (halves : List ℕ) → length halves ≡ 32 → ((k : ℕ) → k < 32 → get_or halves k 0 < 16) → SwzOk w8 16 32 0 halves
picks_within halves long small = SwzOk-from_below w8 16 2 32 0 halves refl (omega arith)
    (Each1-from_get_or (λ j. j < 16) halves 0 (λ k lt. small k (omega arith)))

-- what a shuffle within blocks of 16 lanes reads
pub picked : (table halves : List ℕ) → length halves ≡ 32 → ((k : ℕ) → k < 32 → get_or halves k 0 < 16)
    → HasLanes (swz_l w8 16 table 0 halves) (λ k. get_or table (16 * (k / 16) + get_or halves k 0) 0)
picked table halves long small = record {
  long = length-swz_l w8 16 table 0 halves ∙ long;
  each = λ k lt.
      let from_first : 0 + k ≡ k = omega arith in
      get_or-swz_l_below w8 16 table 0 halves k (omega arith) (small k lt)
      ∙ ap (λ j. get_or table (16 * (j / 16) + get_or halves k 0) 0) from_first;
}

-- a lane's byte
pub lane_lt : (bytes : List ℕ) → length bytes ≡ 32 → Each1 (Fits w8) bytes → (k : ℕ) → k < 32 → get_or bytes k 0 < 2 ^ 8
lane_lt bytes long fit k lt = (Each1-get_or (Fits w8) bytes k 0 (omega arith) fit).fits

-- sixteen lanes, twice
abbrev twice_of : List ℕ
twice_of = 0 ∷ 1 ∷ 2 ∷ 3 ∷ 4 ∷ 5 ∷ 6 ∷ 7 ∷ 8 ∷ 9 ∷ 10 ∷ 11 ∷ 12 ∷ 13 ∷ 14 ∷ 15 ∷ 0 ∷ 1 ∷ 2 ∷ 3 ∷ 4 ∷ 5 ∷ 6 ∷ 7 ∷ 8 ∷ 9 ∷ 10 ∷ 11 ∷ 12 ∷ 13
    ∷ 14 ∷ 15 ∷ []

twice_at : all_below (λ k. eqb (get_or twice_of k 0) (k % 16)) 32 ≡ true
twice_at = refl

pub lanes_twice : (lanes : List ℕ) → length lanes ≡ 16 → HasLanes (pick_l 0 (lanes ++ lanes) twice_of) (λ k. get_or lanes (k % 16) 0)
lanes_twice lanes long = record {
  long = refl;
  each = λ k lt.
      get_or-map (λ j. get_or (lanes ++ lanes) j 0) twice_of k 0 0 lt
      ∙ ap (λ j. get_or (lanes ++ lanes) j 0) (eqb-true _ _ (below_at (λ k. eqb (get_or twice_of k 0) (k % 16)) 32 k twice_at lt))
      ∙ get_or-append lanes lanes 0 (k % 16) (omega (arith, long));
}

-- the first sixteen of 32 lanes
abbrev front_of : List ℕ
front_of = 0 ∷ 1 ∷ 2 ∷ 3 ∷ 4 ∷ 5 ∷ 6 ∷ 7 ∷ 8 ∷ 9 ∷ 10 ∷ 11 ∷ 12 ∷ 13 ∷ 14 ∷ 15 ∷ []

front_at : all_below (λ k. eqb (get_or front_of k 0) k) 16 ≡ true
front_at = refl

pub lanes_front : (lanes : List ℕ) (k : ℕ) → length lanes ≡ 32 → k < 16
    → get_or (pick_l 0 (lanes ++ lanes) front_of) k 0 ≡ get_or lanes k 0
lanes_front lanes k long lt =
    get_or-map (λ j. get_or (lanes ++ lanes) j 0) front_of k 0 0 lt
    ∙ ap (λ j. get_or (lanes ++ lanes) j 0) (eqb-true _ _ (below_at (λ n. eqb (get_or front_of n 0) n) 16 k front_at lt))
    ∙ get_or-append lanes lanes 0 k (omega (arith, long))
