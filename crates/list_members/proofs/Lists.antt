-- Members of lists, by their indexes.
use Rattle.std.proofs.Common.{◌≡◌, ◌⊎◌, ℕ, zero, suc, ◌+◌, ◌<◌, ◌≤◌, List, [], ◌∷◌, ◌++◌, length, map, drop, refl, sym, ap, ◌∙◌, subst, inl}
use Rattle.std.proofs.Common.{inr, ⊎_elim, arith, length-append}
use Rattle.std.specs.Prelude.{All}
use Rattle.std.specs.List.{sum_by}
use Rattle.std.proofs.lemmas.List.{drop-append-le}
use Rattle.std.proofs.lemmas.List.Sums.{sum_by-cons}
use mathlib.Core.Option.{some, some-ne-none, some-injective}
use lib.ListN.{get_elem?}
use Rattle.list_members.specs.Lists.{Each}

module _ {A : Type 0} where
  pub drop_snoc : (k : ℕ) (xs : List A) (x : A) → k ≤ length xs → drop k (xs ++ x ∷ []) ≡ drop k xs ++ x ∷ []
  drop_snoc k xs x h = drop-append-le k xs (x ∷ []) h

  -- the item where a rest of the list begins
  pub at_rest : (k : ℕ) (xs : List A) (x : A) (ys : List A) → drop k xs ≡ x ∷ ys → (get_elem? xs k ≡ some x) × (drop (suc k) xs ≡ ys)
      × (k < length xs)
  at_rest zero [] x ys e = absurd (cc)
  at_rest (suc k) [] x ys e = absurd (cc)
  at_rest zero (z ∷ zs) x ys e = (ap (λ l. get_elem? l 0) e, ap (λ l. drop 1 l) e, omega arith)
  at_rest (suc k) (z ∷ zs) x ys e = let r = at_rest k zs x ys e in (r.0, r.1, (let l = r.2 in omega arith))

  pub at_below : (xs : List A) (k : ℕ) (x : A) → get_elem? xs k ≡ some x → k < length xs
  at_below [] k x e = absurd (some-ne-none x (sym e))
  at_below (y ∷ ys) zero x e = omega arith
  at_below (y ∷ ys) (suc k) x e = let r = at_below ys k x e in omega arith

  pub at_snoc_or : (xs : List A) (a b : A) (j : ℕ) → get_elem? (xs ++ a ∷ []) j ≡ some b → (get_elem? xs j ≡ some b)
      ⊎ ((j ≡ length xs) × (a ≡ b))
  at_snoc_or [] a b zero e = inr (refl, some-injective a b e)
  at_snoc_or [] a b (suc j) e = absurd (some-ne-none b (sym e))
  at_snoc_or (x ∷ xs) a b zero e = inl e
  at_snoc_or (x ∷ xs) a b (suc j) e = ⊎_elim (λ w. inl w) (λ (w : (j ≡ length xs) × (a ≡ b)). inr ((let p = w.0 in omega arith), w.1))
      (at_snoc_or xs a b j e)

  pub each_snoc : (P : A → Type 0) (xs : List A) (x : A) → Each P xs → P x → Each P (xs ++ x ∷ [])
  each_snoc P xs x all one j y e = ⊎_elim (λ w. all j y w) (λ (w : (j ≡ length xs) × (x ≡ y)). subst P w.1 one) (at_snoc_or xs x y j e)

  pub nil_of : (xs : List A) → length xs ≡ 0 → xs ≡ []
  nil_of [] e = refl
  nil_of (x ∷ xs) e = absurd (omega arith)

  pub at_front : (xs ys : List A) (k : ℕ) (a : A) → get_elem? xs k ≡ some a → get_elem? (xs ++ ys) k ≡ some a
  at_front [] ys k a e = absurd (some-ne-none a (sym e))
  at_front (x ∷ xs) ys zero a e = e
  at_front (x ∷ xs) ys (suc k) a e = at_front xs ys k a e

  pub at_back : (xs ys : List A) (k : ℕ) (a : A) → get_elem? ys k ≡ some a → (j : ℕ) → j ≡ length xs + k → get_elem? (xs ++ ys) j ≡ some a
  at_back [] ys k a e j is = let p : k ≡ j = omega arith in subst (λ i. get_elem? ys i ≡ some a) p e
  at_back (x ∷ xs) ys k a e zero is = absurd (omega arith)
  at_back (x ∷ xs) ys k a e (suc j) is = at_back xs ys k a e j (omega arith)

  pub at_either : (xs ys : List A) (k : ℕ) (a : A) → get_elem? (xs ++ ys) k ≡ some a → ((j : ℕ) × (get_elem? xs j ≡ some a))
      ⊎ ((j : ℕ) × (get_elem? ys j ≡ some a))
  at_either [] ys k a e = inr (k, e)
  at_either (x ∷ xs) ys zero a e = inl (zero, e)
  at_either (x ∷ xs) ys (suc k) a e = ⊎_elim (λ (p : (j : ℕ) × (get_elem? xs j ≡ some a)). inl (suc p.0, p.1)) (λ q. inr q)
      (at_either xs ys k a e)

  pub at_map : {B : Type 0} (f : A → B) (xs : List A) (k : ℕ) (a : A) → get_elem? xs k ≡ some a → get_elem? (map f xs) k ≡ some (f a)
  at_map f [] k a e = absurd (some-ne-none a (sym e))
  at_map f (x ∷ xs) zero a e = ap (λ y. some (f y)) (some-injective x a e)
  at_map f (x ∷ xs) (suc k) a e = at_map f xs k a e

  pub from_map : {B : Type 0} (f : A → B) (xs : List A) (k : ℕ) (b : B) → get_elem? (map f xs) k ≡ some b → (a : A)
      × (get_elem? xs k ≡ some a) × (f a ≡ b)
  from_map f [] k b e = absurd (some-ne-none b (sym e))
  from_map f (x ∷ xs) zero b e = (x, refl, some-injective _ _ e)
  from_map f (x ∷ xs) (suc k) b e = from_map f xs k b e

  pub sum_map : {B : Type 0} (g : B → ℕ) (f : A → B) (xs : List A) → sum_by g (map f xs) ≡ sum_by (λ a. g (f a)) xs
  sum_map g f [] = refl
  sum_map g f (x ∷ xs) = let a = sum_by-cons g (f x) (map f xs) in let b = sum_by-cons (λ a. g (f a)) x xs in
      let c = sum_map g f xs in omega arith

  pub all_last : (P : A → Type 0) (all xs : List A) (x : A) → all ≡ xs ++ x ∷ [] → All P all → P x
  all_last P all xs x is h = last xs (subst (All P) is h)
    where
      last : (ys : List A) → All P (ys ++ x ∷ []) → P x
      last [] h = h zero x (omega arith)
      last (y ∷ ys) h = last ys (λ k d lt. h (suc k) d (omega arith))

  pub all_front : (P : A → Type 0) (all xs : List A) (x : A) → all ≡ xs ++ x ∷ [] → All P all → All P xs
  all_front P all xs x is h = front xs (subst (All P) is h)
    where
      front : (ys : List A) → All P (ys ++ x ∷ []) → All P ys
      front [] h k d lt = absurd (omega arith)
      front (y ∷ ys) h zero d lt = h zero d (omega arith)
      front (y ∷ ys) h (suc k) d lt = front ys (λ j e l. h (suc j) e (omega arith)) k d (omega arith)

  pub more_items : (old new : List A) (x : A) → new ≡ old ++ x ∷ [] → length new ≡ length old + 1
  more_items old new x is = let a = ap length is in let b = length-append old (x ∷ []) in omega arith

  -- the member that was popped is one of them
  pub popped : (all left rest done : List A) (e : A) → all ≡ left ++ done → left ≡ rest ++ e ∷ [] → (k : ℕ) × (get_elem? all k ≡ some e)
  popped all left rest done e is last = (
    length rest + 0,
    subst (λ l. get_elem? l (length rest + 0) ≡ some e) (sym (is ∙ ap (λ l. l ++ done) last))
        (at_front (rest ++ e ∷ []) done (length rest + 0) e (at_back rest (e ∷ []) 0 e refl (length rest + 0) refl)),
  )
