-- Items of one sender.
use Rattle.std.proofs.Common.{◌≡◌, ◌≢◌, ℕ, zero, suc, ◌+◌, ◌<◌, ◌&&◌, List, [], ◌∷◌, ◌++◌, length, append-nil, length-append, false}
use Rattle.std.proofs.Common.{true≢false, refl, sym, ap, ◌∙◌, subst, ⊎_elim, arith, nat_eq, cond}
use Rattle.std.specs.List.{sum_by}
use Rattle.std.proofs.lemmas.List.Sums.{sum_by-cons, sum_by-append}
use mathlib.Core.Option.{some, some-ne-none, some-injective}
use lib.ListN.{get_elem?}
use Rattle.farm_lanes.specs.declared.lane.item.Item.{Item}
use Rattle.farm_lanes.specs.declared.lane.rule.EndRecord.{EndRecord}
use Rattle.farm_lanes.specs.LaneRecord.{sender_of, number_of, from_sender, times_of, Rises, EndsLast, is_end}
use Rattle.farm_lanes.specs.LaneRule.{lists_of, put_length, put_weight, put_of, put_last, first_list, put_on, IsPutRecord}
use Rattle.list_members.specs.Lists.{Each}
use Rattle.farm_lanes.proofs.Numbers.{same_test, other_test, test_one}
use Rattle.list_members.proofs.Lists.{at_below, at_snoc_or}
use Rattle.farm_lanes.proofs.Sums.{total_part}
use Rattle.std.proofs.lemmas.List.Elements.{filter-append}

module _ {T : Type 0} where
  pub sender_snoc_same : (s : ℕ) (x : Item T) (xs : List (Item T)) → sender_of x ≡ s
      → from_sender s (xs ++ x ∷ []) ≡ from_sender s xs ++ x ∷ []
  sender_snoc_same s x xs e = filter-append (λ (y : Item T). nat_eq (sender_of y) s) xs (x ∷ [])
      ∙ ap (λ b. from_sender s xs ++ cond b (x ∷ []) []) (same_test s (sender_of x) e)

  pub sender_snoc_other : (s : ℕ) (x : Item T) (xs : List (Item T)) → sender_of x ≢ s → from_sender s (xs ++ x ∷ []) ≡ from_sender s xs
  sender_snoc_other s x xs e = filter-append (λ (y : Item T). nat_eq (sender_of y) s) xs (x ∷ [])
      ∙ (ap (λ b. from_sender s xs ++ cond b (x ∷ []) []) (other_test s (sender_of x) e) ∙ append-nil (from_sender s xs))

  pub sender_cons_same : (s : ℕ) (x : Item T) (xs : List (Item T)) → sender_of x ≡ s → from_sender s (x ∷ xs) ≡ x ∷ from_sender s xs
  sender_cons_same s x xs e = rw (same_test s (sender_of x) e) refl

  pub sender_cons_other : (s : ℕ) (x : Item T) (xs : List (Item T)) → sender_of x ≢ s → from_sender s (x ∷ xs) ≡ from_sender s xs
  sender_cons_other s x xs e = rw (other_test s (sender_of x) e) refl

  pub times_snoc : (s i : ℕ) (xs : List (Item T)) (x : Item T)
      → times_of s i (xs ++ x ∷ []) ≡ times_of s i xs + cond (nat_eq (sender_of x) s && nat_eq (number_of x) i) 1 0
  times_snoc s i xs x = let p = sum_by-append (λ (y : Item T). cond (nat_eq (sender_of y) s && nat_eq (number_of y) i) 1 0) xs (x ∷ []) in
      let q = sum_by-cons (λ (y : Item T). cond (nat_eq (sender_of y) s && nat_eq (number_of y) i) 1 0) x [] in omega arith

  pub lists_cons : (s : ℕ) (p : ℕ × List (Item T)) (ps : List (ℕ × List (Item T)))
      → lists_of s (p ∷ ps) ≡ cond (nat_eq p.0 s) 1 0 + lists_of s ps
  lists_cons s p ps = sum_by-cons (λ (q : ℕ × List (Item T)). cond (nat_eq q.0 s) 1 0) p ps

  pub put_length_cons : (p : ℕ × List (Item T)) (ps : List (ℕ × List (Item T))) → put_length (p ∷ ps) ≡ length p.1 + put_length ps
  put_length_cons p ps = sum_by-cons (λ (q : ℕ × List (Item T)). length q.1) p ps

  pub put_weight_cons : (g : Item T → ℕ) (p : ℕ × List (Item T)) (ps : List (ℕ × List (Item T)))
      → put_weight g (p ∷ ps) ≡ sum_by g p.1 + put_weight g ps
  put_weight_cons g p ps = sum_by-cons (λ (q : ℕ × List (Item T)). sum_by g q.1) p ps

  pub lists_put_last : (s : ℕ) (ps : List (ℕ × List (Item T))) (x : Item T) → lists_of s (put_last ps x) ≡ lists_of s ps
  lists_put_last s [] x = refl
  lists_put_last s (p ∷ ps) x = let a = lists_cons s (p.0, p.1 ++ x ∷ []) ps in let b = lists_cons s p ps in a ∙ sym b

  -- a list of the sender s is among these
  pub lists_here : (ps : List (ℕ × List (Item T))) (k : ℕ) (p : ℕ × List (Item T)) → get_elem? ps k ≡ some p → 0 < lists_of p.0 ps
  lists_here [] k p e = absurd (some-ne-none p (sym e))
  lists_here (q ∷ ps) zero p e = let a = lists_cons p.0 q ps in
      let t = test_one p.0 q.0 (ap (λ (r : ℕ × List (Item T)). r.0) (some-injective q p e)) in omega arith
  lists_here (q ∷ ps) (suc k) p e = let a = lists_cons p.0 q ps in let r = lists_here ps k p e in omega arith

  pub rises_snoc : (xs : List (Item T)) (x : Item T) → Rises xs → Each (λ y. sender_of y ≡ sender_of x → number_of y < number_of x) xs
      → Rises (xs ++ x ∷ [])
  rises_snoc xs x old new i j y z lt at_y at_z same =
      ⊎_elim
      (λ was_z. ⊎_elim
      (λ was_y. old i j y z lt was_y was_z same)
      (λ (is_y : (i ≡ length xs) × (x ≡ y)). absurd (let p = at_below xs j z was_z in let q = is_y.0 in omega arith))
      (at_snoc_or xs x y i at_y))
      (λ (is_z : (j ≡ length xs) × (x ≡ z)). ⊎_elim
      (λ was_y. subst (λ w. number_of y < number_of w) is_z.1 (new i y was_y (same ∙ ap sender_of (sym is_z.1))))
      (λ (is_y : (i ≡ length xs) × (x ≡ y)). absurd (let p = is_y.0 in let q = is_z.0 in omega arith))
      (at_snoc_or xs x y i at_y))
      (at_snoc_or xs x z j at_z)

  pub ends_last : (xs : List (Item T)) (x : Item T) → Each (λ y. is_end y ≡ false) xs → EndsLast (xs ++ x ∷ [])
  ends_last xs x values i y e last =
      ⊎_elim
      (λ was. absurd (true≢false (sym last ∙ values i y was)))
      (λ (is : (i ≡ length xs) × (x ≡ y)). let p = is.0 in let l = length-append xs (x ∷ []) in omega arith)
      (at_snoc_or xs x y i e)

  -- what a put leaves in the record of its end
  pub after_put : (v w : EndRecord T) (s count : ℕ) (x : Item T) → IsPutRecord s count v → w ≡ put_on v x → IsPutRecord s (count + 1) w
      × (put_of w ≡ put_of v ++ x ∷ [])
  after_put v w s count x was is =
      let q : w.puts ≡ (s, put_of v ++ x ∷ []) ∷ [] = ap (λ (u : EndRecord T). u.puts) is ∙ ap (λ ps. put_last ps x) was.puts in
      let r : put_of w ≡ put_of v ++ x ∷ [] = ap first_list q in (
        record {
          puts = q ∙ ap (λ l. (s, l) ∷ []) (sym r);
          counted = let a = ap length r in let b = length-append (put_of v) (x ∷ []) in let c = was.counted in omega arith;
          parts = ap (λ (u : EndRecord T). u.parts) is ∙ was.parts;
          few = let a = ap (λ (u : EndRecord T). u.ends) is in let b = was.few in omega arith;
          taken = ap (λ (u : EndRecord T). u.taken) is ∙ was.taken;
        },
        r,
      )

  -- an item of the list is in it
  pub times_here : (xs : List (Item T)) (i : ℕ) (y : Item T) → get_elem? xs i ≡ some y → 0 < times_of (sender_of y) (number_of y) xs
  times_here xs i y at = let a = total_part (λ (x : Item T). cond
      (nat_eq (sender_of x) (sender_of y) && nat_eq (number_of x) (number_of y)) 1 0) xs i y at in
      let b = itself (sender_of y) (number_of y) in omega arith
    where
      itself : (s n : ℕ) → 0 < cond (nat_eq s s && nat_eq n n) 1 0
      itself s n = let a = same_test s s refl in let b = same_test n n refl in rw (a, b) (omega arith)
