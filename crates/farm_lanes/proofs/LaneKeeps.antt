-- A put and a take keep the lane lawful.
use Rattle.std.proofs.Common.{◌≡◌, ◌≢◌, ℕ, zero, suc, ◌+◌, ◌<◌, ◌≤◌, ◌&&◌, List, [], ◌∷◌, ◌++◌, length, drop, set, refl, sym, ap, ◌∙◌}
use Rattle.std.proofs.Common.{subst, ⊎_elim, arith, nat_eq, cond, length-append}
use Rattle.std.specs.List.{sum_by}
use Rattle.std.proofs.lemmas.List.Sums.{sum_by-append, sum_by-cons}
use mathlib.Core.Option.{some, some-ne-none, some-injective}
use mathlib.Core.Logic.{dite}
use native.Mathlib.Decide.{ℕ_discrete}
use lib.ListN.{get_elem?}
use Rattle.crossbeam_channel.specs.Fifo.{Pushes, Pops}
use Rattle.atomic_table.proofs.Lists.{at_longer}
use Rattle.farm_lanes.specs.declared.lane.item.Item.{Item}
use Rattle.farm_lanes.specs.declared.lane.rule.EndRecord.{EndRecord}
use Rattle.farm_lanes.specs.Counting.{once_below}
use Rattle.farm_lanes.specs.LaneRecord.{sender_of, number_of, from_sender, IsNumbered}
use Rattle.farm_lanes.specs.LaneRule.{lists_of, put_length, put_weight, put_of, put_last, put_on, take_on, IsLawfulEnd, KeepsLane, Puts}
use Rattle.farm_lanes.specs.LaneRule.{Takes}
use Rattle.list_members.specs.Lists.{Each}
use Rattle.farm_lanes.proofs.Items.{sender_snoc_same, sender_snoc_other, sender_cons_same, sender_cons_other, times_snoc, lists_cons}
use Rattle.farm_lanes.proofs.Items.{put_length_cons, put_weight_cons, lists_put_last, lists_here}
use Rattle.farm_lanes.proofs.LaneMeasures.{lists_in, times_in, parts_in, put_in, taken_in, put_weight_in, taken_weight_in, each_set}
use Rattle.list_members.proofs.Lists.{drop_snoc, at_rest, at_snoc_or, each_snoc}
use Rattle.farm_lanes.proofs.Numbers.{once_more, same_test, other_test, test_one, test_le}
use Rattle.farm_lanes.proofs.Sums.{total_set, total_part, total_two}

-- a function changed at one sender
module _ {A : Type 0} where
  changed : (ℕ → A) → ℕ → A → ℕ → A
  changed f s a q = cond (nat_eq q s) a (f q)

  changed_here : (f : ℕ → A) (s : ℕ) (a : A) (q : ℕ) → q ≡ s → changed f s a q ≡ a
  unfolding changed
  changed_here f s a q e = ap (λ b. cond b a (f q)) (same_test s q e)

  changed_else : (f : ℕ → A) (s : ℕ) (a : A) (q : ℕ) → q ≢ s → changed f s a q ≡ f q
  unfolding changed
  changed_else f s a q e = ap (λ b. cond b a (f q)) (other_test s q e)

module _ {T : Type 0} where
  -- what a put asks of the queue
  module _ (x : Item T) (items : List (Item T)) (views : List (EndRecord T)) (h : KeepsLane items views) (id : ℕ) (v : EndRecord T)
      (at : get_elem? views id ≡ some v) (mine : v.puts ≡ (sender_of x, put_of v) ∷ []) (next : number_of x ≡ length (put_of v))
      (part : 0 < v.parts) where
    was_sent : put_of v ≡ h.sent (sender_of x)
    was_sent = (h.each id v at).puts 0 (sender_of x, put_of v) (ap (λ l. get_elem? l 0) mine)

    sent' : ℕ → List (Item T)
    sent' = changed h.sent (sender_of x) (put_of v ++ x ∷ [])

    sent_here : (q : ℕ) → q ≡ sender_of x → sent' q ≡ put_of v ++ x ∷ []
    unfolding sent'
    sent_here q e = changed_here h.sent (sender_of x) (put_of v ++ x ∷ []) q e

    sent_else : (q : ℕ) → q ≢ sender_of x → sent' q ≡ h.sent q
    unfolding sent'
    sent_else q e = changed_else h.sent (sender_of x) (put_of v ++ x ∷ []) q e

    stays_sent : (q i : ℕ) (y : Item T) → get_elem? (h.sent q) i ≡ some y → get_elem? (sent' q) i ≡ some y
    stays_sent q i y e = dite (ℕ_discrete q (sender_of x))
        (λ is. subst (λ l. get_elem? l i ≡ some y) (sym (sent_here q is))
        (at_longer (put_of v) (x ∷ []) i y (subst (λ l. get_elem? l i ≡ some y) (ap h.sent is ∙ sym was_sent) e)))
        (λ no. subst (λ l. get_elem? l i ≡ some y) (sym (sent_else q no)) e)

    one_list : lists_of (sender_of x) v.puts ≡ 1
    one_list = let a = lists_cons (sender_of x) (sender_of x, put_of v) [] in let t = test_one (sender_of x) (sender_of x) refl in
        let z = test_le (sender_of x) (sender_of x) in let m = ap (lists_of (sender_of x)) mine in omega arith

    -- another view has no list of this sender
    not_mine : (j : ℕ) (u : EndRecord T) → j ≢ id → get_elem? views j ≡ some u → (k : ℕ) (p : ℕ × List (Item T))
        → get_elem? u.puts k ≡ some p → p.0 ≢ sender_of x
    not_mine j u apart there k p e same = let a = total_two (lists_in (sender_of x)) views id j v u apart at there in
        let b = h.senders (sender_of x) in let c = subst (λ q. 0 < lists_of q u.puts) same (lists_here u.puts k p e) in
        let o = one_list in absurd (omega arith)

    lawful_other : (j : ℕ) (u : EndRecord T) → j ≢ id → get_elem? views j ≡ some u → IsLawfulEnd h.ends sent' h.prefix u
    lawful_other j u apart there = let law = h.each j u there in record {
      same_ends = law.same_ends;
      idle = law.idle;
      puts = λ k p e. law.puts k p e ∙ sym (sent_else p.0 (not_mine j u apart there k p e));
      taken = λ k y e. let t = law.taken k y e in (t.0, stays_sent (sender_of y) (number_of y) y t.1);
    }

    new_puts : put_last v.puts x ≡ (sender_of x, put_of v ++ x ∷ []) ∷ []
    new_puts = ap (λ ps. put_last ps x) mine

    lawful_mine : IsLawfulEnd h.ends sent' h.prefix (put_on v x)
    lawful_mine = let law = h.each id v at in record {
      same_ends = law.same_ends;
      idle = λ none. absurd (omega arith);
      puts = λ k p e. only k p (subst (λ l. get_elem? l k ≡ some p) new_puts e);
      taken = λ k y e. let t = law.taken k y e in (t.0, stays_sent (sender_of y) (number_of y) y t.1);
    }
      where
        only : (k : ℕ) (p : ℕ × List (Item T)) → get_elem? ((sender_of x, put_of v ++ x ∷ []) ∷ []) k ≡ some p → p.1 ≡ sent' p.0
        only zero p e = let q = some-injective _ _ e in subst (λ (r : ℕ × List (Item T)). r.1 ≡ sent' r.0) q
            (sym (sent_here (sender_of x) refl))
        only (suc k) p e = absurd (some-ne-none p (sym e))

    same_lists : (q : ℕ) → sum_by (lists_in q) (set views id (put_on v x)) ≡ sum_by (lists_in q) views
    same_lists q = let a = total_set (lists_in q) views id v (put_on v x) at in let b = lists_put_last q v.puts x in omega arith

    put_kept : KeepsLane (items ++ x ∷ []) (set views id (put_on v x))
    put_kept = record {
      ends = h.ends;
      sent = sent';
      prefix = h.prefix;
      parts = let a = total_set parts_in views id v (put_on v x) at in let b = h.parts in omega arith;
      each = each_set (IsLawfulEnd h.ends sent' h.prefix) views id (put_on v x) lawful_other lawful_mine;
      senders = λ q. let a = same_lists q in let b = h.senders q in omega arith;
      unsent = λ q none. let a = same_lists q in sent_else q
          (λ is. let b = total_part (lists_in (sender_of x)) views id v at in let o = one_list in
          let c = ap (λ p. sum_by (lists_in p) views) is in absurd (omega arith)) ∙ h.unsent q (omega arith);
      numbered = λ q. numbered_of q;
      held = λ q. held_of q;
      once = λ q i. let a = total_set (times_in q i) views id v (put_on v x) at in let b = h.once q i in omega arith;
      lengths = let a = total_set put_in views id v (put_on v x) at in let b = total_set taken_in views id v (put_on v x) at in
          let c = h.lengths in let d = length-append items (x ∷ []) in let e = longer in omega arith;
      weights = λ g. let a = total_set (put_weight_in g) views id v (put_on v x) at in
          let b = total_set (taken_weight_in g) views id v (put_on v x) at in let c = h.weights g in
          let d = sum_by-append g items (x ∷ []) in
          let d' = sum_by-cons g x [] in let e = heavier g in omega arith;
    }
      where
        longer : put_length (put_last v.puts x) ≡ put_length v.puts + 1
        longer = let a = put_length_cons (sender_of x, put_of v ++ x ∷ []) [] in let b = put_length_cons (sender_of x, put_of v) [] in
            let c = ap put_length new_puts in let d = ap put_length mine in let e = length-append (put_of v) (x ∷ []) in omega arith

        heavier : (g : Item T → ℕ) → put_weight g (put_last v.puts x) ≡ put_weight g v.puts + g x
        heavier g = let a = put_weight_cons g (sender_of x, put_of v ++ x ∷ []) [] in
            let b = put_weight_cons g (sender_of x, put_of v) [] in let c = ap (put_weight g) new_puts in let d = ap (put_weight g) mine in
            let e = sum_by-append g (put_of v) (x ∷ []) in let f = sum_by-cons g x [] in omega arith

        numbered_mine : IsNumbered (sender_of x) (put_of v ++ x ∷ [])
        numbered_mine i y e = ⊎_elim
            (λ old. h.numbered (sender_of x) i y (subst (λ l. get_elem? l i ≡ some y) was_sent old))
            (λ (new : (i ≡ length (put_of v)) × (x ≡ y)). subst (λ (z : Item T). (sender_of z ≡ sender_of x) × (number_of z ≡ i)) new.1
            (refl, next ∙ sym new.0))
            (at_snoc_or (put_of v) x y i e)

        numbered_of : (q : ℕ) → IsNumbered q (sent' q)
        numbered_of q = dite (ℕ_discrete q (sender_of x))
            (λ is. subst (IsNumbered q) (sym (sent_here q is)) (subst (λ p. IsNumbered p (put_of v ++ x ∷ [])) (sym is) numbered_mine))
            (λ no. subst (IsNumbered q) (sym (sent_else q no)) (h.numbered q))

        held_mine : (from_sender (sender_of x) (items ++ x ∷ []) ≡ drop (h.prefix (sender_of x)) (put_of v ++ x ∷ []))
            × (h.prefix (sender_of x) ≤ length (put_of v ++ x ∷ []))
        held_mine =
            let a = h.held (sender_of x) in
            let fit : h.prefix (sender_of x) ≤ length (put_of v) = subst (λ l. h.prefix (sender_of x) ≤ length l) (sym was_sent) a.1 in
            let l = length-append (put_of v) (x ∷ []) in (
              sender_snoc_same (sender_of x) x items refl
                  ∙ (ap (λ r. r ++ x ∷ []) (a.0 ∙ ap (drop (h.prefix (sender_of x))) (sym was_sent))
                  ∙ sym (drop_snoc (h.prefix (sender_of x)) (put_of v) x fit)),
              omega arith,
            )

        held_of : (q : ℕ) → (from_sender q (items ++ x ∷ []) ≡ drop (h.prefix q) (sent' q)) × (h.prefix q ≤ length (sent' q))
        held_of q = dite (ℕ_discrete q (sender_of x))
            (λ is. subst (λ l. (from_sender q (items ++ x ∷ []) ≡ drop (h.prefix q) l) × (h.prefix q ≤ length l)) (sym (sent_here q is))
            (subst (λ p. (from_sender p (items ++ x ∷ []) ≡ drop (h.prefix p) (put_of v ++ x ∷ []))
            × (h.prefix p ≤ length (put_of v ++ x ∷ []))) (sym is) held_mine))
            (λ no. subst (λ l. (from_sender q (items ++ x ∷ []) ≡ drop (h.prefix q) l) × (h.prefix q ≤ length l)) (sym (sent_else q no))
            (sender_snoc_other q x items (λ e. no (sym e)) ∙ (h.held q).0, (h.held q).1))

  pub pushes : (n id : ℕ) (v : EndRecord T) (x : Item T) → v.puts ≡ (sender_of x, put_of v) ∷ [] → number_of x ≡ length (put_of v)
      → 0 < v.parts → Pushes KeepsLane n id v x (Puts v x)
  pushes n id v x mine next part items views room h at = (put_on v x, put_kept x items views h id v at mine next part, refl)

  -- what a take asks of the queue
  module _ (x : Item T) (items : List (Item T)) (views : List (EndRecord T)) (h : KeepsLane (x ∷ items) views) (id : ℕ) (v : EndRecord T)
      (at : get_elem? views id ≡ some v) (part : 0 < v.parts) where
    front : (get_elem? (h.sent (sender_of x)) (h.prefix (sender_of x)) ≡ some x)
        × (drop (suc (h.prefix (sender_of x))) (h.sent (sender_of x)) ≡ from_sender (sender_of x) items)
        × (h.prefix (sender_of x) < length (h.sent (sender_of x)))
    front = at_rest (h.prefix (sender_of x)) (h.sent (sender_of x)) x (from_sender (sender_of x) items)
        (sym (h.held (sender_of x)).0 ∙ sender_cons_same (sender_of x) x items refl)

    number_is : number_of x ≡ h.prefix (sender_of x)
    number_is = (h.numbered (sender_of x) (h.prefix (sender_of x)) x front.0).1

    prefix' : ℕ → ℕ
    prefix' = changed h.prefix (sender_of x) (suc (h.prefix (sender_of x)))

    prefix_here : (q : ℕ) → q ≡ sender_of x → prefix' q ≡ suc (h.prefix (sender_of x))
    unfolding prefix'
    prefix_here q e = changed_here h.prefix (sender_of x) (suc (h.prefix (sender_of x))) q e

    prefix_else : (q : ℕ) → q ≢ sender_of x → prefix' q ≡ h.prefix q
    unfolding prefix'
    prefix_else q e = changed_else h.prefix (sender_of x) (suc (h.prefix (sender_of x))) q e

    grows : (q : ℕ) → h.prefix q ≤ prefix' q
    grows q = dite (ℕ_discrete q (sender_of x)) (λ is. let a = prefix_here q is in let b = ap h.prefix is in omega arith)
        (λ no. let a = prefix_else q no in omega arith)

    lawful_was : (j : ℕ) (u : EndRecord T) → j ≢ id → get_elem? views j ≡ some u → IsLawfulEnd h.ends h.sent prefix' u
    lawful_was j u apart there = let law = h.each j u there in record {
      same_ends = law.same_ends;
      idle = law.idle;
      puts = law.puts;
      taken = λ k y e. let t = law.taken k y e in ((let g = grows (sender_of y) in let l = t.0 in omega arith), t.1);
    }

    lawful_taker : IsLawfulEnd h.ends h.sent prefix' (take_on v x)
    lawful_taker = let law = h.each id v at in record {
      same_ends = law.same_ends;
      idle = λ none. absurd (omega arith);
      puts = law.puts;
      taken = each_snoc (λ y. (number_of y < prefix' (sender_of y)) × (get_elem? (h.sent (sender_of y)) (number_of y) ≡ some y)) v.taken x
          (λ k y e. let t = law.taken k y e in ((let g = grows (sender_of y) in let l = t.0 in omega arith), t.1)) (
            (let a = prefix_here (sender_of x) refl in let b = number_is in omega arith),
            subst
                (λ i. get_elem? (h.sent (sender_of x)) i ≡ some x) (sym number_is) front.0,
          );
    }

    once_here : (q i : ℕ) → once_below i (h.prefix q) + cond (nat_eq (sender_of x) q && nat_eq (number_of x) i) 1 0
        ≡ once_below i (prefix' q)
    once_here q i = dite (ℕ_discrete q (sender_of x))
        (λ is.
        let t = same_test q (sender_of x) (sym is) in
        let a = once_more i (h.prefix (sender_of x)) in
        let b : once_below i (h.prefix q) ≡ once_below i (h.prefix (sender_of x)) = ap (λ p. once_below i (h.prefix p)) is in
        let c : once_below i (prefix' q) ≡ once_below i (h.prefix (sender_of x) + 1) =
        ap (once_below i) (prefix_here q is ∙ (let z : suc (h.prefix (sender_of x)) ≡ h.prefix (sender_of x) + 1 = omega arith in z)) in
        let d : cond (nat_eq (sender_of x) q && nat_eq (number_of x) i) 1 0 ≡ cond (nat_eq (h.prefix (sender_of x)) i) 1 0 + 0 =
        (let y : cond (nat_eq (sender_of x) q && nat_eq (number_of x) i) 1 0 ≡ cond (nat_eq (h.prefix (sender_of x)) i) 1 0 + 0 =
        rw (t, number_is) (omega arith) in y) in
        omega arith)
        (λ no. let t = other_test q (sender_of x) (λ e. no (sym e)) in let a = prefix_else q no in rw (t, a) (omega arith))

    take_kept : KeepsLane items (set views id (take_on v x))
    take_kept = record {
      ends = h.ends;
      sent = h.sent;
      prefix = prefix';
      parts = let a = total_set parts_in views id v (take_on v x) at in let b = h.parts in omega arith;
      each = each_set (IsLawfulEnd h.ends h.sent prefix') views id (take_on v x) lawful_was lawful_taker;
      senders = λ q. let a = total_set (lists_in q) views id v (take_on v x) at in let b = h.senders q in omega arith;
      unsent = λ q none. let a = total_set (lists_in q) views id v (take_on v x) at in h.unsent q (omega arith);
      numbered = h.numbered;
      held = λ q. held_of q;
      once = λ q i. let a = total_set (times_in q i) views id v (take_on v x) at in let b = h.once q i in
          let c = times_snoc q i v.taken x in let d = once_here q i in omega arith;
      lengths = let a = total_set put_in views id v (take_on v x) at in let b = total_set taken_in views id v (take_on v x) at in
          let c = h.lengths in let d = length-append v.taken (x ∷ []) in omega arith;
      weights = λ g. let a = total_set (put_weight_in g) views id v (take_on v x) at in
          let b = total_set (taken_weight_in g) views id v (take_on v x) at in let c = h.weights g in
          let d = sum_by-append g v.taken (x ∷ []) in let d' = sum_by-cons g x [] in let e = sum_by-cons g x items in omega arith;
    }
      where
        held_of : (q : ℕ) → (from_sender q items ≡ drop (prefix' q) (h.sent q)) × (prefix' q ≤ length (h.sent q))
        held_of q = dite (ℕ_discrete q (sender_of x))
            (λ is. subst (λ k. (from_sender q items ≡ drop k (h.sent q)) × (k ≤ length (h.sent q))) (sym (prefix_here q is))
            (subst (λ p. (from_sender p items ≡ drop (suc (h.prefix (sender_of x))) (h.sent p))
            × (suc (h.prefix (sender_of x)) ≤ length (h.sent p))) (sym is) (sym front.1, (let l = front.2 in omega arith))))
            (λ no. subst (λ k. (from_sender q items ≡ drop k (h.sent q)) × (k ≤ length (h.sent q))) (sym (prefix_else q no))
            (sym (sender_cons_other q x items (λ e. no (sym e))) ∙ (h.held q).0, (h.held q).1))

    take_rises : Each (λ y. sender_of y ≡ sender_of x → number_of y < number_of x) v.taken
    take_rises k y e same = let t = (h.each id v at).taken k y e in let a = ap h.prefix same in let b = number_is in
        let c = t.0 in omega arith

  pub pops : (id : ℕ) (v : EndRecord T) → 0 < v.parts → Pops KeepsLane id v (Takes v)
  pops id v part x items views h at = (take_on v x, take_kept x items views h id v at part, (refl, take_rises x items views h id v at part))

  pub pushes_as : (n id : ℕ) (v : EndRecord T) (x : Item T) (u : EndRecord T) (y : Item T) → v ≡ u → x ≡ y
      → u.puts ≡ (sender_of y, put_of u) ∷ [] → number_of y ≡ length (put_of u) → 0 < u.parts → Pushes KeepsLane n id v x (Puts v x)
  pushes_as n id v x u y same kept mine next part =
      let P : EndRecord T × Item T → Type 0 = λ p. Pushes KeepsLane n id p.0 p.1 (Puts p.0 p.1) in
      subst P (λ i. (sym same i, sym kept i)) (pushes n id u y mine next part)

  pub pops_as : (id : ℕ) (v u : EndRecord T) → v ≡ u → 0 < u.parts → Pops KeepsLane id v (Takes v)
  pops_as id v u same part = subst (λ w. Pops KeepsLane id w (Takes w)) (sym same) (pops id u part)
