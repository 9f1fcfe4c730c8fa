-- A lane begins lawful; cuts, joins and reads keep it so.
use Rattle.std.proofs.Common.{◌≡◌, ◌≢◌, ℕ, zero, suc, ◌+◌, ◌-◌, ◌<◌, ◌≤◌, ◌&&◌, List, [], ◌∷◌, ◌++◌, length, drop, set, refl, sym, ap, ◌∙◌}
use Rattle.std.proofs.Common.{subst, ⊎_elim, arith, nat_eq, cond, length-append}
use Rattle.std.specs.List.{sum_by}
use Rattle.std.proofs.lemmas.List.Sums.{sum_by-append}
use mathlib.Core.Option.{some, some-ne-none, some-injective}
use mathlib.Core.Logic.{dite}
use native.Mathlib.Decide.{ℕ_discrete}
use lib.ListN.{get_elem?}
use Rattle.crossbeam_channel.specs.Fifo.{Forks, Merges, Learns}
use Rattle.atomic_table.proofs.Lists.{at_set, at_snoc}
use Rattle.farm_lanes.specs.declared.lane.item.Item.{Item}
use Rattle.farm_lanes.specs.declared.lane.rule.EndRecord.{EndRecord}
use Rattle.farm_lanes.specs.Counting.{once_below}
use Rattle.farm_lanes.specs.LaneRecord.{sender_of, number_of, times_of, IsNumbered}
use Rattle.farm_lanes.specs.LaneRule.{end_record, lists_of, put_length, put_weight, joined, empty_lists, puts_rest, puts_first, IsLawfulEnd}
use Rattle.farm_lanes.specs.LaneRule.{KeepsLane, Shows}
use Rattle.farm_lanes.proofs.Items.{lists_cons, put_length_cons, put_weight_cons}
use Rattle.farm_lanes.proofs.LaneMeasures.{lists_in, times_in, parts_in, put_in, taken_in, put_weight_in, taken_weight_in, each_set}
use Rattle.farm_lanes.proofs.Numbers.{once_le, once_lt, test_le, test_none}
use Rattle.farm_lanes.proofs.Sums.{total_set, total_snoc, total_two, total_alone}

module _ {T : Type 0} where
  -- a view of a new lane is set up by the first pass, which has all parts
  others_idle : (items : List (Item T)) (views : List (EndRecord T)) (h : KeepsLane items views) (id : ℕ) (v : EndRecord T)
      → get_elem? views id ≡ some v → 0 < v.parts → v.parts ≡ v.ends → (j : ℕ) (u : EndRecord T) → j ≢ id → get_elem? views j ≡ some u
      → u.parts ≡ 0
  others_idle items views h id v at some_part all j u apart there = let a = total_two parts_in views id j v u apart at there in
      let b = h.parts in let c = (h.each id v at).same_ends some_part in omega arith

  -- two views change into two, of which one is new
  each_cut : (P : EndRecord T → Type 0) (views : List (EndRecord T)) (id : ℕ) (l r : EndRecord T)
      → ((j : ℕ) (u : EndRecord T) → j ≢ id → get_elem? views j ≡ some u → P u) → P l → P r → (j : ℕ) (u : EndRecord T)
      → get_elem? (set views id l ++ r ∷ []) j ≡ some u → P u
  each_cut P views id l r others left right j u e = ⊎_elim (λ was. each_set P views id l others left j u was)
      (λ (same : r ≡ u). subst P same right) (at_snoc (set views id l) r u j e)

  both_cut : (f : EndRecord T → ℕ) (views : List (EndRecord T)) (id : ℕ) (v l r : EndRecord T) → get_elem? views id ≡ some v
      → sum_by f (set views id l ++ r ∷ []) + f v ≡ sum_by f views + f l + f r
  both_cut f views id v l r at = let a = total_set f views id v l at in let b = total_snoc f (set views id l) r in omega arith

  -- the parts, the lists and the items of a pass go to two passes
  record Parts (v l r : EndRecord T) : Type 0 where
    some_part : 0 < v.parts
    parts : l.parts + r.parts ≡ v.parts
    ends : (l.ends ≡ v.ends) × (r.ends ≡ v.ends)
    left_idle : l.parts ≡ 0 → (l.puts ≡ []) × (l.taken ≡ [])
    right_idle : r.parts ≡ 0 → (r.puts ≡ []) × (r.taken ≡ [])
    lists : (s : ℕ) → lists_of s l.puts + lists_of s r.puts ≡ lists_of s v.puts
    lengths : put_length l.puts + put_length r.puts ≡ put_length v.puts
    weights : (g : Item T → ℕ) → put_weight g l.puts + put_weight g r.puts ≡ put_weight g v.puts
    left_puts : (k : ℕ) (p : ℕ × List (Item T)) → get_elem? l.puts k ≡ some p → (j : ℕ) × (get_elem? v.puts j ≡ some p)
    right_puts : (k : ℕ) (p : ℕ × List (Item T)) → get_elem? r.puts k ≡ some p → (j : ℕ) × (get_elem? v.puts j ≡ some p)
    left_taken : l.taken ≡ v.taken
    right_taken : r.taken ≡ []

  cuts : (id : ℕ) (v l r : EndRecord T) → Parts v l r → Forks KeepsLane id v l r
  cuts id v l r p items views h at = record {
    ends = h.ends;
    sent = h.sent;
    prefix = h.prefix;
    parts = let a = both_cut parts_in views id v l r at in let b = h.parts in let c = p.parts in omega arith;
    each = each_cut (IsLawfulEnd h.ends h.sent h.prefix) views id l r (λ j u apart there. h.each j u there)
        record {
          same_ends = λ _. p.ends.0 ∙ (h.each id v at).same_ends p.some_part;
          idle = p.left_idle;
          puts = λ k q e. let w = p.left_puts k q e in (h.each id v at).puts w.0 q w.1;
          taken = λ k x e. (h.each id v at).taken k x (subst (λ xs. get_elem? xs k ≡ some x) p.left_taken e);
        }
        record {
          same_ends = λ _. p.ends.1 ∙ (h.each id v at).same_ends p.some_part;
          idle = p.right_idle;
          puts = λ k q e. let w = p.right_puts k q e in (h.each id v at).puts w.0 q w.1;
          taken = λ k x e. absurd (some-ne-none x (sym (subst (λ xs. get_elem? xs k ≡ some x) p.right_taken e)));
        };
    senders = λ s. let a = both_cut (lists_in s) views id v l r at in let b = h.senders s in let c = p.lists s in omega arith;
    unsent = λ s none. let a = both_cut (lists_in s) views id v l r at in let c = p.lists s in h.unsent s (omega arith);
    numbered = h.numbered;
    held = h.held;
    once = λ s i. let a = both_cut (times_in s i) views id v l r at in let b = h.once s i in let c = ap (times_of s i) p.left_taken in
        let d : times_of s i r.taken ≡ 0 = ap (times_of s i) p.right_taken in omega arith;
    lengths = let a = both_cut put_in views id v l r at in let b = both_cut taken_in views id v l r at in let c = h.lengths in
        let d = p.lengths in let e = ap length p.left_taken in let f : length r.taken ≡ 0 = ap length p.right_taken in omega arith;
    weights = λ g. let a = both_cut (put_weight_in g) views id v l r at in let b = both_cut (taken_weight_in g) views id v l r at in
        let c = h.weights g in let d = p.weights g in let e = ap (sum_by g) p.left_taken in
        let f : sum_by g r.taken ≡ 0 = ap (sum_by g) p.right_taken in omega arith;
  }

  pub cut_put : (id : ℕ) (v : EndRecord T) → 1 < v.parts → Forks KeepsLane id v (end_record v.ends (v.parts - 1) (puts_rest v.puts) v.taken)
      (end_record v.ends 1 (puts_first v.puts) [])
  cut_put id v more = cuts id v (end_record v.ends (v.parts - 1) (puts_rest v.puts) v.taken)
      (end_record v.ends 1 (puts_first v.puts) []) record {
        some_part = omega arith;
        parts = omega arith;
        ends = (refl, refl);
        left_idle = λ none. absurd (omega arith);
        right_idle = λ none. absurd (omega arith);
        lists = λ s. split_lists s v.puts;
        lengths = split_lengths v.puts;
        weights = λ g. split_weights g v.puts;
        left_puts = λ k p e. rest_at v.puts k p e;
        right_puts = λ k p e. first_at v.puts k p e;
        left_taken = refl;
        right_taken = refl;
      }
    where
      split_lists : (s : ℕ) (ps : List (ℕ × List (Item T))) → lists_of s (puts_rest ps) + lists_of s (puts_first ps) ≡ lists_of s ps
      split_lists s [] = refl
      split_lists s (p ∷ ps) = let a = lists_cons s p ps in let b = lists_cons s p [] in omega arith

      split_lengths : (ps : List (ℕ × List (Item T))) → put_length (puts_rest ps) + put_length (puts_first ps) ≡ put_length ps
      split_lengths [] = refl
      split_lengths (p ∷ ps) = let a = put_length_cons p ps in let b = put_length_cons p [] in omega arith

      split_weights : (g : Item T → ℕ) (ps : List (ℕ × List (Item T)))
          → put_weight g (puts_rest ps) + put_weight g (puts_first ps) ≡ put_weight g ps
      split_weights g [] = refl
      split_weights g (p ∷ ps) = let a = put_weight_cons g p ps in let b = put_weight_cons g p [] in omega arith

      rest_at : (ps : List (ℕ × List (Item T))) (k : ℕ) (p : ℕ × List (Item T)) → get_elem? (puts_rest ps) k ≡ some p → (j : ℕ)
          × (get_elem? ps j ≡ some p)
      rest_at [] k p e = absurd (some-ne-none p (sym e))
      rest_at (q ∷ ps) k p e = (suc k, e)

      first_at : (ps : List (ℕ × List (Item T))) (k : ℕ) (p : ℕ × List (Item T)) → get_elem? (puts_first ps) k ≡ some p → (j : ℕ)
          × (get_elem? ps j ≡ some p)
      first_at [] k p e = absurd (some-ne-none p (sym e))
      first_at (q ∷ ps) zero p e = (0, e)
      first_at (q ∷ ps) (suc k) p e = absurd (some-ne-none p (sym e))

  pub cut_take : (id : ℕ) (v : EndRecord T) → 0 < v.parts → v.puts ≡ [] → v.taken ≡ []
      → Forks KeepsLane id v (end_record v.ends (v.parts - 1) v.puts v.taken) (end_record v.ends 1 [] [])
  cut_take id v some_part no_puts no_items = cuts id v (end_record v.ends (v.parts - 1) v.puts v.taken) (end_record v.ends 1 [] []) record {
    some_part = some_part;
    parts = omega arith;
    ends = (refl, refl);
    left_idle = λ none. (no_puts, no_items);
    right_idle = λ none. (refl, refl);
    lists = λ s. omega arith;
    lengths = omega arith;
    weights = λ g. omega arith;
    left_puts = λ k p e. (k, e);
    right_puts = λ k p e. absurd (some-ne-none p (sym e));
    left_taken = refl;
    right_taken = refl;
  }

  -- the first pass has all parts, and names the ends and the senders
  pub begins_cut : (id ends putters : ℕ) → 0 < ends → Forks KeepsLane id (end_record {T = T} 1 1 [] [])
      (end_record ends ends (empty_lists 0 putters) []) (end_record 0 0 [] [])
  begins_cut id ends putters some_end items views h at = record {
    ends = ends;
    sent = h.sent;
    prefix = h.prefix;
    parts = let a = both_cut parts_in views id (end_record 1 1 [] []) (end_record ends ends (empty_lists 0 putters) [])
        (end_record 0 0 [] []) at in let b = total_alone parts_in views id (end_record 1 1 [] []) at
        (λ j u apart there. none_else j u apart there) in omega arith;
    each = each_cut (IsLawfulEnd ends h.sent h.prefix) views id (end_record ends ends (empty_lists 0 putters) []) (end_record 0 0 [] [])
        (λ j u apart there. let law = h.each j u there in
        let none = none_else j u apart there in record {
          same_ends = λ some_part. absurd (omega arith);
          idle = law.idle;
          puts = law.puts;
          taken = law.taken;
        })
        record {
          same_ends = λ _. refl;
          idle = λ none. absurd (omega arith);
          puts = λ k p e. blank_at 0 putters k p e ∙ sym (h.unsent p.0 (no_list p.0));
          taken = λ k x e. absurd (some-ne-none x (sym e));
        }
        record {
          same_ends = λ no. absurd (omega arith);
          idle = λ _. (refl, refl);
          puts = λ k p e. absurd (some-ne-none p (sym e));
          taken = λ k x e. absurd (some-ne-none x (sym e));
        };
    senders = λ s. let a = both_cut (lists_in s) views id (end_record 1 1 [] []) (end_record ends ends (empty_lists 0 putters) [])
        (end_record 0 0 [] []) at in let b = no_list s in let c = blank_once 0 putters s in omega arith;
    unsent = λ s _. h.unsent s (no_list s);
    numbered = h.numbered;
    held = h.held;
    once = λ s i. let a = both_cut (times_in s i) views id (end_record 1 1 [] []) (end_record ends ends (empty_lists 0 putters) [])
        (end_record 0 0 [] []) at in let b = h.once s i in omega arith;
    lengths = let a = both_cut put_in views id (end_record 1 1 [] []) (end_record ends ends (empty_lists 0 putters) [])
        (end_record 0 0 [] []) at in let b = both_cut taken_in views id (end_record 1 1 [] [])
        (end_record ends ends (empty_lists 0 putters) []) (end_record 0 0 [] []) at in let c = h.lengths in
        let d = blank_length 0 putters in omega arith;
    weights = λ g. let a = both_cut (put_weight_in g) views id (end_record 1 1 [] []) (end_record ends ends (empty_lists 0 putters) [])
        (end_record 0 0 [] []) at in let b = both_cut (taken_weight_in g) views id (end_record 1 1 [] [])
        (end_record ends ends (empty_lists 0 putters) []) (end_record 0 0 [] []) at in let c = h.weights g in
        let d = blank_weight g 0 putters in omega arith;
  }
    where
      none_else : (j : ℕ) (u : EndRecord T) → j ≢ id → get_elem? views j ≡ some u → u.parts ≡ 0
      none_else j u apart there = others_idle items views h id (end_record 1 1 [] []) at (omega arith) refl j u apart there

      no_list : (s : ℕ) → sum_by (lists_in s) views ≡ 0
      no_list s = total_alone (lists_in s) views id (end_record 1 1 [] []) at
          (λ j u apart there. ap (lists_of s) ((h.each j u there).idle (none_else j u apart there)).0)

      blank_at : (s n k : ℕ) (p : ℕ × List (Item T)) → get_elem? (empty_lists s n) k ≡ some p → p.1 ≡ []
      blank_at s zero k p e = absurd (some-ne-none p (sym e))
      blank_at s (suc n) zero p e = ap (λ (q : ℕ × List (Item T)). q.1) (sym (some-injective _ _ e))
      blank_at s (suc n) (suc k) p e = blank_at (s + 1) n k p e

      blank_none : (s n q : ℕ) → q < s → lists_of q (empty_lists {T = T} s n) ≡ 0
      blank_none s zero q lt = refl
      blank_none s (suc n) q lt = let a = lists_cons q (s, []) (empty_lists {T = T} (s + 1) n) in
          let b = blank_none (s + 1) n q (omega arith) in let c = test_none q s (λ e. omega arith) in omega arith

      blank_once : (s n q : ℕ) → lists_of q (empty_lists {T = T} s n) ≤ 1
      blank_once s zero q = omega arith
      blank_once s (suc n) q = dite (ℕ_discrete s q)
          (λ is. let a = lists_cons q (s, []) (empty_lists {T = T} (s + 1) n) in let b = blank_none (s + 1) n q (omega arith) in
          let c = test_le q s in omega arith)
          (λ no. let a = lists_cons q (s, []) (empty_lists {T = T} (s + 1) n) in let b = blank_once (s + 1) n q in
          let c = test_none q s no in omega arith)

      blank_length : (s n : ℕ) → put_length (empty_lists {T = T} s n) ≡ 0
      blank_length s zero = refl
      blank_length s (suc n) = let a = put_length_cons (s, []) (empty_lists {T = T} (s + 1) n) in
          let b = blank_length (s + 1) n in omega arith

      blank_weight : (g : Item T → ℕ) (s n : ℕ) → put_weight g (empty_lists {T = T} s n) ≡ 0
      blank_weight g s zero = refl
      blank_weight g s (suc n) = let a = put_weight_cons g (s, []) (empty_lists {T = T} (s + 1) n) in
          let b = blank_weight g (s + 1) n in omega arith

  -- two passes become one
  pub joins : (id : ℕ) (v : EndRecord T) (other : ℕ) (u : EndRecord T) → 0 < v.parts
      → Merges KeepsLane id v other u (joined v u) (end_record 0 0 [] [])
  joins id v other u some_part items views h at apart there' = record {
    ends = h.ends;
    sent = h.sent;
    prefix = h.prefix;
    parts = let a = both parts_in in let b = h.parts in omega arith;
    each = each_set (IsLawfulEnd h.ends h.sent h.prefix) (set views id (joined v u)) other (end_record 0 0 [] [])
        (λ j x _ e. each_set (IsLawfulEnd h.ends h.sent h.prefix) views id (joined v u) (λ i y _ d. h.each i y d) lawful_both j x e)
        record {
          same_ends = λ no. absurd (omega arith);
          idle = λ _. (refl, refl);
          puts = λ k p e. absurd (some-ne-none p (sym e));
          taken = λ k x e. absurd (some-ne-none x (sym e));
        };
    senders = λ s. let a = both (lists_in s) in let b = h.senders s in let c = lists_both s in omega arith;
    unsent = λ s none. let a = both (lists_in s) in let c = lists_both s in h.unsent s (omega arith);
    numbered = h.numbered;
    held = h.held;
    once = λ s i. let a = both (times_in s i) in let b = h.once s i in let c = times_both s i in omega arith;
    lengths = let a = both put_in in let b = both taken_in in let c = h.lengths in
        let d = sum_by-append (λ (p : ℕ × List (Item T)). length p.1) v.puts u.puts in let e = length-append v.taken u.taken in omega arith;
    weights = λ g. let a = both (put_weight_in g) in let b = both (taken_weight_in g) in let c = h.weights g in
        let d = sum_by-append (λ (p : ℕ × List (Item T)). sum_by g p.1) v.puts u.puts in
        let e = sum_by-append g v.taken u.taken in omega arith;
  }
    where
      there : get_elem? views other ≡ some u
      there = ⊎_elim (λ (x : (other ≡ id) × (joined v u ≡ u)). absurd (apart x.0))
          (λ (x : (other ≢ id) × (get_elem? views other ≡ some u)). x.1) (at_set views id other (joined v u) u there')

      both : (f : EndRecord T → ℕ) → sum_by f (set (set views id (joined v u)) other (end_record 0 0 [] [])) + f u + f v
          ≡ sum_by f views + f (joined v u) + f (end_record 0 0 [] [])
      both f = let p = total_set f views id v (joined v u) at in
          let q = total_set f (set views id (joined v u)) other u (end_record 0 0 [] []) there' in omega arith

      lists_both : (s : ℕ) → lists_of s (v.puts ++ u.puts) ≡ lists_of s v.puts + lists_of s u.puts
      lists_both s = sum_by-append (λ (p : ℕ × List (Item T)). cond (nat_eq p.0 s) 1 0) v.puts u.puts

      times_both : (s i : ℕ) → times_of s i (v.taken ++ u.taken) ≡ times_of s i v.taken + times_of s i u.taken
      times_both s i = sum_by-append (λ (y : Item T). cond (nat_eq (sender_of y) s && nat_eq (number_of y) i) 1 0) v.taken u.taken

      at_either : {A : Type 0} (P : A → Type 0) (xs ys : List A) → ((k : ℕ) (a : A) → get_elem? xs k ≡ some a → P a)
          → ((k : ℕ) (a : A) → get_elem? ys k ≡ some a → P a) → (k : ℕ) (a : A) → get_elem? (xs ++ ys) k ≡ some a → P a
      at_either P [] ys p q k a e = q k a e
      at_either P (x ∷ xs) ys p q zero a e = p zero a e
      at_either P (x ∷ xs) ys p q (suc k) a e = at_either P xs ys (λ j. p (suc j)) q k a e

      lawful_both : IsLawfulEnd h.ends h.sent h.prefix (joined v u)
      lawful_both = let mine = h.each id v at in let theirs = h.each other u there in record {
        same_ends = λ _. mine.same_ends some_part;
        idle = λ none. absurd (omega arith);
        puts = at_either (λ (p : ℕ × List (Item T)). p.1 ≡ h.sent p.0) v.puts u.puts mine.puts theirs.puts;
        taken = at_either (λ (x : Item T). (number_of x < h.prefix (sender_of x))
            × (get_elem? (h.sent (sender_of x)) (number_of x) ≡ some x)) v.taken u.taken mine.taken theirs.taken;
      }

  -- with all parts, the whole is known
  pub shows : (id : ℕ) (v : EndRecord T) → Learns KeepsLane id v (Shows v)
  shows id v items views h at some_part all = record {
    prefix = h.prefix;
    puts = λ k p e. let same = (h.each id v at).puts k p e in
        (subst (λ l. h.prefix p.0 ≤ length l) (sym same) (h.held p.0).1, subst (IsNumbered p.0) (sym same) (h.numbered p.0));
    taken = λ k x e. let t = (h.each id v at).taken k x e in found x t.1;
    once = λ s i. sym (total_alone (times_in s i) views id v at
        (λ j u apart there. ap (times_of s i) ((h.each j u there).idle (none_else j u apart there)).1)) ∙ h.once s i;
    lengths = let a = total_alone put_in views id v at (λ j u apart there. ap put_length
        ((h.each j u there).idle (none_else j u apart there)).0) in
        let b = total_alone taken_in views id v at (λ j u apart there. ap length ((h.each j u there).idle (none_else j u apart there)).1) in
        let c = h.lengths in omega arith;
    weights = λ g. let a = total_alone (put_weight_in g) views id v at
        (λ j u apart there. ap (put_weight g) ((h.each j u there).idle (none_else j u apart there)).0) in
        let b = total_alone (taken_weight_in g) views id v at
        (λ j u apart there. ap (sum_by g) ((h.each j u there).idle (none_else j u apart there)).1) in let c = h.weights g in omega arith;
    held = λ k p e. (h.held p.0).0 ∙ ap (drop (h.prefix p.0)) (sym ((h.each id v at).puts k p e));
  }
    where
      none_else : (j : ℕ) (u : EndRecord T) → j ≢ id → get_elem? views j ≡ some u → u.parts ≡ 0
      none_else j u apart there = others_idle items views h id v at some_part all j u apart there

      -- a sender that has sent has its list in this pass
      list_at : (s : ℕ) (ps : List (ℕ × List (Item T))) → 0 < lists_of s ps → (k : ℕ) × (p : ℕ × List (Item T)) × (get_elem? ps k ≡ some p)
          × (p.0 ≡ s)
      list_at s [] lt = absurd (omega arith)
      list_at s (q ∷ ps) lt = dite (ℕ_discrete q.0 s)
          (λ is. (0, q, refl, is))
          (λ no. let a = lists_cons s q ps in let b = test_none s q.0 no in let r = list_at s ps (omega arith) in (suc r.0, r.1, r.2, r.3))

      found : (x : Item T) → get_elem? (h.sent (sender_of x)) (number_of x) ≡ some x → (k : ℕ) × (p : ℕ × List (Item T))
          × (get_elem? v.puts k ≡ some p) × (p.0 ≡ sender_of x) × (get_elem? p.1 (number_of x) ≡ some x)
      found x e =
          let a = total_alone (lists_in (sender_of x)) views id v at
          (λ j u apart there. ap (lists_of (sender_of x)) ((h.each j u there).idle (none_else j u apart there)).0) in
          let r = list_at (sender_of x) v.puts (some_list (lists_of (sender_of x) v.puts)
          (λ none. some_item (h.sent (sender_of x)) (number_of x) x e (h.unsent (sender_of x) (a ∙ none)))) in (
            r.0,
            r.1,
            r.2,
            r.3,
            subst (λ l. get_elem? l (number_of x) ≡ some x) (sym ((h.each id v at).puts r.0 r.1 r.2 ∙ ap h.sent r.3)) e,
          )
        where
          some_list : (n : ℕ) → (n ≡ 0 → ⊥) → 0 < n
          some_list zero never = absurd (never refl)
          some_list (suc n) never = omega arith

          some_item : (l : List (Item T)) (i : ℕ) (y : Item T) → get_elem? l i ≡ some y → l ≡ [] → ⊥
          some_item l i y e is = some-ne-none y (sym (subst (λ m. get_elem? m i ≡ some y) is e))

  pub begins_as : (id ends putters : ℕ) (v : EndRecord T) → v ≡ end_record 1 1 [] [] → 0 < ends
      → Forks KeepsLane id v (end_record ends ends (empty_lists 0 putters) []) (end_record 0 0 [] [])
  begins_as id ends putters v is some_end = subst (λ w. Forks KeepsLane id w (end_record ends ends (empty_lists 0 putters) [])
      (end_record 0 0 [] [])) (sym is) (begins_cut id ends putters some_end)

  pub begins : KeepsLane [] (end_record {T = T} 1 1 [] [] ∷ [])
  begins = record {
    ends = 1;
    sent = λ _. [];
    prefix = λ _. 0;
    parts = omega arith;
    each = λ k v e. first k v e;
    senders = λ s. omega arith;
    unsent = λ s _. refl;
    numbered = λ s i x e. absurd (some-ne-none x (sym e));
    held = λ s. (refl, omega arith);
    once = λ s i. let a = once_lt i 0 in let b = once_le i 0 in sym (never (once_below i 0) (λ pos. let c = a pos in omega arith));
    lengths = omega arith;
    weights = λ g. omega arith;
  }
    where
      first : (k : ℕ) (v : EndRecord T) → get_elem? (end_record {T = T} 1 1 [] [] ∷ []) k ≡ some v → IsLawfulEnd 1 (λ _. []) (λ _. 0) v
      first zero v e = subst (IsLawfulEnd 1 (λ _. []) (λ _. 0))
          (some-injective _ _ e) record {
            same_ends = λ _. refl;
            idle = λ _. (refl, refl);
            puts = λ k p at. absurd (some-ne-none p (sym at));
            taken = λ k x at. absurd (some-ne-none x (sym at));
          }
      first (suc k) v e = absurd (some-ne-none v (sym e))

      never : (n : ℕ) → (0 < n → ⊥) → n ≡ 0
      never zero h = refl
      never (suc n) h = absurd (h (omega arith))
