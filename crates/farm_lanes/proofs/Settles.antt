-- The ends of a lane come together.
use Rattle.std.proofs.Common.{◌≡◌, ℕ, zero, suc, ◌+◌, ◌*◌, ◌<◌, ◌≤◌, ◌&&◌, List, [], ◌∷◌, ◌++◌, length, drop, refl, sym, ap, ◌∙◌, subst}
use Rattle.std.proofs.Common.{⊎_elim, arith, nat_eq, cond, length-append, append-nil, append_assoc}
use Rattle.std.specs.List.{sum_by}
use Rattle.std.specs.Prelude.{min}
use Rattle.std.proofs.lemmas.List.Sums.{sum_by-append, sum_by-cons}
use mathlib.Core.Option.{some, some-ne-none, some-injective}
use lib.ListN.{get_elem?}
use Rattle.farm_lanes.specs.declared.lane.item.Item.{Item}
use Rattle.farm_lanes.specs.declared.lane.rule.EndRecord.{EndRecord}
use Rattle.farm_lanes.specs.LaneRecord.{IsLawful}
use Rattle.farm_lanes.specs.LaneEnds.{counted, LaneName, PutView, TakeView, AreAllEnds, puts_of, takes_of}
use Rattle.farm_lanes.specs.LaneRecord.{sender_of, number_of, from_sender, times_of, IsNumbered, EndsLast, Rises}
use Rattle.farm_lanes.specs.LaneRule.{put_length, put_weight, joined, KnowsWhole}
use Rattle.farm_lanes.specs.LaneSettled.{IsSettled}
use Rattle.list_members.specs.Lists.{Each}
use Rattle.list_members.proofs.Lists.{nil_of, at_front, at_back, at_either, at_map, from_map, sum_map, popped}
use Rattle.farm_lanes.proofs.Items.{times_here}
use Rattle.farm_lanes.proofs.Numbers.{once_lt}
use Rattle.farm_lanes.proofs.Sums.{total_part}

module _ {T : Type 0} where
  abbrev pub pair_of : PutView T → ℕ × List (Item T)
  pair_of e = (e.sender, e.put)

  -- the record of an ended put end
  pub record IsPutRecord (e : PutView T) (v : EndRecord T) : Type 0 where
    pub puts : v.puts ≡ pair_of e ∷ []
    pub taken : v.taken ≡ []
    pub parts : v.parts ≡ 1
    pub last : EndsLast e.put

  -- the record of a take end
  pub record IsTakeRecord (e : TakeView T) (v : EndRecord T) : Type 0 where
    pub puts : v.puts ≡ []
    pub taken : v.taken ≡ e.taken
    pub parts : v.parts ≡ 1
    pub rises : Rises e.taken

  -- the record v has what these ends put and took
  pub record Gathered (ended : List (PutView T)) (takers : List (TakeView T)) (v : EndRecord T) : Type 0 where
    pub puts_in : (k : ℕ) (e : PutView T) → get_elem? ended k ≡ some e → (j : ℕ) × (get_elem? v.puts j ≡ some (pair_of e))
    pub puts_out : (j : ℕ) (p : ℕ × List (Item T)) → get_elem? v.puts j ≡ some p → (k : ℕ) × (e : PutView T) × (get_elem? ended k ≡ some e)
        × (pair_of e ≡ p)
    pub taken_in : (k : ℕ) (e : TakeView T) → get_elem? takers k ≡ some e → Each (λ y. (j : ℕ) × (get_elem? v.taken j ≡ some y)) e.taken
    pub times : (s i : ℕ) → times_of s i v.taken ≡ sum_by (λ (e : TakeView T). times_of s i e.taken) takers
    pub put_sum : put_length v.puts ≡ sum_by (λ (e : PutView T). length e.put) ended
    pub taken_sum : length v.taken ≡ sum_by (λ (e : TakeView T). length e.taken) takers
    pub put_weights : (g : Item T → ℕ) → put_weight g v.puts ≡ sum_by (λ (e : PutView T). sum_by g e.put) ended
    pub taken_weights : (g : Item T → ℕ) → sum_by g v.taken ≡ sum_by (λ (e : TakeView T). sum_by g e.taken) takers
    pub parts : v.parts ≡ length ended + length takers
    pub ends_last : (k : ℕ) (e : PutView T) → get_elem? ended k ≡ some e → EndsLast e.put
    pub rises : (k : ℕ) (e : TakeView T) → get_elem? takers k ≡ some e → Rises e.taken

  pub gather_first : (e : PutView T) (v : EndRecord T) → IsPutRecord e v → Gathered (e ∷ []) [] v
  gather_first e v h = record {
    puts_in = λ k u at. only_in k u at;
    puts_out = λ j p at. only_out j p (subst (λ l. get_elem? l j ≡ some p) h.puts at);
    taken_in = λ k u at. absurd (some-ne-none u (sym at));
    times = λ s i. ap (times_of s i) h.taken;
    put_sum = let a = ap put_length h.puts in let b = sum_by-cons (λ (q : ℕ × List (Item T)). length q.1) (pair_of e) [] in
        let c = sum_by-cons (λ (u : PutView T). length u.put) e [] in omega arith;
    taken_sum = ap length h.taken;
    put_weights = λ g. let a = ap (put_weight g) h.puts in let b = sum_by-cons (λ (q : ℕ × List (Item T)). sum_by g q.1) (pair_of e) [] in
        let c = sum_by-cons (λ (u : PutView T). sum_by g u.put) e [] in omega arith;
    taken_weights = λ g. ap (sum_by g) h.taken;
    parts = omega (arith, h.parts);
    ends_last = λ k u at. only_last k u at;
    rises = λ k u at. absurd (some-ne-none u (sym at));
  }
    where
      only_in : (k : ℕ) (u : PutView T) → get_elem? (e ∷ []) k ≡ some u → (j : ℕ) × (get_elem? v.puts j ≡ some (pair_of u))
      only_in zero u at = (0, ap (λ l. get_elem? l 0) h.puts ∙ ap (λ x. some (pair_of x)) (some-injective _ _ at))
      only_in (suc k) u at = absurd (some-ne-none u (sym at))

      only_out : (j : ℕ) (p : ℕ × List (Item T)) → get_elem? (pair_of e ∷ []) j ≡ some p → (k : ℕ) × (u : PutView T)
          × (get_elem? (e ∷ []) k ≡ some u) × (pair_of u ≡ p)
      only_out zero p at = (0, e, refl, some-injective _ _ at)
      only_out (suc j) p at = absurd (some-ne-none p (sym at))

      only_last : (k : ℕ) (u : PutView T) → get_elem? (e ∷ []) k ≡ some u → EndsLast u.put
      only_last zero u at = subst (λ (x : PutView T). EndsLast x.put) (some-injective _ _ at) h.last
      only_last (suc k) u at = absurd (some-ne-none u (sym at))

  pub gather_put : (ended : List (PutView T)) (takers : List (TakeView T)) (v : EndRecord T) (e : PutView T) (u : EndRecord T)
      → Gathered ended takers v → IsPutRecord e u → Gathered (e ∷ ended) takers (joined v u)
  gather_put ended takers v e u g is = let f = gather_first e u is in record {
    puts_in = λ k x at. now_in k x at;
    puts_out = λ j p at. ⊎_elim
        (λ (w : (i : ℕ) × (get_elem? v.puts i ≡ some p)). let r = g.puts_out w.0 p w.1 in (suc r.0, r.1, r.2, r.3))
        (λ (w : (i : ℕ) × (get_elem? u.puts i ≡ some p)). let r = f.puts_out w.0 p w.1 in later r.0 r.1 r.2 p r.3)
        (at_either v.puts u.puts j p at);
    taken_in = λ k x at i y there. let r = g.taken_in k x at i y there in (r.0, at_front v.taken u.taken r.0 y r.1);
    times = λ s i. let a = g.times s i in let b = sum_by-append
        (λ (y : Item T). cond (nat_eq (sender_of y) s && nat_eq (number_of y) i) 1 0) v.taken u.taken in
        let c : times_of s i u.taken ≡ 0 = ap (times_of s i) is.taken in omega arith;
    put_sum = let a = g.put_sum in let b = sum_by-append (λ (p : ℕ × List (Item T)). length p.1) v.puts u.puts in
        let c = ap put_length is.puts in let d = sum_by-cons (λ (q : ℕ × List (Item T)). length q.1) (pair_of e) [] in
        let h = sum_by-cons (λ (x : PutView T). length x.put) e ended in omega arith;
    taken_sum = let a = g.taken_sum in let b = length-append v.taken u.taken in
        let c : length u.taken ≡ 0 = ap length is.taken in omega arith;
    put_weights = λ w. let a = g.put_weights w in let b = sum_by-append (λ (p : ℕ × List (Item T)). sum_by w p.1) v.puts u.puts in
        let c = ap (put_weight w) is.puts in let d = sum_by-cons (λ (q : ℕ × List (Item T)). sum_by w q.1) (pair_of e) [] in
        let h = sum_by-cons (λ (x : PutView T). sum_by w x.put) e ended in omega arith;
    taken_weights = λ w. let a = g.taken_weights w in let b = sum_by-append w v.taken u.taken in
        let c : sum_by w u.taken ≡ 0 = ap (sum_by w) is.taken in omega arith;
    parts = omega (arith, is.parts, g.parts);
    ends_last = λ k x at. now_last k x at;
    rises = g.rises;
  }
    where
      now_in : (k : ℕ) (x : PutView T) → get_elem? (e ∷ ended) k ≡ some x → (j : ℕ) × (get_elem? (v.puts ++ u.puts) j ≡ some (pair_of x))
      now_in zero x at = (
        length v.puts + 0,
        at_back v.puts u.puts 0 (pair_of x)
            (ap (λ l. get_elem? l 0) is.puts ∙ ap (λ y. some (pair_of y)) (some-injective _ _ at)) (length v.puts + 0) refl,
      )
      now_in (suc k) x at = let r = g.puts_in k x at in (r.0, at_front v.puts u.puts r.0 (pair_of x) r.1)

      later : (k : ℕ) (x : PutView T) → get_elem? (e ∷ []) k ≡ some x → (p : ℕ × List (Item T)) → pair_of x ≡ p → (i : ℕ) × (y : PutView T)
          × (get_elem? (e ∷ ended) i ≡ some y) × (pair_of y ≡ p)
      later zero x at p same = (0, x, at, same)
      later (suc k) x at p same = absurd (some-ne-none x (sym at))

      now_last : (k : ℕ) (x : PutView T) → get_elem? (e ∷ ended) k ≡ some x → EndsLast x.put
      now_last zero x at = subst (λ (y : PutView T). EndsLast y.put) (some-injective _ _ at) is.last
      now_last (suc k) x at = g.ends_last k x at

  pub gather_take : (ended : List (PutView T)) (takers : List (TakeView T)) (v : EndRecord T) (e : TakeView T) (u : EndRecord T)
      → Gathered ended takers v → IsTakeRecord e u → Gathered ended (e ∷ takers) (joined v u)
  gather_take ended takers v e u g is = record {
    puts_in = λ k x at. let r = g.puts_in k x at in (r.0, at_front v.puts u.puts r.0 (pair_of x) r.1);
    puts_out = λ j p at. ⊎_elim
        (λ (w : (i : ℕ) × (get_elem? v.puts i ≡ some p)). g.puts_out w.0 p w.1)
        (λ (w : (i : ℕ) × (get_elem? u.puts i ≡ some p)). absurd (some-ne-none p (sym (subst (λ l. get_elem? l w.0 ≡ some p) is.puts w.1))))
        (at_either v.puts u.puts j p at);
    taken_in = λ k x at. now_taken k x at;
    times = λ s i. let a = g.times s i in let b = sum_by-append
        (λ (y : Item T). cond (nat_eq (sender_of y) s && nat_eq (number_of y) i) 1 0) v.taken u.taken in
        let c = sum_by-cons (λ (x : TakeView T). times_of s i x.taken) e takers in let d = ap (times_of s i) is.taken in omega arith;
    put_sum = let a = g.put_sum in let b = sum_by-append (λ (p : ℕ × List (Item T)). length p.1) v.puts u.puts in
        let c : put_length u.puts ≡ 0 = ap put_length is.puts in omega arith;
    taken_sum = let a = g.taken_sum in let b = length-append v.taken u.taken in
        let c = sum_by-cons (λ (x : TakeView T). length x.taken) e takers in let d = ap length is.taken in omega arith;
    put_weights = λ w. let a = g.put_weights w in let b = sum_by-append (λ (p : ℕ × List (Item T)). sum_by w p.1) v.puts u.puts in
        let c : put_weight w u.puts ≡ 0 = ap (put_weight w) is.puts in omega arith;
    taken_weights = λ w. let a = g.taken_weights w in let b = sum_by-append w v.taken u.taken in
        let c = sum_by-cons (λ (x : TakeView T). sum_by w x.taken) e takers in let d = ap (sum_by w) is.taken in omega arith;
    parts = omega (arith, is.parts, g.parts);
    ends_last = g.ends_last;
    rises = λ k x at. now_rises k x at;
  }
    where
      now_taken : (k : ℕ) (x : TakeView T) → get_elem? (e ∷ takers) k ≡ some x
          → Each (λ y. (j : ℕ) × (get_elem? (v.taken ++ u.taken) j ≡ some y)) x.taken
      now_taken zero x at i y there = (
        length v.taken + i,
        at_back v.taken u.taken i y
            (subst (λ l. get_elem? l i ≡ some y) (sym (is.taken ∙ ap (λ (z : TakeView T). z.taken) (some-injective _ _ at))) there)
            (length v.taken + i) refl,
      )
      now_taken (suc k) x at i y there = let r = g.taken_in k x at i y there in (r.0, at_front v.taken u.taken r.0 y r.1)

      now_rises : (k : ℕ) (x : TakeView T) → get_elem? (e ∷ takers) k ≡ some x → Rises x.taken
      now_rises zero x at = subst (λ (z : TakeView T). Rises z.taken) (some-injective _ _ at) is.rises
      now_rises (suc k) x at = g.rises k x at

  abbrev pub put_sum_of : List (PutView T) → ℕ
  put_sum_of ended = sum_by (λ (e : PutView T). length e.put) ended

  abbrev pub taken_sum_of : List (TakeView T) → ℕ
  taken_sum_of takers = sum_by (λ (e : TakeView T). length e.taken) takers

  -- the lane is settled
  pub settles : (ended : List (PutView T)) (takers : List (TakeView T)) (v : EndRecord T) (items : List (Item T)) → AreAllEnds ended takers
      → Gathered ended takers v → KnowsWhole v items → (put taken : ℕ) → put ≡ put_sum_of ended → taken ≡ taken_sum_of takers
      → IsSettled put taken (puts_of ended) (takes_of takers)
  settles ended takers v items all g whole put taken put_is taken_is = record {
    prefix = whole.prefix;
    lawful = lawful;
    put_is = let a = sum_map {B = List (Item T)} length (λ (e : PutView T). e.put) ended in omega (arith, put_is);
    taken_is = let a = sum_map {B = List (Item T)} length (λ (e : TakeView T). e.taken) takers in omega (arith, taken_is);
    ended = λ t ys at i y there last xs here.
        let u = lawful.unaltered t ys at i y there in
        let same : u.0 ≡ xs = some-injective _ _ (sym u.1 ∙ here) in
        let full = (lawful.within (sender_of y) xs here).2 (number_of y) y
        (subst (λ l. get_elem? l (number_of y) ≡ some y) same u.2) last in
        let low = (lawful.within (sender_of y) xs here).0 in
        let taken_here = taken_below t ys at i y there in
        omega arith;
    all_taken = λ same s xs at. let u = from_map (λ (e : PutView T). e.put) ended s xs at in let w = g.puts_in s u.0 u.1 in
        let t = whole.puts w.0 (pair_of u.0) w.1 in let h = whole.held w.0 (pair_of u.0) w.1 in let sender = (all.each_put s u.0 u.1).1 in
        subst (λ q. whole.prefix q ≡ length xs) sender (subst (λ l. whole.prefix u.0.sender ≡ length l) u.2
        (nothing_left (whole.prefix u.0.sender) u.0.put t.0 (sym h ∙ none_of u.0.sender items (none same))));
    left = items;
    left_is = λ s xs at. let u = from_map (λ (e : PutView T). e.put) ended s xs at in let w = g.puts_in s u.0 u.1 in
        let h = whole.held w.0 (pair_of u.0) w.1 in let sender = (all.each_put s u.0 u.1).1 in
        subst (λ l. from_sender s items ≡ drop (whole.prefix s) l) u.2
        (subst (λ q. from_sender q items ≡ drop (whole.prefix q) u.0.put) sender h);
    weights = λ w. let a = sum_map {B = List (Item T)} (λ xs. sum_by w xs) (λ (e : PutView T). e.put) ended in
        let b = sum_map {B = List (Item T)} (λ xs. sum_by w xs) (λ (e : TakeView T). e.taken) takers in let c = g.put_weights w in
        let d = g.taken_weights w in let t = whole.weights w in omega arith;
    none_left = λ same. nil_of items (none same);
  }
    where
      lawful : IsLawful (puts_of ended) (takes_of takers) whole.prefix
      lawful = record {
        within = λ s xs at. let u = from_map (λ (e : PutView T). e.put) ended s xs at in let w = g.puts_in s u.0 u.1 in
            let t = whole.puts w.0 (pair_of u.0) w.1 in let same = (all.each_put s u.0 u.1).1 in (
              subst (λ l. whole.prefix s ≤ length l) u.2 (subst (λ q. whole.prefix q ≤ length u.0.put) same t.0),
              subst (IsNumbered s) u.2
                  (subst (λ q. IsNumbered q u.0.put) same t.1),
              subst EndsLast u.2 (g.ends_last s u.0 u.1),
            );
        unaltered = λ t ys at i y there. let u = from_map (λ (e : TakeView T). e.taken) takers t ys at in
            let w = g.taken_in t u.0 u.1 i y (subst (λ l. get_elem? l i ≡ some y) (sym u.2) there) in
            let r = whole.taken w.0 y w.1 in
            let o = g.puts_out r.0 r.1 r.2 in
            let same : o.1.sender ≡ sender_of y = ap (λ (p : ℕ × List (Item T)). p.0) o.3 ∙ r.3 in
            let place : o.0 ≡ sender_of y = sym ((all.each_put o.0 o.1 o.2).1) ∙ same in (
              o.1.put,
              subst (λ k. get_elem? (puts_of ended) k ≡ some o.1.put) place (at_map (λ (e : PutView T). e.put) ended o.0 o.1 o.2),
              subst (λ l. get_elem? l (number_of y) ≡ some y) (sym (ap (λ (p : ℕ × List (Item T)). p.1) o.3)) r.4,
            );
        once = λ s i. let a = sum_map (times_of s i) (λ (e : TakeView T). e.taken) takers in let b = g.times s i in
            let c = whole.once s i in omega arith;
        rises = λ t ys at. let u = from_map (λ (e : TakeView T). e.taken) takers t ys at in subst Rises u.2 (g.rises t u.0 u.1);
      }

      -- what was taken is before its sender's prefix
      taken_below : (t : ℕ) (ys : List (Item T)) → get_elem? (takes_of takers) t ≡ some ys → (i : ℕ) (y : Item T) → get_elem? ys i ≡ some y
          → number_of y < whole.prefix (sender_of y)
      taken_below t ys at i y there =
          let a = total_part (times_of (sender_of y) (number_of y)) (takes_of takers) t ys at in
          let b = times_here ys i y there in
          let c = lawful.once (sender_of y) (number_of y) in
          once_lt (number_of y) (whole.prefix (sender_of y)) (omega arith)

      none : taken ≡ put → length items ≡ 0
      none same = let a = g.put_sum in let b = g.taken_sum in let c = whole.lengths in omega (arith, same, put_is, taken_is)

      none_of : (s : ℕ) (xs : List (Item T)) → length xs ≡ 0 → from_sender s xs ≡ []
      none_of s [] e = refl
      none_of s (x ∷ xs) e = absurd (omega arith)

      nothing_left : (k : ℕ) (xs : List (Item T)) → k ≤ length xs → drop k xs ≡ [] → k ≡ length xs
      nothing_left zero [] le e = refl
      nothing_left zero (x ∷ xs) le e = absurd (cc)
      nothing_left (suc k) [] le e = absurd (omega arith)
      nothing_left (suc k) (x ∷ xs) le e = ap suc (nothing_left k xs (omega arith) e)

  -- the ends that were popped, and what came together of them
  pub record Gathering (ended : List (PutView T)) (takers : List (TakeView T)) (left_puts : List (PutView T))
      (left_takes : List (TakeView T)) (v : EndRecord T) (put taken : ℕ) : Type 0 where
    pub done_puts : List (PutView T)
    pub done_takes : List (TakeView T)
    pub puts_are : ended ≡ left_puts ++ done_puts
    pub takes_are : takers ≡ left_takes ++ done_takes
    pub some_done : 0 < length done_puts
    pub gathered : Gathered done_puts done_takes v
    pub put_is : put ≡ put_sum_of done_puts
    pub put_small : put ≤ length done_puts * 4294967296
    pub taken_is : taken ≡ counted (taken_sum_of done_takes)
    pub ends_are : v.ends ≡ length ended + length takers
    pub few : length ended ≤ 65536

  -- what an ended put end counted
  pub record IsPutCount (e : PutView T) (count : ℕ) : Type 0 where
    pub count_is : count ≡ length e.put
    pub small : count ≤ 4294967296

  pub starts : (ended : List (PutView T)) (takers : List (TakeView T)) (rest : List (PutView T)) (e : PutView T) (u : EndRecord T)
      (count : ℕ) → ended ≡ rest ++ e ∷ [] → IsPutRecord e u → IsPutCount e count → u.ends ≡ length ended + length takers → u.ends ≤ 65536
      → Gathering ended takers rest takers u count 0
  starts ended takers rest e u count is h n ends few = record {
    done_puts = e ∷ [];
    done_takes = [];
    puts_are = is;
    takes_are = sym (append-nil takers);
    some_done = omega arith;
    gathered = gather_first e u h;
    put_is = let a = sum_by-cons (λ (x : PutView T). length x.put) e [] in let b = n.count_is in omega arith;
    put_small = let a = n.small in omega arith;
    taken_is = omega arith;
    ends_are = ends;
    few = omega arith;
  }

  pub puts_more : (ended : List (PutView T)) (takers : List (TakeView T)) (left rest : List (PutView T)) (takes : List (TakeView T))
      (e : PutView T) (u v : EndRecord T) (put taken count put' : ℕ) → Gathering ended takers left takes v put taken → left ≡ rest ++ e ∷ []
      → IsPutRecord e u → IsPutCount e count → put' ≡ min (put + count) 18446744073709551615
      → Gathering ended takers rest takes (joined v u) put' taken
  puts_more ended takers left rest takes e u v put taken count put' g is h n sum = record {
    done_puts = e ∷ g.done_puts;
    done_takes = g.done_takes;
    puts_are = g.puts_are ∙ (ap (λ l. l ++ g.done_puts) is ∙ append_assoc rest (e ∷ []) g.done_puts);
    takes_are = g.takes_are;
    some_done = omega arith;
    gathered = gather_put g.done_puts g.done_takes v e u g.gathered h;
    put_is = exact;
    put_small = let a = n.small in let b = g.put_small in omega arith;
    taken_is = g.taken_is;
    ends_are = g.ends_are;
    few = g.few;
  }
    where
      fits : length g.done_puts ≤ 65536
      fits = let a = ap length g.puts_are in let b = length-append left g.done_puts in let c = g.few in omega arith

      exact : put' ≡ put_sum_of (e ∷ g.done_puts)
      exact = let a = sum_by-cons (λ (x : PutView T). length x.put) e g.done_puts in let b = g.put_is in let c = g.put_small in
          let d = n.small in let f = n.count_is in let k = fits in omega arith

  pub takes_more : (ended : List (PutView T)) (takers left rest : List (TakeView T)) (puts : List (PutView T)) (e : TakeView T)
      (u v : EndRecord T) (put taken count taken' : ℕ) → Gathering ended takers puts left v put taken → left ≡ rest ++ e ∷ []
      → IsTakeRecord e u → count ≡ counted (length e.taken) → taken' ≡ min (taken + count) 18446744073709551615
      → Gathering ended takers puts rest (joined v u) put taken'
  takes_more ended takers left rest puts e u v put taken count taken' g is h count_is sum = record {
    done_puts = g.done_puts;
    done_takes = e ∷ g.done_takes;
    puts_are = g.puts_are;
    takes_are = g.takes_are ∙ (ap (λ l. l ++ g.done_takes) is ∙ append_assoc rest (e ∷ []) g.done_takes);
    some_done = g.some_done;
    gathered = gather_take g.done_puts g.done_takes v e u g.gathered h;
    put_is = g.put_is;
    put_small = g.put_small;
    taken_is = let a = sum_by-cons (λ (x : TakeView T). length x.taken) e g.done_takes in let b = g.taken_is in omega arith;
    ends_are = g.ends_are;
    few = g.few;
  }

  pub all_parts : (ended : List (PutView T)) (takers : List (TakeView T)) (v : EndRecord T) (put taken : ℕ)
      → Gathering ended takers [] [] v put taken → (0 < v.parts) × (v.parts ≡ v.ends)
  all_parts ended takers v put taken g = let a = ap length g.puts_are in let b = ap length g.takes_are in let c = g.gathered.parts in
      let d = g.some_done in let e = g.ends_are in (omega arith, omega arith)

  pub some_parts : (ended : List (PutView T)) (takers : List (TakeView T)) (left_puts : List (PutView T)) (left_takes : List (TakeView T))
      (v : EndRecord T) (put taken : ℕ) → Gathering ended takers left_puts left_takes v put taken → 0 < v.parts
  some_parts ended takers left_puts left_takes v put taken g = let a = g.some_done in let b = g.gathered.parts in omega arith

  pub finishes : (ended : List (PutView T)) (takers : List (TakeView T)) (v : EndRecord T) (items : List (Item T)) (put taken : ℕ)
      → AreAllEnds ended takers → Gathering ended takers [] [] v put taken → KnowsWhole v items
      → IsSettled put taken (puts_of ended) (takes_of takers)
  finishes ended takers v items put taken all g whole =
      let G : List (PutView T) × List (TakeView T) → Type 0 = λ p. Gathered p.0 p.1 v in
      let gathered : Gathered ended takers v = subst G (λ i. (sym g.puts_are i, sym g.takes_are i)) g.gathered in
      let put_is : put ≡ put_sum_of ended = g.put_is ∙ ap put_sum_of (sym g.puts_are) in
      let fits : length g.done_puts ≤ 65536 = (let a = ap length g.puts_are in let c = g.few in omega arith) in
      let taken_is : taken ≡ taken_sum_of takers = (let t = ap taken_sum_of (sym g.takes_are) in let a = g.taken_is in
      let b = gathered.put_sum in let c = gathered.taken_sum in let d = whole.lengths in let s = g.put_small in omega arith) in
      settles ended takers v items all gathered whole put taken put_is taken_is

  -- all ends are of this lane
  pub record LanesAre (ended : List (PutView T)) (takers : List (TakeView T)) (lane : LaneName T) : Type 0 where
    pub puts : Each (λ (e : PutView T). e.lane ≡ lane) ended
    pub takes : Each (λ (e : TakeView T). e.lane ≡ lane) takers

  -- the lane of all is that of one
  pub same_lanes : (ended : List (PutView T)) (takers : List (TakeView T)) (all : AreAllEnds ended takers) (rest : List (PutView T))
      (e : PutView T) → ended ≡ rest ++ e ∷ [] → (LanesAre ended takers e.lane) × (e.lane.ends ≡ length ended + length takers)
  same_lanes ended takers all rest e is =
      let p = popped ended ended rest [] e (sym (append-nil ended)) is in
      let same : all.lane ≡ e.lane = sym (all.each_put p.0 e p.1).0 in (
        record { puts = λ k u at. (all.each_put k u at).0 ∙ same; takes = λ k u at. all.each_take k u at ∙ same },
        ap (λ (l : LaneName T). l.ends) (sym same) ∙ sym all.all,
      )
