-- Each step keeps the gate lawful.
use Rattle.std.proofs.Common.{◌≡◌, ◌≢◌, ℕ, zero, suc, ◌+◌, ◌%◌, ◌<◌, ◌≤◌, ◌||◌, List, [], ◌∷◌, ◌++◌, length, set, Bool, true, false}
use Rattle.std.proofs.Common.{true≢false, refl, sym, ap, ◌∙◌, subst, ⊎_elim, arith, cond, length-append, bit_or}
use Rattle.std.specs.List.{sum_by, slice_index}
use Rattle.std.specs.Prelude.{All}
use Rattle.std.proofs.lemmas.Nat.{or_shifted, or_comm, and_or_self}
use lib.Bits.{or_add_and}
use mathlib.Core.Option.{some, some-ne-none}
use lib.ListN.{get_elem?}
use Rattle.atomic_table.specs.Table.{State, Step, Me, Act, keeps, Valid, carried_after, Allows, Splits, Joins, stepped}
use Rattle.atomic_table.proofs.Lists.{at_set, at_snoc, set_again}
use Rattle.farm_lanes.specs.declared.gate.record.SeatRecord.{SeatRecord}
use Rattle.farm_lanes.specs.declared.gate.record.GateSize.{GateSize}
use Rattle.farm_lanes.specs.Counting.{once_below, times}
use Rattle.farm_lanes.specs.GateRecord.{IsLawfulSeat, IsLawful, IsSound}
use Rattle.farm_lanes.specs.GateRule.{closing, late, word_of, KeepsGate, Draws, Closes, Looks}
use Rattle.farm_lanes.specs.SeatChanges.{joined}
use Rattle.list_members.specs.Lists.{Each}
use Rattle.farm_lanes.specs.SeatChanges.{fresh, accepted, refused, without}
use Rattle.farm_lanes.proofs.Numbers.{once_more, once_le, times-append, times-snoc, all_below}
use Rattle.farm_lanes.proofs.Sums.{total_set, total_snoc, total_part, total_two, total_le, total_alone}

-- bit 63
abbrev top : ℕ
top = 9223372036854775808

abbrev share_of : SeatRecord → ℕ
share_of s = s.share

abbrev draws_of : SeatRecord → ℕ
draws_of s = s.draws

abbrev made_of : SeatRecord → ℕ
made_of s = length s.made

abbrev held_of : SeatRecord → ℕ
held_of s = s.held

abbrev used_of : SeatRecord → ℕ
used_of s = s.used

abbrev times_of : ℕ → SeatRecord → ℕ
times_of x s = times x s.numbers

or_top : (b : ℕ) → b < top → bit_or b top ≡ b + top
or_top b h = let e = or_shifted 1 63 b h in let c = or_comm b top in omega arith

or_top_again : (b : ℕ) → b < top → bit_or (b + top) top ≡ b + top
or_top_again b h = let e = or_top b h in let p = or_add_and (bit_or b top) top in let q = and_or_self top b in
    subst (λ n. bit_or n top ≡ n) e (omega arith)

-- one record changes, and each record of the rest satisfies what it did
each_set : (P : SeatRecord → Type 0) (seats : List SeatRecord) (k : ℕ) (w : SeatRecord) → Each P seats → P w → Each P (set seats k w)
each_set P seats k w all mine j u e =
    ⊎_elim
    (λ (x : (j ≡ k) × (w ≡ u)). subst P x.1 mine)
    (λ (x : (j ≢ k) × (get_elem? seats j ≡ some u)). all j u x.1)
    (at_set seats k j w u e)

each_snoc : (P : SeatRecord → Type 0) (seats : List SeatRecord) (w : SeatRecord) → Each P seats → P w → Each P (seats ++ w ∷ [])
each_snoc P seats w all mine j u e = ⊎_elim (λ was. all j u was) (λ (same : w ≡ u). subst P same mine) (at_snoc seats w u j e)

-- all draws fit the shares
draws_fit : (size : GateSize) (closed : Bool) (n : ℕ) (seats : List SeatRecord) → IsLawful size closed n seats
    → sum_by draws_of seats ≤ size.total
draws_fit size closed n seats h = let p = total_le draws_of share_of seats (λ k s e. (h.each k s e).within) in
    let q = h.shares in omega arith

empty_times : (x : ℕ) (xs : List ℕ) → length xs ≡ 0 → times x xs ≡ 0
empty_times x [] e = refl
empty_times x (y ∷ ys) e = absurd (omega arith)

none_made : (xs : List ℕ) → ¬ (0 < length xs) → length xs ≡ 0
none_made [] h = refl
none_made (x ∷ xs) h = absurd (h (omega arith))

-- the seats' numbers
module _ (size : GateSize) (closed : Bool) (n : ℕ) (seats : List SeatRecord) (h : IsLawful size closed n seats) (id : ℕ) (s : SeatRecord)
    (at : get_elem? seats id ≡ some s) where
  times_le : (x : ℕ) → times x s.numbers ≤ once_below x n
  times_le x = let p = total_part (times_of x) seats id s at in let q = h.numbers x in omega arith

  -- where this seat has the whole share, the others have drawn nothing
  others_idle : s.share ≡ size.total → (j : ℕ) (u : SeatRecord) → j ≢ id → get_elem? seats j ≡ some u → u.draws ≡ 0
  others_idle whole j u apart there = let p = total_two share_of seats id j s u apart at there in let q = h.shares in
      let r = (h.each j u there).within in omega arith

  -- what is sound of this seat's record now
  pub sound_now : 0 < size.rights → IsSound size s
  sound_now some_right = record {
    lawful = h.each id s at;
    share_within = let p = total_part share_of seats id s at in let q = h.shares in omega arith;
    distinct = λ x. let p = times_le x in let q = once_le x n in omega arith;
    one_close = let p = total_part made_of seats id s at in one_at_most closed h.one_closer p;
    below = λ k d lt. subst (λ m. All (λ x. x < m) s.numbers) (sym (h.answered id s at k d lt)) (all_below n s.numbers times_le);
    whole = λ whole. (n, (λ x. numbers_all whole x), h.answered id s at);
    closed_by = λ all. closer all;
  }
    where
      one_at_most : (b : Bool) → sum_by made_of seats ≡ cond b 1 0 → made_of s ≤ sum_by made_of seats → made_of s ≤ 1
      one_at_most true e le = omega arith
      one_at_most false e le = omega arith

      numbers_all : s.share ≡ size.total → (x : ℕ) → times x s.numbers ≡ once_below x n
      numbers_all whole x = let p = total_alone (times_of x) seats id s at
          (λ j u apart there. none_of x u (h.each j u there) (others_idle whole j u apart there)) in sym p ∙ h.numbers x
        where
          none_of : (x : ℕ) (u : SeatRecord) → IsLawfulSeat u → u.draws ≡ 0 → times x u.numbers ≡ 0
          none_of x u law idle = empty_times x u.numbers (let p = law.counted in omega arith)

      closer : s.used ≡ size.rights → made_of s ≡ 1
      closer all = by_state closed refl
        where
          others_unused : (j : ℕ) (u : SeatRecord) → j ≢ id → get_elem? seats j ≡ some u → made_of u ≡ 0
          others_unused j u apart there = let p = total_two used_of seats id j s u apart at there in let q = h.rights in
              let m = (h.each j u there).maker in none_made u.made (λ some_made. let r = (m some_made).1 in omega arith)

          by_state : (b : Bool) → closed ≡ b → made_of s ≡ 1
          by_state true e = let p = total_alone made_of seats id s at others_unused in
              let q : sum_by made_of seats ≡ 1 = h.one_closer ∙ ap (λ b. cond b 1 0) e in omega arith
          by_state false e = absurd (let p = ((h.while_open e).1 id s at).1 in omega arith)

-- one seat's record changes, and the others stay
module _ (size : GateSize) (closed : Bool) (n : ℕ) (seats : List SeatRecord) (h : IsLawful size closed n seats) (id : ℕ) (s : SeatRecord)
    (at : get_elem? seats id ≡ some s) where
  draw_accepted : closed ≡ false → s.draws < s.share → IsLawful size closed (n + 1) (set seats id (accepted s n))
  draw_accepted is room = let w = accepted s n in let mine = h.each id s at in let live = h.while_open is in record {
    shares = let p = total_set share_of seats id s w at in let q = h.shares in omega arith;
    each = each_set IsLawfulSeat seats id w h.each record {
      within = omega arith;
      counted = let p = mine.counted in let q = length-append s.numbers (n ∷ []) in omega arith;
      accepted = λ k. let p = mine.accepted k in let q = length-append s.numbers (n ∷ []) in omega arith;
      maker = mine.maker;
    };
    numbers = λ x. let p = total_set (times_of x) seats id s w at in let q = h.numbers x in let r = times-snoc x n s.numbers in
        let o = once_more x n in omega arith;
    while_open = λ _. (
      (let p = total_set draws_of seats id s w at in let q = live.0 in omega arith),
      each_set
          (λ u. (u.knows ≡ false) × (u.used ≡ 0)) seats id w live.1 (live.1 id s at),
    );
    one_closer = let p = total_set made_of seats id s w at in let q = h.one_closer in omega arith;
    answered = each_set (λ u. All (λ m. m ≡ n + 1) u.made) seats id w (λ j u e. no_answers (n + 1) u.made (none_made_open is j u e))
        (no_answers (n + 1) s.made (none_made_open is id s at));
    rights = let p = total_set held_of seats id s w at in let q = total_set used_of seats id s w at in let r = h.rights in omega arith;
  }
    where
      no_answers : (m : ℕ) (xs : List ℕ) → length xs ≡ 0 → All (λ y. y ≡ m) xs
      no_answers m xs e k d lt = absurd (omega arith)

      none_made_open : closed ≡ false → (j : ℕ) (u : SeatRecord) → get_elem? seats j ≡ some u → length u.made ≡ 0
      none_made_open is j u e = let p = total_part made_of seats j u e in
          let q : sum_by made_of seats ≡ 0 = h.one_closer ∙ ap (λ b. cond b 1 0) is in omega arith

  draw_refused : closed ≡ true → s.draws < s.share → IsLawful size closed n (set seats id (refused s))
  draw_refused is room = let w = refused s in let mine = h.each id s at in record {
    shares = let p = total_set share_of seats id s w at in let q = h.shares in omega arith;
    each = each_set IsLawfulSeat seats id w h.each record {
      within = omega arith;
      counted = let p = mine.counted in omega arith;
      accepted = λ k. absurd (true≢false k);
      maker = λ m. (refl, (mine.maker m).1);
    };
    numbers = λ x. let p = total_set (times_of x) seats id s w at in let q = h.numbers x in omega arith;
    while_open = λ no. absurd (true≢false (sym is ∙ no));
    one_closer = let p = total_set made_of seats id s w at in let q = h.one_closer in omega arith;
    answered = each_set (λ u. All (λ m. m ≡ n) u.made) seats id w h.answered (h.answered id s at);
    rights = let p = total_set held_of seats id s w at in let q = total_set used_of seats id s w at in let r = h.rights in omega arith;
  }

  close_late : closed ≡ true → 0 < s.held → IsLawful size closed n (set seats id (late s))
  close_late is right = let w = late s in let mine = h.each id s at in record {
    shares = let p = total_set share_of seats id s w at in let q = h.shares in omega arith;
    each = each_set IsLawfulSeat seats id w h.each record {
      within = mine.within;
      counted = mine.counted;
      accepted = λ k. absurd (true≢false k);
      maker = λ m. (refl, omega arith);
    };
    numbers = λ x. let p = total_set (times_of x) seats id s w at in let q = h.numbers x in omega arith;
    while_open = λ no. absurd (true≢false (sym is ∙ no));
    one_closer = let p = total_set made_of seats id s w at in let q = h.one_closer in omega arith;
    answered = each_set (λ u. All (λ m. m ≡ n) u.made) seats id w h.answered (h.answered id s at);
    rights = let p = total_set held_of seats id s w at in let q = total_set used_of seats id s w at in let r = h.rights in omega arith;
  }

  close_made : closed ≡ false → 0 < s.held → IsLawful size true n (set seats id (closing s n))
  close_made is right = let w = closing s n in let mine = h.each id s at in record {
    shares = let p = total_set share_of seats id s w at in let q = h.shares in omega arith;
    each = each_set IsLawfulSeat seats id w h.each record {
      within = mine.within;
      counted = mine.counted;
      accepted = λ k. absurd (true≢false k);
      maker = λ m. (refl, omega arith);
    };
    numbers = λ x. let p = total_set (times_of x) seats id s w at in let q = h.numbers x in omega arith;
    while_open = λ no. absurd (true≢false no);
    one_closer = let p = total_set made_of seats id s w at in let q : sum_by made_of seats ≡ 0 = h.one_closer ∙ ap (λ b. cond b 1 0) is in
        let l = length-append s.made (n ∷ []) in omega arith;
    answered = each_set (λ u. All (λ m. m ≡ n) u.made) seats id w h.answered (one_answer s.made (h.answered id s at));
    rights = let p = total_set held_of seats id s w at in let q = total_set used_of seats id s w at in let r = h.rights in omega arith;
  }
    where
      one_answer : (xs : List ℕ) → All (λ m. m ≡ n) xs → All (λ m. m ≡ n) (xs ++ n ∷ [])
      one_answer [] all zero d lt = refl
      one_answer [] all (suc k) d lt = absurd (omega arith)
      one_answer (x ∷ xs) all zero d lt = all zero d (omega arith)
      one_answer (x ∷ xs) all (suc k) d lt = one_answer xs (λ j e l. all (suc j) e (omega arith)) k d (omega arith)

set_there : (l : List SeatRecord) (k : ℕ) (v w : SeatRecord) → get_elem? l k ≡ some v → get_elem? (set l k w) k ≡ some w
set_there [] k v w e = absurd (some-ne-none v (sym e))
set_there (x ∷ xs) zero v w e = refl
set_there (x ∷ xs) (suc k) v w e = set_there xs k v w e

-- the word and the record changed together
stays : (size : GateSize) (t : State ℕ SeatRecord) (id : ℕ) (w : SeatRecord) (new d n : ℕ) (closed : Bool) → KeepsGate size t
    → IsLawful size closed n (set t.views id w) → t.words ≡ d ∷ [] → new ≡ word_of closed (sum_by draws_of (set t.views id w))
    → KeepsGate size record { words = set t.words 0 new; homes = t.homes; views = set t.views id w }
stays size t id w new d n closed keep lawful e is = record {
  closed = closed;
  n = n;
  lawful = lawful;
  word = ap (λ l. set l 0 new) e ∙ ap (λ k. k ∷ []) is;
  small = keep.small;
  some_right = keep.some_right;
}

word_at : (words : List ℕ) (d : ℕ) → words ≡ d ∷ [] → slice_index words 0 ≡ d
word_at words d e = ap (λ l. slice_index l 0) e

-- the word of a state
open_word : (size : GateSize) (t : State ℕ SeatRecord) (keep : KeepsGate size t) → keep.closed ≡ false
    → t.words ≡ sum_by draws_of t.views ∷ []
open_word size t keep is = keep.word ∙ ap (λ b. word_of b (sum_by draws_of t.views) ∷ []) is

closed_word : (size : GateSize) (t : State ℕ SeatRecord) (keep : KeepsGate size t) → keep.closed ≡ true
    → t.words ≡ (sum_by draws_of t.views + top) ∷ []
closed_word size t keep is = keep.word ∙ ap (λ b. word_of b (sum_by draws_of t.views) ∷ []) is

few_draws : (size : GateSize) (t : State ℕ SeatRecord) (keep : KeepsGate size t) → sum_by draws_of t.views ≤ 4294967296
few_draws size t keep = let p = draws_fit size keep.closed keep.n t.views keep.lawful in let q = keep.small in omega arith

-- what a draw asks of the table
pub draws : (size : GateSize) (slots id : ℕ) (m : Me ℕ SeatRecord) (st : Step ℕ) → m.0.draws < m.0.share
    → Allows (KeepsGate size) slots id m 0 (λ n. (n + 1) % 18446744073709551616) (Draws size st m)
draws size slots id m st room t keep slots_are at fits = by_state keep.closed refl
  where
    s : SeatRecord
    s = m.0

    by_state : (b : Bool) → keep.closed ≡ b → (w : SeatRecord) × (a : Act ℕ) × Valid t.homes m.1 a
        × KeepsGate size (stepped t 0 ((slice_index t.words 0 + 1) % 18446744073709551616) id m.1 w a)
        × Draws size st m (slice_index t.words 0) (w, carried_after m.1 a)
    by_state false is =
        let h = keep.lawful in
        let live = h.while_open is in
        let d : ℕ = sum_by draws_of t.views in
        let e : t.words ≡ d ∷ [] = open_word size t keep is in
        let found : slice_index t.words 0 ≡ d = word_at t.words d e in
        let n : ℕ = keep.n in
        let given : d ≡ n = sym live.0 in
        let few = few_draws size t keep in
        let w = accepted m.0 (slice_index t.words 0) in
        let same : slice_index t.words 0 ≡ n = found ∙ given in
        let lawful : IsLawful size keep.closed (n + 1) (set t.views id w) =
        subst (λ k. IsLawful size keep.closed (n + 1) (set t.views id (accepted m.0 k))) (sym same)
        (draw_accepted size keep.closed n t.views h id m.0 at is room) in
        let more : sum_by draws_of (set t.views id w) ≡ d + 1 = let p = total_set draws_of t.views id m.0 w at in omega arith in
        let there = set_there t.views id m.0 w at in (
          w,
          keeps,
          tt,
          stays size t id w ((slice_index t.words 0 + 1) % 18446744073709551616) d (n + 1) keep.closed keep lawful e
              (subst (λ b. (slice_index t.words 0 + 1) % 18446744073709551616 ≡ word_of b (sum_by draws_of (set t.views id w))) (sym is)
              (omega arith)),
          (
            refl,
            record {
              given = λ _. (
                refl,
                (live.1 id m.0 at).0,
                subst (λ k. All (λ x. x < k) m.0.numbers) (sym same)
                    (all_below n m.0.numbers (times_le size keep.closed n t.views h id m.0 at)),
                λ whole. lone whole,
              );
              shut = λ no. absurd (omega arith);
              sound = sound_now size keep.closed (n + 1) (set t.views id w) lawful id w there keep.some_right;
            },
          ),
        )
      where
        lone : m.0.share ≡ size.total → slice_index t.words 0 ≡ length m.0.numbers
        lone whole =
            let h = keep.lawful in
            let found = word_at t.words (sum_by draws_of t.views) (open_word size t keep is) in
            let p = total_alone draws_of t.views id m.0 at
            (λ j u apart there. others_idle size keep.closed keep.n t.views h id m.0 at whole j u apart there) in
            let q = (h.each id m.0 at).accepted ((h.while_open is).1 id m.0 at).0 in omega arith
    by_state true is =
        let h = keep.lawful in
        let d : ℕ = sum_by draws_of t.views in
        let e : t.words ≡ (d + top) ∷ [] = closed_word size t keep is in
        let found : slice_index t.words 0 ≡ d + top = word_at t.words (d + top) e in
        let few = few_draws size t keep in
        let w = refused m.0 in
        let lawful = draw_refused size keep.closed keep.n t.views h id m.0 at is room in
        let more : sum_by draws_of (set t.views id w) ≡ d + 1 = let p = total_set draws_of t.views id m.0 w at in omega arith in
        let there = set_there t.views id m.0 w at in (
          w,
          keeps,
          tt,
          stays size t id w ((slice_index t.words 0 + 1) % 18446744073709551616) (d + top) keep.n keep.closed keep lawful e
              (subst (λ b. (slice_index t.words 0 + 1) % 18446744073709551616 ≡ word_of b (sum_by draws_of (set t.views id w))) (sym is)
              (omega arith)),
          (
            refl,
            record {
              given = λ no. absurd (omega arith);
              shut = λ _. refl;
              sound = sound_now size keep.closed keep.n (set t.views id w) lawful id w there keep.some_right;
            },
          ),
        )

-- what a close asks of the table
pub closes : (size : GateSize) (slots id : ℕ) (m : Me ℕ SeatRecord) (st : Step ℕ) → 0 < m.0.held
    → Allows (KeepsGate size) slots id m 0 (λ n. bit_or n 9223372036854775808) (Closes size st m)
closes size slots id m st right t keep slots_are at fits = by_state keep.closed refl
  where
    by_state : (b : Bool) → keep.closed ≡ b → (w : SeatRecord) × (a : Act ℕ) × Valid t.homes m.1 a
        × KeepsGate size (stepped t 0 (bit_or (slice_index t.words 0) 9223372036854775808) id m.1 w a)
        × Closes size st m (slice_index t.words 0) (w, carried_after m.1 a)
    by_state false is =
        let h = keep.lawful in
        let live = h.while_open is in
        let d : ℕ = sum_by draws_of t.views in
        let e : t.words ≡ d ∷ [] = open_word size t keep is in
        let found : slice_index t.words 0 ≡ d = word_at t.words d e in
        let n : ℕ = keep.n in
        let few = few_draws size t keep in
        let w = closing m.0 (slice_index t.words 0) in
        let same : slice_index t.words 0 ≡ n = found ∙ sym live.0 in
        let lawful : IsLawful size true n (set t.views id w) =
        subst (λ k. IsLawful size true n (set t.views id (closing m.0 k))) (sym same)
        (close_made size keep.closed n t.views h id m.0 at is right) in
        let kept : sum_by draws_of (set t.views id w) ≡ d = let p = total_set draws_of t.views id m.0 w at in omega arith in
        let there = set_there t.views id m.0 w at in
        let o : bit_or (slice_index t.words 0) top ≡ slice_index t.words 0 + top = or_top (slice_index t.words 0) (omega arith) in (
          w,
          keeps,
          tt,
          stays size t id w (bit_or (slice_index t.words 0) 9223372036854775808) d n true keep lawful e (omega arith),
          (
            refl,
            record {
              given = λ _. (refl, (live.1 id m.0 at).0);
              shut = λ no. absurd (omega arith);
              sound = sound_now size true n (set t.views id w) lawful id w there keep.some_right;
            },
          ),
        )
    by_state true is =
        let h = keep.lawful in
        let d : ℕ = sum_by draws_of t.views in
        let e : t.words ≡ (d + top) ∷ [] = closed_word size t keep is in
        let found : slice_index t.words 0 ≡ d + top = word_at t.words (d + top) e in
        let few = few_draws size t keep in
        let w = late m.0 in
        let lawful = close_late size keep.closed keep.n t.views h id m.0 at is right in
        let kept : sum_by draws_of (set t.views id w) ≡ d = let p = total_set draws_of t.views id m.0 w at in omega arith in
        let there = set_there t.views id m.0 w at in
        let o : bit_or (slice_index t.words 0) top ≡ d + top = ap (λ k. bit_or k top) found ∙ or_top_again d (omega arith) in (
          w,
          keeps,
          tt,
          stays size t id w (bit_or (slice_index t.words 0) 9223372036854775808) (d + top) keep.n keep.closed keep lawful e
              (subst (λ b. bit_or (slice_index t.words 0) top ≡ word_of b (sum_by draws_of (set t.views id w))) (sym is) (omega arith)),
          (
            refl,
            record {
              given = λ no. absurd (omega arith);
              shut = λ _. refl;
              sound = sound_now size keep.closed keep.n (set t.views id w) lawful id w there keep.some_right;
            },
          ),
        )

set_same : (l : List SeatRecord) (k : ℕ) (v : SeatRecord) → get_elem? l k ≡ some v → set l k v ≡ l
set_same = set_again

-- what a look asks of the table
pub looks : (size : GateSize) (slots id : ℕ) (m : Me ℕ SeatRecord) (st : Step ℕ)
    → Allows (KeepsGate size) slots id m 0 (λ n. n) (Looks size st m)
looks size slots id m st t keep slots_are at fits =
    let e = keep.word in
    let found = word_at t.words (word_of keep.closed (sum_by draws_of t.views)) e in
    let again = set_same t.views id m.0 at in
    let lawful : IsLawful size keep.closed keep.n (set t.views id m.0) =
    subst (IsLawful size keep.closed keep.n) (sym again) keep.lawful in (
      m.0,
      keeps,
      tt,
      stays size t id m.0 (slice_index t.words 0) (word_of keep.closed (sum_by draws_of t.views)) keep.n keep.closed keep lawful e
          (found ∙ ap (λ l. word_of keep.closed (sum_by draws_of l)) (sym again)),
      (refl, sound_now size keep.closed keep.n t.views keep.lawful id m.0 at keep.some_right),
    )

-- what a cut asks of the table
pub cuts : (size : GateSize) (id : ℕ) (s : SeatRecord) (share held : ℕ) → share + s.draws ≤ s.share → held ≤ s.held
    → Splits (KeepsGate size) id s (without s share held) (fresh share held s.knows)
cuts size id s share held room rights t keep at = record {
  closed = keep.closed;
  n = keep.n;
  lawful = cut;
  word = keep.word ∙ ap (λ d. word_of keep.closed d ∷ [])
      (let p = total_set draws_of t.views id s w at in let q = total_snoc draws_of (set t.views id w) u in omega arith);
  small = keep.small;
  some_right = keep.some_right;
}
  where
    w : SeatRecord
    w = without s share held

    u : SeatRecord
    u = fresh share held s.knows

    h : IsLawful size keep.closed keep.n t.views
    h = keep.lawful

    both : (f : SeatRecord → ℕ) → sum_by f (set t.views id (without s share held) ++ fresh share held s.knows ∷ []) + f s
        ≡ sum_by f t.views + f (without s share held) + f (fresh share held s.knows)
    both f = let p = total_set f t.views id s (without s share held) at in
        let q = total_snoc f (set t.views id (without s share held)) (fresh share held s.knows) in omega arith

    each_cut : (P : SeatRecord → Type 0) → Each P t.views → P (without s share held) → P (fresh share held s.knows)
        → Each P (set t.views id (without s share held) ++ fresh share held s.knows ∷ [])
    each_cut P all left right = each_snoc P (set t.views id (without s share held)) (fresh share held s.knows)
        (each_set P t.views id (without s share held) all left) right

    cut : IsLawful size keep.closed keep.n (set t.views id (without s share held) ++ fresh share held s.knows ∷ [])
    cut = let mine = h.each id s at in record {
      shares = let p = both share_of in let q = h.shares in omega arith;
      each = each_cut IsLawfulSeat h.each record {
        within = omega arith;
        counted = mine.counted;
        accepted = mine.accepted;
        maker = mine.maker;
      } record {
        within = omega arith;
        counted = omega arith;
        accepted = λ _. refl;
        maker = λ no. absurd (omega arith);
      };
      numbers = λ x. let p = both (times_of x) in let q = h.numbers x in omega arith;
      while_open = λ is. let live = h.while_open is in (
        (let p = both draws_of in let q = live.0 in omega arith),
        each_cut
            (λ v. (v.knows ≡ false) × (v.used ≡ 0)) live.1 (live.1 id s at) ((live.1 id s at).0, refl),
      );
      one_closer = let p = both made_of in let q = h.one_closer in omega arith;
      answered = each_cut (λ v. All (λ k. k ≡ keep.n) v.made) h.answered (h.answered id s at) (λ k d lt. absurd (omega arith));
      rights = let p = both held_of in let q = both used_of in let r = h.rights in omega arith;
    }

-- what a join asks of the table
pub joins : (size : GateSize) (id : ℕ) (s : SeatRecord) (other : ℕ) (u : SeatRecord)
    → Joins (KeepsGate size) id s other u (joined s u) (fresh 0 0 false)
joins size id s other u t keep at apart there' = record {
  closed = keep.closed;
  n = keep.n;
  lawful = join;
  word = keep.word ∙ ap (λ d. word_of keep.closed d ∷ []) (let p = both draws_of in omega arith);
  small = keep.small;
  some_right = keep.some_right;
}
  where
    h : IsLawful size keep.closed keep.n t.views
    h = keep.lawful

    there : get_elem? t.views other ≡ some u
    there = ⊎_elim (λ (x : (other ≡ id) × (joined s u ≡ u)). absurd (apart x.0))
        (λ (x : (other ≢ id) × (get_elem? t.views other ≡ some u)). x.1) (at_set t.views id other (joined s u) u there')

    both : (f : SeatRecord → ℕ) → sum_by f (set (set t.views id (joined s u)) other (fresh 0 0 false)) + f u + f s
        ≡ sum_by f t.views + f (joined s u) + f (fresh 0 0 false)
    both f = let p = total_set f t.views id s (joined s u) at in
        let q = total_set f (set t.views id (joined s u)) other u (fresh 0 0 false) there' in omega arith

    each_join : (P : SeatRecord → Type 0) → Each P t.views → P (joined s u) → P (fresh 0 0 false)
        → Each P (set (set t.views id (joined s u)) other (fresh 0 0 false))
    each_join P all left right = each_set P (set t.views id (joined s u)) other (fresh 0 0 false)
        (each_set P t.views id (joined s u) all left) right

    neither : (a b : Bool) → (a || b) ≡ false → (a ≡ false) × (b ≡ false)
    neither true b e = absurd (true≢false e)
    neither false b e = (refl, e)

    knows_left : (a b : Bool) → a ≡ true → (a || b) ≡ true
    knows_left true b e = refl
    knows_left false b e = absurd (true≢false (sym e))

    knows_right : (a b : Bool) → b ≡ true → (a || b) ≡ true
    knows_right true b e = refl
    knows_right false b e = e

    all_append : (n : ℕ) (xs ys : List ℕ) → All (λ k. k ≡ n) xs → All (λ k. k ≡ n) ys → All (λ k. k ≡ n) (xs ++ ys)
    all_append n [] ys p q k d lt = q k d lt
    all_append n (x ∷ xs) ys p q zero d lt = p zero d (omega arith)
    all_append n (x ∷ xs) ys p q (suc k) d lt = all_append n xs ys (λ j e l. p (suc j) e (omega arith)) q k d (omega arith)

    maker_of : (a b : List ℕ) → ((0 < length a) → (s.knows ≡ true) × (0 < s.used)) → ((0 < length b) → (u.knows ≡ true) × (0 < u.used))
        → 0 < length (a ++ b) → ((s.knows || u.knows) ≡ true) × (0 < s.used + u.used)
    maker_of [] b p q lt = let r = q lt in (knows_right s.knows u.knows r.0, (let x = r.1 in omega arith))
    maker_of (y ∷ ys) b p q lt = let r = p (omega arith) in (knows_left s.knows u.knows r.0, (let x = r.1 in omega arith))

    join : IsLawful size keep.closed keep.n (set (set t.views id (joined s u)) other (fresh 0 0 false))
    join = let mine = h.each id s at in let theirs = h.each other u there in record {
      shares = let p = both share_of in let q = h.shares in omega arith;
      each = each_join IsLawfulSeat h.each record {
        within = let p = mine.within in let q = theirs.within in omega arith;
        counted = let p = mine.counted in let q = theirs.counted in let r = length-append s.numbers u.numbers in omega arith;
        accepted = λ k. let b = neither s.knows u.knows k in let p = mine.accepted b.0 in let q = theirs.accepted b.1 in
            let r = length-append s.numbers u.numbers in omega arith;
        maker = maker_of s.made u.made mine.maker theirs.maker;
      } record { within = omega arith; counted = omega arith; accepted = λ _. refl; maker = λ no. absurd (omega arith) };
      numbers = λ x. let p = both (times_of x) in let q = h.numbers x in let r = times-append x s.numbers u.numbers in omega arith;
      while_open = λ is. let live = h.while_open is in
          let a = live.1 id s at in let b = live.1 other u there in (
            (let p = both draws_of in let q = live.0 in omega arith),
            each_join (λ v. (v.knows ≡ false) × (v.used ≡ 0)) live.1
                (ap (λ k. k || u.knows) a.0 ∙ b.0, (let p = a.1 in let q = b.1 in omega arith)) (refl, refl),
          );
      one_closer = let p = both made_of in let q = h.one_closer in let r = length-append s.made u.made in omega arith;
      answered = each_join (λ v. All (λ k. k ≡ keep.n) v.made) h.answered
          (all_append keep.n s.made u.made (h.answered id s at) (h.answered other u there)) (λ k d lt. absurd (omega arith));
      rights = let p = both held_of in let q = both used_of in let r = h.rights in omega arith;
    }
