-- The ends of a new lane.
use Rattle.std.proofs.Common.{◌≡◌, ℕ, zero, suc, ◌+◌, ◌-◌, ◌<◌, List, [], ◌∷◌, ◌++◌, length, refl, sym, ap, ◌∙◌, subst, ⊎_elim, arith}
use mathlib.Core.Option.{some}
use lib.ListN.{get_elem?}
use Rattle.farm_lanes.specs.declared.lane.rule.EndRecord.{EndRecord}
use Rattle.farm_lanes.specs.LaneEnds.{LaneName, PutView, TakeView, new_put, new_take, AreNewPutEnds, AreNewTakeEnds}
use Rattle.farm_lanes.specs.LaneRule.{end_record, empty_lists, puts_rest, puts_first}
use Rattle.list_members.proofs.Lists.{at_snoc_or, more_items, at_front, at_back}

module _ {T : Type 0} where
  first_empty : (s n : ℕ) → 0 < n → puts_first (empty_lists {T = T} s n) ≡ (s, []) ∷ []
  first_empty s zero lt = absurd (omega arith)
  first_empty s (suc n) lt = refl

  rest_empty : (s n m : ℕ) → n ≡ m + 1 → puts_rest (empty_lists {T = T} s n) ≡ empty_lists (s + 1) m
  rest_empty s zero m is = absurd (omega arith)
  rest_empty s (suc n) m is = ap (empty_lists (s + 1)) (let p : n ≡ m = omega arith in p)

  -- the pass that was cut for a put end, and what is left
  pub cut_is : (v r : EndRecord T) (E parts s n : ℕ) → v ≡ end_record E parts (empty_lists s n) [] → 0 < n
      → r ≡ end_record v.ends 1 (puts_first v.puts) [] → r ≡ end_record E 1 ((s, []) ∷ []) []
  cut_is v r E parts s n is lt cut = cut ∙ (ap (λ (u : EndRecord T). end_record u.ends 1 (puts_first u.puts) []) is
      ∙ ap (λ ps. end_record E 1 ps []) (first_empty s n lt))

  pub left_is : (v w : EndRecord T) (E parts s n m parts' : ℕ) → v ≡ end_record E parts (empty_lists s n) [] → n ≡ m + 1
      → parts - 1 ≡ parts' → w ≡ end_record v.ends (v.parts - 1) (puts_rest v.puts) v.taken
      → w ≡ end_record E parts' (empty_lists (s + 1) m) []
  left_is v w E parts s n m parts' is more less cut = cut
      ∙ (ap (λ (u : EndRecord T). end_record u.ends (u.parts - 1) (puts_rest u.puts) u.taken) is
      ∙ (λ i. end_record E (less i) (rest_empty s n m more i) []))

  pub put_ends_more : (lane : LaneName T) (n : ℕ) (old new : List (PutView T)) (e : PutView T) → AreNewPutEnds lane n old
      → new ≡ old ++ e ∷ [] → e ≡ new_put lane n → AreNewPutEnds lane (n + 1) new
  put_ends_more lane n old new e was is this = record {
    count = let a = more_items old new e is in let b = was.count in omega arith;
    each = λ s u at. ⊎_elim (λ w. was.each s u w) (λ (w : (s ≡ length old) × (e ≡ u)). sym w.1
        ∙ (this ∙ ap (new_put lane) (sym (w.0 ∙ was.count)))) (at_snoc_or old e u s (subst (λ l. get_elem? l s ≡ some u) is at));
  }

  pub take_ends_more : (lane : LaneName T) (n : ℕ) (old new : List (TakeView T)) (e : TakeView T) → AreNewTakeEnds lane n old
      → new ≡ old ++ e ∷ [] → e ≡ new_take lane → AreNewTakeEnds lane (n + 1) new
  take_ends_more lane n old new e was is this = record {
    count = let a = more_items old new e is in let b = was.count in omega arith;
    each = λ s u at. ⊎_elim (λ w. was.each s u w) (λ (w : (s ≡ length old) × (e ≡ u)). sym w.1 ∙ this)
        (at_snoc_or old e u s (subst (λ l. get_elem? l s ≡ some u) is at));
  }

  pub cut_take_is : (v r : EndRecord T) (E parts : ℕ) → v ≡ end_record E parts [] [] → r ≡ end_record v.ends 1 [] []
      → r ≡ end_record E 1 [] []
  cut_take_is v r E parts is cut = cut ∙ ap (λ (u : EndRecord T). end_record {T = T} u.ends 1 [] []) is

  pub left_take_is : (v w : EndRecord T) (E parts parts' : ℕ) → v ≡ end_record E parts [] [] → parts - 1 ≡ parts'
      → w ≡ end_record v.ends (v.parts - 1) v.puts v.taken → w ≡ end_record E parts' [] []
  left_take_is v w E parts parts' is less cut = cut ∙ (ap (λ (u : EndRecord T). end_record u.ends (u.parts - 1) u.puts u.taken) is
      ∙ (λ i. end_record {T = T} E (less i) [] []))

  -- the last of new ends, and those before it
  pub popped_put : (lane : LaneName T) (n : ℕ) (all rest : List (PutView T)) (e : PutView T) → AreNewPutEnds lane (n + 1) all
      → all ≡ rest ++ e ∷ [] → (e ≡ new_put lane n) × AreNewPutEnds lane n rest
  popped_put lane n all rest e was is = let count = (let a = more_items rest all e is in let b = was.count in
      let c : length rest ≡ n = omega arith in c) in (
        was.each n e (subst (λ l. get_elem? l n ≡ some e) (sym is) (at_back rest (e ∷ []) 0 e refl n (omega arith))),
        record {
          count = count;
          each = λ s u at. was.each s u
              (subst (λ l. get_elem? l s ≡ some u) (sym is) (at_front rest (e ∷ []) s u at));
        },
      )

  pub popped_take : (lane : LaneName T) (n : ℕ) (all rest : List (TakeView T)) (e : TakeView T) → AreNewTakeEnds lane (n + 1) all
      → all ≡ rest ++ e ∷ [] → (e ≡ new_take lane) × AreNewTakeEnds lane n rest
  popped_take lane n all rest e was is = let count = (let a = more_items rest all e is in let b = was.count in
      let c : length rest ≡ n = omega arith in c) in (
        was.each n e (subst (λ l. get_elem? l n ≡ some e) (sym is) (at_back rest (e ∷ []) 0 e refl n (omega arith))),
        record {
          count = count;
          each = λ s u at. was.each s u
              (subst (λ l. get_elem? l s ≡ some u) (sym is) (at_front rest (e ∷ []) s u at));
        },
      )
