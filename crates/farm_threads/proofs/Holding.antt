-- Replies in any order.
use Rattle.std.proofs.Common.{ℕ, ◌≡◌, ◌+◌, ◌<◌, true, List, [], ◌∷◌, ◌++◌, length, arith, refl, sym, ap, ◌∙◌, append_assoc, subst, inl, inr}
use Rattle.std.proofs.Common.{Option, Some, None}
use Rattle.std.specs.Prelude.{IsSome}
use Rattle.std.specs.Option.{is_some}
use Rattle.std.proofs.lemmas.Bool.{cases_eq}
use Rattle.list_members.proofs.Lists.{at_front, at_back}
use Rattle.farm_lanes.proofs.Numbers.{once_le, once_lt}
use Rattle.farm_orders.specs.declared.orders.Order.{Order}
use Rattle.farm_threads.specs.declared.replies.CollectFault.{CollectFault}
use Rattle.farm_threads.specs.declared.replies.CollectFault.TheVariants.{Stranger, Double}
use Rattle.farm_threads.specs.Replies.{Replied, Entry, entry_of}
use Rattle.farm_threads.specs.RunFeeds.{slot_rack}
use Rattle.farm_threads.specs.Boards.{Held, held_at, HasRoom, IsHeldToo, replies_to, AreOneEach, HoldsAll, IsNotHeld, WasNotHeld, HasHeld}
use Rattle.farm_threads.proofs.Progress.{no_some, here}
use Rattle.farm_threads.proofs.Settled.{replies_to-append}

held_there : (b : Held) (rack number : ℕ) (e : Entry) → held_at b rack number ≡ Some e → (r k : ℕ) → (r ≡ rack) × (k ≡ number)
    → held_at b r k ≡ Some e
held_there b rack number e is r k same = ap (λ (i : ℕ). held_at b i k) same.0 ∙ ap (λ (i : ℕ). held_at b rack i) same.1 ∙ is

-- a reply counts at its rack and number
at_place : (r k : ℕ) (x : Replied) → (r ≡ slot_rack x.rack) × (k ≡ x.number) → replies_to r k (x ∷ []) ≡ 1
at_place r k x same = let a = same.0 in let b = same.1 in grind arith

elsewhere : (r k : ℕ) (x : Replied) → ((r ≡ slot_rack x.rack) × (k ≡ x.number) → ⊥) → replies_to r k (x ∷ []) ≡ 0
elsewhere r k x apart =
    elim (cases_eq r (slot_rack x.rack)) [
      | inl a ↦ elim (cases_eq k x.number) [ inl b ↦ absurd (apart (a, b)) | inr b ↦ grind arith ]
      | inr a ↦ grind arith
    ]

-- one reply more
pub holds_more : (racks : List (List (List Order))) (b new : Held) (xs : List Replied) (x : Replied) → HoldsAll b racks xs
    → IsHeldToo b (slot_rack x.rack) x.number (entry_of x) new
    → HoldsAll new racks (xs ++ x ∷ [])
holds_more racks b new xs x was add = record {
  racks_is = add.0 ∙ was.racks_is;
  none = λ r k no.
      let total = replies_to-append r k xs (x ∷ []) in
      elim (here r k (slot_rack x.rack) x.number) [
        | inl same ↦ absurd (let one = at_place r k x same in omega arith)
        | inr apart ↦ add.2 r k apart ∙ was.none r k (let e = elsewhere r k x apart in omega arith)
      ];
  some = λ r k yes.
      let total = replies_to-append r k xs (x ∷ []) in
      elim (here r k (slot_rack x.rack) x.number) [
        | inl same ↦ subst (λ (o : Option Entry). IsSome o)
            (sym (held_there new (slot_rack x.rack) x.number (entry_of x) add.1 r k same)) refl
        | inr apart ↦ subst (λ (o : Option Entry). IsSome o) (sym (add.2 r k apart))
            (was.some r k (let e = elsewhere r k x apart in omega arith))
      ];
  among = λ r k e is.
      elim (here r k (slot_rack x.rack) x.number) [
        | inl same ↦
            (let said : Some (entry_of x) ≡ Some e = sym (held_there new (slot_rack x.rack) x.number (entry_of x) add.1 r k same) ∙ is in
            let same_entry : entry_of x ≡ e = cc in
            (length xs + 0, x, at_back xs (x ∷ []) 0 x refl (length xs + 0) refl, sym same.0, sym same.1, same_entry))
        | inr apart ↦
            (let old = was.among r k e (sym (add.2 r k apart) ∙ is) in
            (old.0, old.1, at_front xs (x ∷ []) old.0 old.1 old.2, old.3, old.4, old.5))
      ];
}

-- the next reply is by a number that was drawn, and the first by it
is_drawn : (count : ℕ → ℕ) (all done rest : List Replied) (x : Replied) → AreOneEach count all → all ≡ done ++ x ∷ rest
    → (x.number < count (slot_rack x.rack)) × (replies_to (slot_rack x.rack) x.number done ≡ 0)
is_drawn count all done rest x each is =
    let total : replies_to (slot_rack x.rack) x.number all
    ≡ replies_to (slot_rack x.rack) x.number done + replies_to (slot_rack x.rack) x.number (x ∷ rest) =
    ap (λ (t : List Replied). replies_to (slot_rack x.rack) x.number t) is
    ∙ replies_to-append (slot_rack x.rack) x.number done (x ∷ rest) in
    let one : replies_to (slot_rack x.rack) x.number (x ∷ []) ≡ 1 = at_place (slot_rack x.rack) x.number x (refl, refl) in
    let just = each (slot_rack x.rack) x.number in
    let most = once_le x.number (count (slot_rack x.rack)) in
    (once_lt x.number (count (slot_rack x.rack)) (omega arith), omega arith)

-- where all numbers that were drawn have room, no reply is refused
never_refused : (racks : List (List (List Order))) (count : ℕ → ℕ) (all done rest : List Replied) (x : Replied) (b : Held)
    (fault : CollectFault) → ((r k : ℕ) → k < count r → HasRoom racks r k) → AreOneEach count all → all ≡ done ++ x ∷ rest
    → HoldsAll b racks done
    → IsNotHeld b x fault → ⊥
never_refused racks count all done rest x b (Stranger back) fits each is was said =
    said.1 (subst (λ (t : List (List (List Order))). HasRoom t (slot_rack x.rack) x.number) (sym was.racks_is)
    (fits (slot_rack x.rack) x.number (is_drawn count all done rest x each is).0))
never_refused racks count all done rest x b (Double back) fits each is was said =
    no_some (subst (λ (o : Option Entry). IsSome o) (was.none (slot_rack x.rack) x.number
    (is_drawn count all done rest x each is).1) said.2)

-- a reply was refused, and what came after it was let go
pub refused_stays : (racks : List (List (List Order))) (b : Held) (fault : CollectFault) (xs : List Replied) (y : Replied)
    → WasNotHeld racks b fault xs → WasNotHeld racks b fault (xs ++ y ∷ [])
refused_stays racks b fault xs y was = record {
  done = was.done;
  reply = was.reply;
  rest = was.rest ++ y ∷ [];
  is = ap (λ (t : List Replied). t ++ y ∷ []) was.is ∙ append_assoc was.done (was.reply ∷ was.rest) (y ∷ []);
  gathered = was.gathered;
  refused = was.refused;
}

-- so nothing is kept
pub nothing_kept : (racks : List (List (List Order))) (count : ℕ → ℕ) (b : Held) (fault : Option CollectFault) (xs : List Replied)
    → ((r k : ℕ) → k < count r → HasRoom racks r k) → is_some fault ≡ true → HasHeld racks b fault xs → AreOneEach count xs → ⊥
nothing_kept racks count b None xs fits kept was each = cc
nothing_kept racks count b (Some fault) xs fits kept was each =
    never_refused racks count xs was.done was.rest was.reply b fault fits each was.is was.gathered was.refused

-- all are held
pub all_held : (racks : List (List (List Order))) (count : ℕ → ℕ) (b : Held) (fault : Option CollectFault) (xs : List Replied)
    → ((r k : ℕ) → k < count r → HasRoom racks r k) → HasHeld racks b fault xs → AreOneEach count xs → HoldsAll b racks xs
all_held racks count b None xs fits was each = was
all_held racks count b (Some fault) xs fits was each = absurd
    (never_refused racks count xs was.done was.rest was.reply b fault fits each was.is was.gathered was.refused)
