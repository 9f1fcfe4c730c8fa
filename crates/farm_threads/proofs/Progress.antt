-- A list from an order on, and the reply by a rack and a number.
use Rattle.std.proofs.Common.{ℕ, zero, suc, ◌≡◌, ◌+◌, ◌-◌, ◌<◌, ◌≤◌, ◌⊎◌, List, [], ◌∷◌, length, get_or, drop, arith, sym, ap, ◌∙◌, inl}
use Rattle.std.proofs.Common.{inr, Some, None}
use Rattle.std.specs.Prelude.{IsSome}
use Rattle.std.proofs.lemmas.List.{get_or_default, drop_more, get_or-drop, drop-drop, length-drop, at_drop_all}
use Rattle.std.proofs.lemmas.Bool.{cases_eq}
use Rattle.farm_orders.specs.Orders.{before_close, HasClose}
use Rattle.farm_threads.specs.Replies.{Entry, Collected, reply_at}
use Rattle.farm_orders.specs.declared.orders.Order.{Order}
use Rattle.farm_orders.specs.declared.orders.Order.TheVariants.{Rebuild, Close}
use Rattle.lrc_code.specs.Requests.{Asked}

pub here : (r k rack number : ℕ) → ((r ≡ rack) × (k ≡ number)) ⊎ ((r ≡ rack) × (k ≡ number) → ⊥)
here r k rack number =
    elim (cases_eq r rack) [
      | inl same ↦ elim (cases_eq k number) [ inl too ↦ inl (same, too) | inr apart ↦ inr (λ both. apart both.1) ]
      | inr apart ↦ inr (λ both. apart both.0)
    ]

pub at : (c : Collected) (rack number : ℕ) (e : Entry) → reply_at c rack number ≡ Some e → (r k : ℕ) → (r ≡ rack) × (k ≡ number)
    → reply_at c r k ≡ Some e
at c rack number e is r k same = ap (λ (i : ℕ). reply_at c i k) same.0 ∙ ap (λ (i : ℕ). reply_at c rack i) same.1 ∙ is

pub no_some : IsSome {T = Entry} None → ⊥
no_some h = cc

drop_next : (xs : List Asked) (i : ℕ) (x : Asked) (rest : List Asked) → drop i xs ≡ x ∷ rest → drop (i + 1) xs ≡ rest
drop_next xs i x rest is = sym (drop-drop 1 i xs) ∙ ap (λ (t : List Asked). drop 1 t) is

-- a list from an index on, as long as no close came
pub one_request : (orders : List Order) (i : ℕ) (r : Asked) (d : Order) → i < length orders → get_or orders i d ≡ Rebuild r
    → before_close (drop i orders) ≡ drop i (before_close orders)
    → ((e : Asked) → r ≡ get_or (before_close orders) i e) × (before_close (drop (i + 1) orders) ≡ drop (i + 1) (before_close orders))
one_request orders i r d low is along =
    let step : before_close (drop i orders) ≡ before_close (get_or orders i d ∷ drop (i + 1) orders) =
    ap before_close (drop_more orders i d low) in
    let more : drop i (before_close orders) ≡ r ∷ before_close (drop (i + 1) orders) =
    sym along ∙ step ∙ ap (λ (x : Order). before_close (x ∷ drop (i + 1) orders)) is in (
      (λ e.
          let zero_more : i + 0 ≡ i = omega arith in
          sym (ap (λ (j : ℕ). get_or (before_close orders) j e) (sym zero_more) ∙ sym (get_or-drop i (before_close orders) 0 e)
          ∙ ap (λ (t : List Asked). get_or t 0 e) more)),
      sym (drop_next (before_close orders) i r (before_close (drop (i + 1) orders)) more),
    )

-- there is a close, and fewer are served than there are orders
pub has_close : (orders : List Order) (i : ℕ) (d : Order) → i < length orders → get_or orders i d ≡ Close → HasClose orders
has_close orders i d low is = (i, low, get_or_default orders i Close d low ∙ is)

pub closes_before_end : (orders : List Order) (k : ℕ) → k < length orders → get_or orders k Close ≡ Close
    → length (before_close orders) < length orders
closes_before_end [] k low is = absurd (omega arith)
closes_before_end (Close ∷ orders) k low is = omega arith
closes_before_end (Rebuild r ∷ orders) zero low is = absurd (cc)
closes_before_end (Rebuild r ∷ orders) (suc k) low is = let e = closes_before_end orders k (omega arith) is in omega arith

-- at a close nothing more is served
pub close_here : (orders : List Order) (i : ℕ) (d : Order) → i < length orders → get_or orders i d ≡ Close
    → before_close (drop i orders) ≡ drop i (before_close orders) → length (before_close orders) ≤ i
close_here orders i d low is along =
    let none : drop i (before_close orders) ≡ [] = sym along ∙ ap before_close (drop_more orders i d low)
    ∙ ap (λ (x : Order). before_close (x ∷ drop (i + 1) orders)) is in
    let len : length (before_close orders) - i ≡ 0 = sym (length-drop i (before_close orders)) ∙ ap (λ (t : List Asked). length t) none in
    omega arith

pub end_here : (orders : List Order) (i : ℕ) → length orders ≤ i → before_close (drop i orders) ≡ drop i (before_close orders)
    → length (before_close orders) ≤ i
end_here orders i past along =
    let none : drop i (before_close orders) ≡ [] = sym along ∙ at_drop_all before_close orders i past in
    let len : length (before_close orders) - i ≡ 0 = sym (length-drop i (before_close orders)) ∙ ap (λ (t : List Asked). length t) none in
    omega arith
