-- Whether some list of orders has a close.
use Rattle.std.proofs.Common.{◌≡◌, ◌<◌, ◌≤◌, ◌+◌, ◌∙◌, ℕ, zero, suc, List, [], ◌∷◌, length, take, get_or, sym, ap, subst, arith}
use Rattle.std.proofs.lemmas.List.{take_all}
use mathlib.Core.Option.{some, some-ne-none, some-injective}
use lib.ListN.{get_elem?}
use Rattle.farm_core.specs.Merge.{AreOpen, HaveClose}
use Rattle.farm_orders.specs.Orders.{HasClose}
use Rattle.farm_orders.specs.declared.orders.Order.{Order}

at_or : (lists : List (List Order)) (i : ℕ) (x : List Order) → i < length lists → x ≡ get_or lists i x → get_elem? lists i ≡ some x
at_or [] i x within is = absurd (omega (arith, within))
at_or (y ∷ lists) zero x within is = ap some (sym is)
at_or (y ∷ lists) (suc i) x within is = at_or lists i x (omega (arith, within)) is

pub closes_at : (lists : List (List Order)) (i : ℕ) (x : List Order) → i < length lists → x ≡ get_or lists i x → HasClose x
    → HaveClose lists
closes_at lists i x within is has = (i, x, at_or lists i x within is, has)

pub open_more : (lists : List (List Order)) (i j : ℕ) (x : List Order) → j ≡ i + 1 → x ≡ get_or lists i x → AreOpen (take i lists)
    → (HasClose x → ⊥) → AreOpen (take j lists)
open_more lists i zero x is at opened not k l e has = absurd (omega (arith, is))
open_more [] i (suc j) x is at opened not k l e has = absurd (some-ne-none l (sym e))
open_more (y ∷ lists) zero (suc j) x is at opened not zero l e has = not (subst HasClose (sym (at ∙ some-injective y l e)) has)
open_more (y ∷ lists) zero (suc j) x is at opened not (suc k) l e has =
    let none : j ≡ 0 = omega (arith, is) in
    absurd (some-ne-none l (sym (subst (λ (n : ℕ). get_elem? (take n lists) k ≡ some l) none e)))
open_more (y ∷ lists) (suc i) (suc j) x is at opened not zero l e has = opened 0 l e has
open_more (y ∷ lists) (suc i) (suc j) x is at opened not (suc k) l e has =
    open_more lists i j x (omega (arith, is)) at (λ m z f. opened (suc m) z f) not k l e has

pub open_all : (lists : List (List Order)) (i : ℕ) → length lists ≤ i → AreOpen (take i lists) → AreOpen lists
open_all lists i all opened = subst AreOpen (take_all i lists all) opened
