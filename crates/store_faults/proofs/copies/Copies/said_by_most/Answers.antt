use Rattle.std.proofs.Common.{◌≡◌, ap, arith, ℕ, ◌/◌, ◌*◌, ◌≤◌, length, subst}
use Rattle.store_faults.specs.Copies.{agreeing}
use Rattle.store_faults.proofs.Said.{IsOfFew, more, none_by_most, of_all, says_only}
use Rattle.store_faults.proofs.copies.Copies.said_by_most.Goals as goal

small : (m n r a b : ℕ) → m ≡ a → r ≡ n → m ≤ r / 2 → a ≡ b → 2 * b ≤ n
small m n r a b is_m is_r le same = omega arith

pub loop-copy-preserved : goal.loop-copy-preserved
loop-copy-preserved c =
    let copies = c.args.self.now in
    more (IsOfFew copies)
    _ _ c.loop-copy.copy-index c.copy-item.result c.deref-copy-items.ensures.value c.loop-copy-test.true
    c.copy-item.is c.loop-copy.invariant
    (λ described said. small _ _ _ _ _ c.agreeing.ensures c.readable-readable.ensures c.if-agreeing-readable.false
    (ap (agreeing copies) (says_only _ c.in-There.described described _ c.in-There.is said)))

pub returns : goal.returns
returns c = none_by_most c.args.self.now
    (of_all (IsOfFew c.args.self.now) c.args.self.now c.loop-copy.copy-index
    (subst (λ l. length l ≤ c.loop-copy.copy-index) c.deref-copy-items.ensures.value c.loop-copy-test.false)
    c.loop-copy.invariant)
