use Rattle.std.proofs.Common.{◌≤◌, ◌∙◌, sym, ap, length, subst}
use Rattle.std.proofs.lemmas.Slice.Eq.{bytes_eq-Decides}
use Rattle.store_faults.specs.declared.copies.CopyState.TheVariants.{There}
use Rattle.store_faults.proofs.Said.{HasOther, contains, more, none_with, of_all, other_digest}
use Rattle.store_faults.proofs.copies.Copies.said_with.Goals as goal

pub loop-copy-preserved : goal.loop-copy-preserved
loop-copy-preserved c =
    more (HasOther c.args.digest.now) _ _ c.loop-copy.copy-index
    c.copy-item.result c.deref-copy-items.ensures.value c.loop-copy-test.true c.copy-item.is c.loop-copy.invariant
    (λ described is. other_digest _ c.in-There.described described c.in-There.other _ c.in-There.is (sym c.eq.ensures ∙ c.if-eq.false) is)

pub loop-copy-preserved-in_default : goal.loop-copy-preserved-in_default
loop-copy-preserved-in_default c =
    more (HasOther c.args.digest.now) _ _ c.loop-copy.copy-index
    c.copy-item.result c.deref-copy-items.ensures.value c.loop-copy-test.true c.copy-item.is c.loop-copy.invariant
    (λ described is. c.in_default.not-There described c.args.digest.now is)

pub returns-then-eq : goal.returns-then-eq
returns-then-eq c = (
  c.copy-item.result,
  contains _ _ c.loop-copy.copy-index _ c.deref-copy-items.ensures.value c.loop-copy-test.true c.copy-item.is,
  c.in-There.is ∙ ap (There c.in-There.described) ((bytes_eq-Decides c.in-There.other c.args.digest.now).0 (sym c.if-eq.ensures)),
)

pub returns : goal.returns
returns c =
    none_with c.args.self.now c.args.digest.now (of_all (HasOther c.args.digest.now) c.args.self.now c.loop-copy.copy-index
    (subst (λ l. length l ≤ c.loop-copy.copy-index) c.deref-copy-items.ensures.value c.loop-copy-test.false) c.loop-copy.invariant)
