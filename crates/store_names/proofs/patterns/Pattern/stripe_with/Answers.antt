use Rattle.store_names.proofs.Pieces.{IsAfterKey, IsBeforeKey, found, found_first}
use Rattle.store_names.proofs.Pieces.{lacks_before, lacks_between, lacks_key, lacks_key_at_end, none_given}
use Rattle.store_names.proofs.patterns.Pattern.stripe_with.Goals as goal

pub returns : goal.returns
returns c =
    let p = c.args.self.now in
    let at : IsAfterKey c.args.name.now p.before.now c.args.key.now p.after.now c.in-Some-after.in_key.now = record {
      in_rest = c.in_ok-rest.rest.now;
      in_key = c.in-Some.in_rest.now;
      is_name = c.in_ok-rest.ensures;
      is_rest = c.in-Some.ensures;
      is_key = c.in-Some-after.ensures;
    } in
    rw c.if-self.false (found _ _ _ c.args.self.now.between.now _ _ at c.after-4.result c.after-4.ensures)

pub returns-in_default : goal.returns-in_default
returns-in_default c = rw c.if-self.false (lacks_before _ _ _ _ _ _ c.in_ok-rest.ensures c.in_default.ensures)

pub returns-in_default-after : goal.returns-in_default-after
returns-in_default-after c = rw c.if-self.false (lacks_key _ _ _ _ _ _ _ c.in_ok-rest.ensures c.in-Some.ensures c.in_default-after.ensures)

pub returns-in_err-rest : goal.returns-in_err-rest
returns-in_err-rest c = none_given _ _ _ c.from_residual.ensures (λ stripe made. c.in_err-rest.ensures _ made)

pub returns-in_err-until : goal.returns-in_err-until
returns-in_err-until c =
    let p = c.args.self.now in
    rw c.if-self.true (none_given _ _ _ c.from_residual-in_err-until.ensures
    (lacks_key_at_end _ p.before.now _ p.between.now _ _ c.in_ok-rest.ensures c.in_err-until.ensures))

pub returns-in_err-rest-2 : goal.returns-in_err-rest-2
returns-in_err-rest-2 c =
    let p = c.args.self.now in
    rw c.if-self.true (none_given _ _ _ c.from_residual-in_err-rest-2.ensures
    (lacks_between _ p.before.now _ _ _ _ _ c.in_ok-rest.ensures c.in_ok-until.ensures c.in_err-rest-2.ensures))

pub returns-then-self : goal.returns-then-self
returns-then-self c =
    let p = c.args.self.now in
    let at : IsBeforeKey c.args.name.now c.args.key.now p.between.now p.after.now c.in_ok-rest-2.rest.now = record {
      in_rest = _;
      in_key = _;
      is_name = c.in_ok-rest.ensures;
      is_rest = c.in_ok-until.ensures;
      is_key = c.in_ok-rest-2.ensures;
    } in
    rw c.if-self.true (found_first _ p.before.now _ _ _ _ at c.after.result c.after.ensures)
