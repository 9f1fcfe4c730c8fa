use Rattle.store_repair.proofs.fewest.thinned.Goals as goal

pub returns-clause-enough : goal.returns-clause-enough
returns-clause-enough c = λ all.
    c.without_group.ensures.enough (c.without_group-of_other.ensures.enough (c.without_group-locals.ensures.enough all))
