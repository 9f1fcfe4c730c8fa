use Rattle.std.proofs.Common.{◌∙◌, sym}
use Rattle.lrc_code.specs.Sets.{is_in}
use Rattle.store_repair.proofs.SuspectLemmas.{are_suspects, empty, located}
use Rattle.store_repair.proofs.damage.damage_beside.Goals as goal

pub returns-then-len-eq0 : goal.returns-then-len-eq0
returns-then-len-eq0 c = λ at len whole small sixteen contradict damaged.
    let none = sym c.len.ensures ∙ c.if-len-eq0.true in
    located c.args.code (is_in c.args.survivors) at len whole small sixteen contradict c.args.place damaged.survivor damaged.fit.0
    damaged.fit.1 damaged (λ q there. c.other_suspects-others.ensures q there (empty c.other_suspects-others.result none q))

pub returns : goal.returns
returns c = λ at len whole small sixteen contradict damaged.
    are_suspects c.args.code (is_in c.args.survivors) at len whole small sixteen contradict c.args.place damaged.survivor damaged.fit.0
    damaged.fit.1 c.other_suspects-others.result _ c.with.ensures c.other_suspects-others.ensures damaged
