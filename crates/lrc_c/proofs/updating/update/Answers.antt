use Rattle.std.proofs.Common.{map, ap, sym, ◌∙◌}
use Rattle.lrc_field.specs.Field.{times}
use Rattle.lrc_field.specs.Sums.{sums}
use Rattle.lrc_field.proofs.Scaled.{sums-scaled_zero}
use Rattle.lrc_c.proofs.updating.update.Goals as goal

pub returns-then-byte-eq0-clause-given : goal.returns-then-byte-eq0-clause-given
returns-then-byte-eq0-clause-given c = λ long.
    let parity = c.args.parity.now in
    let difference = c.args.difference.now in
    sym (ap (λ k. sums parity (map (times k) difference)) (sym c.byte.ensures ∙ c.if-byte-eq0.true)
    ∙ sums-scaled_zero parity difference long)
