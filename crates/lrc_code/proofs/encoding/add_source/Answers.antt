use Rattle.std.proofs.Common.{◌∙◌, ap, sym, map}
use Rattle.lrc_field.specs.Field.{times}
use Rattle.lrc_field.specs.Sums.{sums}
use Rattle.lrc_field.proofs.Scaled.{sums-scaled_zero}
use Rattle.lrc_code.proofs.encoding.add_source.Goals as goal

pub returns-else-c-ne0 : goal.returns-else-c-ne0
returns-else-c-ne0 c = sym (ap (λ f. sums c.args.out.now (map (times f) c.args.source.now)) c.if-c-ne0.false
    ∙ sums-scaled_zero c.args.out.now c.args.source.now c.requires)
