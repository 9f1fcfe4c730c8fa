use Rattle.std.proofs.Common.{◌∙◌, sym, ap, map}
use Rattle.lrc_field.specs.Field.{times}
use Rattle.lrc_field.specs.Sums.{sums}
use Rattle.lrc_field.proofs.Scaled.{scaled_one}
use Rattle.lrc_field.proofs.kernels.scale_add_into.Goals as goal

pub returns-then-byte-eq1 : goal.returns-then-byte-eq1
returns-then-byte-eq1 c = c.add_into.ensures ∙ ap (sums c.args.dst.now)
    (sym (ap (λ k. map (times k) c.args.src.now) (sym c.byte.ensures ∙ c.if-byte-eq1.true)
    ∙ scaled_one c.args.src.now (λ k h. (c.type_inv.src k).fits)))
