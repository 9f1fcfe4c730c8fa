use Rattle.std.proofs.Common.{length, ◌∙◌}
use Rattle.std.proofs.lemmas.List.{length-map}
use Rattle.lrc_c.specs.Lent.{lent}
use Rattle.lrc_c.proofs.EncodeLemmas.{encoded, own_rows}
use Rattle.lrc_c.proofs.encoding.encode_parities.Goals as goal

pub returns : goal.returns
returns c = encoded c.args.code _ _ _ _ (own_rows c.args.code (length c.args.sources.now) _ _ _ _ c.parities.ensures c.requires.count)
    (length c.args.px.now) (lent c.args.sources.now)
    c.write_parities.new.px c.write_parities.new.py c.write_parities.new.p0 c.write_parities.new.p1
    (length-map c.args.sources.now (λ l. l.bytes.now) ∙ c.requires.count) c.requires.lengths c.learn_lent_bytes.ensures
    c.write_parities.ensures.px c.write_parities.ensures.py c.write_parities.ensures.p0 c.write_parities.ensures.p1
