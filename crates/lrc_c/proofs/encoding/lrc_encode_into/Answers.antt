use Rattle.std.proofs.Common.{◌∙◌, sym, refl}
use Rattle.std.proofs.lemmas.List.{length-map}
use Rattle.lrc_c.proofs.encoding.lrc_encode_into.Goals as goal

pub returns-clause-refused : goal.returns-clause-refused
returns-clause-refused c = λ none. absurd (none c.in-Some.own (record {
  code_is = sym c.code_numbered.ensures ∙ c.in-Some.is;
  count = length-map c.args.sources.now (λ l. l.bytes.now) ∙ c.if-sources-data_count.false ∙ c.data_count.ensures;
  lengths = c.if-not-have_length.ensures.0 refl;
  py = c.if-py-len.false;
  p0 = c.if-p0-len.false;
  p1 = c.if-p1-len.false;
}))
