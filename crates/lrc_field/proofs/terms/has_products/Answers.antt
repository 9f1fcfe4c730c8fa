use Rattle.std.proofs.Common.{◌≡◌, ◌∙◌, [], ap, arith, get_or, length, map, sym, true}
use Rattle.std.proofs.lemmas.Bool.{eqb-true}
use Rattle.std.proofs.lemmas.List.{get_or_past}
use Rattle.lrc_field.specs.Field.{times}
use Rattle.lrc_field.proofs.FieldLaws.{times-zero, times-zero_r}
use Rattle.lrc_field.proofs.terms.has_products.Goals as goal

pub returns-else-byte-ne0-clause-no : goal.returns-else-byte-ne0-clause-no
returns-else-byte-ne0-clause-no g c = λ f i.
    let b = get_or (get_or (map g.S.Source.bytes_of c.args.sources.now) c.args.k []) i 0 in
    ap (λ s. times s b) (sym c.byte.ensures ∙ c.if-byte-ne0.false) ∙ times-zero b

pub returns-then-byte-ne0-clause-no : goal.returns-then-byte-ne0-clause-no
returns-then-byte-ne0-clause-no g c = λ f i.
    let bytes = get_or (map g.S.Source.bytes_of c.args.sources.now) c.args.k [] in
    let empty : c.is_empty.result ≡ true = grind (arith, f) in
    let none = sym (ap length c.bytes_at.ensures)
    ∙ eqb-true (length c.bytes_at.result.now) 0 (sym c.is_empty.ensures ∙ empty) in
    ap (times c.args.scalar) (get_or_past bytes i 0 (omega (arith, none))) ∙ times-zero_r c.args.scalar
