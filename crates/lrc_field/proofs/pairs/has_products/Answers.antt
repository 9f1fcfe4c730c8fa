use Rattle.std.proofs.Common.{◌≡◌, ◌∙◌, [], ap, arith, get_or, length, map, sym, true}
use Rattle.std.proofs.lemmas.Bool.{eqb-true}
use Rattle.std.proofs.lemmas.List.{get_or_past}
use Rattle.lrc_field.specs.Field.{times}
use Rattle.lrc_field.proofs.FieldLaws.{times-zero, times-zero_r}
use Rattle.lrc_field.proofs.pairs.has_products.Goals as goal
use Rattle.lrc_field.proofs.pairs.has_products.Goals.{then-byte-ne0, else-byte-ne0}

pub returns-else-byte-ne0-2-clause-no : goal.returns-else-byte-ne0-2-clause-no
returns-else-byte-ne0-2-clause-no g c = λ f i.
    let b = get_or (get_or (map g.S.Source.bytes_of c.args.sources.now) c.args.k []) i 0 in
    elim c.if-byte-ne0.branch [
      | then-byte-ne0 w ↦ absurd (w.if-byte-ne0.true (grind (arith, w.value-is, c.if-byte-ne0-2.false)))
      | else-byte-ne0 w ↦
          let none : w.byte-else-byte-ne0.result ≡ 0 = grind (arith, w.value-is, c.if-byte-ne0-2.false) in (
            ap (λ s. times s b) (sym c.byte.ensures ∙ w.if-byte-ne0.false) ∙ times-zero b,
            ap (λ s. times s b) (sym w.byte-else-byte-ne0.ensures ∙ none) ∙ times-zero b,
          )
    ]

pub returns-then-byte-ne0-2-clause-no : goal.returns-then-byte-ne0-2-clause-no
returns-then-byte-ne0-2-clause-no g c = λ f i.
    let bytes = get_or (map g.S.Source.bytes_of c.args.sources.now) c.args.k [] in
    let empty : c.is_empty.result ≡ true = grind (arith, f) in
    let none = sym (ap length c.bytes_at.ensures)
    ∙ eqb-true (length c.bytes_at.result.now) 0 (sym c.is_empty.ensures ∙ empty) in
    let past = get_or_past bytes i 0 (omega (arith, none)) in
    (ap (times c.args.first) past ∙ times-zero_r c.args.first, ap (times c.args.second) past ∙ times-zero_r c.args.second)
