use Rattle.std.proofs.Common.{◌≡◌, ◌∙◌, ◌++◌, ◌∷◌, [], ℕ, List, ap, ap₂, sym, map, arith}
use Rattle.std.proofs.lemmas.List.FromFn.{map-range_with_len_more}
use Rattle.std.specs.List.{range_with_len}
use Rattle.store_repair.specs.Files.{unit_row}
use Rattle.store_repair.proofs.EncodingLemmas.{four_more}
use Rattle.store_repair.proofs.encoding.rows_of.Goals as goal

pub loop-index-preserved : goal.loop-index-preserved
loop-index-preserved c =
    let i = c.loop-index.index in
    c.in_ok-push.ensures.items ∙ ap₂ (λ xs x. xs ++ x ∷ []) c.loop-index.invariant c.unit_row.ensures
    ∙ sym (map-range_with_len_more unit_row 0 i i (omega arith))

pub returns : goal.returns
returns c =
    let wide = λ (row : List ℕ). row ++ (0 ∷ 0 ∷ 0 ∷ 0 ∷ []) in
    let end : c.loop-index.index ≡ c.data_count-index-end.result = omega arith in
    four_more c.loop-index.rows.items c.push-2.new.self.items c.push-3.new.self.items c.push-4.new.self.items c.push-5.new.self.items
    (wide c.parities-parities.result.px) (wide c.parities-parities.result.py) (wide c.parities-parities.result.p0)
    (wide c.parities-parities.result.p1)
    (c.in_ok-push-2.ensures.items ∙ ap (λ x. c.loop-index.rows.items ++ x ∷ []) c.widened.ensures)
    (c.in_ok-push-3.ensures.items ∙ ap (λ x. c.push-2.new.self.items ++ x ∷ []) c.widened-2.ensures)
    (c.in_ok-push-4.ensures.items ∙ ap (λ x. c.push-3.new.self.items ++ x ∷ []) c.widened-3.ensures)
    (c.in_ok-push-5.ensures.items ∙ ap (λ x. c.push-4.new.self.items ++ x ∷ []) c.widened-4.ensures)
    ∙ ap₂ (λ xs ys. xs ++ map wide ys)
    (c.loop-index.invariant ∙ ap (λ n. map unit_row (range_with_len 0 n)) (end ∙ c.data_count-index-end.ensures))
    c.parities-parities.ensures
