use Rattle.std.proofs.Common.{◌≡◌, ◌∙◌, ◌*◌, ◌+◌, ◌++◌, ◌∷◌, ◌<◌, ◌^◌, [], ℕ, List, Some, ap, ap₂, sym, length, map, take, arith}
use Rattle.std.specs.Prelude.{option_map}
use Rattle.std.proofs.lemmas.List.{length_push, map-append, take_all}
use Rattle.std.proofs.lemmas.List.FromFn.{map-range_with_len_more}
use Rattle.std.specs.List.{range_with_len}
use Rattle.lrc_code.specs.Codes.{data_count}
use Rattle.store_repair.specs.Files.{part}
use Rattle.stores.specs.Shown.{shown_of}
use Rattle.store_repair.proofs.FileLemmas.{part_capped}
use Rattle.store_repair.proofs.parts.parts_of.Goals as goal

pub loop-index-preserved : goal.loop-index-preserved
loop-index-preserved g c =
    let i = c.loop-index.index in
    let len = c.fragment_length-many.result in
    let old = c.loop-index.parts.items in
    record {
      many = ap length c.in_ok-push.ensures.items ∙ length_push old _ ∙ ap (λ n. n + 1) c.loop-index.invariant.many;
      parts = λ file is long.
          let small : length file < 2 ^ 64 = omega (arith, long) in
          let last = ap (option_map (λ (f : List ℕ). part (take c.args.file_bytes f) c.saturating_mul.result len)) is
          ∙ ap (λ (f : List ℕ). Some (part f c.saturating_mul.result len)) (take_all c.args.file_bytes file (omega (arith, long)))
          ∙ ap (λ n. Some (part file n len)) c.saturating_mul.ensures
          ∙ ap Some (part_capped file (i * len) len small) in
          ap (map (shown_of (λ p. option_map (λ f. part (take p.file_bytes f) p.from p.many) (g.S.Fragment.shown p.source.now))))
          c.in_ok-push.ensures.items
          ∙ map-append (shown_of (λ p. option_map (λ f. part (take p.file_bytes f) p.from p.many) (g.S.Fragment.shown p.source.now))) old _
          ∙ ap₂ (λ xs x. xs ++ x ∷ []) (c.loop-index.invariant.parts file is long) last
          ∙ sym (map-append Some (map (λ k. part file (k * len) len) (range_with_len 0 i)) (part file (i * len) len ∷ []))
          ∙ ap (map Some) (sym (map-range_with_len_more (λ k. part file (k * len) len) 0 i i (omega arith)));
    }

pub returns-clause-many : goal.returns-clause-many
returns-clause-many g c = omega (arith, c.loop-index.invariant.many)

pub returns-clause-parts : goal.returns-clause-parts
returns-clause-parts g c = λ file is long.
    let len = c.fragment_length-many.result in
    let end : c.loop-index.index ≡ c.data_count-index-end.result = omega arith in
    c.loop-index.invariant.parts file is long
    ∙ ap (λ n. map Some (map (λ k. part file (k * len) len) (range_with_len 0 n))) (end ∙ c.data_count-index-end.ensures)
    ∙ ap (λ n. map Some (map (λ k. part file (k * n) n) (range_with_len 0 (data_count c.args.code)))) c.fragment_length-many.ensures
