use Rattle.std.proofs.Common.{◌≡◌, ◌∙◌, ◌+◌, ◌<◌, ◌∷◌, [], Some, None, ap, sym, arith, inl, inr, length, get_or}
use Rattle.std.specs.Prelude.{nat_eq, if◌then◌else◌}
use Rattle.std.proofs.lemmas.Bool.{cases_lt}
use Rattle.std.proofs.lemmas.List.{get_or_append_left, get_or_default, get_or_push, get_or_read, length_push}
use Rattle.stores.specs.Shown.{shown_of}
use Rattle.store_repair.specs.Windows.{used_in}
use Rattle.store_repair.proofs.CombiningLemmas.{bytes_used, length-used, used_at}
use Rattle.store_repair.proofs.WindowLemmas.{map_alike, shown_at, shown_length}
use Rattle.store_repair.proofs.file_reading.fragments_of.Goals as goal

pub loop-index-preserved : goal.loop-index-preserved
loop-index-preserved g c =
    let shown = g.F.Fragment.shown in
    let old = c.loop-index.used.items in
    let new = c.push.new.self.items in
    let i = c.loop-index.index in
    let row = c.args.row.now in
    let fragments = c.args.fragments.now in
    let x = c.fragment_of.result in
    record {
      many = ap length c.in_ok-push.ensures.items ∙ length_push old x ∙ ap (λ n. n + 1) c.loop-index.invariant.many;
      shown = λ at are k d e more.
          let sixteen = sym (shown_length shown fragments at are) ∙ c.requires in
          elim (cases_lt k i) as (λ _. shown_of (λ f. shown f.now) (get_or new k d) ≡ Some (get_or (used_in row at) k e)) [
            | inl less ↦ ap (λ xs. shown_of (λ f. shown f.now) (get_or xs k d)) c.in_ok-push.ensures.items
                ∙ ap (shown_of (λ f. shown f.now)) (get_or_append_left old (x ∷ []) d k (omega (arith, less, c.loop-index.invariant.many)))
                ∙ c.loop-index.invariant.shown at are k d e less
            | inr le ↦ (let same : k ≡ i = omega (arith, le, more) in
                let within : i < 16 = omega arith in
                let read = get_or_read fragments i c.index-fragments-index.result (omega arith) c.index-fragments-index.is None in
                ap (λ j. shown_of (λ f. shown f.now) (get_or new j d)) same
                ∙ ap (λ xs. shown_of (λ f. shown f.now) (get_or xs i d)) c.in_ok-push.ensures.items
                ∙ ap (shown_of (λ f. shown f.now)) (get_or_push old x d i c.loop-index.invariant.many)
                ∙ c.fragment_of.ensures (get_or at i [])
                (ap (shown_of shown) read ∙ shown_at shown fragments at are i None [] (omega arith))
                ∙ ap (λ b. Some (if nat_eq b 0 then [] else get_or at i []))
                (get_or_default row i c.index-row-index.result 0 (omega (arith, c.type_inv.row)))
                ∙ ap Some (sym (used_at row at i e [] (omega (arith, c.type_inv.row)) (omega (arith, sixteen))))
                ∙ ap (λ j. Some (get_or (used_in row at) j e)) (sym same))
          ];
    }

pub returns : goal.returns
returns g c = λ at are.
    let shown = g.F.Fragment.shown in
    let row = c.args.row.now in
    let sixteen = sym (shown_length shown c.args.fragments.now at are) ∙ c.requires in
    let same = length-used row at (c.told-row ∙ sym sixteen) in
    let many = c.loop-index.invariant.many in
    record {
      are = map_alike (shown_of (λ f. shown f.now)) Some c.loop-index.used.items (used_in row at)
          (omega (arith, many, same, sixteen))
          (λ k d e lt. c.loop-index.invariant.shown at are k d e (omega (arith, lt, many)));
      bytes = bytes_used row at are.bytes;
    }
