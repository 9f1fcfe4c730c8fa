use Rattle.std.proofs.Common.{◌≡◌, ◌∙◌, ap, rules, arith, ◌++◌, ◌∷◌, [], codes, length, get_or, map, string_bytes}
use Rattle.std.proofs.lemmas.List.{map-append}
use Rattle.store_names.specs.Descriptions.{description_in}
use Rattle.store_names.proofs.Described.{all_names, in_one, in_several}
use Rattle.store_names.proofs.descriptions.description_names.Goals as goal
use Rattle.store_names.proofs.descriptions.description_names.Goals.{then-len-eq1+in_ok-name_in-2+in_ok-push-2, else-len-eq1}

pub returns : goal.returns
returns c =
    let folders = c.in_ok-folders.folders.items in
    let stripe = c.args.stripe.now in
    let names : map string_bytes c.loop-folder.names.items ≡ map (λ folder. description_in folder stripe (codes ".file"))
    (map string_bytes folders)
    = all_names (map string_bytes c.loop-folder.names.items) folders c.deref-folder-items.result.now c.loop-folder.folder-index stripe
    c.loop-folder.invariant c.deref-folder-items.ensures.value c.loop-folder-test.false in
    elim c.if-len-eq1.branch [
      | then-len-eq1+in_ok-name_in-2+in_ok-push-2 w ↦
          let count = c.len.ensures in
          let one : length folders ≡ 1 = omega (arith, c.in_ok-folders.folders.ok.0, count, w.if-len-eq1.true) in
          let pushed : map string_bytes w.push-then-len-eq1.new.self.items
          ≡ map string_bytes c.loop-folder.names.items ++ (string_bytes w.in_ok-name_in-2.field-0 ∷ [])
          = ap (map string_bytes) w.in_ok-push-2.ensures.items ∙ map-append string_bytes c.loop-folder.names.items
          (w.in_ok-name_in-2.field-0 ∷ []) in
          let folder = w.index.result.now in
          let at : folder ≡ get_or folders 0 folder = search rules in
          let inside : w.as_str-then-len-eq1.result.now ≡ string_bytes folder = search rules in
          record {
            folders = map string_bytes folders;
            are = c.in_ok-folders.ensures;
            is = ap (λ v. map string_bytes v.items) w.names-is ∙ pushed ∙ ap (λ t. t ++ (string_bytes w.in_ok-name_in-2.field-0 ∷ [])) names
                ∙ ap (λ t. map (λ folder. description_in folder stripe (codes ".file")) (map string_bytes folders) ++ (t ∷ []))
                (w.in_ok-name_in-2.ensures ∙ ap (λ f. description_in f stripe (codes ".file.copy")) inside)
                ∙ in_one folders folder stripe one at;
          }
      | else-len-eq1 w ↦ record {
        folders = map string_bytes folders;
        are = c.in_ok-folders.ensures;
        is = ap (λ v. map string_bytes v.items) w.names-is ∙ names
            ∙ in_several folders stripe (λ one. w.if-len-eq1.false (let count =
            c.len.ensures in omega (arith, c.in_ok-folders.folders.ok.0, count, one)));
      }
    ]
