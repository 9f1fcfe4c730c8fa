use Rattle.std.proofs.Common.{◌≡◌, ◌∙◌, ap, ℕ, List, Bor, None, false}
use Rattle.store_encoding.specs.Own.{has}
use Rattle.store_encoding.proofs.Digests.{kept_of, text_keeps}
use Rattle.store_encoding.proofs.Names.{can_replace}
use Rattle.store_encoding.proofs.Order.{given_early, got_after, replaces_all, replaces_early, replaces_none, same_goes, sums_after}
use Rattle.store_encoding.proofs.Order.{sums_there}
use Rattle.store_encoding.proofs.encoding.replacing.end.Goals as goal

pub returns-then-not-is_whole : goal.returns-then-not-is_whole
returns-then-not-is_whole g c = replaces_none c.args.target.now.folder.now c.args.begun.now c.args.replaced.now c.args.target.now.sums _
    _ c.remove_all.ensures

pub give_all-requires : goal.give_all-requires
give_all-requires g c = can_replace c.args.target.now.folder.now c.args.begun.now c.args.replaced.now c.requires

pub returns-in_err-give_all : goal.returns-in_err-give_all
returns-in_err-give_all g c = replaces_early c.args.target.now.folder.now c.args.begun.now c.args.replaced.now c.requires None
    c.args.target.now.sums tt _ _
    (given_early c.args.target.now.folder.now c.args.begun.now c.args.replaced.now None _ _ c.give_all.ensures.whenever)

pub returns-in_err-write_new_sums : goal.returns-in_err-write_new_sums
returns-in_err-write_new_sums g c =
    let folder = c.args.target.now.folder.now in
    let same = ap (λ (f : Bor (List ℕ)). f.now) (c.forget_digests-2.ensures.folder ∙ c.forget_digests.ensures.folder ∙
    c.give_all.ensures.folder) in
    let keeps = λ (name : List ℕ) (a : has c.args.begun.now.fragments.items name ≡ false)
    (b : has c.args.begun.now.descriptions.items name ≡ false) (x : has c.args.replaced.now.fragments.items name ≡ false)
    (y : has c.args.replaced.now.descriptions.items name ≡ false). kept_of c.args.begun.now.fragments.items c.as_slice-2.result.now
    c.as_slice-2.ensures.value c.forget_digests.new.target.sums c.forget_digests-2.new.target.sums c.forget_digests-2.ensures.sums name a
    ∙ kept_of c.args.begun.now.descriptions.items c.as_slice.result.now c.as_slice.ensures.value c.give_all.new.target.sums
    c.forget_digests.new.target.sums c.forget_digests.ensures.sums name b
    ∙ c.in_ok-give_all.ensures.sums name x y in
    let says = text_keeps c.args.begun.now c.args.replaced.now c.args.target.now.sums c.forget_digests-2.new.target.sums
    c.write_new_sums.ensures.0 c.write_new_sums.ensures.2 keeps in
    replaces_early folder c.args.begun.now c.args.replaced.now c.requires c.write_new_sums.ensures.0 c.args.target.now.sums says _ _
    (sums_after folder c.args.begun.now c.args.replaced.now c.write_new_sums.ensures.0 c.forget_digests-2.new.target.folder.now same _
    _ _ c.give_all.ensures.whenever
    c.write_new_sums.ensures.1)

pub returns : goal.returns
returns g c =
    let folder = c.args.target.now.folder.now in
    let same = ap (λ (f : Bor (List ℕ)). f.now) (c.forget_digests-2.ensures.folder ∙ c.forget_digests.ensures.folder ∙
    c.give_all.ensures.folder) in
    let keeps = λ (name : List ℕ) (a : has c.args.begun.now.fragments.items name ≡ false)
    (b : has c.args.begun.now.descriptions.items name ≡ false) (x : has c.args.replaced.now.fragments.items name ≡ false)
    (y : has c.args.replaced.now.descriptions.items name ≡ false). kept_of c.args.begun.now.fragments.items c.as_slice-2.result.now
    c.as_slice-2.ensures.value c.forget_digests.new.target.sums c.forget_digests-2.new.target.sums c.forget_digests-2.ensures.sums name a
    ∙ kept_of c.args.begun.now.descriptions.items c.as_slice.result.now c.as_slice.ensures.value c.give_all.new.target.sums
    c.forget_digests.new.target.sums c.forget_digests.ensures.sums name b
    ∙ c.in_ok-give_all.ensures.sums name x y in
    let says = text_keeps c.args.begun.now c.args.replaced.now c.args.target.now.sums c.forget_digests-2.new.target.sums
    c.in_ok-write_new_sums.ensures.0 c.in_ok-write_new_sums.ensures.2 keeps in
    replaces_all folder c.args.begun.now c.args.replaced.now c.requires c.in_ok-write_new_sums.ensures.0 c.args.target.now.sums says _ _ _
    (sums_after folder c.args.begun.now c.args.replaced.now c.in_ok-write_new_sums.ensures.0 c.forget_digests-2.new.target.folder.now
    same _ _ _ c.give_all.ensures.whenever
    c.in_ok-write_new_sums.ensures.1)
    (got_after folder c.args.begun.now c.args.replaced.now c.requires c.in_ok-write_new_sums.ensures.0
    c.forget_digests-2.new.target.folder.now same _ _ _
    c.give_all.ensures.whenever c.in_ok-write_new_sums.ensures.1 c.in_ok-give_all.ensures.got)
    (sums_there folder c.forget_digests-2.new.target.folder.now same c.in_ok-write_new_sums.ensures.0 _ c.in_ok-write_new_sums.ensures.4)
    (same_goes folder c.forget_digests-2.new.target.folder.now same c.args.begun.now _ _ c.remove_all-2.ensures)
