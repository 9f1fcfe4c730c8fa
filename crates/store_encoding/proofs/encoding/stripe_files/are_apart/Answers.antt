use Rattle.std.proofs.Common.{◌∙◌, ap, sym}
use Rattle.std.specs.List.{list_all}
use Rattle.store_encoding.specs.Own.{is_own}
use Rattle.store_encoding.proofs.Names.{apart_from, none_is}
use Rattle.store_encoding.proofs.encoding.stripe_files.are_apart.Goals as goal

pub returns : goal.returns
returns c = λ last. apart_from c.args.folder.now c.args.files.now c.args.others.now
    (sym c.is_free.ensures ∙ c.if-not-is_free.false) (sym c.is_free-2.ensures ∙ c.if-not-is_free-2.false)
    (ap (list_all is_own) (sym c.as_slice.ensures.value) ∙ sym c.are_own.ensures ∙ c.if-not-are_own.false)
    (ap (list_all is_own) (sym c.as_slice-2.ensures.value) ∙ sym c.are_own-2.ensures ∙ c.if-not-are_own-2.false)
    (ap (list_all is_own) (sym c.as_slice-fragments.ensures.value) ∙ sym c.are_own-3.ensures ∙ c.if-not-are_own-3.false)
    (ap (list_all is_own) (sym c.as_slice-descriptions.ensures.value) ∙ sym c.are_own-4.ensures ∙ c.if-not-are_own-4.false)
    (none_is _ _ _ _ _ _ c.as_slice-fragments.ensures.value c.as_slice-descriptions.ensures.value c.as_slice-3.ensures.value
    c.share_none.result c.share_none.ensures c.if-not-share_none.false)
    (none_is _ _ _ _ _ _ c.as_slice-fragments.ensures.value c.as_slice-descriptions.ensures.value c.as_slice-4.ensures.value
    c.share_none-2.result c.share_none-2.ensures last)
