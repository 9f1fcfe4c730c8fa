use Rattle.std.proofs.Common.{◌∙◌, refl, None, Some}
use Rattle.store_encoding.proofs.Sums.{no_sums, text_held, text_sums}
use Rattle.store_encoding.proofs.encoding.sums.write_sums.Goals as goal

pub returns-in_default : goal.returns-in_default
returns-in_default g c = (None, no_sums c.args.folder.now _, tt, tt, tt)

pub returns-in_default-text : goal.returns-in_default-text
returns-in_default-text g c = (None, no_sums c.args.folder.now _, tt, tt, tt)

pub returns-in-Ok-write_text : goal.returns-in-Ok-write_text
returns-in-Ok-write_text g c = (
  Some c.as_slice.result.now,
  text_sums c.args.folder.now c.as_str.result.now c.as_slice.result.now (c.as_str.ensures.value ∙ c.in-Ok.ensures) _ _
      c.write_text.ensures.whenever,
  c.as_slice.ensures.value ∙ c.in-Ok-text.ensures,
  refl,
  text_held c.args.folder.now c.as_str.result.now c.as_slice.result.now (c.as_str.ensures.value ∙ c.in-Ok.ensures) _
      c.in-Ok-write_text.ensures.done,
)

pub returns : goal.returns
returns g c = (
  Some c.as_slice.result.now,
  text_sums c.args.folder.now c.as_str.result.now c.as_slice.result.now (c.as_str.ensures.value ∙ c.in-Ok.ensures) _ _
      c.write_text.ensures.whenever,
  c.as_slice.ensures.value ∙ c.in-Ok-text.ensures,
  tt,
  tt,
)
