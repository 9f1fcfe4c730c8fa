use Rattle.std.proofs.Common.{◌+◌, ◌++◌, ◌∷◌, ◌∙◌, true, false, Some, None, ap, arith, rules}
use Rattle.lrc_code.specs.Places.{name_of}
use Rattle.farm_reading.proofs.ReadFiles.{fragment_absent, fragment_failed, fragment_other, fragment_read, shown_bytes}
use Rattle.farm_reading.proofs.fragments.read_fragment.Goals as goal

pub returns-then-len-length-clause-read : goal.returns-then-len-length-clause-read
returns-then-len-length-clause-read g c =
    let limit = c.length-length.result + 1 in (
      false,
      omega (arith, c.in-Ok-Some.ensures.failure),
      λ there e.
          fragment_read there c.args.listed.now c.args.place c.as_str.result.now c.in-Ok-Some.bytes.items limit
          (omega (arith, c.length-length.ensures.value))
          (c.as_str.ensures.value ∙ c.in_ok-write_fragment_file.ensures ∙ ap (λ s. s ++ 46 ∷ name_of c.args.place) c.stripe.ensures.value)
          (shown_bytes (g.I.Shelf.files c.args.input.now) there (Some c.in-Ok-Some.bytes.items)
          (c.length-length.result + 1) c.as_str.result.now (rw c.in-Ok-Some.field-0-is at c.in-Ok-Some.ensures.bytes) e)
          (omega (arith, c.len.ensures, c.if-len-length.true, c.length-length.ensures.value, c.in-Ok-Some.bytes.ok.0)),
    )

pub returns-else-len-length-clause-read : goal.returns-else-len-length-clause-read
returns-else-len-length-clause-read g c =
    let limit = c.length-length.result + 1 in (
      false,
      omega (arith, c.in-Ok-Some.ensures.failure),
      λ there e.
          fragment_other there c.args.listed.now c.args.place c.as_str.result.now c.in-Ok-Some.bytes.items limit
          (omega (arith, c.length-length.ensures.value))
          (c.as_str.ensures.value ∙ c.in_ok-write_fragment_file.ensures ∙ ap (λ s. s ++ 46 ∷ name_of c.args.place) c.stripe.ensures.value)
          (shown_bytes (g.I.Shelf.files c.args.input.now) there (Some c.in-Ok-Some.bytes.items)
          (c.length-length.result + 1) c.as_str.result.now (rw c.in-Ok-Some.field-0-is at c.in-Ok-Some.ensures.bytes) e)
          (λ h. c.if-len-length.false (omega (arith, h, c.len.ensures, c.length-length.ensures.value, c.in-Ok-Some.bytes.ok.0))),
    )

pub returns-in-Ok-None-clause-read : goal.returns-in-Ok-None-clause-read
returns-in-Ok-None-clause-read g c = (
  false,
  omega (arith, c.in-Ok-None.ensures.failure),
  λ there e.
      fragment_absent there c.args.listed.now c.args.place c.as_str.result.now (c.length-length.result + 1)
      (c.as_str.ensures.value ∙ c.in_ok-write_fragment_file.ensures ∙ ap (λ s. s ++ 46 ∷ name_of c.args.place) c.stripe.ensures.value)
      (shown_bytes (g.I.Shelf.files c.args.input.now) there None (c.length-length.result + 1) c.as_str.result.now
      (rw c.in-Ok-None.field-0-is at c.in-Ok-None.ensures.bytes) e),
)

pub returns-in-Err-Device-clause-read : goal.returns-in-Err-Device-clause-read
returns-in-Err-Device-clause-read g c = (true, search rules, λ there e. fragment_failed there c.args.listed.now c.args.place)
