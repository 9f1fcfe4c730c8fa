use Rattle.std.proofs.Common.{◌<◌, ◌+◌, arith, length, refl, subst, sym}
use Rattle.stores.proofs.StripeLemmas.{IsLengthBefore, length_at_end, length_next_file, length_next_other, no_file}
use Rattle.stores.proofs.stripes.StripeFiles.length.Goals as goal
use Rattle.stores.proofs.stripes.StripeFiles.length.Goals.{in-File+else-not-is_in_common, in_default}

pub loop-found-preserved : goal.loop-found-preserved
loop-found-preserved c =
    let files = c.args.self.now.found in
    let n = c.loop-found.found-index in
    let within : n < length files = omega (arith, c.loop-found-test.true) in
    elim c.match-found.branch [
      | in-File+else-not-is_in_common w ↦ subst (IsLengthBefore files (n + 1)) (sym w.common-is)
          (length_next_file files n _ _ within refl c.loop-found.common w.in-File.length w.in-File.is
          (w.is_in_common.ensures.yes w.if-not-is_in_common.false) c.loop-found.invariant)
      | in_default w ↦ subst (IsLengthBefore files (n + 1)) (sym w.common-is)
          (length_next_other files n _ _ within refl c.loop-found.common (no_file _ w.in_default.not-File) c.loop-found.invariant)
    ]

pub returns : goal.returns
returns c =
    length_at_end c.args.self.now.found c.loop-found.found-index c.loop-found.common
    (let end = c.loop-found-test.false in omega (arith, end)) c.loop-found.invariant
