use Rattle.std.proofs.Common.{◌≡◌, ◌∙◌, ◌-◌, ap, arith, length, min, drop, take, replicate, subst, ◌++◌}
use Rattle.std.specs.Prelude.{OnOk}
use Rattle.store_repair.proofs.FileLemmas.{begin_at, read_shown}
use Rattle.store_repair.proofs.parts.FilePartFragment.read_at.Goals as goal

pub returns : goal.returns
returns g c =
    let part = c.args.self.now in
    let size = length c.args.bytes.now in
    let bytes = c.read_padded.new.bytes in
    let there = c.min-there.ensures ∙ ap (λ n. min n size) (c.saturating_sub.ensures
    ∙ ap (λ n. part.file_bytes - n) c.saturating_add-start.ensures) in
    read_shown part.file_bytes part.from part.many c.args.from size (omega arith) (omega arith)
    bytes c.read_padded.ensures.len c.read_padded.result (g.S.Fragment.shown part.source.now)
    (λ file is. subst
    (λ n. OnOk c.read_padded.result (bytes ≡ take n (drop (begin_at part.from c.args.from) file) ++ replicate (size - n) 0)) there
    (subst (λ n. OnOk c.read_padded.result (bytes ≡ take c.min-there.result (drop n file) ++ replicate (size - c.min-there.result) 0))
    c.saturating_add-start.ensures (c.read_padded.ensures.padded file is)))
