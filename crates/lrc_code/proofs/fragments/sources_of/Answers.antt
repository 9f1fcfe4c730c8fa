use Rattle.std.proofs.Common.{◌≡◌, ◌+◌, ◌-◌, ◌<◌, ◌∙◌, ap, sym, subst, set, drop, length, arith}
use Rattle.lrc_code.specs.declared.fragments.Fragment.{Fragment}
use Rattle.lrc_code.specs.Places.{index_of}
use Rattle.lrc_code.specs.Requests.{AreSources}
use Rattle.lrc_code.specs.Survivors.{survivors_of}
use Rattle.lrc_code.proofs.SourceLists.{sources_more}
use Rattle.lrc_code.proofs.fragments.sources_of.Goals as goal

pub fragments-preserved : goal.fragments-preserved
fragments-preserved c =
    let fs = c.args.fragments.now in
    let k = c.fragments.left - 1 in
    let f = c.index-fragments-left.result in
    let within : k < length fs = omega arith in
    let next : c.fragments.left ≡ k + 1 = omega arith in
    let further = subst (λ n. AreSources (survivors_of (drop n fs)) c.fragments.sources) next c.fragments.invariant.so_far in
    let here = c.index-fragments-left.is in
    let bytes = c.as_slice.ensures.value ∙ ap (λ (x : Fragment). x.bytes.items) here in
    let at = c.index.ensures.value ∙ ap (λ (x : Fragment). index_of x.place) here in
    record {
      within = omega arith;
      so_far = subst (λ n. AreSources (survivors_of (drop k fs)) (set c.fragments.sources n c.as_slice.result)) (sym at)
          (sources_more fs k f c.fragments.sources c.as_slice.result within bytes further);
    }
