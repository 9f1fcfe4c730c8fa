use Rattle.std.proofs.Common.{◌≡◌, ◌+◌, ◌∙◌, List, Bool, arith, subst, sym}
use Rattle.std.proofs.Math.Path.{fun_ext}
use Rattle.lrc_code.specs.Sets.{is_in}
use Rattle.lrc_code.proofs.PlaceSums.{index_of-lt}
use Rattle.store_repair.specs.Damage.{IsCleared, without}
use Rattle.store_repair.proofs.SuspectLemmas.{AreLookedAt, next_cleared, next_suspect}
use Rattle.store_repair.proofs.damage.other_suspects.Goals as goal
use Rattle.store_repair.proofs.damage.other_suspects.Goals.{then-has+then-is_suspect, then-has+else-is_suspect, else-has}

pub loop-index-preserved : goal.loop-index-preserved
loop-index-preserved c =
    let code = c.args.code in
    let others = is_in c.without-others.result in
    let p = c.args.place in
    let n = c.loop-index.index in
    let old = c.loop-index.suspects in
    let q = c.nth_place-other.result in
    let here = c.nth_place-other.ensures in
    let before = c.loop-index.invariant in
    let after = λ (set : List Bool). AreLookedAt code others p (n + 1) set in
    elim c.if-has.branch [
      | then-has+then-is_suspect w ↦ subst after (sym w.suspects-is)
          (next_suspect code others p n old q here before w.with-suspects.result w.with-suspects.ensures)
      | then-has+else-is_suspect w ↦ subst after (sym w.suspects-is)
          (next_cleared code others p n old q here before (λ there. w.is_suspect.ensures w.if-is_suspect.false))
      | else-has w ↦ subst after (sym w.suspects-is)
          (next_cleared code others p n old q here before
          (λ there. absurd (let out = sym c.has.ensures ∙ w.if-has.false in cc)))
    ]

pub returns : goal.returns
returns c = λ q there out.
    let code = c.args.code in
    let p = c.args.place in
    let others : is_in c.without-others.result ≡ without code (is_in c.args.survivors) p = fun_ext c.without-others.ensures in
    subst (λ set. IsCleared code set p q) others
    (c.loop-index.invariant q (let lt = index_of-lt q in omega (arith, lt)) (c.without-others.ensures q ∙ there) out)
