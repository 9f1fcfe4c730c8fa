use Rattle.std.proofs.Common.{◌∙◌, ◌≡◌, subst, sym}
use Rattle.std.proofs.Math.Path.{fun_ext}
use Rattle.std.proofs.lemmas.Result.{IfOk-weaker}
use Rattle.lrc_code.specs.Sets.{is_in}
use Rattle.lrc_plan.specs.Stripes.{AreWhole}
use Rattle.store_repair.specs.Damage.{all_but, IsFit}
use Rattle.store_repair.specs.Mended.{IsConsistency}
use Rattle.store_repair.proofs.DamageLemmas.{own_others, same_fit, whole_others}
use Rattle.store_repair.proofs.damage.fit_without.Goals as goal

pub returns : goal.returns
returns g c = λ at are whole.
    let s = c.args.survivors.now in
    let p = c.args.place in
    let same : is_in c.without.result ≡ all_but (is_in s.set) p =
    fun_ext (λ q. c.without.ensures q ∙ own_others s.code (is_in s.set) at s.length whole p q) in
    IfOk-weaker c.are_consistent.result (IsConsistency s.code (is_in c.without.result) at s.length)
    (IsFit s.code (is_in s.set) at s.length p)
    (λ b h. same_fit s.code (is_in s.set) at s.length p b (subst (λ f. IsConsistency s.code f at s.length b) same h))
    (c.are_consistent.ensures at are
    (subst (λ f. AreWhole s.code f at s.length) (sym same) (whole_others s.code (is_in s.set) at s.length whole p)))
