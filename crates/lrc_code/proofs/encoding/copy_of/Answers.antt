use Rattle.std.proofs.Common.{◌≡◌, ℕ, ◌<◌, ◌^◌, List, sym, subst, arith, Vec, Global}
use Rattle.std.proofs.lemmas.Result.{IfOk-weaker}
use Rattle.std.proofs.lemmas.List.Elements.{All-from_get_or}
use Rattle.lrc_code.specs.Code.{AreBytes}
use Rattle.lrc_code.proofs.encoding.copy_of.Goals as goal

-- what a copy has, where each copied byte is its source
abbrev IsCopy : List ℕ → Vec ℕ Global → Type 0
IsCopy source v = ((x y : ℕ) → y ≡ x → y ≡ x) → v.items ≡ source

pub returns-clause-same : goal.returns-clause-same
returns-clause-same c = IfOk-weaker c.to_vec.result (IsCopy c.args.source.now) (λ v. v.items ≡ c.args.source.now)
    (λ v copy. copy (λ x y is. is)) c.to_vec.ensures.items_if_clones_equal

pub returns-clause-bytes : goal.returns-clause-bytes
returns-clause-bytes c =
    let bytes : AreBytes c.args.source.now = All-from_get_or (λ x. x < 2 ^ 8) c.args.source.now 0
    (λ i lt. omega (arith, c.type_inv.source i)) in
    IfOk-weaker c.to_vec.result (IsCopy c.args.source.now) (λ v. AreBytes v.items)
    (λ v copy. subst AreBytes (sym (copy (λ x y is. is))) bytes) c.to_vec.ensures.items_if_clones_equal
