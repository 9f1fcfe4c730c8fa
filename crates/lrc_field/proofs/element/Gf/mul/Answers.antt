use Rattle.std.proofs.Common.{◌<◌, ◌∙◌, sym, ap₂, subst}
use Rattle.lrc_field.specs.Field.{IsProduct, times}
use Rattle.lrc_field.proofs.Product.{times_is_product}
use Rattle.lrc_field.proofs.element.Gf.mul.Goals as goal

pub returns-clause-product : goal.returns-clause-product
returns-clause-product c =
    subst (λ r. IsProduct c.args.self c.args.other r) (sym (c.product.ensures ∙ ap₂ times c.self.view_is c.other.view_is))
    (times_is_product c.args.self c.args.other (subst (λ n. n < 256) c.self.view_is c.self.invariant)
    (subst (λ n. n < 256) c.other.view_is c.other.invariant))
