use Rattle.std.proofs.Common.{subst, map, string_bytes}
use Rattle.std.specs.List.{Contains}
use Rattle.store_names.proofs.descriptions.is_description_name.Goals as goal

pub returns : goal.returns
returns c =
    let at = λ (t : _). Contains (map string_bytes t) c.args.name.now in λ yes. record {
      stripe = c.in-Some.stripe.now;
      names = map string_bytes c.in_ok-names.names.items;
      are = c.in_ok-names.ensures;
      is = subst at c.as_slice.ensures.value (c.has.ensures.0 yes);
    }
