use Rattle.std.proofs.Common.{◌∙◌}
use Rattle.std.specs.String.{string_bytes}
use Rattle.lrc_code.specs.Survivors.{survivors_of}
use Rattle.farm_lists.proofs.Parts.{same_accepted}
use Rattle.farm_reading.proofs.fragments.read_request.Goals as goal

pub from_checked-request-requires : goal.from_checked-request-requires
from_checked-request-requires g c =
    same_accepted c.args.listed.now c.code.result (string_bytes c.in_ok-stripe.stripe) c.target.result c.length.result
    (survivors_of c.in_ok-fragments.fragments.items) c.length.ensures.accepted
    c.in_ok-fragments.ensures.part c.code.ensures (c.in_ok-stripe.ensures.ok
    ∙ c.stripe.ensures.value) c.target.ensures c.length.ensures.value
