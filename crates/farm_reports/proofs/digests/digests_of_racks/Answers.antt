use Rattle.std.proofs.Common.{◌∙◌, Bor, ℕ, List, sym, ap, map, flat_map}
use Rattle.std.proofs.lemmas.Result.{IfOk-weaker}
use Rattle.std.proofs.lemmas.Simd.{map-map}
use Rattle.lrc_code.specs.declared.outcomes.Outcome.{Outcome}
use Rattle.sha2.specs.Sha256.{sha256}
use Rattle.farm_reports.specs.Report.{fragment_digest, rebuilt_fragment}
use Rattle.farm_reports.proofs.RackDigests.{racks_digests}
use Rattle.farm_reports.proofs.digests.digests_of_racks.Goals as goal

pub hand_out-requires : goal.hand_out-requires
hand_out-requires g c =
    c.as_slice-4.ensures.value
    ∙ c.in_ok-digests.ensures ∙ ap (map (λ (f : Bor (List ℕ)). sha256 f.now)) c.as_slice-2.ensures.value
    ∙ sym (map-map sha256 (λ (f : Bor (List ℕ)). f.now) c.in_ok-fragments.fragments.items)
    ∙ ap (map sha256) (c.in_ok-fragments.ensures ∙ ap (flat_map (λ (o : Bor Outcome). rebuilt_fragment o.now))
    (c.as_slice.ensures.value ∙ sym c.as_slice-3.ensures.value))

pub returns : goal.returns
returns g c =
    IfOk-weaker c.hand_out.result _ _ (λ v e. e ∙ ap (map (λ (o : Bor Outcome). fragment_digest o.now)) c.as_slice-3.ensures.value
    ∙ racks_digests c.in_ok-outcomes.outcomes.items c.args.racks.now c.in_ok-outcomes.ensures) c.hand_out.ensures
