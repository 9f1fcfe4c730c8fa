use Rattle.std.proofs.Common.{◌≡◌, ◌<◌, ◌+◌, ◌∙◌, ◌++◌, ◌∷◌, Bor, ℕ, List, [], Option, add-one, ap, arith, drop, flat_map, get_or, length}
use Rattle.std.proofs.Common.{map, suc, sym, take}
use Rattle.std.proofs.Math.Seq.{drop-cons}
use Rattle.std.proofs.lemmas.List.{map-append, take_all, take_more}
use Rattle.std.proofs.lemmas.Result.{IfOk-from_err}
use Rattle.sha2.specs.Sha256.{sha256}
use Rattle.lrc_code.specs.declared.outcomes.Outcome.{Outcome}
use Rattle.farm_reports.specs.Report.{fragment_digest, rebuilt_fragment}
use Rattle.farm_reports.proofs.digests.hand_out.Goals as goal

-- one more outcome has its digest
handed_more : (outcomes : List (Bor Outcome)) (i : ℕ) (o : Bor Outcome) (handed more : List (Option (List ℕ))) (digest : Option (List ℕ))
    → i < length outcomes → o ≡ get_or outcomes i o → handed ≡ map (λ o. fragment_digest o.now) (take i outcomes)
    → digest ≡ fragment_digest o.now → more ≡ handed ++ digest ∷ [] → more ≡ map (λ o. fragment_digest o.now) (take (i + 1) outcomes)
handed_more outcomes i o handed more digest within is so its added =
    let of : Bor Outcome → Option (List ℕ) = λ o. fragment_digest o.now in
    let last : take (i + 1) outcomes ≡ take i outcomes ++ o ∷ [] =
    take_more outcomes i o within ∙ ap (λ x. take i outcomes ++ x ∷ []) (sym is) in
    added ∙ (ap (λ hs. hs ++ digest ∷ []) so ∙ (ap (λ d. map of (take i outcomes) ++ d ∷ []) its
    ∙ (sym (map-append of (take i outcomes) (o ∷ [])) ∙ ap (map of) (sym last))))

-- the digests left are those of its fragment and of the outcomes after it
left_more : (outcomes : List (Bor Outcome)) (i : ℕ) (o : Bor Outcome) (left : List (List ℕ)) → i < length outcomes
    → o ≡ get_or outcomes i o → left ≡ map sha256 (flat_map (λ o. rebuilt_fragment o.now) (drop i outcomes))
    → left ≡ map sha256 (rebuilt_fragment o.now ++ flat_map (λ o. rebuilt_fragment o.now) (drop (i + 1) outcomes))
left_more outcomes i o left within is so =
    let first : drop i outcomes ≡ o ∷ drop (i + 1) outcomes =
    rw (add-one) (drop-cons outcomes i o within ∙ ap (λ (x : Bor Outcome). x ∷ drop (suc i) outcomes) (sym is)) in
    so ∙ ap (λ (os : List (Bor Outcome)). map sha256 (flat_map (λ o. rebuilt_fragment o.now) os)) first

pub loop-index-init : goal.loop-index-init
loop-index-init c = record { handed = c.new-handed.ensures.items; left = c.requires }

pub returns-in_err-push : goal.returns-in_err-push
returns-in_err-push c = IfOk-from_err c.from_residual.result _ c.from_residual.ensures.0

pub loop-index-preserved : goal.loop-index-preserved
loop-index-preserved c =
    let o = c.index-outcomes-index.result in
    let left = left_more c.args.outcomes.now c.loop-index.index o c.loop-index.left.now c.loop-index-test.true c.index-outcomes-index.is
    c.loop-index.invariant.left in
    record {
      handed = handed_more c.args.outcomes.now c.loop-index.index o c.loop-index.handed.items c.push.new.self.items
          c.first_digest-digest.result.0 c.loop-index-test.true c.index-outcomes-index.is c.loop-index.invariant.handed
          (c.first_digest-digest.ensures.digest _ left) c.in_ok-push.ensures.items;
      left = c.first_digest-digest.ensures.further _ left;
    }

pub returns : goal.returns
returns c =
    c.loop-index.invariant.handed
    ∙ ap (map (λ o. fragment_digest o.now)) (take_all c.loop-index.index c.args.outcomes.now (omega (arith, c.loop-index-test.false)))
