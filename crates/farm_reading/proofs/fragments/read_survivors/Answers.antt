use Rattle.std.proofs.Common.{◌++◌, ◌∷◌, [], ◌∙◌, arith, refl, ap, get_or, Vec, Global}
use Rattle.std.proofs.lemmas.List.{map-append}
use Rattle.lrc_code.specs.Survivors.{survivor_of, survivors_of}
use Rattle.lrc_code.specs.declared.places.Place.{Place}
use Rattle.lrc_code.specs.declared.places.Place.TheVariants as place
use Rattle.lrc_code.specs.declared.fragments.Fragment.{Fragment}
use Rattle.farm_lists.proofs.Parts.{part_skipped, part_taken}
use Rattle.farm_reading.proofs.ReadSurvivors.{failures_more, kept_none, kept_some, places_more, unread_none, unread_some}
use Rattle.farm_reading.proofs.fragments.read_survivors.Goals as goal
use Rattle.farm_reading.proofs.fragments.read_survivors.Goals.{in-Some+in_ok-push-in-Some, in-None+in_ok-push-in-None}

pub loop-index-preserved : goal.loop-index-preserved
loop-index-preserved g c =
    let (reads, read, same, failed, few, part, shown) = c.loop-index.invariant in
    let (m, rose, gives) = c.in_ok-bytes.ensures.read in
    let p : Place = get_or c.survivors-places.result.now c.loop-index.index place.X0 in (
      reads ++ (p, m) ∷ [],
      places_more reads c.survivors-places.result.now c.loop-index.index place.X0 m c.loop-index-test.true read,
      c.in_ok-bytes.ensures.same ∙ same,
      omega (arith, rose, failed, failures_more reads p m),
      omega (arith, few, c.in_ok-bytes.ensures.few),
      elim c.match-branch-2.branch [
        | in-Some+in_ok-push-in-Some w ↦
            part_taken c.args.listed.now.len c.survivors-places.result.now c.loop-index.index place.X0
            (survivors_of c.loop-index.fragments.items) (survivors_of c.match-branch-2.fragments.items)
            (record { place = p; bytes = w.in-Some.bytes.items }) c.loop-index-test.true
            (ap (λ (v : Vec Fragment Global). survivors_of v.items) w.fragments-is ∙ ap survivors_of w.in_ok-push-in-Some.ensures.items
            ∙ map-append survivor_of c.loop-index.fragments.items _) refl (rw w.in-Some.is at c.in_ok-bytes.ensures.whole) part
        | in-None+in_ok-push-in-None w ↦
            part_skipped c.args.listed.now.len c.survivors-places.result.now c.loop-index.index place.X0
            (survivors_of c.loop-index.fragments.items) (survivors_of c.match-branch-2.fragments.items)
            c.loop-index-test.true (ap (λ (v : Vec Fragment Global). survivors_of v.items) w.fragments-is) part
      ],
      λ there e. elim c.match-branch-2.branch [
        | in-Some+in_ok-push-in-Some w ↦
            let got = rw w.in-Some.is at (gives there (same ∙ e)) in (
              rw (w.fragments-is, w.in_ok-push-in-Some.ensures.items)
                  (map-append survivor_of c.loop-index.fragments.items _
                  ∙ kept_some there c.args.listed.now reads p m w.in-Some.bytes.items (survivors_of c.loop-index.fragments.items)
                  (shown there e).0 got),
              rw w.unread-is (unread_some there c.args.listed.now reads p m w.in-Some.bytes.items c.loop-index.unread.items
                  (shown there e).1 got),
            )
        | in-None+in_ok-push-in-None w ↦
            let got = rw w.in-None.is at (gives there (same ∙ e)) in (
              rw w.fragments-is (kept_none there c.args.listed.now reads p m (survivors_of c.loop-index.fragments.items)
                  (shown there e).0 got),
              rw (w.unread-is, w.in_ok-push-in-None.ensures.items)
                  (unread_none there c.args.listed.now reads p m c.loop-index.unread.items (shown there e).1 got),
            )
      ],
    )
