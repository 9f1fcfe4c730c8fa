use Rattle.std.proofs.Common.{◌≡◌, ◌≤◌, ◌∙◌, List, ℕ, ap, arith, length, take, rules}
use Rattle.std.proofs.lemmas.List.{with_items_is, places}
use Rattle.farm_shelves.proofs.Fronts.{front_grows, front_stays}
use Rattle.farm_shelves.proofs.regular_files.read_front.Goals as goal
use Rattle.farm_shelves.proofs.regular_files.read_front.Goals.{in-Ok, in-Err+in-Interrupted}

pub loop-turn-preserved : goal.loop-turn-preserved
loop-turn-preserved g c =
    let so = c.loop-turn.invariant in
    let bytes : List ℕ = c.read_at.new.bytes in
    let items = with_items_is c.make_room.new.bytes c.read_at.new.bytes (search (rules, places)) in
    let front : take c.loop-turn.got bytes ≡ take c.loop-turn.got c.loop-turn.bytes.items =
    c.read_at.ensures.front ∙ ap (take c.loop-turn.got) c.as_mut_slice.ensures.value ∙ c.in_ok-make_room.ensures.front in
    let room = c.in_ok-make_room.ensures.room in
    let lent = ap (λ (l : List ℕ). length l) c.as_mut_slice.ensures.value in
    let within : length bytes ≤ c.args.limit = omega (arith, room.1, lent, c.read_at.auto.bytes) in
    rw items (elim c.match-read_at.branch [
      | in-Ok w ↦ rw w.got-is (record {
        got = w.in-Ok.ensures.fits;
        within = within;
        read = front_grows _ _ _ c.loop-turn.bytes.items bytes c.loop-turn.got _ front so.read w.in-Ok.ensures.ok;
      })
      | in-Err+in-Interrupted w ↦ rw w.got-is (record {
        got = omega (arith, room.0, lent, c.read_at.auto.bytes);
        within = within;
        read = front_stays _ _ _ c.loop-turn.bytes.items bytes c.loop-turn.got front so.read w.in-Err.ensures.err;
      })
    ])
