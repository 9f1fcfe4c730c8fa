use Rattle.std.proofs.Common.{◌≡◌, ◌+◌, [], length, ◌∷◌, ◌++◌, ◌∙◌, ap, arith}
use Rattle.std.proofs.lemmas.List.Elements.{All-nil, All-same, All-push}
use Rattle.crossbeam_channel.specs.Ends.{sends_on}
use Rattle.list_members.proofs.Lists.{more_items}
use Rattle.farm_lanes.proofs.lane.opening.copy_sends.Goals as goal

pub loop-made-init : goal.loop-made-init
loop-made-init g c = let made = c.in_ok-list.ensures in record {
  so_far = ap (λ xs. length xs) made.0;
  room = made.1;
  same = All-same (λ s. sends_on s ≡ sends_on c.args.sends.now) c.in_ok-list.list.items [] made.0 (All-nil _);
}

pub loop-made-preserved : goal.loop-made-preserved
loop-made-preserved g c = let was = c.loop-made.invariant in record {
  so_far = more_items c.loop-made.list.items c.push_reserved.new.self.items c.in_ok-try_clone.field-0 c.push_reserved.ensures.items
      ∙ ap (λ n. n + 1) was.so_far;
  room = omega (arith, was.room, c.push_reserved.ensures.capacity);
  same = All-same (λ s. sends_on s ≡ sends_on c.args.sends.now) c.push_reserved.new.self.items
      (c.loop-made.list.items ++ c.in_ok-try_clone.field-0 ∷ []) c.push_reserved.ensures.items
      (All-push (λ s. sends_on s ≡ sends_on c.args.sends.now) c.loop-made.list.items c.in_ok-try_clone.field-0
      was.same c.in_ok-try_clone.ensures);
}
