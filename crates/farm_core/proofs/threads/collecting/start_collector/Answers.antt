use Rattle.farm_core.proofs.threads.collecting.start_collector.Goals as goal

pub start_thread-requires-clause-keeps : goal.start_thread-requires-clause-keeps
start_thread-requires-clause-keeps g c = λ κs outlives cleared has. rw c.of.ensures has
