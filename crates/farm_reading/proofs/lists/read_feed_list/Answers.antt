use Rattle.std.proofs.Common.{◌∙◌, Some, None, sym, ap}
use Rattle.farm_lists.specs.Listing.{list_of}
use Rattle.farm_reading.proofs.ReadFiles.{list_absent, list_read, list_refused, shown_bytes}
use Rattle.farm_reading.proofs.lists.read_feed_list.Goals as goal

pub returns-in_default-clause-list : goal.returns-in_default-clause-list
returns-in_default-clause-list g c = λ there e.
    list_absent there c.args.rack c.args.feed c.as_str.result.now (c.as_str.ensures.value ∙ c.in_ok-name.ensures)
    (shown_bytes (g.I.Shelf.files c.args.input.now) there None 1048577 c.as_str.result.now
    (rw c.in_default.is at c.in_ok-bytes.ensures.bytes) e)

pub returns-in-Ok-clause-list : goal.returns-in-Ok-clause-list
returns-in-Ok-clause-list g c = λ there e.
    list_read there c.args.rack c.args.feed c.as_str.result.now c.in-Some.bytes.items _ (c.as_str.ensures.value ∙ c.in_ok-name.ensures)
    (shown_bytes (g.I.Shelf.files c.args.input.now) there (Some c.in-Some.bytes.items) 1048577 c.as_str.result.now
    (rw c.in-Some.is at c.in_ok-bytes.ensures.bytes) e)
    (ap list_of (sym c.as_slice.ensures.value) ∙ c.in-Ok.ensures.read)

pub returns-clause-fault : goal.returns-clause-fault
returns-clause-fault g c =
    rw c.list_fault.ensures (list_refused c.in-Err.fault (g.I.Shelf.files c.args.input.now) c.args.rack c.args.feed _ _ c.as_str.result.now
    c.as_slice.result.now c.in_ok-bytes.ensures.failure (c.as_str.ensures.value ∙ c.in_ok-name.ensures)
    (λ t e. ap Some c.as_slice.ensures.value ∙ shown_bytes (g.I.Shelf.files c.args.input.now) t
    (Some c.in-Some.bytes.items) 1048577 c.as_str.result.now (rw c.in-Some.is at c.in_ok-bytes.ensures.bytes) e)
    c.in-Err.ensures.fault)
