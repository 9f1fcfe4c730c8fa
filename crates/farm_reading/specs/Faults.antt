-- Why serving ends, by the lists that are read.
use Rattle.std.specs.Prelude.{◌≡◌, ◌+◌, ◌<◌, ℕ, List, length, Some, None, Err, option_map}
use Rattle.farm_lists.specs.Listing.{list_of}
use Rattle.farm_lists.specs.declared.listing.Record.{Record}
use Rattle.farm_lists.specs.declared.listing.ListFault.{ListFault}
use Rattle.farm_lists.specs.declared.listing.ListFault.TheVariants as list_fault
use Rattle.farm_shelves.specs.Files.{Files, Shown}
use Rattle.farm_reading.specs.declared.faults.ServeFault.{ServeFault}
use Rattle.farm_reading.specs.declared.faults.ServeFault.TheVariants as fault
use Rattle.farm_lists.specs.Names.{list_name}
use Rattle.farm_reading.specs.Reading.{AreLists, HaveFeeds, HaveLists}

-- some first feeds of the rack have lists, and the list of the feed after them is refused
abbrev pub RefusesFeed : Files → ℕ → ℕ → ListFault → Type 0
RefusesFeed there rack feed reason = (feeds : List (List Record)) × HaveFeeds there rack 0 feeds × (length feeds ≡ feed) × (feed < 4)
    × (option_map list_of (there (list_name rack feed)) ≡ Some (Err reason))

-- four feeds of the rack have lists, and there is a list of a fifth
abbrev pub HasFifthFeed : Files → ℕ → Type 0
HasFifthFeed there rack = (feeds : List (List Record)) × HaveFeeds there rack 0 feeds × (length feeds ≡ 4)
    × (there (list_name rack 4) ≡ None → ⊥)

-- why serving ended, by the files of the input
abbrev pub Explains : ServeFault → Files → Type 0
Explains fault.NoRacks there = there (list_name 0 0) ≡ None
Explains fault.TooManyRacks there = (lists : List (List (List Record))) × HaveLists there 0 lists × (length lists ≡ 16)
    × (there (list_name 16 0) ≡ None → ⊥)
Explains fault.BadFeeds there = (lists : List (List (List Record))) × HaveLists there 0 lists × (length lists < 16)
    × HasFifthFeed there (length lists)
Explains (fault.List rack feed reason) there = (lists : List (List (List Record))) × HaveLists there 0 lists × (length lists ≡ rack)
    × (rack < 16) × RefusesFeed there rack feed reason
Explains fault.Device there = Unit {0}
Explains fault.OutOfMemory there = Unit {0}
Explains fault.NoThread there = (lists : List (List (List Record))) × AreLists there lists

-- why the list of a rack's feed can't be read: by the files of the input, and by how often its device failed before and after
abbrev pub IsListFault : ServeFault → ℕ → ℕ → Shown → ℕ → ℕ → Type 0
IsListFault (fault.List k f reason) rack feed there before after =
    (k ≡ rack) × (f ≡ feed) × (after ≡ before) × ((t : Files) → there ≡ Some t
    → option_map list_of (t (list_name rack feed)) ≡ Some (Err reason))
IsListFault fault.Device rack feed there before after = after ≡ before + 1
IsListFault fault.OutOfMemory rack feed there before after = after ≡ before
IsListFault fault.BadFeeds rack feed there before after = ⊥
IsListFault fault.TooManyRacks rack feed there before after = ⊥
IsListFault fault.NoRacks rack feed there before after = ⊥
IsListFault fault.NoThread rack feed there before after = ⊥

-- why the lists of a rack's feeds can't be read, by the files of the input
abbrev pub IsRackFault : ServeFault → ℕ → Files → Type 0
IsRackFault (fault.List k feed reason) rack there = (k ≡ rack) × RefusesFeed there rack feed reason
IsRackFault fault.BadFeeds rack there = HasFifthFeed there rack
IsRackFault fault.Device rack there = Unit {0}
IsRackFault fault.OutOfMemory rack there = Unit {0}
IsRackFault fault.TooManyRacks rack there = ⊥
IsRackFault fault.NoRacks rack there = ⊥
IsRackFault fault.NoThread rack there = ⊥

-- a list's fault as serving's
abbrev pub serve_fault : ℕ → ℕ → ListFault → ServeFault
serve_fault rack feed list_fault.InputTooLong = fault.List rack feed list_fault.InputTooLong
serve_fault rack feed list_fault.BadHeader = fault.List rack feed list_fault.BadHeader
serve_fault rack feed (list_fault.BadRecord n) = fault.List rack feed (list_fault.BadRecord n)
serve_fault rack feed (list_fault.Refused n e) = fault.List rack feed (list_fault.Refused n e)
serve_fault rack feed list_fault.TooManyOrders = fault.List rack feed list_fault.TooManyOrders
serve_fault rack feed list_fault.OutOfMemory = fault.OutOfMemory

-- how often the device failed in a call that ended in this fault
abbrev pub CountsFault : ServeFault → ℕ → ℕ → Type 0
CountsFault fault.Device before after = after ≡ before + 1
CountsFault fault.OutOfMemory before after = after ≡ before
CountsFault fault.NoThread before after = after ≡ before
CountsFault fault.NoRacks before after = after ≡ before
CountsFault fault.TooManyRacks before after = after ≡ before
CountsFault fault.BadFeeds before after = after ≡ before
CountsFault (fault.List rack feed reason) before after = after ≡ before

-- the same, where a read alone can fail
abbrev pub IsReadFault : ServeFault → ℕ → ℕ → Type 0
IsReadFault fault.Device before after = after ≡ before + 1
IsReadFault fault.OutOfMemory before after = after ≡ before
IsReadFault fault.NoThread before after = ⊥
IsReadFault fault.NoRacks before after = ⊥
IsReadFault fault.TooManyRacks before after = ⊥
IsReadFault fault.BadFeeds before after = ⊥
IsReadFault (fault.List rack feed reason) before after = ⊥
