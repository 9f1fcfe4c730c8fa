-- How the command `farm` ends.
use Rattle.std.specs.Prelude.{ℕ, List, ◌++◌, Result, Ok, Err, codes, decimal}
use Rattle.lrc_code.specs.Requests.{code_of}
use Rattle.farm_lists.specs.Names.{list_name}
use Rattle.farm_lists.specs.declared.listing.ListFault.{ListFault}
use Rattle.farm_lists.specs.declared.listing.ListFault.TheVariants as list_fault
use Rattle.farm_reading.specs.declared.faults.ServeFault.{ServeFault}
use Rattle.farm_reading.specs.declared.faults.ServeFault.TheVariants.{List as OfList, BadFeeds, TooManyRacks, NoRacks, Device, NoThread}
use Rattle.farm_reading.specs.declared.faults.ServeFault.TheVariants.{OutOfMemory}

-- the fault as it is reported: memory that was refused while a list was read is no fault of that list
abbrev pub reported : ServeFault → ServeFault
reported (OfList rack feed list_fault.OutOfMemory) = OutOfMemory
reported fault = fault

-- the exit status of a reported fault
abbrev pub fault_status : ServeFault → ℕ
fault_status (OfList rack feed reason) = 1
fault_status BadFeeds = 1
fault_status TooManyRacks = 1
fault_status NoRacks = 1
fault_status Device = 3
fault_status OutOfMemory = 4
fault_status NoThread = 4

-- the exit status, whatever is given of what was served
abbrev pub status_of : {A : Type 0} → Result A ServeFault → ℕ
status_of (Ok served) = 0
status_of (Err fault) = fault_status (reported fault)

-- the start of a line on a record
abbrev pub record_text : ℕ → List ℕ
record_text number = codes "record " ++ decimal number

-- a list's fault, without the list's name
abbrev pub reason_text : ListFault → List ℕ
reason_text list_fault.OutOfMemory = codes "E16"
reason_text list_fault.BadHeader = codes "E19"
reason_text (list_fault.BadRecord number) = record_text number ++ codes ": E20"
reason_text (list_fault.Refused number refusal) = record_text number ++ codes ": E21 E" ++ decimal (code_of refusal)
reason_text list_fault.InputTooLong = codes "E25"
reason_text list_fault.TooManyOrders = codes "E26"

-- the line of a list's fault: the file of the rack's feed, and what is wrong with the list
abbrev pub list_fault_text : ℕ → ℕ → ListFault → List ℕ
list_fault_text rack feed reason = list_name rack feed ++ codes ": " ++ reason_text reason

-- the line of a reported fault
abbrev pub reported_text : ServeFault → List ℕ
reported_text (OfList rack feed reason) = list_fault_text rack feed reason
reported_text BadFeeds = codes "E28"
reported_text TooManyRacks = codes "E18"
reported_text NoRacks = codes "E23"
reported_text Device = codes "E24"
reported_text NoThread = codes "E17"
reported_text OutOfMemory = codes "E16"

-- the line of a fault
abbrev pub fault_text : ServeFault → List ℕ
fault_text fault = reported_text (reported fault)
