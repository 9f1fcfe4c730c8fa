-- The faults of the farm and of a shelf, as serving's.
use Rattle.farm_orders.specs.declared.error.FarmError.{FarmError}
use Rattle.farm_orders.specs.declared.error.FarmError.TheVariants as farm
use Rattle.farm_shelves.specs.declared.shelf.ShelfFault.{ShelfFault}
use Rattle.farm_shelves.specs.declared.shelf.ShelfFault.TheVariants as shelf
use Rattle.farm_reading.specs.declared.faults.ServeFault.{ServeFault}
use Rattle.farm_reading.specs.declared.faults.ServeFault.TheVariants as fault

abbrev pub of_farm : FarmError → ServeFault
of_farm farm.OutOfMemory = fault.OutOfMemory
of_farm farm.NoThread = fault.NoThread

abbrev pub of_shelf : ShelfFault → ServeFault
of_shelf shelf.Device = fault.Device
of_shelf shelf.OutOfMemory = fault.OutOfMemory
