-- What is printed of a fault.
use Rattle.std.specs.Prelude.{ℕ, List, codes}
use Rattle.session_workers.specs.declared.workers.PoolFault.{PoolFault}
use Rattle.session_workers.specs.declared.workers.PoolFault.TheVariants.{NoMemory, NoThread, NoSeat}

-- the fault's name
abbrev pub fault_name : PoolFault → List ℕ
fault_name NoMemory = codes "NoMemory"
fault_name NoThread = codes "NoThread"
fault_name NoSeat = codes "NoSeat"
