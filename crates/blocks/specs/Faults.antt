-- The numbers of the faults of a block.
use Rattle.std.specs.Prelude.{ℕ}
use Rattle.blocks.specs.declared.fault.BlockFault.{BlockFault}
use Rattle.blocks.specs.declared.fault.BlockFault.TheVariants.{WrongLength, WrongCheck, WrongNumber, WrongVersion, WrongData}

abbrev pub fault_number : BlockFault → ℕ
fault_number WrongLength = 14
fault_number WrongCheck = 15
fault_number WrongNumber = 16
fault_number WrongVersion = 17
fault_number WrongData = 18
