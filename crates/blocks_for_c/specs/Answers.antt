-- What C passes to the block test, and what it is answered.
use Rattle.std.specs.Prelude.{ℕ, Some, None, Option, if◌then◌else◌, ◌==◌}
use Rattle.blocks.specs.declared.block_test.Expected.{Expected}
use Rattle.blocks.specs.declared.block_test.Expected.TheVariants.{First, Next}
use Rattle.blocks.specs.declared.fault.BlockFault.{BlockFault}
use Rattle.blocks.specs.Faults.{fault_number}

-- number 0 expects block 0, of any count and version
abbrev pub expected_of : ℕ → ℕ → ℕ → Expected
expected_of number count version = if number == 0 then First else Next number count version

-- 0, or the number of the fault
abbrev pub answer_of : Option BlockFault → ℕ
answer_of None = 0
answer_of (Some fault) = fault_number fault
