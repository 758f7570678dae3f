-- The numbers of the faults of an image.
use Rattle.std.specs.Prelude.{ℕ}
use Rattle.blocks.specs.Faults.{fault_number}
use Rattle.images.specs.declared.fault.ImageFault.{ImageFault}
use Rattle.images.specs.declared.fault.ImageFault.TheVariants.{InBlock, WrongContents, Unreadable, ShortMemory}

abbrev pub image_fault_number : ImageFault → ℕ
image_fault_number (InBlock fault) = fault_number fault
image_fault_number WrongContents = 19
image_fault_number Unreadable = 20
image_fault_number ShortMemory = 21
