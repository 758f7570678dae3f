-- The image of a unit that has not begun.
use Rattle.std.proofs.Common.{refl}
use Rattle.blocks.specs.Blocks.{checked_bytes, block_bytes}
use Rattle.images.specs.Fresh.{FreshImage}

pub fresh_image : FreshImage
unfolding checked_bytes block_bytes
fresh_image = (refl, refl, refl)
