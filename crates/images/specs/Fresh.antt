-- The image of a unit that has not begun, over an operator whose first state writes one zero byte.
use Rattle.std.specs.Prelude.{◌≡◌, [], ◌∷◌}
use Rattle.blocks.specs.Blocks.{block_bytes}
use Rattle.blocks.specs.Tests.{number_at}
use Rattle.images.specs.Contents.{Contents, data_of}
use Rattle.images.specs.Images.{image_bytes}

abbrev pub fresh : Contents
fresh = record {
  counts = record { records_run = 0; results_produced = 0; results_settled = 0 };
  state = 0 ∷ [];
  held = [];
}

-- one block, of data length 17 and check 166
abbrev pub FreshImage : Type 0
FreshImage =
    (image_bytes 0 (data_of fresh) ≡ block_bytes 0 0 1 (data_of fresh)) × (number_at (image_bytes 0 (data_of fresh)) 6 ≡ 17) × (number_at (image_bytes 0 (data_of fresh)) 510 ≡ 166)
