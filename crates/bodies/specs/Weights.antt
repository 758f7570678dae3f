-- What messages and a buffer's entries weigh.
use Rattle.std.specs.Prelude.{ℕ, ◌+◌}

-- the bytes of a header, and so the weight of a message or an entry without a body
abbrev pub header_length : ℕ
header_length = 8

-- the weight of one with a body of so many bytes
abbrev pub weigh : ℕ → ℕ
weigh n = header_length + n

-- no body is longer
abbrev pub longest_body : ℕ
longest_body = 40
