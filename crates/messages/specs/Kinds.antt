-- The kinds of messages, and the bytes that stand for them.
use Rattle.std.specs.Prelude.{ℕ}
use Rattle.messages.specs.declared.kind.Kind.{Kind}
use Rattle.messages.specs.declared.kind.Kind.TheVariants as kind

-- the byte that stands for a kind
abbrev pub kind_byte : Kind → ℕ
kind_byte kind.Record = 1
kind_byte kind.Result = 2
kind_byte kind.Ack = 3
kind_byte kind.Csync = 4
kind_byte kind.Psync = 5
kind_byte kind.Reverse = 6
