-- How a line says a command: its letter, and then its words.
use Rattle.std.specs.Prelude.{◌≡◌, ℕ, List, [], ◌∷◌}
use Rattle.std.specs.Borrow.{Bor}
use Rattle.std.specs.List.{AllByRecursion}
use Rattle.script.specs.Words.{Word, spaced}
use Rattle.script.specs.declared.commands.Command.{Command}
use Rattle.script.specs.declared.commands.Command.TheVariants.{Begin, End, Turn, Fail, Avail}

-- a command with its words, as a line has them
abbrev pub Spoken : Type 0
Spoken = Command (Bor (List ℕ))

-- 'b', 'e', 't', 'f', 'v'
abbrev pub letter : Spoken → ℕ
letter (Begin line stamp) = 98
letter (End line stamp) = 101
letter Turn = 116
letter (Fail side) = 102
letter (Avail side) = 118

-- the words after the letter
abbrev pub arguments : Spoken → List (List ℕ)
arguments (Begin line stamp) = line.now ∷ stamp.now ∷ []
arguments (End line stamp) = line.now ∷ stamp.now ∷ []
arguments Turn = []
arguments (Fail side) = side.now ∷ []
arguments (Avail side) = side.now ∷ []

-- the line is the command's letter and its words, with one space between, and nothing else
abbrev pub Says : List ℕ → Spoken → Type 0
Says text command = AllByRecursion Word (arguments command) × (text ≡ spaced ((letter command ∷ []) ∷ arguments command))
