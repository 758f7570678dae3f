-- The order that a line gives: a command whose words are numbers.
use Rattle.std.specs.Prelude.{◌≡◌, ℕ, cond, List, [], ◌∷◌, Some, None, Option, ◌==◌}
use Rattle.std.specs.Option.{option_map}
use Rattle.script.specs.Numbers.{decimal}
use Rattle.script.specs.Words.{words}
use Rattle.script.specs.Commands.{Spoken, letter, arguments, Says}
use Rattle.script.specs.declared.commands.Command.{Command}
use Rattle.script.specs.declared.commands.Command.TheVariants.{Begin, End, Turn, Fail, Avail}

-- the order of two numbers, where both are there
abbrev pub both : (ℕ → ℕ → Command ℕ) → Option ℕ → Option ℕ → Option (Command ℕ)
both order None second = None
both order (Some n) second = option_map (order n) second

-- the order of a letter ('b', 'e', 't', 'f' or 'v') and the words after it
abbrev pub order_by : ℕ → List (List ℕ) → Option (Command ℕ)
order_by first [] = cond (first == 116) (Some Turn) None
order_by first (a ∷ []) =
    cond (first == 102) (option_map Fail (decimal a)) (cond (first == 118) (option_map Avail (decimal a)) None)
order_by first (a ∷ b ∷ []) =
    cond (first == 98) (both Begin (decimal a) (decimal b)) (cond (first == 101) (both End (decimal a) (decimal b)) None)
order_by first (a ∷ b ∷ c ∷ more) = None

-- the order of all words, the first of which is the letter alone
abbrev pub order_in : List (List ℕ) → Option (Command ℕ)
order_in [] = None
order_in ([] ∷ more) = None
order_in ((first ∷ []) ∷ more) = order_by first more
order_in ((first ∷ b ∷ bs) ∷ more) = None

-- the order that a line gives
abbrev pub order_of : List ℕ → Option (Command ℕ)
order_of line = order_in (words line)

-- The law of orders: a line that says a command gives the order of the command's letter and words, and any other line gives none.
abbrev pub OrdersRight : Type 0
OrdersRight =
    ((line : List ℕ) (command : Spoken) → Says line command → order_of line ≡ order_by (letter command) (arguments command)) ×
    ((line : List ℕ) → ((command : Spoken) → Says line command → ⊥) → order_of line ≡ None)
