-- What a value is made of, by its kind byte.
-- Assumes nothing: these are definitions.
use Rattle.std.specs.Prelude.{ℕ, zero, suc}
use Rattle.values.specs.declared.ValueKind.{ValueKind}
use Rattle.values.specs.declared.ValueKind.TheVariants.{Leaf, Array, Struct, Text}

-- rule 7.1: the kind of a byte; what is none of 0 to 2 is read as 3
abbrev pub kind_of : ℕ → ValueKind
kind_of zero = Leaf
kind_of (suc zero) = Array
kind_of (suc (suc zero)) = Struct
kind_of (suc (suc (suc k))) = Text

-- rule 7.1: the byte of a kind
abbrev pub kind_number : ValueKind → ℕ
kind_number Leaf = 0
kind_number Array = 1
kind_number Struct = 2
kind_number Text = 3
