-- What the iterators over a name have left.
-- Assumes nothing: these are definitions.
use Rattle.std.specs.Prelude.{◌≡◌, ℕ, List, [], length, map, eqb, None, Option, Some, Err, Ok, Result}
use Rattle.fields.specs.Places.{part}
use Rattle.fields.specs.Decimal.{numeral_of}
use Rattle.names.specs.Pieces.{parts}
use Rattle.names.specs.Steps.{step_at}
use Rattle.names.specs.declared.token.Indexes.{Indexes}
use Rattle.names.specs.declared.walk.Token.{Token as Told}
use Rattle.names.specs.declared.walk.Stop.{Stop}
use Rattle.names.specs.declared.walk.Tokens.{Tokens}
use Rattle.names.specs.Strip.{strip_from}
use Rattle.names.specs.declared.strip.Stripped.{Stripped}
use denote.Ref.{Bor}

-- the numbers of the parts of a text that is left
abbrev pub numbers_left : Option (Bor (List ℕ)) → List (Option ℕ)
numbers_left None = []
numbers_left (Some t) = map numeral_of (parts (eqb 44) t.now)

-- the numbers that are left of a bracket
abbrev pub indexes_left : Indexes → List (Option ℕ)
indexes_left s = numbers_left s.rest

-- what a call gives of the tokens: none at the end of the name, the next one with its text, or the place where reading stops, and
-- nothing behind that
abbrev pub Gives : Tokens → Option (Result (Bor (List ℕ) × Told) Stop) → Tokens → Type 0
Gives s None t = (step_at s.name.now s.at ≡ Ok None) × (t.at ≡ s.at)
Gives s (Some (Ok p)) t = (step_at s.name.now s.at ≡ Ok (Some p.1)) × (p.0.now ≡ part s.at p.1.end s.name.now) × (t.at ≡ p.1.end)
Gives s (Some (Err i)) t = (step_at s.name.now s.at ≡ Err i) × (t.at ≡ length s.name.now)

-- what a call gives, the name being as it was
abbrev pub Walks : Tokens → Option (Result (Bor (List ℕ) × Told) Stop) → Tokens → Type 0
Walks s r t = (t.name.now ≡ s.name.now) × Gives s r t

-- the bytes that are left of a path
abbrev pub path_left : Stripped → List ℕ
path_left s = strip_from s.end s.rest.now
