-- Results in a chain: what `?` is in code.
use Rattle.std.specs.Prelude.{Result, Ok, Err}

-- the function's result on the value of an Ok; an Err stays as it is
infixl 10 ◌>>=◌
abbrev pub ◌>>=◌ : {A B E : Type 0} → Result A E → (A → Result B E) → Result B E
Ok x >>= f = f x
Err e >>= f = Err e
