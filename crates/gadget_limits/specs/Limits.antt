-- How large a gadget may be.
use Rattle.std.specs.Prelude.{ℕ}

-- A secret is split into at most this many shares.
abbrev pub most_shares : ℕ
most_shares = 16

-- A gadget has at most this many inputs.
abbrev pub most_inputs : ℕ
most_inputs = 4

-- A gadget has at most this many outputs.
abbrev pub most_outputs : ℕ
most_outputs = 2

-- A gadget uses at most this many randoms.
abbrev pub most_randoms : ℕ
most_randoms = 128

-- A gadget has at most this many variables, shares of inputs and randoms counted in.
abbrev pub most_variables : ℕ
most_variables = 511

-- The polynomial of a variable has at most this many monomials.
abbrev pub most_monomials : ℕ
most_monomials = 256
