-- The kinds of wires and their words.
use Rattle.std.specs.Prelude.{ℕ, List, [], ◌∷◌, Option, codes, find}
use Rattle.std.specs.Str.{bytes_eq}
use Rattle.mask_terms.specs.declared.wires.Wires.{Wires}
use Rattle.mask_terms.specs.declared.wires.Wires.TheVariants.{Plain, Copies}

-- the word that names a kind of wires
abbrev pub wires_word : Wires → List ℕ
wires_word Plain = codes "plain"
wires_word Copies = codes "copies"

-- the kind of wires that a word names
abbrev pub wires_named : List ℕ → Option Wires
wires_named word = find (λ wires. bytes_eq word (wires_word wires)) (Plain ∷ Copies ∷ [])
