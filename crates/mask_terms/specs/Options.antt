-- The options that take a value, and their words.
use Rattle.std.specs.Prelude.{ℕ, List, ◌++◌, codes}
use Rattle.mask_terms.specs.declared.opt.Opt.{Opt}
use Rattle.mask_terms.specs.declared.opt.Opt.TheVariants.{Size, Workers, Block, Budget, FirstWords, Wires}

-- the name of an option
abbrev pub option_name : Opt → List ℕ
option_name Size = codes "size"
option_name Workers = codes "workers"
option_name Block = codes "block"
option_name Budget = codes "budget"
option_name FirstWords = codes "words"
option_name Wires = codes "wires"

-- An option is given by its name after two hyphens.
abbrev pub option_word : Opt → List ℕ
option_word option = codes "--" ++ option_name option
