use Rattle.std.proofs.Common.{rules, tests, ◌∙◌, string_bytes}
use Rattle.std.proofs.lemmas.Iterator.{YieldsList-from_slice}
use Rattle.std.proofs.lemmas.Iterator.Adapters.{YieldsList-from_skip}
use Rattle.std.proofs.lemmas.Iterator.Search.{any_from_yields_List}
use Rattle.mask_words.specs.Reading.{is_lone}
use Rattle.mask_words.proofs.Clean.{mapped}
use Rattle.mask_words.proofs.given.has_lone.Goals as goal

pub returns : goal.returns
returns c =
    let xs = c.args.words.now in
    any_from_yields_List (λ s. is_lone (string_bytes s)) _ _ _ c.any.ensures.ran (YieldsList-from_skip 1 (YieldsList-from_slice xs cc) cc) (λ x b q k. search (rules, tests)) ∙ mapped xs
