use Rattle.std.proofs.Common.{rules, tests, refl, ap, ◌≡◌, ◌∙◌, ◌&&◌, ℕ, List, [], ◌∷◌}
use Rattle.std.specs.List.{list_all}
use Rattle.std.specs.Char.{is_ascii_digit}
use Rattle.std.specs.Str.{all_ascii_digits}
use Rattle.std.proofs.lemmas.Iterator.Adapters.{YieldsList-from_bytes}
use Rattle.std.proofs.lemmas.Iterator.Search.{all_from_yields_List}
use Rattle.mask_words.proofs.number.are_digits.Goals as goal

by_each : (bs : List ℕ) → list_all is_ascii_digit bs ≡ all_ascii_digits bs
by_each [] = refl
by_each (b ∷ bs) = ap (λ rest. is_ascii_digit b && rest) (by_each bs)

pub returns : goal.returns
returns c =
    let bs = c.args.text.now in
    all_from_yields_List is_ascii_digit _ _ _ c.all.ensures.ran (YieldsList-from_bytes bs cc) (λ x b q k. search (rules, tests)) ∙ by_each bs
