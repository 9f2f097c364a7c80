use Rattle.std.proofs.Common.{rules, ap, refl, sym, subst, ◌≡◌, ◌∙◌, map, drop, string_bytes, false, [], ◌∷◌, Bool}
use Rattle.std.specs.List.{list_any}
use Rattle.clap.specs.Words.{Kinds, fault_of, is_simple_and_free, is_simple, matches_of}
use Rattle.mask_words.specs.Command.{mask_command}
use Rattle.mask_words.specs.Reading.{is_lone}
use Rattle.mask_words.specs.Taken.{Holds}
use Rattle.mask_words.proofs.Cases.{simple, simple_too}
use Rattle.mask_words.proofs.Refused.{some_kind}
use Rattle.mask_words.proofs.Accepted.{accepted, matched}
use Rattle.mask_words.proofs.Walk.{is_none}
use Rattle.mask_words.proofs.Clean.{clean_words, line_refused, line_taken}
use Rattle.mask_words.proofs.given.read.Goals as goal

some_fault : (kinds : Kinds) (b : Bool) → (kinds ≡ [] → ⊥) → is_none kinds ≡ b → b ≡ false
some_fault [] b h e = absurd (h refl)
some_fault (k ∷ ks) b h e = sym e

pub returns-in-Ok : goal.returns-in-Ok
returns-in-Ok c =
    let words = map string_bytes c.args.words.now in
    let xs = drop 1 words in
    let plain : list_any is_lone xs ≡ false = sym c.has_lone.ensures ∙ c.if-has_lone.false in
    let clean = clean_words c.args.words.now plain in
    let fine : fault_of mask_command words ≡ [] = ap (λ app. fault_of app words) (sym c.in_ok-command.ensures.app) ∙ c.in-Ok.ensures.kinds (ap is_simple_and_free c.in_ok-command.ensures.app ∙ simple) in
    let rows = (c.in-Ok.ensures.matches (ap is_simple c.in_ok-command.ensures.app ∙ simple_too)).0 ∙ ap (λ app. matches_of app words) c.in_ok-command.ensures.app in
    let taken = line_taken xs plain (sym (accepted words clean) ∙ ap is_none fine) in
    c.from_matches.ensures taken.0 (subst (Holds taken.0) (sym rows) (matched words clean fine taken.0 taken.1)) taken.2 ∙ sym taken.3

pub returns : goal.returns
returns c =
    let words = map string_bytes c.args.words.now in
    let plain : list_any is_lone (drop 1 words) ≡ false = sym c.has_lone.ensures ∙ c.if-has_lone.false in
    let clean = clean_words c.args.words.now plain in
    let faulty : fault_of mask_command words ≡ [] → ⊥ = λ none. some_kind _ c.in-Err.error (c.in-Err.ensures.kinds (ap is_simple_and_free c.in_ok-command.ensures.app ∙ simple)) (search rules) (ap (λ app. fault_of app words) c.in_ok-command.ensures.app ∙ none) in
    sym (line_refused (drop 1 words) plain (some_fault _ _ faulty (accepted words clean)))
