use Rattle.std.proofs.Common.{rules, refl, sym, ◌≡◌, ◌∙◌, codes, Some, None}
use Rattle.clap.specs.Words.{found_of, first_value, one_text}
use Rattle.clap.proofs.WalkLemmas.{first_value-rows, one_text-rows}
use Rattle.mask_words.specs.Reading.{has_flag}
use Rattle.mask_words.proofs.Fill.{filled, flag_is, both_there}
use Rattle.mask_words.proofs.given.from_matches.Goals as goal

pub returns-in_err-get_str : goal.returns-in_err-get_str
returns-in_err-get_str c = λ items h complete.
    let none : None ≡ first_value (found_of c.args.matches.now) (codes "TASK") = search rules in
    absurd ((both_there items complete).0 (sym h.task ∙ sym (first_value-rows (found_of c.args.matches.now) (codes "TASK")) ∙ sym none))

pub returns-in_err-get_str-2 : goal.returns-in_err-get_str-2
returns-in_err-get_str-2 c = λ items h complete.
    let none : None ≡ first_value (found_of c.args.matches.now) (codes "ARG") = search rules in
    absurd ((both_there items complete).1 (sym h.argument ∙ sym (first_value-rows (found_of c.args.matches.now) (codes "ARG")) ∙ sym none))

pub returns : goal.returns
returns c = λ items h complete.
    let m = found_of c.args.matches.now in
    let one : Some c.in_ok-get_str.field-0.now ≡ first_value m (codes "TASK") = search rules in
    let two : Some c.in_ok-get_str-2.field-0.now ≡ first_value m (codes "ARG") = search rules in
    filled items _ complete (one ∙ first_value-rows m (codes "TASK") ∙ h.task) (two ∙ first_value-rows m (codes "ARG") ∙ h.argument) (record {
      size = c.get_str-3.ensures ∙ first_value-rows m (codes "size") ∙ h.options (codes "size") refl;
      workers = c.get_str-4.ensures ∙ first_value-rows m (codes "workers") ∙ h.options (codes "workers") refl;
      block = c.get_str-5.ensures ∙ first_value-rows m (codes "block") ∙ h.options (codes "block") refl;
      budget = c.get_str-6.ensures ∙ first_value-rows m (codes "budget") ∙ h.options (codes "budget") refl;
      words = c.get_str-7.ensures ∙ first_value-rows m (codes "words") ∙ h.options (codes "words") refl;
      wires = c.get_str-8.ensures ∙ first_value-rows m (codes "wires") ∙ h.options (codes "wires") refl;
      tallies = flag_is (has_flag items) (one_text m (codes "tallies")) _ (one_text-rows m (codes "tallies") ∙ h.flagged) c.get_flag.ensures.value c.get_flag.ensures.other;
    })
