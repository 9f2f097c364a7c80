use Rattle.std.proofs.Common.{ap, ap₂, codes, ◌≡◌, ◌∙◌}
use Rattle.std.proofs.lemmas.Result.{IfOk-weaker}
use Rattle.clap.specs.Words.{app_of, new_app, with_rule}
use Rattle.clap.specs.Simple.{app_of_fields}
use Rattle.mask_words.specs.Command.{without_help, mask_command}
use Rattle.mask_words.proofs.command.mask_command.Goals as goal

pub returns : goal.returns
unfolding mask_command
returns c =
    let start : app_of c.disable_help_flag.result ≡ without_help (new_app (codes "mask")) = ap app_of_fields c.disable_help_flag.ensures ∙ ap without_help c.new.ensures.app in
    let e1 = c.in_ok-arg.ensures.shape c.required_word.ensures.local ∙ ap₂ with_rule start c.required_word.ensures.rule in
    let e2 = c.in_ok-arg-2.ensures.shape c.required_word-2.ensures.local ∙ ap₂ with_rule e1 c.required_word-2.ensures.rule in
    let e3 = c.in_ok-arg-3.ensures.shape c.option.ensures.local ∙ ap₂ with_rule e2 c.option.ensures.rule in
    let e4 = c.in_ok-arg-4.ensures.shape c.option-2.ensures.local ∙ ap₂ with_rule e3 c.option-2.ensures.rule in
    let e5 = c.in_ok-arg-5.ensures.shape c.option-3.ensures.local ∙ ap₂ with_rule e4 c.option-3.ensures.rule in
    let e6 = c.in_ok-arg-6.ensures.shape c.option-4.ensures.local ∙ ap₂ with_rule e5 c.option-4.ensures.rule in
    let e7 = c.in_ok-arg-7.ensures.shape c.option-5.ensures.local ∙ ap₂ with_rule e6 c.option-5.ensures.rule in
    let e8 = c.in_ok-arg-8.ensures.shape c.option-6.ensures.local ∙ ap₂ with_rule e7 c.option-6.ensures.rule in
    record { app = IfOk-weaker c.arg-9.result _ _ (λ r h. h.shape c.flag.ensures.local ∙ ap₂ with_rule e8 c.flag.ensures.rule) c.arg-9.ensures }
