use Rattle.std.proofs.Common.{◌<◌, ◌++◌, ◌∙◌, ℕ, List, map, sym, subst, ap, arith}
use Rattle.std.specs.List.{All}
use Rattle.std.proofs.lemmas.List.Elements.{All-get_or}
use Rattle.rp_events.specs.Events.{event_word, given_words}
use Rattle.rp_events.specs.Choices.{given_of, IsChoice}
use Rattle.rp_events.proofs.GivenWords.{indices_given-below, words_next, words_end}
use Rattle.rp_events.proofs.names.event_name.Goals as goal

pub loop-output-init : goal.loop-output-init
loop-output-init c =
    let word = event_word c.args.rp (map given_of c.args.given.now) c.args.which in
    let begun = c.in_ok-extend_event_word.ensures ∙ ap (λ (bytes : List ℕ). bytes ++ word) c.new-name.ensures.items in
    ap (λ (bytes : List ℕ). bytes ++ given_words c.args.gadget.now 0 (map given_of c.args.given.now)) begun

pub extend_share_words-requires-clause-indices : goal.extend_share_words-requires-clause-indices
extend_share_words-requires-clause-indices c =
    let n = c.args.gadget.now.shares in
    let choice = c.index-given-output.result in
    let is = subst (IsChoice n) (sym c.index-given-output.is) (All-get_or (IsChoice n) c.args.given.now c.loop-output.output choice (omega arith) c.requires.choices) in
    subst (λ (indices : List ℕ). All (λ i. i < n) indices) (sym c.indices.ensures) (indices_given-below n choice is)

pub loop-output-preserved : goal.loop-output-preserved
loop-output-preserved c =
    words_next c.args.gadget.now c.args.given.now c.loop-output.output c.index-given-output.result c.indices.result.now c.loop-output.name.items _ _
    (omega arith) c.index-given-output.is c.indices.ensures c.in_ok-extend_share_words.ensures c.loop-output.invariant

pub returns : goal.returns
returns c =
    c.in_ok-new.ensures ∙ c.deref.ensures.value
    ∙ words_end c.args.gadget.now c.args.given.now c.loop-output.output c.loop-output.name.items _ (omega arith) c.loop-output.invariant
