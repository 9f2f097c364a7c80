-- The names of the given shares, output by output.
use Rattle.std.proofs.Common.{◌≡◌, ℕ, ◌+◌, ◌<◌, ◌≤◌, List, [], ◌++◌, map, length, drop, get_or, ap, sym, ◌∙◌, arith, append_assoc, append-nil, drop_of_length-le}
use Rattle.std.specs.Prelude.{flat_map}
use Rattle.std.specs.List.{All}
use Rattle.std.proofs.Math.ListN.{length-map}
use Rattle.std.proofs.lemmas.List.Elements.{All-nil, All-head}
use Rattle.gadget_model.specs.Circuit.{Circuit}
use Rattle.tuple_model.specs.Tuples.{IsRising}
use Rattle.rp_events.specs.declared.choices.Choice.{Choice}
use Rattle.rp_events.specs.declared.choices.Choice.TheVariants.{Exactly, AllButOne}
use Rattle.rp_events.specs.Events.{indices_given, share_word, given_words}
use Rattle.rp_events.specs.Choices.{given_of, IsChoice}
use Rattle.rp_events.proofs.ListSteps.{drop-map-next}
use Rattle.rp_events.proofs.ShareSums.{IsRising-below}

pub indices_given-below : (n : ℕ) (choice : Choice) → IsChoice n choice → All (λ i. i < n) (indices_given (given_of choice))
indices_given-below n (Exactly indices) h = IsRising-below 0 n indices.now (All-head (IsRising 0 n) indices.now [] h.below)
indices_given-below n (AllButOne sets) h = All-nil (λ i. i < n)

module _ (g : Circuit) (given : List Choice) where
  pub words_next : (output : ℕ) (choice : Choice) (indices name after whole : List ℕ) → output < length given → choice ≡ get_or given output choice →
      indices ≡ indices_given (given_of choice) → after ≡ name ++ flat_map (share_word g output) indices →
      name ++ given_words g output (drop output (map given_of given)) ≡ whole →
      after ++ given_words g (output + 1) (drop (output + 1) (map given_of given)) ≡ whole
  words_next output choice indices name after whole l e i a known =
      let rest = given_words g (output + 1) (drop (output + 1) (map given_of given)) in
      let words = λ (indices : List ℕ). flat_map (share_word g output) indices in
      ap (λ (bytes : List ℕ). bytes ++ rest) (a ∙ ap (λ (indices : List ℕ). name ++ words indices) i)
      ∙ append_assoc name (words (indices_given (given_of choice))) rest
      ∙ ap (λ given. name ++ given_words g output given) (sym (drop-map-next given_of given output choice l e)) ∙ known

  pub words_end : (output : ℕ) (name whole : List ℕ) → length given ≤ output → name ++ given_words g output (drop output (map given_of given)) ≡ whole → name ≡ whole
  words_end output name whole l known =
      sym (append-nil name)
      ∙ ap (λ given. name ++ given_words g output given) (sym (drop_of_length-le (map given_of given) {i = output} (omega (arith, length-map given given_of)))) ∙ known
