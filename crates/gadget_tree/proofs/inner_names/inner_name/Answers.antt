use Rattle.std.proofs.Common.{◌≡◌, ◌++◌, List, ℕ, sym, ap, ◌∙◌}
use Rattle.std.proofs.lemmas.Result.{IfOk-weaker}
use Rattle.gadget_tree.specs.Operations.{inner_name}
use Rattle.gadget_tree.proofs.TakenNames.{inner_is}
use Rattle.gadget_tree.proofs.inner_names.inner_name.Goals as goal

pub returns : goal.returns
returns c =
    let name = c.args.name.now in
    let number = ap (λ (xs : List ℕ). name ++ xs) (c.as_bytes.ensures.value ∙ c.in_ok-number.ensures.ok) in
    IfOk-weaker c.joined.result (λ n. n ≡ name ++ c.as_bytes.result.now) (λ n. n ≡ inner_name name c.args.k) (λ n e. e ∙ number ∙ sym (inner_is name c.args.k)) c.joined.ensures
