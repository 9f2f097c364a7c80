use Rattle.std.proofs.Common.{◌≡◌, ℕ, ◌+◌, List, length, ap, ◌∙◌, subst, arith}
use Rattle.std.proofs.lemmas.List.{length_push}
use Rattle.wire_table.specs.WirePolynomials.{IsPolynomialOf}
use Rattle.wire_table.proofs.WirePolynomials.{ArePolynomials-push}
use Rattle.wire_table.proofs.polynomials.polynomials.Goals as goal

pub loop-var-preserved : goal.loop-var-preserved
loop-var-preserved c =
    let l = c.loop-var in
    let ps = l.polynomials.items in
    let p = c.in_ok-next.next in
    let e : length c.push.new.self.items ≡ length ps + 1 = ap length c.in_ok-push.ensures.items ∙ length_push ps p in
    let n = l.invariant.every in
    let P : List (List ℕ) → Type 0 = λ earlier. IsPolynomialOf c.args.gadget.now (length earlier) p in
    record {
      every = omega arith;
      polynomials = ArePolynomials-push c.args.gadget.now ps c.push.new.self.items p l.invariant.polynomials
          (subst P c.deref.ensures.value c.in_ok-next.ensures.polynomial) c.in_ok-push.ensures.items;
    }
