use Rattle.std.proofs.Common.{◌≡◌, ◌↔◌, ℕ, ◌+◌, List, length, sym, subst}
use Rattle.std.proofs.lemmas.Bool.{eqb-true, eq-eqb}
use Rattle.tuple_model.specs.Tuples.{IsRising, IsSubset}
use Rattle.tuple_order.proofs.Merging.{Left, Left-found, Left-other, Left-all, Left-done}
use Rattle.tuple_order.proofs.tuples.is_subset.Goals as goal
use Rattle.tuple_order.proofs.tuples.is_subset.Goals.{then-found-wanted+then-wanted-found, else-found-wanted, else-found-wanted-via-then-found-wanted+else-wanted-found, else-found-wanted-via-else-found-wanted}

pub loop-item-preserved : goal.loop-item-preserved
loop-item-preserved c =
    let a = c.items-wanted.result.now in
    let b = c.items-item-items.result.now in
    let i = c.loop-item.item-index in
    let found = c.loop-item.found in
    let g = subst (IsRising 0 511) (sym c.items-wanted.ensures.items) c.items-wanted.ensures.tuple.rising in
    let h = subst (IsRising 0 511) (sym c.items-item-items.ensures.items) c.items-item-items.ensures.tuple.rising in
    let P : ℕ → Type 0 = λ n. Left a b n (i + 1) in
    elim c.if-found-wanted.branch [
      | then-found-wanted+then-wanted-found w ↦ subst P (sym w.found-is) (Left-found 511 a b found i g h c.loop-item.invariant c.loop-item-test.true w.if-found-wanted.true w.if-wanted-found.true)
      | else-found-wanted w ↦ subst P (sym w.found-is) (elim w.else-found-wanted.branch [
        | else-found-wanted-via-then-found-wanted+else-wanted-found v ↦ Left-other 511 a b found i g h c.loop-item.invariant c.loop-item-test.true v.if-found-wanted.true v.if-wanted-found.false
        | else-found-wanted-via-else-found-wanted v ↦ Left-all 511 a b found i g h c.loop-item.invariant c.loop-item-test.true v.if-found-wanted.false
      ])
    ]

pub returns : goal.returns
returns c =
    let d = Left-done c.items-wanted.result.now c.items-item-items.result.now c.loop-item.found c.loop-item.item-index c.loop-item.invariant c.loop-item-test.false in
    let P : List ℕ → Type 0 = λ a. (c.loop-item.found ≡ length c.items-wanted.result.now) ↔ IsSubset a c.items-item-items.result.now in
    let Q : List ℕ → Type 0 = λ b. (c.loop-item.found ≡ length c.items-wanted.result.now) ↔ IsSubset c.args.a.now b in
    let e = subst Q c.items-item-items.ensures.items (subst P c.items-wanted.ensures.items d) in
    let wanted = length c.items-wanted.result.now in
    (λ k. e.0 (eqb-true c.loop-item.found wanted k), λ s. eq-eqb c.loop-item.found wanted (e.1 s))
