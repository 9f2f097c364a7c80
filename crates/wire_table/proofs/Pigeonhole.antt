-- Lists without repeats are no longer than lists with their elements.
use Rattle.std.proofs.Common.{◌≤◌, List, [], ◌∷◌, ◌++◌, length, ap, sym, inl, inr, arith, subst, Contains, length-append}
use Rattle.list_laws.proofs.Members.{Contains-cons_head, Contains-cons_tail}
use Rattle.list_laws.proofs.Once.{Once, Once-head, Once-tail, Contains-split, Contains-middle_cases}

-- a list without repeats is no longer than one with all its elements
pub length-le : {X : Type 0} (xs ys : List X) → Once xs → ((x : X) → Contains xs x → Contains ys x) → length xs ≤ length ys
length-le [] ys once within = omega arith
length-le {X} (x ∷ xs) ys once within =
    let r = Contains-split ys x (within x (Contains-cons_head x xs)) in
    let new = Once-head x xs once in
    let others : (y : X) → Contains xs y → Contains (r.0 ++ r.1) y = λ y h.
    elim (Contains-middle_cases r.0 x r.1 y (subst (λ (w : List X). Contains w y) r.2 (within y (Contains-cons_tail x xs y h)))) [
      | inl e ↦ absurd (new (subst (Contains xs) (sym e) h))
      | inr k ↦ k
    ] in
    let i = length-le xs (r.0 ++ r.1) (Once-tail x xs once) others in
    let l = ap length r.2 in
    let l' = length-append r.0 (x ∷ r.1) in
    let l'' = length-append r.0 r.1 in
    omega arith
