-- What is held of variables stays held where variables are taken off the end, and where one is added.
use Rattle.std.proofs.Common.{◌≡◌, ℕ, ◌+◌, ◌<◌, ◌≤◌, List, [], ◌∷◌, ◌++◌, length, take, ap, sym, ◌∙◌, inl, inr, arith, subst}
use Rattle.std.specs.Prelude.{slice_index, slice_set, All}
use Rattle.std.proofs.lemmas.Bool.{cases_eq}
use Rattle.std.proofs.lemmas.List.{take_more_set, take-set-le, get_or-set_other, get_or-set_same, map_push, length-set, take-take, take-map}
use Rattle.std.proofs.lemmas.List.Elements.{All-push, All-take}
use Rattle.wire_table.specs.Tables.{Table}
use Rattle.needed.specs.declared.prefixes.Prefixes.{Prefixes}
use Rattle.needed.specs.Sums.{random_rows_of}
use Rattle.needed.specs.LeastSets.{IsLeastSet, HoldsLeastSets}

-- the fields once a variable was added, with the stack of its randoms and the least set that it leads to
abbrev pub pushed : Prefixes → List ℕ → ℕ → ℕ → Prefixes
pushed p stack v least = record {
  stack = stack;
  vars = slice_set p.vars p.count v;
  leasts = slice_set p.leasts (p.count + 1) least;
  count = p.count + 1;
}

module _ (t : Table) (room room' : ℕ) (p : Prefixes) (stack' : List ℕ) (h : HoldsLeastSets t room p) where
  -- with one variable more
  pub HoldsLeastSets-push : (v least : ℕ) → p.count < 64 → v < length t.random_rows → room' ≡ room → stack' ≡ p.stack ++ slice_index t.random_rows v ∷ [] →
      IsLeastSet t (take p.count p.vars ++ v ∷ []) least → HoldsLeastSets t room' (pushed p stack' v least)
  HoldsLeastSets-push v least less there same rows set =
      let places = h.places in
      let sets = h.sets in
      let vars' = take_more_set p.vars p.count v (omega arith) in
      record {
        table = h.table;
        monomials_are = same ∙ h.monomials_are;
        places = length-set p.vars p.count v ∙ h.places;
        sets = length-set p.leasts (p.count + 1) least ∙ h.sets;
        few = omega arith;
        there = subst (λ (vs : List ℕ). All (λ w. w < length t.random_rows) vs) (sym vars')
            (All-push (λ w. w < length t.random_rows) (take p.count p.vars) v h.there there);
        rows = rows
            ∙ ap (λ (rs : List ℕ). rs ++ slice_index t.random_rows v ∷ []) h.rows
            ∙ sym (map_push (slice_index t.random_rows) (take p.count p.vars) v)
            ∙ ap (random_rows_of t) (sym vars');
        least_sets = λ i l. elim (cases_eq i (p.count + 1)) [
          | inl e ↦
              let P : ℕ → Type 0 = λ k. IsLeastSet t (take k (slice_set p.vars p.count v)) (slice_index (slice_set p.leasts (p.count + 1) least) k) in
              let Q : ℕ → Type 0 = λ k. IsLeastSet t (take (p.count + 1) (slice_set p.vars p.count v)) k in
              let R : List ℕ → Type 0 = λ k. IsLeastSet t k least in
              subst P (sym e) (subst Q (sym (get_or-set_same p.leasts (p.count + 1) least 0 (omega arith))) (subst R (sym vars') set))
          | inr ne ↦
              let Q : ℕ → Type 0 = λ k. IsLeastSet t (take i (slice_set p.vars p.count v)) k in
              let R : List ℕ → Type 0 = λ k. IsLeastSet t k (slice_index p.leasts i) in
              subst Q (sym (get_or-set_other p.leasts (p.count + 1) i least 0 ne)) (subst R (sym (take-set-le i p.vars p.count v (omega arith))) (h.least_sets i (omega arith)))
        ];
      }

  -- with the first n variables alone
  pub HoldsLeastSets-truncate : (n : ℕ) → n ≤ p.count → stack' ≡ take n p.stack →
      HoldsLeastSets t room (record { stack = stack'; vars = p.vars; leasts = p.leasts; count = n })
  HoldsLeastSets-truncate n l e =
      let few = h.few in
      let fewer = take-take n p.count p.vars l in
      record {
        table = h.table;
        monomials_are = h.monomials_are;
        places = h.places;
        sets = h.sets;
        few = omega arith;
        there = subst (λ (vs : List ℕ). All (λ w. w < length t.random_rows) vs) fewer (All-take (λ w. w < length t.random_rows) n (take p.count p.vars) h.there);
        rows = e ∙ ap (take n) h.rows ∙ take-map (slice_index t.random_rows) n (take p.count p.vars) ∙ ap (random_rows_of t) fewer;
        least_sets = λ i m. h.least_sets i (omega arith);
      }
