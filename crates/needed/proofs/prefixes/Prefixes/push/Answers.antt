use Rattle.std.proofs.Common.{◌≡◌, ◌↔◌, ◌++◌, ◌∷◌, [], ℕ, List, take, refl, sym, ap, ◌∙◌, arith, subst}
use Rattle.std.proofs.lemmas.List.{take_more_set}
use Rattle.std.specs.Prelude.{slice_index, bit_or, None}
use Rattle.gadget_model.specs.Simulation.{IsWithin}
use Rattle.gf2_rows.specs.Newest.{IsNewlyCancelling, NewlyCancels}
use Rattle.needed.specs.Sums.{random_rows_of, LeavesWithin}
use Rattle.needed.specs.LeastSets.{HoldsLeastSets}
use Rattle.needed.proofs.LeastSets.{IsLeastSet-push_none, IsLeastSet-push_some}
use Rattle.needed.proofs.Held.{HoldsLeastSets-push, pushed}
use Rattle.needed.proofs.prefixes.Prefixes.push.Goals as goal
use Rattle.needed.proofs.prefixes.Prefixes.push.Goals.{in-Some, in-None}

pub returns-clause-held : goal.returns-clause-held
returns-clause-held c =
    let p = c.args.self.now in
    let room = c.args.scratch.now in
    let stack = c.push.new.self in
    let t = c.args.table.now in
    let v = c.args.var in
    let vars = take p.count p.vars in
    let held = c.requires.held in
    let places = held.places in
    let row : c.random_row.result ≡ slice_index t.random_rows v = c.random_row.ensures in
    let rows : stack ≡ p.stack ++ slice_index t.random_rows v ∷ [] = c.push.ensures.rows ∙ ap (λ (r : ℕ). p.stack ++ r ∷ []) row in
    let least = held.least_sets p.count (omega arith) in
    let After : ℕ → ℕ → Type 0 = λ scratch set. HoldsLeastSets t scratch (pushed p stack v set) in
    elim c.match-push.branch [
      | in-Some w ↦
          let mask = w.in-Some.mask in
          let shares = w.shares_left.result in
          let new = subst (λ (r : ℕ). IsNewlyCancelling (random_rows_of t vars) r mask) row
          (subst (λ (rs : List ℕ). IsNewlyCancelling rs c.random_row.result mask) held.rows w.in-Some.ensures.cancels) in
          let left = subst (λ (vs : List ℕ). (set : ℕ) → IsWithin shares set ↔ LeavesWithin t vs mask set) (take_more_set p.vars p.count v (omega arith)) w.shares_left.ensures.shares in
          subst (λ (scratch : ℕ). After scratch c.match-push.self) (sym w.scratch-is)
          (subst (λ (set : ℕ). After w.shares_left.new.self set) (sym w.self-is)
          (HoldsLeastSets-push t room w.shares_left.new.self p stack held v (bit_or (slice_index p.leasts p.count) shares)
          c.requires.few c.requires.there w.shares_left.ensures.room rows
          (IsLeastSet-push_some t vars v (slice_index p.leasts p.count) least mask shares new left)))
      | in-None w ↦
          let none = subst (λ (r : ℕ). NewlyCancels (random_rows_of t vars) r None) row
          (subst (λ (rs : List ℕ). NewlyCancels rs c.random_row.result None) held.rows w.in-None.ensures.cancels) in
          subst (λ (scratch : ℕ). After scratch c.match-push.self) (sym w.scratch-is)
          (subst (λ (set : ℕ). After room set) (sym w.self-is)
          (HoldsLeastSets-push t room room p stack held v (slice_index p.leasts p.count)
          c.requires.few c.requires.there refl rows (IsLeastSet-push_none t vars v (slice_index p.leasts p.count) least none)))
    ]
