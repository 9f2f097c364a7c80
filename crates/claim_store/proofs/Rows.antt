-- Rows of words with their views, in which one seat's view is changed.
use Rattle.std.proofs.Common.{◌≡◌, ◌≢◌, ℕ, zero, suc, ◌<◌, ⊎_elim, List, [], ◌∷◌, ◌++◌, map, length, set, refl, ap, sym, ◌∙◌, arith, subst, Some}
use Rattle.std.specs.Prelude.{slice_index, Option as Option'}
use mathlib.Core.Option.{some}
use lib.ListN.{get_elem?}
use Rattle.atomic_table.specs.Seated.{TableId}
use Rattle.atomic_table.proofs.Lists.{at_set, at_snoc, at_map}
use Rattle.cover_core.specs.declared.state.View.{View}
use Rattle.cover_core.specs.Core.{Asked, CoreOk, Has, ListsRise}
use Rattle.cover_core.proofs.Good.{Good}
use Rattle.cover_core.specs.Effects.{Fresh}
use Rattle.cover_core.proofs.Moved.{moved}
use Rattle.claim_store.specs.declared.rule.Doing.{Doing}
use Rattle.claim_store.specs.declared.rule.Facts.{Facts}
use Rattle.claim_store.specs.Seen.{StoreSeen, PassSeen, IsSeatOf, IsPassOf}
use Rattle.claim_store.specs.Rule.{view_of, state_of, EachNames, RowOk, asked, IsSound}

-- a list's maps of a change at a place, and of one more
pub map-set : {A B : Type 0} (f : A → B) (l : List A) (i : ℕ) (x : A) → map f (set l i x) ≡ set (map f l) i (f x)
map-set f [] i x = refl
map-set f (y ∷ ys) zero x = refl
map-set f (y ∷ ys) (suc i) x = ap (λ zs. f y ∷ zs) (map-set f ys i x)

pub map-snoc : {A B : Type 0} (f : A → B) (l : List A) (x : A) → map f (l ++ x ∷ []) ≡ map f l ++ f x ∷ []
map-snoc f [] x = refl
map-snoc f (y ∷ ys) x = ap (λ zs. f y ∷ zs) (map-snoc f ys x)

-- what a place within a list has
pub index_at : (words : List ℕ) (p : ℕ) → p < length words → get_elem? words p ≡ some (slice_index words p)
index_at [] p h = absurd (omega arith)
index_at (x ∷ xs) zero h = refl
index_at (x ∷ xs) (suc p) h = index_at xs p (omega arith)

module _ {Q : Type 0} where
  -- what holds of a pass and a store holds of what stands in them
  pub opened_at : (s s' : StoreSeen Q) (p p' : PassSeen Q) → s ≡ s' → p ≡ p' → IsSeatOf s' p' → IsSeatOf s p
  opened_at s s' p p' e f h = let P : StoreSeen Q → Type 0 = λ x. IsSeatOf x p in let R : PassSeen Q → Type 0 = λ y. IsSeatOf s' y in subst P (sym e) (subst R (sym f) h)

  -- a move that leaves the query's name leaves the seat with its store
  pub seated_by : (s : StoreSeen Q) (p inside : PassSeen Q) (f : View → View) → ((v : View) → Fresh v → Fresh (f v)) → (0 < inside.view.parts → 0 < (f inside.view).parts) → inside ≡ p → IsSeatOf s p →
      (table : TableId) (number : ℕ) (facts : Option' (Facts Q)) (giving : ℕ) (view : View) → table ≡ inside.table → facts ≡ inside.facts → view ≡ f inside.view →
      IsSeatOf s record { table = table; number = number; facts = facts; giving = giving; view = view }
  seated_by s p inside f fresh parts at h table number facts giving view e e' e'' =
      let P : PassSeen Q → Type 0 = λ y. IsSeatOf s y in
      let i = subst P (sym at) h in
      record {
        table = e ∙ i.table;
        facts = e' ∙ i.facts;
        some_parts = subst (λ (y : View). 0 < y.parts) (sym e'') (parts i.some_parts);
        fresh = subst Fresh (sym e'') (fresh inside.view i.fresh);
      }

  -- and where the move says that what the seat knows is sound, the pass is one of the store's
  pub kept_by : (items size : Q → ℕ) (Fails : Q → List ℕ → Type 0) (s : StoreSeen Q) (p inside : PassSeen Q) (f : View → View) → ((v : View) → Fresh v → Fresh (f v)) → (0 < inside.view.parts → 0 < (f inside.view).parts) → inside ≡ p → IsSeatOf s p →
      (table : TableId) (number : ℕ) (facts : Option' (Facts Q)) (giving : ℕ) (view : View) → table ≡ inside.table → facts ≡ inside.facts → view ≡ f inside.view →
      ((key : Facts Q) → inside.facts ≡ Some key → IsSound (asked items size Fails key) view) →
      IsPassOf items size Fails s record { table = table; number = number; facts = facts; giving = giving; view = view }
  kept_by items size Fails s p inside f fresh parts at h table number facts giving view e e' e'' sound =
      let P : PassSeen Q → Type 0 = λ y. IsSeatOf s y in
      let i = subst P (sym at) h in
      record { seat = seated_by s p inside f fresh parts at h table number facts giving view e e' e''; sound = sound s.facts i.facts }

  -- a view that has seen the same is as sound
  pub sound_by : (items size : Q → ℕ) (Fails : Q → List ℕ → Type 0) (s : StoreSeen Q) (p inside : PassSeen Q) (view : View) → inside ≡ p → IsPassOf items size Fails s p → view.seen ≡ inside.view.seen → (ListsRise inside.view → ListsRise view) →
      (key : Facts Q) → inside.facts ≡ Some key → IsSound (asked items size Fails key) view
  sound_by items size Fails s p inside view at h same rise key named =
      let P : PassSeen Q → Type 0 = λ y. IsPassOf items size Fails s y in
      let i = subst P (sym at) h in
      let is : s.facts ≡ key = some_once (sym i.seat.facts ∙ named) in
      let F : Facts Q → Type 0 = λ y. IsSound (asked items size Fails y) inside.view in
      let old = subst F is i.sound in
      let S : List (ℕ × ℕ) → Type 0 = λ l. (x : ℕ × ℕ) → Has x l → Has x inside.view.seen in
      let back = subst S (sym same) (λ x k. k) in record {
        failing = λ place code saw. old.failing place code (back (place, code) saw);
        apart = λ place other code saw saw'. old.apart place other code (back (place, code) saw) (back (other, code) saw');
        lists = rise old.lists;
      }
    where
      some_once : {x y : Facts Q} → Some x ≡ Some y → x ≡ y
      some_once e = cc

  -- each view that isn't spent names the query, after a change of one and after one more
  pub names_spent : (q : Facts Q) (views : List (Doing Q)) (i : ℕ) (w : Doing Q) → EachNames q views → (0 < w.view.parts → w.facts ≡ Some q) → EachNames q (set views i w)
  names_spent q views i w all here j d e some_parts = ⊎_elim
      (λ (x : (j ≡ i) × (w ≡ d)). let P : Doing Q → Type 0 = λ y. 0 < y.view.parts → y.facts ≡ Some q in subst P x.1 here some_parts)
      (λ (x : (j ≢ i) × (get_elem? views j ≡ some d)). all j d x.1 some_parts)
      (at_set views i j w d e)

  pub names_set : (q : Facts Q) (views : List (Doing Q)) (i : ℕ) (w : Doing Q) → EachNames q views → w.facts ≡ Some q → EachNames q (set views i w)
  names_set q views i w all here = names_spent q views i w all (λ _. here)

  pub names_snoc : (q : Facts Q) (views : List (Doing Q)) (w : Doing Q) → EachNames q views → w.facts ≡ Some q → EachNames q (views ++ w ∷ [])
  names_snoc q views w all here j d e some_parts = ⊎_elim (λ (x : get_elem? views j ≡ some d). all j d x some_parts) (λ (x : w ≡ d). let P : Doing Q → Type 0 = λ y. y.facts ≡ Some q in subst P x here) (at_snoc views w d j e)

  -- a good step of one seat keeps the row
  pub row_kept : (a : Asked) (q : Facts Q) (c n : ℕ) (words words' : List ℕ) (views : List (Doing Q)) (i : ℕ) (d w : Doing Q) → length words' ≡ length words →
      RowOk a q (c ∷ words) views → get_elem? views i ≡ some d → w.facts ≡ Some q → Good a (state_of c words views) d.view w.view n words' → RowOk a q (n ∷ words') (set views i w)
  row_kept a q c n words words' views i d w same row at named good =
      let ok = moved a (state_of c words views) i d.view w.view n words' row.0 (at_map view_of views i d at) good in
      let P : List View → Type 0 = λ vs. CoreOk a record { cursor = n; words = words'; views = vs } in
      (subst P (sym (map-set view_of views i w)) ok, names_set q views i w row.1 named, same ∙ row.2)
