-- The store at its beginning and at its end.
use Rattle.std.proofs.Common.{◌≡◌, ◌≢◌, ℕ, zero, suc, ◌≤◌, List, [], ◌∷◌, set, refl, ap, sym, ◌∙◌, inl, inr, arith, subst}
use Rattle.std.specs.Prelude.{replicate}
use Rattle.std.proofs.lemmas.Bool.{cases_eq}
use mathlib.Core.Option.{some, some-injective, some-ne-none}
use lib.ListN.{get_elem?}
use Rattle.atomic_table.proofs.Lists.{set_else}
use Rattle.cover_core.specs.declared.state.View.{View}
use Rattle.cover_core.specs.declared.state.State.{State}
use Rattle.tuple_model.specs.Tuples.{IsTuple}
use Rattle.cover_core.specs.Core.{Asked, CoreOk, Each, Fits, IsAt, Met, ViewOk, times, total, total_of}
use Rattle.cover_core.specs.Effects.{first_view, spent}
use Rattle.cover_core.proofs.Changing.{total_set, set_over}
use Rattle.cover_core.proofs.Paths.{times-none, total-none}
use Rattle.cover_core.proofs.Law.{met_all}

all-zero : (n p c : ℕ) → get_elem? (replicate n 0) p ≡ some c → c ≡ 0
all-zero zero p c e = absurd (some-ne-none c (sym e))
all-zero (suc n) zero c e = sym (some-injective 0 c e)
all-zero (suc n) (suc p) c e = all-zero n p c e

pub only-one : (P : View → Type 0) (v : View) → P v → Each P (v ∷ [])
only-one P v h zero u e = subst P (some-injective v u e) h
only-one P v h (suc i) u e = absurd (some-ne-none u (sym e))

pub opening_ok : (a : Asked) (n : ℕ) → CoreOk a record { cursor = 0; words = replicate n 0; views = first_view ∷ [] }
opening_ok a n = record {
  cursor_most = omega arith;
  fitting = λ p c e z. absurd (z (all-zero n p c e));
  in_order = λ c k j z l e b. absurd (z (all-zero n _ c e));
  claimed = λ r t rank bad l. absurd (omega arith);
  seen_by = λ p c e z. absurd (z (all-zero n p c e));
  each_view = only-one (ViewOk 0 (replicate n 0)) first_view record { below = omega arith; ranges = λ x h. absurd h; true_pairs = λ x h. absurd h; nothing = λ e. absurd (omega arith); lists = record { held = tt; seen = tt; made = tt; bare = tt } };
  parts = refl;
  made = λ c. sym (times-none (suc c) (replicate n 0) (λ p e. let z = all-zero n p (suc c) e in absurd (omega arith)));
  made_none = refl;
}

total-zero : (f g : View → ℕ) (views : List View) → total f views ≡ 0 → ((i : ℕ) (v : View) → get_elem? views i ≡ some v → f v ≡ 0 → g v ≡ 0) → total g views ≡ 0
total-zero f g [] z h = refl
total-zero f g (x ∷ xs) z h =
    let a = h 0 x refl (omega arith) in
    let b = total-zero f g xs (omega arith) (λ i v e. h (suc i) v e) in omega arith

-- the other views are spent
alone : (a : Asked) (s : State) (i : ℕ) (v : View) → CoreOk a s → get_elem? s.views i ≡ some v → v.parts ≡ 64 → total (λ u. u.parts) (set s.views i spent) ≡ 0
alone a s i v ok at all = let t = total_set (λ u. u.parts) s.views i v spent at in let p = ok.parts in omega arith

others_spent : (a : Asked) (s : State) (i : ℕ) (v : View) → CoreOk a s → get_elem? s.views i ≡ some v → v.parts ≡ 64 → (j : ℕ) (u : View) → get_elem? s.views j ≡ some u → (j ≢ i) → u.parts ≡ 0
others_spent a s i v ok at all j u e apart = total-none (λ (x : View). x.parts) (set s.views i spent) (alone a s i v ok at all) j u (set_else s.views i j spent apart ∙ e)

-- what the table is at the end, by what the last view knows
pub record Closes (a : Asked) (v : View) (cursor : ℕ) (words : List ℕ) : Type 0 where
  pub low : v.cursor ≤ cursor
  pub most : cursor ≤ total_of a
  pub fitting : (place code : ℕ) → IsAt words place code → code ≢ 0 → Fits a cursor code
  pub made : (code : ℕ) → times (suc code) v.made ≡ times (suc code) words
  pub met : v.held ≡ [] → cursor ≡ total_of a → (t : List ℕ) → IsTuple a.items a.size t → a.Fails t → Met a words t

pub closing : (a : Asked) (s : State) (i : ℕ) (v : View) → CoreOk a s → get_elem? s.views i ≡ some v → v.parts ≡ 64 → Closes a v s.cursor s.words
closing a s i v ok at all = record {
  low = (ok.each_view i v at).below;
  most = ok.cursor_most;
  fitting = ok.fitting;
  made = λ c.
      let t = total_set (λ (u : View). times (suc c) u.made) s.views i v spent at in
      let z = total-zero (λ (u : View). u.parts) (λ (u : View). times (suc c) u.made) (set s.views i spent) (alone a s i v ok at all) (λ j u e p. no_made c j u e p) in
      let m = ok.made c in omega arith;
  met = λ none done t h fails. met_all a s ok record {
    done = done;
    closed = λ j u e. elim (cases_eq j i) [
      | inl same ↦
          let F : ℕ → Type 0 = λ k. get_elem? s.views k ≡ some u in
          let e' : v ≡ u = some-injective v u (sym at ∙ subst F same e) in
          let P : View → Type 0 = λ x. x.held ≡ [] in subst P e' none
      | inr apart ↦ ((ok.each_view j u e).nothing (others_spent a s i v ok at all j u e apart)).0
    ];
  } t h fails;
}
  where
    no_made : (c j : ℕ) (u : View) → get_elem? (set s.views i spent) j ≡ some u → u.parts ≡ 0 → times (suc c) u.made ≡ 0
    no_made c j u e p = elim (cases_eq j i) [
      | inl same ↦
          let F : ℕ → Type 0 = λ k. get_elem? (set s.views i spent) k ≡ some u in
          let e' : spent ≡ u = some-injective spent u (sym (set_over s.views i v spent at) ∙ subst F same e) in
          ap (λ (x : View). times (suc c) x.made) (sym e')
      | inr apart ↦ ap (λ (l : List ℕ). times (suc c) l) ((ok.each_view j u (sym (set_else s.views i j spent apart) ∙ e)).nothing p).2
    ]
