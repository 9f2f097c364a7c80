-- A good step of one seat keeps the core.
use Rattle.std.proofs.Common.{◌≡◌, ◌≢◌, ℕ, suc, ◌≤◌, ⊎_elim, List, set, inl, inr, arith}
use Rattle.std.proofs.lemmas.Bool.{cases_lt}
use mathlib.Core.Option.{some}
use lib.ListN.{get_elem?}
use Rattle.tuple_order.specs.Codes.{code_of}
use Rattle.tuple_order.proofs.Codes.{code_of-large}
use Rattle.cover_core.specs.declared.state.View.{View}
use Rattle.cover_core.specs.declared.state.State.{State}
use Rattle.cover_core.specs.Core.{Any, Asked, CoreOk, Covers, Fits, Met, Saw, ViewOk, times}
use Rattle.cover_core.proofs.Good.{Good}
use Rattle.cover_core.proofs.Changing.{each_set, any_or, any_set, any_here, total_set}

-- no code is 0
pub code_of-not_zero : (t : List ℕ) → code_of t ≢ 0
code_of-not_zero t e = let l = code_of-large t in omega arith

pub met_on : (a : Asked) (words words' : List ℕ) → ((p c : ℕ) → get_elem? words p ≡ some c → c ≢ 0 → get_elem? words' p ≡ some c) → (t : List ℕ) → Met a words t → Met a words' t
met_on a words words' grows t m = record { subset = m.subset; within = m.within; place = m.place; stored = grows m.place (code_of m.subset) m.stored (code_of-not_zero m.subset) }

pub fits_on : (a : Asked) (low high c : ℕ) → low ≤ high → Fits a low c → Fits a high c
fits_on a low high c up f = record { tuple = f.tuple; rank = f.rank; ranked = f.ranked; coded = f.coded; fails = f.fails; claimed = let h = f.claimed in omega arith }

view_on : (cursor cursor' : ℕ) (words words' : List ℕ) (v : View) → cursor ≤ cursor' → ((p c : ℕ) → get_elem? words p ≡ some c → c ≢ 0 → get_elem? words' p ≡ some c) → ViewOk cursor words v → ViewOk cursor' words' v
view_on cursor cursor' words words' v up grows ok = record {
  below = let h = ok.below in omega arith;
  ranges = λ x h. let r = ok.ranges x h in (r.0, omega arith);
  true_pairs = λ x h. let r = ok.true_pairs x h in (grows x.0 x.1 r.0 r.1, r.1);
  nothing = ok.nothing;
  lists = ok.lists;
}

pub moved : (a : Asked) (s : State) (i : ℕ) (v w : View) (cursor : ℕ) (words : List ℕ) →
    CoreOk a s → get_elem? s.views i ≡ some v → Good a s v w cursor words → CoreOk a record { cursor = cursor; words = words; views = set s.views i w }
moved a s i v w cursor words ok at good = record {
  cursor_most = good.most;
  fitting = λ p c e n. ⊎_elim
      (λ (x : get_elem? s.words p ≡ some c). fits_on a s.cursor cursor c good.up (ok.fitting p c x n))
      (λ (x : Fits a cursor c × Saw p c w). x.0)
      (good.news p c e n);
  in_order = good.in_order;
  claimed = λ r t rank bad less. elim (cases_lt r s.cursor) [
    | inl old ↦ ⊎_elim
        (λ (m : Met a s.words t). inl (met_on a s.words words good.grows t m))
        (λ (o : Any (Covers r) s.views). any_or (Met a words t) (Covers r) (Covers r) s.views i v w at o (λ u h. h) (λ h. good.holds_on r t rank bad h))
        (ok.claimed r t rank bad old)
    | inr new ↦ ⊎_elim
        (λ (m : Met a words t). inl m)
        (λ (o : Covers r w). inr (any_here (Covers r) s.views i v w at o))
        (good.claims r t rank bad new less)
  ];
  seen_by = λ p c e n. ⊎_elim
      (λ (x : get_elem? s.words p ≡ some c). any_set (Saw p c) (Saw p c) s.views i v w at (ok.seen_by p c x n) (λ u h. h) (λ h. good.keeps_seen (p, c) h))
      (λ (x : Fits a cursor c × Saw p c w). any_here (Saw p c) s.views i v w at x.1)
      (good.news p c e n);
  each_view = each_set (ViewOk s.cursor s.words) (ViewOk cursor words) s.views i w ok.each_view (λ u h. view_on s.cursor cursor s.words words u good.up good.grows h) good.view_ok;
  parts = let t = total_set (λ u. u.parts) s.views i v w at in let p = ok.parts in let q = good.same_parts in omega arith;
  made = λ c. let t = total_set (λ u. times (suc c) u.made) s.views i v w at in let p = ok.made c in let q = good.made c in omega arith;
  made_none = let t = total_set (λ u. times 0 u.made) s.views i v w at in let p = ok.made_none in let q = good.made_none in omega arith;
}
