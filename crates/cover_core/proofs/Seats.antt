-- A seat is made, and given back.
use Rattle.std.proofs.Common.{◌≡◌, ◌≢◌, ℕ, suc, ◌<◌, ◌≤◌, ⊎_elim, true, false, cond, ltb, List, [], ◌∷◌, ◌++◌, set, refl, sym, ◌∙◌, inl, inr, arith, subst}
use Rattle.std.proofs.lemmas.Bool.{cases_eq}
use mathlib.Core.Option.{some}
use lib.ListN.{get_elem?}
use Rattle.atomic_table.proofs.Lists.{at_snoc, at_longer, set_else}
use Rattle.cover_core.specs.declared.state.View.{View}
use Rattle.cover_core.specs.declared.state.State.{State}
use Rattle.cover_core.specs.Core.{Any, Asked, CoreOk, Covers, Each, Has, IsAt, Met, Saw, ViewOk, times}
use Rattle.cover_core.specs.Effects.{joins, put_pairs, spent, split_left, split_right}
use Rattle.cover_core.proofs.Changing.{each_set, any_set, total_set, total_snoc, same_at, set_over}
use Rattle.cover_core.proofs.Made.{made-apart}
use Rattle.cover_core.proofs.Rises.{put_numbers-rises, put_pairs-rises, seen-puts}
use Rattle.cover_core.proofs.Lists.{put_pairs-from, put_pairs-left, put_pairs-right, times-puts}

pub each_snoc : (P : View → Type 0) (views : List View) (w : View) → Each P views → P w → Each P (views ++ w ∷ [])
each_snoc P views w all here j u e = ⊎_elim (λ (x : get_elem? views j ≡ some u). all j u x) (λ (x : w ≡ u). subst P x here) (at_snoc views w u j e)

any_longer : (P : View → Type 0) (views : List View) (w : View) → Any P views → Any P (views ++ w ∷ [])
any_longer P views w found = record { seat = found.seat; view = found.view; at = at_longer views (w ∷ []) found.seat found.view found.at; has = found.has }

pub splits : (a : Asked) (s : State) (i : ℕ) (v : View) (parts : ℕ) → CoreOk a s → get_elem? s.views i ≡ some v → 0 < parts → parts < v.parts →
    CoreOk a record { cursor = s.cursor; words = s.words; views = set s.views i (split_left parts v) ++ split_right parts v ∷ [] }
splits a s i v parts ok at some_parts more =
    let mine = ok.each_view i v at in
    let l = split_left parts v in
    let r = split_right parts v in
    let left_ok : ViewOk s.cursor s.words l = record { below = mine.below; ranges = mine.ranges; true_pairs = mine.true_pairs; nothing = λ e. absurd (omega arith); lists = let l = mine.lists in record { held = l.held; seen = l.seen; made = l.made; bare = l.bare } } in
    let right_ok : ViewOk s.cursor s.words r = record { below = mine.below; ranges = λ x h. absurd h; true_pairs = mine.true_pairs; nothing = λ e. absurd (omega arith); lists = record { held = tt; seen = mine.lists.seen; made = tt; bare = tt } } in
    record {
      cursor_most = ok.cursor_most;
      fitting = ok.fitting;
      in_order = ok.in_order;
      claimed = λ k t rank bad less. ⊎_elim (λ (m : Met a s.words t). inl m)
          (λ (o : Any (Covers k) s.views). inr (any_longer (Covers k) (set s.views i l) r (any_set (Covers k) (Covers k) s.views i v l at o (λ u h. h) (λ h. record { range = h.range; held = h.held; from = h.from; to = h.to }))))
          (ok.claimed k t rank bad less);
      seen_by = λ p c e n. any_longer (Saw p c) (set s.views i l) r (any_set (Saw p c) (Saw p c) s.views i v l at (ok.seen_by p c e n) (λ u h. h) (λ h. h));
      each_view = each_snoc (ViewOk s.cursor s.words) (set s.views i l) r (each_set (ViewOk s.cursor s.words) (ViewOk s.cursor s.words) s.views i l ok.each_view (λ u h. h) left_ok) right_ok;
      parts = let x = total_set (λ u. u.parts) s.views i v l at in let y = total_snoc (λ u. u.parts) (set s.views i l) r in let z = ok.parts in omega arith;
      made = λ c. let x = total_set (λ u. times (suc c) u.made) s.views i v l at in let y = total_snoc (λ u. times (suc c) u.made) (set s.views i l) r in let z = ok.made c in omega arith;
      made_none = let x = total_set (λ u. times 0 u.made) s.views i v l at in let y = total_snoc (λ u. times 0 u.made) (set s.views i l) r in let z = ok.made_none in omega arith;
    }

any_joined : (P : View → Type 0) (views : List View) (i j : ℕ) (v u w : View) → get_elem? views i ≡ some v → (j ≢ i) → get_elem? (set views i w) j ≡ some u → Any P views → (P v → P w) → (P u → P w) → (x : View) → Any P (set (set views i w) j x)
any_joined P views i j v u w at apart other found mine theirs x =
    let here : get_elem? (set (set views i w) j x) i ≡ some w = set_else (set views i w) j i x (λ e. apart (sym e)) ∙ set_over views i v w at in
    let once = any_set P P views i v w at found (λ y h. h) mine in
    elim (cases_eq once.seat j) [
      | inl same ↦
          let F : ℕ → Type 0 = λ k. get_elem? (set views i w) k ≡ some once.view in
          let e = same_at (set views i w) j once.view u (subst F same once.at) other in
          record { seat = i; view = w; at = here; has = theirs (subst P e once.has) }
      | inr off ↦ record { seat = once.seat; view = once.view; at = set_else (set views i w) j once.seat x off ∙ once.at; has = once.has }
    ]

pub merges : (a : Asked) (s : State) (i j : ℕ) (v u : View) → CoreOk a s → get_elem? s.views i ≡ some v → (j ≢ i) → get_elem? (set s.views i (joins v u)) j ≡ some u → 0 < v.parts →
    CoreOk a record { cursor = s.cursor; words = s.words; views = set (set s.views i (joins v u)) j spent }
merges a s i j v u ok at apart other some_parts =
    let w = joins v u in
    let mine = ok.each_view i v at in
    let there : get_elem? s.views j ≡ some u = sym (set_else s.views i j w apart) ∙ other in
    let theirs = ok.each_view j u there in
    let P : View → Type 0 = ViewOk s.cursor s.words in
    let true_pairs : (x : ℕ × ℕ) → Has x (put_pairs u.seen v.seen) → IsAt s.words x.0 x.1 × (x.1 ≢ 0) = λ x h. ⊎_elim (λ (k : Has x u.seen). theirs.true_pairs x k) (λ (k : Has x v.seen). mine.true_pairs x k) (put_pairs-from x u.seen v.seen h) in
    let both_ok : ViewOk s.cursor s.words w = record {
      below = elim (ltb v.cursor u.cursor) as (λ b. (cond b u.cursor v.cursor) ≤ s.cursor) [ true ↦ theirs.below | false ↦ mine.below ];
      ranges = λ x h. ⊎_elim (λ (k : Has x u.held). theirs.ranges x k) (λ (k : Has x v.held). mine.ranges x k) (put_pairs-from x u.held v.held h);
      true_pairs = true_pairs;
      nothing = λ e. absurd (omega arith);
      lists = record {
        held = put_pairs-rises u.held v.held mine.lists.held;
        seen = seen-puts s.words u.seen v.seen true_pairs mine.lists.seen;
        made = put_numbers-rises u.made v.made (λ c k h. made-apart a s ok i j v u c at there apart h k) theirs.lists.made mine.lists.made;
        bare = mine.lists.bare;
      };
    } in
    let none_ok : ViewOk s.cursor s.words spent = record { below = omega arith; ranges = λ x h. absurd h; true_pairs = λ x h. absurd h; nothing = λ e. (refl, refl, refl, refl); lists = record { held = tt; seen = tt; made = tt; bare = tt } } in
    record {
      cursor_most = ok.cursor_most;
      fitting = ok.fitting;
      in_order = ok.in_order;
      claimed = λ k t rank bad less. ⊎_elim (λ (m : Met a s.words t). inl m)
          (λ (o : Any (Covers k) s.views). inr (any_joined (Covers k) s.views i j v u w at apart other o
          (λ h. record { range = h.range; held = put_pairs-right h.range u.held v.held h.held; from = h.from; to = h.to })
          (λ h. record { range = h.range; held = put_pairs-left h.range u.held v.held h.held; from = h.from; to = h.to }) spent))
          (ok.claimed k t rank bad less);
      seen_by = λ p c e n. any_joined (Saw p c) s.views i j v u w at apart other (ok.seen_by p c e n) (λ h. put_pairs-right (p, c) u.seen v.seen h) (λ h. put_pairs-left (p, c) u.seen v.seen h) spent;
      each_view = each_set P P (set s.views i w) j spent (each_set P P s.views i w ok.each_view (λ y h. h) both_ok) (λ y h. h) none_ok;
      parts = let x = total_set (λ y. y.parts) s.views i v w at in let y = total_set (λ y. y.parts) (set s.views i w) j u spent other in let z = ok.parts in omega arith;
      made = λ c. let x = total_set (λ y. times (suc c) y.made) s.views i v w at in let y = total_set (λ y. times (suc c) y.made) (set s.views i w) j u spent other in let z = ok.made c in let q = times-puts (suc c) u.made v.made in omega arith;
      made_none = let x = total_set (λ y. times 0 y.made) s.views i v w at in let y = total_set (λ y. times 0 y.made) (set s.views i w) j u spent other in let z = ok.made_none in let q = times-puts 0 u.made v.made in omega arith;
    }
