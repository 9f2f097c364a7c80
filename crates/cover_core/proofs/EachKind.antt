-- Each kind of step keeps the core.
use Rattle.std.proofs.Common.{◌≡◌, ◌≢◌, ℕ, zero, suc, ◌+◌, ◌<◌, ◌≤◌, ⊎_elim, eqb, List, length, set, refl, ap, sym, ◌∙◌, inl, inr, arith, subst}
use Rattle.std.proofs.lemmas.Bool.{cases_lt, cases_eq, ne_eqb}
use lib.ListN.{length-set}
use mathlib.Core.Option.{some}
use lib.ListN.{get_elem?}
use Rattle.atomic_table.proofs.Lists.{at_set, set_else, one_turn}
use Rattle.tuple_model.specs.Tuples.{HasRank}
use Rattle.tuple_order.specs.Codes.{code_of}
use Rattle.cover_core.specs.declared.state.View.{View}
use Rattle.cover_core.specs.declared.state.State.{State}
use Rattle.cover_core.specs.Core.{Asked, CoreOk, Covers, Fits, Has, InOrder, Other, Saw, home_of, one_if, path, total_of}
use Rattle.cover_core.proofs.Good.{Good}
use Rattle.cover_core.specs.Effects.{Answered, PassedBy, knows, looks, opens, publishes, put_pair, settles, take_out}
use Rattle.cover_core.proofs.Changing.{same_at, set_over}
use Rattle.cover_core.proofs.Made.{times-has}
use Rattle.cover_core.proofs.Paths.{unmade}
use Rattle.cover_core.proofs.Rises.{put_bare-rises, put_number-rises, put_pair-rises, seen-put, take_out-rises}
use Rattle.cover_core.proofs.Lists.{put_pair-here, put_pair-on, put_pair-from, take_out-from, take_out-on, times-put, times-set}

pub grown : (words : List ℕ) (p q c d : ℕ) → get_elem? words p ≡ some 0 → get_elem? words q ≡ some d → d ≢ 0 → get_elem? (set words p c) q ≡ some d
grown words p q c d empty e z = elim (cases_eq q p) [
  | inl same ↦ let F : ℕ → Type 0 = λ y. get_elem? words y ≡ some d in absurd (z (same_at words p d 0 (subst F same e) empty))
  | inr apart ↦ set_else words p q c apart ∙ e
]

one_place : (n c j k : ℕ) → j < n → k < n → path n c j ≡ path n c k → j ≡ k
one_place n c j k jn kn e = elim (cases_lt j k) [
  | inl less ↦ let h = one_turn (home_of n c + j) (home_of n c + k) n (omega arith) (omega arith) e in omega arith
  | inr most ↦ let h = one_turn (home_of n c + k) (home_of n c + j) n (omega arith) (omega arith) (sym e) in omega arith
]

orders : (words : List ℕ) (n c k : ℕ) → c ≢ 0 → k < n → get_elem? words (path n c k) ≡ some 0 → ((j : ℕ) → j < k → Other words (path n c j) c) → InOrder n words → InOrder n (set words (path n c k) c)
orders words n c k nonzero less empty passed old c' k' j z' less' e before =
    let p = path n c k in
    ⊎_elim
    (λ (x : (path n c' k' ≡ p) × (c ≡ c')).
    let P : ℕ → Type 0 = λ d. path n d k' ≡ p → Other (set words p c) (path n d j) d in
    let mine : path n c k' ≡ p → Other (set words p c) (path n c j) c = λ q.
    let same = one_place n c k' k less' less q in
    let o = passed j (omega arith) in
    (o.0, grown words p (path n c j) c o.0 empty o.1 o.2, o.2, o.3) in
    subst P x.1 mine x.0)
    (λ (x : (path n c' k' ≢ p) × (get_elem? words (path n c' k') ≡ some c')).
    let o = old c' k' j z' less' x.1 before in
    (o.0, grown words p (path n c' j) c o.0 empty o.1 o.2, o.2, o.3))
    (at_set words p (path n c' k') c c' e)

-- the seat finds the cursor
pub good_knows : (a : Asked) (s : State) (i : ℕ) (v : View) → CoreOk a s → get_elem? s.views i ≡ some v → 0 < v.parts → Good a s v (knows s.cursor v) s.cursor s.words
good_knows a s i v ok at some_parts =
    let mine = ok.each_view i v at in
    record {
      up = omega arith;
      most = ok.cursor_most;
      grows = λ p c e n. e;
      news = λ p c e n. inl e;
      in_order = ok.in_order;
      claims = λ r t rank bad low high. absurd (omega arith);
      holds_on = λ r t rank bad h. inr record { range = h.range; held = h.held; from = h.from; to = h.to };
      keeps_seen = λ x h. h;
      view_ok = record { below = omega arith; ranges = mine.ranges; true_pairs = mine.true_pairs; nothing = λ e. absurd (omega arith); lists = let l = mine.lists in record { held = l.held; seen = l.seen; made = l.made; bare = l.bare } };
      same_parts = refl;
      made = λ c. refl;
      made_none = refl;
    }

-- the seat only moves
pub good_moves : (a : Asked) (s : State) (i : ℕ) (v : View) → CoreOk a s → get_elem? s.views i ≡ some v → 0 < v.parts → Good a s v (record v { moves = suc v.moves }) s.cursor s.words
good_moves a s i v ok at some_parts =
    let mine = ok.each_view i v at in
    record {
      up = omega arith;
      most = ok.cursor_most;
      grows = λ p c e n. e;
      news = λ p c e n. inl e;
      in_order = ok.in_order;
      claims = λ r t rank bad low high. absurd (omega arith);
      holds_on = λ r t rank bad h. inr record { range = h.range; held = h.held; from = h.from; to = h.to };
      keeps_seen = λ x h. h;
      view_ok = record { below = mine.below; ranges = mine.ranges; true_pairs = mine.true_pairs; nothing = λ e. absurd (omega arith); lists = let l = mine.lists in record { held = l.held; seen = l.seen; made = l.made; bare = l.bare } };
      same_parts = refl;
      made = λ c. refl;
      made_none = refl;
    }

-- the seat opens the ranks from the cursor on
pub good_opens : (a : Asked) (s : State) (i : ℕ) (v : View) (to : ℕ) → CoreOk a s → get_elem? s.views i ≡ some v → 0 < v.parts → s.cursor ≡ v.cursor → v.cursor < to → to ≤ total_of a → Good a s v (opens to v) to s.words
good_opens a s i v to ok at some_parts found less most =
    let mine = ok.each_view i v at in
    record {
      up = omega arith;
      most = most;
      grows = λ p c e n. e;
      news = λ p c e n. inl e;
      in_order = ok.in_order;
      claims = λ r t rank bad low high. inr record { range = (v.cursor, to); held = put_pair-here (v.cursor, to) v.held; from = omega arith; to = high };
      holds_on = λ r t rank bad h. inr record { range = h.range; held = put_pair-on h.range (v.cursor, to) v.held h.held; from = h.from; to = h.to };
      keeps_seen = λ x h. h;
      view_ok = record {
        below = omega arith;
        ranges = λ x h. ⊎_elim
            (λ (e : (v.cursor, to) ≡ x). let P : ℕ × ℕ → Type 0 = λ y. (y.0 < y.1) × (y.1 ≤ to) in subst P e (less, omega arith))
            (λ (k : Has x v.held). let r = mine.ranges x k in (r.0, omega arith))
            (put_pair-from x (v.cursor, to) v.held h);
        true_pairs = mine.true_pairs;
        nothing = λ e. absurd (omega arith);
        lists = let l = mine.lists in record { held = put_pair-rises (v.cursor, to) v.held l.held; seen = l.seen; made = l.made; bare = l.bare };
      };
      same_parts = refl;
      made = λ c. refl;
      made_none = refl;
    }

-- the seat looks at a place
pub good_looks : (a : Asked) (s : State) (i : ℕ) (v : View) (p found : ℕ) → CoreOk a s → get_elem? s.views i ≡ some v → 0 < v.parts → get_elem? s.words p ≡ some found → Good a s v (looks p found v) s.cursor s.words
good_looks a s i v p zero ok at some_parts here =
    let mine = ok.each_view i v at in
    record {
      up = omega arith;
      most = ok.cursor_most;
      grows = λ p c e n. e;
      news = λ p c e n. inl e;
      in_order = ok.in_order;
      claims = λ r t rank bad low high. absurd (omega arith);
      holds_on = λ r t rank bad h. inr record { range = h.range; held = h.held; from = h.from; to = h.to };
      keeps_seen = λ x h. h;
      view_ok = record { below = mine.below; ranges = mine.ranges; true_pairs = mine.true_pairs; nothing = λ e. absurd (omega arith); lists = let l = mine.lists in record { held = l.held; seen = l.seen; made = l.made; bare = put_bare-rises p (suc v.moves) v.bare l.bare } };
      same_parts = refl;
      made = λ c. refl;
      made_none = refl;
    }
good_looks a s i v p (suc c) ok at some_parts here =
    let mine = ok.each_view i v at in
    let true_pairs : (x : ℕ × ℕ) → Has x (put_pair (p, suc c) v.seen) → (get_elem? s.words x.0 ≡ some x.1) × (x.1 ≢ 0) = λ x h. ⊎_elim
    (λ (e : (p, suc c) ≡ x). let P : ℕ × ℕ → Type 0 = λ y. (get_elem? s.words y.0 ≡ some y.1) × (y.1 ≢ 0) in subst P e (here, λ z. omega arith))
    (λ (k : Has x v.seen). mine.true_pairs x k)
    (put_pair-from x (p, suc c) v.seen h) in
    record {
      up = omega arith;
      most = ok.cursor_most;
      grows = λ p c e n. e;
      news = λ p c e n. inl e;
      in_order = ok.in_order;
      claims = λ r t rank bad low high. absurd (omega arith);
      holds_on = λ r t rank bad h. inr record { range = h.range; held = h.held; from = h.from; to = h.to };
      keeps_seen = λ x h. put_pair-on x (p, suc c) v.seen h;
      view_ok = record {
        below = mine.below;
        ranges = mine.ranges;
        true_pairs = true_pairs;
        nothing = λ e. absurd (omega arith);
        lists = let l = mine.lists in record { held = l.held; seen = seen-put s.words (p, suc c) v.seen true_pairs l.seen; made = l.made; bare = l.bare };
      };
      same_parts = refl;
      made = λ c. refl;
      made_none = refl;
    }

-- the seat gives up a range
pub good_settles : (a : Asked) (s : State) (i : ℕ) (v : View) (x : ℕ × ℕ) → CoreOk a s → get_elem? s.views i ≡ some v → 0 < v.parts → Answered a x v → Good a s v (settles x s.cursor v) s.cursor s.words
good_settles a s i v x ok at some_parts answered =
    let mine = ok.each_view i v at in
    record {
      up = omega arith;
      most = ok.cursor_most;
      grows = λ p c e n. e;
      news = λ p c e n. inl e;
      in_order = ok.in_order;
      claims = λ r t rank bad low high. absurd (omega arith);
      holds_on = λ r t rank bad h. ⊎_elim
          (λ (e : x ≡ h.range).
          let P : ℕ × ℕ → Type 0 = λ y. Answered a y v in
          let f = subst P e answered r t rank bad h.from h.to in
          inl record { subset = f.subset; within = f.within; place = f.seen.0; stored = (mine.true_pairs (f.seen.0, code_of f.subset) f.seen.1).0 })
          (λ (k : Has h.range (take_out x v.held)). inr record { range = h.range; held = k; from = h.from; to = h.to })
          (take_out-on h.range x v.held h.held);
      keeps_seen = λ x h. h;
      view_ok = record { below = omega arith; ranges = λ y h. mine.ranges y (take_out-from y x v.held h); true_pairs = mine.true_pairs; nothing = λ e. absurd (omega arith); lists = let l = mine.lists in record { held = take_out-rises x v.held l.held; seen = l.seen; made = l.made; bare = l.bare } };
      same_parts = refl;
      made = λ c. refl;
      made_none = refl;
    }

-- a place that was empty has the code
pub good_publishes : (a : Asked) (s : State) (i : ℕ) (v : View) (n k : ℕ) (t : List ℕ) (r : ℕ) (c : ℕ) → length s.words ≡ n → CoreOk a s → get_elem? s.views i ≡ some v → 0 < v.parts →
    k < n → get_elem? s.words (path n (suc c) k) ≡ some 0 → code_of t ≡ suc c → a.Fails t → HasRank a.items a.size t r → Covers r v →
    PassedBy n (suc c) k v → Good a s v (publishes (path n (suc c) k) (suc c) v) s.cursor (set s.words (path n (suc c) k) (suc c))
good_publishes a s i v n k t r c same ok at some_parts less empty coded bad rank covers passed =
    let mine = ok.each_view i v at in
    let p = path n (suc c) k in
    let words = set s.words p (suc c) in
    let fits : Fits a s.cursor (suc c) = record { tuple = t; rank = r; ranked = rank; coded = coded; fails = bad; claimed = let q = (mine.ranges covers.range covers.held).1 in let z = covers.to in omega arith } in
    let here : get_elem? words p ≡ some (suc c) = set_over s.words p 0 (suc c) empty in
    let grows : (q d : ℕ) → get_elem? s.words q ≡ some d → d ≢ 0 → get_elem? words q ≡ some d = λ q d e z. grown s.words p q (suc c) d empty e z in
    let true_pairs : (x : ℕ × ℕ) → Has x (put_pair (p, suc c) v.seen) → (get_elem? words x.0 ≡ some x.1) × (x.1 ≢ 0) = λ x h. ⊎_elim
    (λ (e : (p, suc c) ≡ x). let P : ℕ × ℕ → Type 0 = λ y. (get_elem? words y.0 ≡ some y.1) × (y.1 ≢ 0) in subst P e (here, λ z. omega arith))
    (λ (h' : Has x v.seen). let m = mine.true_pairs x h' in (grows x.0 x.1 m.0 m.1, m.1))
    (put_pair-from x (p, suc c) v.seen h) in
    let others : (j : ℕ) → j < k → Other s.words (path n (suc c) j) (suc c) = λ j l. let o = passed j l in let m = mine.true_pairs (path n (suc c) j, o.0) o.1 in (o.0, m.0, m.1, o.2) in
    let new : Has (suc c) v.made → ⊥ = λ h. let q = times-has (suc c) v.made h in let z = unmade a s i n c k v ok at same less empty others in omega arith in
    record {
      up = omega arith;
      most = ok.cursor_most;
      grows = grows;
      news = λ q d e z. ⊎_elim
          (λ (x : (q ≡ p) × (suc c ≡ d)). let P : ℕ × ℕ → Type 0 = λ y. Fits a s.cursor y.1 × Saw y.0 y.1 (publishes p (suc c) v) in
          let same : (p, suc c) ≡ (q, d) = λ l. (sym x.0 l, x.1 l) in inr (subst P same (fits, put_pair-here (p, suc c) v.seen)))
          (λ (x : (q ≢ p) × (get_elem? s.words q ≡ some d)). inl x.1)
          (at_set s.words p q (suc c) d e);
      in_order = subst (λ (m : ℕ). InOrder m words) (sym (length-set {A = ℕ} s.words p (suc c) ∙ same)) (orders s.words n (suc c) k (λ z. omega arith) less empty others (subst (λ (m : ℕ). InOrder m s.words) same ok.in_order));
      claims = λ r t rank bad low high. absurd (omega arith);
      holds_on = λ r t rank bad h. inr record { range = h.range; held = h.held; from = h.from; to = h.to };
      keeps_seen = λ x h. put_pair-on x (p, suc c) v.seen h;
      view_ok = record {
        below = mine.below;
        ranges = mine.ranges;
        true_pairs = true_pairs;
        nothing = λ e. absurd (omega arith);
        lists = let l = mine.lists in record { held = l.held; seen = seen-put words (p, suc c) v.seen true_pairs l.seen; made = put_number-rises (suc c) v.made new l.made; bare = l.bare };
      };
      same_parts = refl;
      made = λ d. let x = times-put (suc d) (suc c) v.made in let y = times-set d (suc c) s.words p empty in omega arith;
      made_none = let x = times-put 0 (suc c) v.made in let y : one_if (eqb (suc c) 0) ≡ 0 = ap one_if (ne_eqb (suc c) 0 (λ q. omega arith)) in omega arith;
    }
