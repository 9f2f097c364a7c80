-- Along a run: what was stored stays, the table keeps its length, and each place that a view has as empty was so.
use Rattle.std.specs.Prelude.{slice_index}
use Rattle.std.proofs.Common.{◌≡◌, ◌≢◌, ℕ, zero, suc, ◌+◌, ◌<◌, ◌≤◌, ◌⊎◌, ⊎_elim, Bool, true, false, cond, eqb, List, [], ◌∷◌, length, set, refl, ap, sym, ◌∙◌, inl, inr, arith, subst}
use Rattle.std.proofs.lemmas.Bool.{eqb-true, cases_lt, cases_eq}
use mathlib.Core.Option.{Option, some, none, some-injective, some-ne-none}
use lib.ListN.{get_elem?, length-replicate, length-set}
use Rattle.atomic_table.proofs.Lists.{at_set, at_snoc}
use Rattle.tuple_order.specs.Codes.{code_of}
use Rattle.cover_core.specs.declared.state.View.{View}
use Rattle.cover_core.specs.declared.state.State.{State}
use Rattle.cover_core.specs.declared.kind.At.TheVariants.{Cursor, Place}
use Rattle.cover_core.specs.declared.kind.Kind.{Kind}
use Rattle.cover_core.specs.declared.kind.Kind.TheVariants.{Split, Join, Claim, Look, Publish, Settle}
use Rattle.cover_core.specs.Core.{Asked, CoreOk, Has, InOrder, IsAt, path}
use Rattle.cover_core.specs.Effects.{PassedBy, ShowsAbsent, first_view, joins, knows, looks, opens, publishes, split_left, split_right, spent, settles}
use Rattle.cover_core.specs.Machine.{with_view, joined, acts, Can, Allowed, after_view, after, IsRun, opening}
use Rattle.cover_core.specs.Past.{GoesThrough, IsAbsent, NeverStored, WasAbsent, WasEmpty}
use Rattle.cover_core.proofs.Changing.{at_less, same_at}
use Rattle.cover_core.proofs.EachKind.{grown}
use Rattle.cover_core.proofs.Ends.{opening_ok}
use Rattle.cover_core.proofs.Looked.{put_bare-from}
use Rattle.cover_core.proofs.Runs.{index_at, run-keeps}
use Rattle.cover_core.proofs.Paths.{path-onto}

-- what stood in the first words stands in the others, and they are as many
pub record Grows (words words' : List ℕ) : Type 0 where
  pub long : length words' ≡ length words
  pub kept : (p c : ℕ) → IsAt words p c → c ≢ 0 → IsAt words' p c

grows-same : (words : List ℕ) → Grows words words
grows-same words = record { long = refl; kept = λ p c e z. e }

grows-trans : (u v w : List ℕ) → Grows u v → Grows v w → Grows u w
grows-trans u v w f g = record { long = g.long ∙ f.long; kept = λ p c e z. g.kept p c (f.kept p c e z) z }

grows-set : (words : List ℕ) (p c : ℕ) → IsAt words p 0 → Grows words (set words p c)
grows-set words p c empty = record { long = length-set {A = ℕ} words p c; kept = λ q d e z. grown words p q c d empty e z }

acts-grow : (a : Asked) (s : State) (i : ℕ) (v : View) (k : Kind) → Can a s i v k → Grows s.words (acts s i v k).words
acts-grow a s i v (Split n) can = grows-same s.words
acts-grow a s i v (Join j) can = go (get_elem? s.views j)
  where
    go : (o : Option View) → Grows s.words (joined s i v j o).words
    go none = grows-same s.words
    go (some u) = grows-same s.words
acts-grow a s i v (Claim to) can = go (eqb s.cursor v.cursor)
  where
    go : (b : Bool) → Grows s.words (cond b record { cursor = to; words = s.words; views = set s.views i (opens to v) } (with_view s i (knows s.cursor v))).words
    go true = grows-same s.words
    go false = grows-same s.words
acts-grow a s i v (Look Cursor) can = grows-same s.words
acts-grow a s i v (Look (Place p)) can = grows-same s.words
acts-grow a s i v (Publish p t) can = go (eqb (slice_index s.words p) 0) refl
  where
    go : (b : Bool) → eqb (slice_index s.words p) 0 ≡ b → Grows s.words (cond b record { cursor = s.cursor; words = set s.words p (code_of t); views = set s.views i (publishes p (code_of t) v) } (with_view s i (looks p (slice_index s.words p) v))).words
    go true e = grows-set s.words p (code_of t) (index_at s.words p can.inside ∙ ap (λ (x : ℕ). some x) (eqb-true (slice_index s.words p) 0 e))
    go false e = grows-same s.words
acts-grow a s i v (Settle x) can = grows-same s.words

after-grow : (a : Asked) (s : State) (i : ℕ) (k : Kind) → Allowed a s i k → Grows s.words (after s i k).words
after-grow a s i k allowed =
    let P : Option View → Type 0 = λ o. Grows s.words (after_view s i k o).words in
    subst P (sym allowed.at) (acts-grow a s i allowed.view k allowed.can)

pub run-grow : (a : Asked) (xs : List (ℕ × Kind)) (s end : State) → IsRun a xs s end → Grows s.words end.words
run-grow a [] s end run = let P : State → Type 0 = λ t. Grows s.words t.words in subst P run (grows-same s.words)
run-grow a (x ∷ xs) s end run = grows-trans s.words (after s x.0 x.1).words end.words (after-grow a s x.0 x.1 run.0) (run-grow a xs (after s x.0 x.1) end run.1)

-- Places that were found empty

-- the seat's view had the pair already, or the seat found the place empty in this step
pub record Had (s : State) (i : ℕ) (x : ℕ × ℕ) : Type 0 where
  pub view : View
  pub at : get_elem? s.views i ≡ some view
  pub has : Has x view.bare

record Finds (s : State) (i : ℕ) (x : ℕ × ℕ) : Type 0 where
  pub view : View
  pub at : get_elem? s.views i ≡ some view
  pub next : view.moves + 1 ≡ x.1
  pub empty : IsAt s.words x.0 0

bare-set : (s : State) (j i : ℕ) (w w' v : View) (x : ℕ × ℕ) → get_elem? s.views j ≡ some w → get_elem? (set s.views j w') i ≡ some v → Has x v.bare →
    (Has x w'.bare → Has x w.bare ⊎ Finds s j x) → Had s i x ⊎ Finds s i x
bare-set s j i w w' v x at there h mine = ⊎_elim
    (λ (e : (i ≡ j) × (w' ≡ v)).
    let P : View → Type 0 = λ u. Has x u.bare in
    let F : ℕ → Type 0 = λ k. Had s k x ⊎ Finds s k x in
    subst F (sym e.0) (⊎_elim (λ (k : Has x w.bare). inl record { view = w; at = at; has = k }) (λ (f : Finds s j x). inr f) (mine (subst P (sym e.1) h))))
    (λ (e : (i ≢ j) × (get_elem? s.views i ≡ some v)). inl record { view = v; at = e.1; has = h })
    (at_set s.views j i w' v there)

looks-bare : (s : State) (j : ℕ) (w : View) (p d : ℕ) (x : ℕ × ℕ) → get_elem? s.views j ≡ some w → IsAt s.words p d → Has x (looks p d w).bare → Has x w.bare ⊎ Finds s j x
looks-bare s j w p (suc d) x at here h = inl h
looks-bare s j w p zero x at here h = ⊎_elim
    (λ (e : (p, suc w.moves) ≡ x). let P : ℕ × ℕ → Type 0 = λ y. Finds s j y in inr (subst P e record { view = w; at = at; next = omega arith; empty = here }))
    (λ (k : Has x w.bare). inl k)
    (put_bare-from p (suc w.moves) w.bare x h)

joined-bare : (s : State) (j other i : ℕ) (w u v : View) (x : ℕ × ℕ) → get_elem? s.views j ≡ some w → get_elem? (set (set s.views j (joins w u)) other spent) i ≡ some v → Has x v.bare → Had s i x ⊎ Finds s i x
joined-bare s j other i w u v x at there h = ⊎_elim
    (λ (e : (i ≡ other) × (spent ≡ v)). let P : View → Type 0 = λ y. Has x y.bare in absurd (subst P (sym e.1) h))
    (λ (e : (i ≢ other) × (get_elem? (set s.views j (joins w u)) i ≡ some v)). bare-set s j i w (joins w u) v x at e.1 h (λ k. inl k))
    (at_set (set s.views j (joins w u)) other i spent v there)

acts-bare : (a : Asked) (s : State) (j : ℕ) (w : View) (k : Kind) (i : ℕ) (v : View) (x : ℕ × ℕ) → get_elem? s.views j ≡ some w → Can a s j w k → get_elem? (acts s j w k).views i ≡ some v → Has x v.bare → Had s i x ⊎ Finds s i x
acts-bare a s j w (Split n) i v x at can there h = ⊎_elim
    (λ (e : get_elem? (set s.views j (split_left n w)) i ≡ some v). bare-set s j i w (split_left n w) v x at e h (λ k. inl k))
    (λ (e : split_right n w ≡ v). let P : View → Type 0 = λ y. Has x y.bare in absurd (subst P (sym e) h))
    (at_snoc (set s.views j (split_left n w)) (split_right n w) v i there)
acts-bare a s j w (Join other) i v x at can there h =
    let P : Option View → Type 0 = λ o. get_elem? (joined s j w other o).views i ≡ some v in
    joined-bare s j other i w can.view v x at (subst P can.at there) h
acts-bare a s j w (Claim to) i v x at can there h = go (eqb s.cursor w.cursor) there
  where
    go : (b : Bool) → get_elem? (cond b record { cursor = to; words = s.words; views = set s.views j (opens to w) } (with_view s j (knows s.cursor w))).views i ≡ some v → Had s i x ⊎ Finds s i x
    go true e = bare-set s j i w (opens to w) v x at e h (λ k. inl k)
    go false e = bare-set s j i w (knows s.cursor w) v x at e h (λ k. inl k)
acts-bare a s j w (Look Cursor) i v x at can there h = bare-set s j i w (knows s.cursor w) v x at there h (λ k. inl k)
acts-bare a s j w (Look (Place p)) i v x at can there h =
    let d = slice_index s.words p in
    bare-set s j i w (looks p d w) v x at there h (λ k. looks-bare s j w p d x at (index_at s.words p can) k)
acts-bare a s j w (Publish p t) i v x at can there h = go (eqb (slice_index s.words p) 0) there
  where
    go : (b : Bool) → get_elem? (cond b record { cursor = s.cursor; words = set s.words p (code_of t); views = set s.views j (publishes p (code_of t) w) } (with_view s j (looks p (slice_index s.words p) w))).views i ≡ some v → Had s i x ⊎ Finds s i x
    go true e = bare-set s j i w (publishes p (code_of t) w) v x at e h (λ k. inl k)
    go false e = let d = slice_index s.words p in bare-set s j i w (looks p d w) v x at e h (λ k. looks-bare s j w p d x at (index_at s.words p can.inside) k)
acts-bare a s j w (Settle r) i v x at can there h = bare-set s j i w (settles (r.from, r.to) s.cursor w) v x at there h (λ k. inl k)

after-bare : (a : Asked) (s : State) (j : ℕ) (k : Kind) (i : ℕ) (v : View) (x : ℕ × ℕ) → Allowed a s j k → get_elem? (after s j k).views i ≡ some v → Has x v.bare → Had s i x ⊎ Finds s i x
after-bare a s j k i v x allowed there h =
    let P : Option View → Type 0 = λ o. get_elem? (after_view s j k o).views i ≡ some v in
    acts-bare a s j allowed.view k i v x allowed.at allowed.can (subst P allowed.at there) h

through-first : (a : Asked) (x : ℕ × Kind) (xs : List (ℕ × Kind)) (s end t : State) → Allowed a s x.0 x.1 → GoesThrough a xs (after s x.0 x.1) end t → GoesThrough a (x ∷ xs) s end t
through-first a x xs s end t allowed g = record { first = x ∷ g.first; others = g.others; whole = ap (λ (l : List (ℕ × Kind)). x ∷ l) g.whole; to = (allowed, g.to); from = g.from }

through-start : (a : Asked) (xs : List (ℕ × Kind)) (s end : State) → IsRun a xs s end → GoesThrough a xs s end s
through-start a xs s end run = record { first = []; others = xs; whole = refl; to = refl; from = run }

-- what a view has as empty at the end it had at the start, or it was empty in a state of the run
pub run-bare : (a : Asked) (xs : List (ℕ × Kind)) (s end : State) (i : ℕ) (v : View) (x : ℕ × ℕ) → IsRun a xs s end → get_elem? end.views i ≡ some v → Has x v.bare → Had s i x ⊎ WasEmpty a xs s end i x.0 x.1
run-bare a [] s end i v x run there h = let P : State → Type 0 = λ t. get_elem? t.views i ≡ some v in inl record { view = v; at = subst P (sym run) there; has = h }
run-bare a (y ∷ ys) s end i v x run there h = ⊎_elim
    (λ (o : Had (after s y.0 y.1) i x). ⊎_elim
    (λ (p : Had s i x). inl p)
    (λ (f : Finds s i x). inr record { state = s; through = through-start a (y ∷ ys) s end run; view = f.view; at = f.at; next = f.next; empty = f.empty })
    (after-bare a s y.0 y.1 i o.view x run.0 o.at o.has))
    (λ (w : WasEmpty a ys (after s y.0 y.1) end i x.0 x.1). inr record { state = w.state; through = through-first a y ys s end w.state run.0 w.through; view = w.view; at = w.at; next = w.next; empty = w.empty })
    (run-bare a ys (after s y.0 y.1) end i v x run.1 there h)

-- What is shown absent

pub never : (a : Asked) (xs : List (ℕ × Kind)) (s end : State) (i : ℕ) (v : View) (c n : ℕ) → CoreOk a end → IsRun a xs s end → get_elem? end.views i ≡ some v → c ≢ 0 → length end.words ≡ n → PassedBy n c n v → IsAbsent s.words c
never a xs s end i v c n ok run at nonzero wide passed p here =
    let g = run-grow a xs s end run in
    let there = g.kept p c here nonzero in
    let l = at_less end.words p c there in
    let o = path-onto n c p (omega arith) in
    let x = passed o.0 o.1 in
    let m = (ok.each_view i v at).true_pairs (path n c o.0, x.0) x.1 in
    let F : ℕ → Type 0 = λ q. IsAt end.words q c in
    x.2 (same_at end.words (path n c o.0) x.0 c m.0 (subst F (sym o.2) there))

-- A place on the path was empty, and from there on what stands before it on the path is another code: then the code
-- wasn't stored when it was empty.
absent-then : (a : Asked) (xs : List (ℕ × Kind)) (s end : State) (i : ℕ) (v : View) (c n k : ℕ) → CoreOk a s → CoreOk a end → IsRun a xs s end → get_elem? end.views i ≡ some v → c ≢ 0 → length end.words ≡ n → k < n → PassedBy n c k v → IsAt s.words (path n c k) 0 → IsAbsent s.words c
absent-then a xs s end i v c n k old ok run at nonzero wide less passed empty p here =
    let g = run-grow a xs s end run in
    let long = g.long in
    let there = g.kept p c here nonzero in
    let l = at_less end.words p c there in
    let o = path-onto n c p (omega arith) in
    let F : ℕ → Type 0 = λ q. IsAt end.words q c in
    let G : ℕ → Type 0 = λ q. IsAt s.words q c in
    let on_path = subst G (sym o.2) here in
    let order : InOrder n s.words = subst (λ (m : ℕ). InOrder m s.words) (sym long ∙ wide) old.in_order in
    elim (cases_lt o.0 k) [
      | inl before ↦
          let x = passed o.0 before in
          let m = (ok.each_view i v at).true_pairs (path n c o.0, x.0) x.1 in
          x.2 (same_at end.words (path n c o.0) x.0 c m.0 (subst F (sym o.2) there))
      | inr most ↦ elim (cases_eq o.0 k) [
        | inl same ↦
            let H : ℕ → Type 0 = λ j. IsAt s.words (path n c j) c in
            nonzero (same_at s.words (path n c k) c 0 (subst H same on_path) empty)
        | inr apart ↦
            let y = order c o.0 k nonzero o.1 on_path (omega arith) in
            y.2 (same_at s.words (path n c k) y.0 0 y.1 empty)
      ]
    ]

pub was-absent : (a : Asked) (xs : List (ℕ × Kind)) (s end : State) (i : ℕ) (v : View) (c move : ℕ) → CoreOk a s → IsRun a xs s end → get_elem? end.views i ≡ some v → c ≢ 0 →
    ((w : View) → get_elem? s.views i ≡ some w → (x : ℕ × ℕ) → Has x w.bare → x.1 ≤ move) → ShowsAbsent (length end.words) c move v → NeverStored a xs s end c ⊎ WasAbsent a xs s end i move c
was-absent a xs s end i v c move old run at nonzero before (inl passed) =
    inl (λ t g. never a g.others t end i v c (length end.words) (run-keeps a xs s end old run) g.from at nonzero refl passed)
was-absent a xs s end i v c move old run at nonzero before (inr h) =
    let n = length end.words in
    ⊎_elim
    (λ (d : Had s i (path n c h.0, h.3.0)). let l = before d.view d.at (path n c h.0, h.3.0) d.has in let m = h.3.2 in absurd (omega arith))
    (λ (w : WasEmpty a xs s end i (path n c h.0) h.3.0). inr record {
      state = w.state;
      through = w.through;
      view = w.view;
      at = w.at;
      later = let e = w.next in let m = h.3.2 in omega arith;
      absent = absent-then a w.through.others w.state end i v c n h.0 (run-keeps a w.through.first s w.state old w.through.to) (run-keeps a xs s end old run) w.through.from at nonzero refl h.1 (λ j l. h.2 j l) w.empty;
    })
    (run-bare a xs s end i v (path n c h.0, h.3.0) run at h.3.1)

pub opened-absent : (a : Asked) (xs : List (ℕ × Kind)) (n : ℕ) (end : State) (i : ℕ) (v : View) (c move : ℕ) → IsRun a xs (opening n) end → get_elem? end.views i ≡ some v → c ≢ 0 →
    ShowsAbsent n c move v → NeverStored a xs (opening n) end c ⊎ WasAbsent a xs (opening n) end i move c
opened-absent a xs n end i v c move run at nonzero shows =
    let wide : length end.words ≡ n = (run-grow a xs (opening n) end run).long ∙ length-replicate n 0 in
    was-absent a xs (opening n) end i v c move (opening_ok a n) run at nonzero (none_noted i) (subst (λ (m : ℕ). ShowsAbsent m c move v) (sym wide) shows)
  where
    none_noted : (i : ℕ) (w : View) → get_elem? (first_view ∷ []) i ≡ some w → (x : ℕ × ℕ) → Has x w.bare → x.1 ≤ move
    none_noted zero w e x h = let P : View → Type 0 = λ u. Has x u.bare in absurd (subst P (sym (some-injective first_view w e)) h)
    none_noted (suc j) w e x h = absurd (some-ne-none w (sym e))

-- the path is passed in a state, and so in each later one
pub never-after : (a : Asked) (xs : List (ℕ × Kind)) (s end : State) (i : ℕ) (v : View) (c : ℕ) → CoreOk a s → IsRun a xs s end → get_elem? s.views i ≡ some v → PassedBy (length s.words) c (length s.words) v → IsAbsent end.words c
never-after a xs s end i v c ok run at passed p here =
    let n = length s.words in
    let g = run-grow a xs s end run in
    let long = g.long in
    let l = at_less end.words p c here in
    let o = path-onto n c p (omega arith) in
    let x = passed o.0 o.1 in
    let m = (ok.each_view i v at).true_pairs (path n c o.0, x.0) x.1 in
    let F : ℕ → Type 0 = λ q. IsAt end.words q c in
    x.2 (same_at end.words (path n c o.0) x.0 c (g.kept (path n c o.0) x.0 m.0 m.1) (subst F (sym o.2) here))
