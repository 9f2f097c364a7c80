-- What holds of a run that gets one step longer.
use Rattle.std.proofs.Common.{◌≡◌, ℕ, zero, suc, ◌+◌, ◌<◌, ◌≤◌, Bool, true, false, cond, eqb, List, [], ◌∷◌, ◌++◌, length, length-set, get_or, set, take, replicate, refl, ap, sym, ◌∙◌, arith, subst, Some}
use Rattle.std.specs.Prelude.{slice_get}
use Rattle.std.proofs.lemmas.List.{length-replicate}
use mathlib.Core.Option.{some, some-injective, some-ne-none}
use mathlib.Core.Option as maybe
use lib.ListN.{get_elem?}
use Rattle.tuple_order.specs.Codes.{code_of}
use Rattle.cover_core.specs.declared.state.View.{View}
use Rattle.cover_core.specs.declared.state.State.{State}
use Rattle.cover_core.specs.declared.kind.At.TheVariants.{Cursor, Place}
use Rattle.cover_core.specs.declared.kind.Kind.{Kind}
use Rattle.cover_core.specs.declared.kind.Kind.TheVariants.{Split, Join, Claim, Look, Publish, Settle}
use Rattle.cover_core.specs.Core.{Asked, Each}
use Rattle.cover_core.specs.Effects.{first_view, joins, knows, looks, opens, publishes, settles, spent, split_left, split_right}
use Rattle.cover_core.specs.Machine.{Allowed, IsRun, acts, after, after_view, joined, opening, with_view}
use Rattle.cover_core.specs.Machines.{FewMoves}
use Rattle.cover_core.proofs.Changing.{each_set}
use Rattle.cover_core.proofs.Standing.{take-read}

-- Runs

run-snoc : (a : Asked) (xs : List (ℕ × Kind)) (x : ℕ × Kind) (s mid end : State) → IsRun a xs s mid → Allowed a mid x.0 x.1 → end ≡ after mid x.0 x.1 → IsRun a (xs ++ x ∷ []) s end
run-snoc a [] x s mid end run may e = let P : State → Type 0 = λ y. Allowed a y x.0 x.1 × (after y x.0 x.1 ≡ end) in subst P (sym run) (may, sym e)
run-snoc a (y ∷ ys) x s mid end run may e = (run.0, run-snoc a ys x (after s y.0 y.1) mid end run.1 may e)

pub run-more : (a : Asked) (xs : List (ℕ × Kind)) (k : ℕ) (x : ℕ × Kind) (s mid end : State) → k < length xs → x ≡ get_or xs k x → IsRun a (take k xs) s mid → Allowed a mid x.0 x.1 → end ≡ after mid x.0 x.1 → IsRun a (take (k + 1) xs) s end
run-more a xs k x s mid end l e run may is =
    let P : List (ℕ × Kind) → Type 0 = λ ys. IsRun a ys s end in
    subst P (sym (take-read xs k x l e)) (run-snoc a (take k xs) x s mid end run may is)

pub get-read : {X : Type 0} (xs : List X) (k : ℕ) (x : X) → k < length xs → x ≡ get_or xs k x → slice_get xs k ≡ Some x
get-read [] k x l e = absurd (omega arith)
get-read (y ∷ ys) zero x l e = ap (λ z. Some z) (sym e)
get-read (y ∷ ys) (suc k) x l e = get-read ys k x (omega arith) e

-- Each seat has taken few steps

each_snoc : (P : View → Type 0) (views : List View) (w : View) → Each P views → P w → Each P (views ++ w ∷ [])
each_snoc P [] w all h zero u e = subst P (some-injective w u e) h
each_snoc P [] w all h (suc i) u e = absurd (some-ne-none u (sym e))
each_snoc P (x ∷ xs) w all h zero u e = all zero u e
each_snoc P (x ∷ xs) w all h (suc i) u e = each_snoc P xs w (λ j. all (suc j)) h i u e

few-more : (n : ℕ) (v : View) → v.moves < n → v.moves < suc n
few-more n v l = omega arith

few-set : (n : ℕ) (s : State) (seat : ℕ) (v w : View) → FewMoves n s → get_elem? s.views seat ≡ some v → w.moves ≡ suc v.moves → Each (λ x. x.moves < suc n) (set s.views seat w)
few-set n s seat v w few at e = each_set (λ x. x.moves < n) (λ x. x.moves < suc n) s.views seat w few (few-more n) (let l = few seat v at in omega arith)

moves-looks : (p d : ℕ) (v : View) → (looks p d v).moves ≡ suc v.moves
moves-looks p zero v = refl
moves-looks p (suc d) v = refl

few-joined : (n : ℕ) (s : State) (seat : ℕ) (v : View) (other : ℕ) (o : maybe.Option View) → FewMoves n s → get_elem? s.views seat ≡ some v → FewMoves (suc n) (joined s seat v other o)
few-joined n s seat v other maybe.none few at = λ i u e. few-more n u (few i u e)
few-joined n s seat v other (maybe.some u) few at = each_set (λ x. x.moves < suc n) (λ x. x.moves < suc n) (set s.views seat (joins v u)) other spent (few-set n s seat v (joins v u) few at refl) (λ x h. h) (omega arith)

few-acts : (n : ℕ) (s : State) (seat : ℕ) (v : View) (kind : Kind) → FewMoves n s → get_elem? s.views seat ≡ some v → FewMoves (suc n) (acts s seat v kind)
few-acts n s seat v (Split parts) few at = each_snoc (λ x. x.moves < suc n) (set s.views seat (split_left parts v)) (split_right parts v) (few-set n s seat v (split_left parts v) few at refl) (omega arith)
few-acts n s seat v (Join other) few at = few-joined n s seat v other (get_elem? s.views other) few at
few-acts n s seat v (Claim to) few at =
    let won : State = record { cursor = to; words = s.words; views = set s.views seat (opens to v) } in
    elim (eqb s.cursor v.cursor) as (λ b. FewMoves (suc n) (cond b won (with_view s seat (knows s.cursor v)))) [
      | true ↦ few-set n s seat v (opens to v) few at refl
      | false ↦ few-set n s seat v (knows s.cursor v) few at refl
    ]
few-acts n s seat v (Look Cursor) few at = few-set n s seat v (knows s.cursor v) few at refl
few-acts n s seat v (Look (Place p)) few at = few-set n s seat v (looks p (get_or s.words p 0) v) few at (moves-looks p (get_or s.words p 0) v)
few-acts n s seat v (Publish p t) few at =
    let new : State = record { cursor = s.cursor; words = set s.words p (code_of t); views = set s.views seat (publishes p (code_of t) v) } in
    elim (eqb (get_or s.words p 0) 0) as (λ b. FewMoves (suc n) (cond b new (with_view s seat (looks p (get_or s.words p 0) v)))) [
      | true ↦ few-set n s seat v (publishes p (code_of t) v) few at refl
      | false ↦ few-set n s seat v (looks p (get_or s.words p 0) v) few at (moves-looks p (get_or s.words p 0) v)
    ]
few-acts n s seat v (Settle x) few at = few-set n s seat v (settles (x.from, x.to) s.cursor v) few at refl

pub few-after : (a : Asked) (n : ℕ) (s : State) (seat : ℕ) (kind : Kind) → Allowed a s seat kind → FewMoves n s → FewMoves (suc n) (after s seat kind)
few-after a n s seat kind may few =
    let P : maybe.Option View → Type 0 = λ o. FewMoves (suc n) (after_view s seat kind o) in
    subst P (sym may.at) (few-acts n s seat may.view kind few may.at)

pub few-opening : (n : ℕ) → FewMoves 1 (opening n)
few-opening n = each_snoc (λ x. x.moves < 1) [] first_view (λ i u e. absurd (some-ne-none u (sym e))) (omega arith)

-- The table keeps its number of words

words-joined : (s : State) (seat : ℕ) (v : View) (other : ℕ) (o : maybe.Option View) → length (joined s seat v other o).words ≡ length s.words
words-joined s seat v other maybe.none = refl
words-joined s seat v other (maybe.some u) = refl

words-acts : (s : State) (seat : ℕ) (v : View) (kind : Kind) → length (acts s seat v kind).words ≡ length s.words
words-acts s seat v (Split parts) = refl
words-acts s seat v (Join other) = words-joined s seat v other (get_elem? s.views other)
words-acts s seat v (Claim to) =
    let won : State = record { cursor = to; words = s.words; views = set s.views seat (opens to v) } in
    elim (eqb s.cursor v.cursor) as (λ b. length (cond b won (with_view s seat (knows s.cursor v))).words ≡ length s.words) [ true ↦ refl | false ↦ refl ]
words-acts s seat v (Look Cursor) = refl
words-acts s seat v (Look (Place p)) = refl
words-acts s seat v (Publish p t) =
    let new : State = record { cursor = s.cursor; words = set s.words p (code_of t); views = set s.views seat (publishes p (code_of t) v) } in
    elim (eqb (get_or s.words p 0) 0) as (λ b. length (cond b new (with_view s seat (looks p (get_or s.words p 0) v))).words ≡ length s.words) [ true ↦ length-set s.words p (code_of t) | false ↦ refl ]
words-acts s seat v (Settle x) = refl

pub words-after : (a : Asked) (s : State) (seat : ℕ) (kind : Kind) → Allowed a s seat kind → length (after s seat kind).words ≡ length s.words
words-after a s seat kind may =
    let P : maybe.Option View → Type 0 = λ o. length (after_view s seat kind o).words ≡ length s.words in
    subst P (sym may.at) (words-acts s seat may.view kind)

pub words-opening : (n : ℕ) → length (opening n).words ≡ n
words-opening n = length-replicate n 0
