-- Whether the machine takes a step, by the view of its seat.
use Rattle.std.proofs.Common.{◌≡◌, ◌≢◌, ℕ, zero, suc, ◌+◌, ◌-◌, ◌<◌, ◌≤◌, ◌^◌, ◌⊎◌, inl, inr, Bool, true, false, cond, eqb, List, [], ◌∷◌, ◌++◌, length, length-set, get_or, set, refl, ap, sym, ◌∙◌, arith, subst}
use Rattle.std.proofs.lemmas.Bool.{cases_eq, eq-eqb, ne_eqb, false≢true}
use Rattle.std.proofs.lemmas.List.{with_items_is}
use Rattle.std.specs.declared.vec.Vec.{Vec}
use Rattle.std.specs.Vec.{with_items}
use mathlib.Core.Option.{some}
use mathlib.Core.Option as maybe
use lib.ListN.{get_elem?}
use Rattle.cover_core.specs.declared.state.View.{View}
use Rattle.cover_core.specs.declared.state.State.{State}
use Rattle.cover_core.specs.declared.kind.Kind.{Kind}
use Rattle.cover_core.specs.declared.kind.Kind.TheVariants.{Split, Join, Claim, Look, Publish, Settle}
use Rattle.tuple_model.specs.Tuples.{tuples}
use Rattle.tuple_order.specs.Codes.{code_of}
use Rattle.cover_core.specs.Core.{Asked, CoreOk, Each, Has, total, total_of}
use Rattle.cover_core.specs.Effects.{joins, knows, looks, opens, publishes, spent, split_left, split_right}
use Rattle.cover_core.specs.Machine.{Allowed, Can, IsAnother, acts, after, after_view, joined, with_view}
use Rattle.cover_core.specs.Machines.{Takes}
use Rattle.cover_core.proofs.Changing.{at_less, same_at, set_over}
use Rattle.cover_core.proofs.Standing.{get_or-any}

-- what is read of the seats

pub view_at : {X : Type 0} (xs : List X) (i : ℕ) (x : X) → i < length xs → x ≡ get_or xs i x → get_elem? xs i ≡ some x
view_at [] i x l e = absurd (omega arith)
view_at (y ∷ ys) zero x l e = ap (λ z. some z) (sym e)
view_at (y ∷ ys) (suc i) x l e = view_at ys i x (omega arith) e

pub none_at : {X : Type 0} (xs : List X) (i : ℕ) (x : X) → get_elem? xs i ≡ some x → (i < length xs) × (get_or xs i x ≡ x)
none_at [] i x e = absurd (some-not_none e)
  where
    some-not_none : {X : Type 0} {x : X} → maybe.none ≡ some x → ⊥
    some-not_none q = cc
none_at (y ∷ ys) zero x e = (omega arith, some-same e)
  where
    some-same : {X : Type 0} {a b : X} → some a ≡ some b → a ≡ b
    some-same q = cc
none_at (y ∷ ys) (suc i) x e = let h = none_at ys i x e in (omega arith, h.1)

-- a step that is taken, and one that isn't

pub takes_it : (a : Asked) (s : State) (seat : ℕ) (kind : Kind) (v : View) (end : State) → get_elem? s.views seat ≡ some v → 0 < v.parts → Can a s seat v kind → end ≡ acts s seat v kind → Takes a s seat kind true end
takes_it a s seat kind v end at some_parts can e =
    (λ _. (record { view = v; at = at; some_parts = some_parts; can = can }, e ∙ sym (ap (after_view s seat kind) at)), λ q. absurd (false≢true (sym q)))

pub takes_none : (a : Asked) (s : State) (seat : ℕ) (kind : Kind) (v : View) (end : State) → get_elem? s.views seat ≡ some v → (Can a s seat v kind → ⊥) → Takes a s seat kind false end
takes_none a s seat kind v end at not =
    (λ q. absurd (false≢true q), λ _ h. let P : View → Type 0 = λ w. Can a s seat w kind in not (subst P (same_at s.views seat h.view v h.at at) h.can))

pub unspent_at : (views : List View) (seat : ℕ) (v : View) → v ≡ get_or views seat v → ((d : View) → 0 < (get_or views seat d).parts) → 0 < v.parts
unspent_at views seat v e h = let P : View → Type 0 = λ w. 0 < w.parts in subst P (sym e) (h v)

pub takes_at : (a : Asked) (s : State) (seat : ℕ) (kind : Kind) (v : View) (end : State) → seat < length s.views → v ≡ get_or s.views seat v → ((d : View) → 0 < (get_or s.views seat d).parts) → Can a s seat v kind → end ≡ acts s seat v kind → Takes a s seat kind true end
takes_at a s seat kind v end l e some_parts can is = takes_it a s seat kind v end (view_at s.views seat v l e) (unspent_at s.views seat v e some_parts) can is

pub takes_none_at : (a : Asked) (s : State) (seat : ℕ) (kind : Kind) (v : View) (end : State) → seat < length s.views → v ≡ get_or s.views seat v → (Can a s seat v kind → ⊥) → Takes a s seat kind false end
takes_none_at a s seat kind v end l e not = takes_none a s seat kind v end (view_at s.views seat v l e) not

-- where nothing was read of the seat
pub takes_never : (a : Asked) (s : State) (seat : ℕ) (kind : Kind) (end : State) → ((v : View) → Can a s seat v kind → ⊥) → Takes a s seat kind false end
takes_never a s seat kind end not = (λ q. absurd (false≢true q), λ _ h. not h.view h.can)

-- the state after a claim
pub claim_end : (s : State) (seat to cursor : ℕ) (v w : View) →
    (s.cursor ≡ v.cursor → (cursor ≡ to) × (w ≡ opens to v)) →
    (s.cursor ≢ v.cursor → (cursor ≡ s.cursor) × (w ≡ knows s.cursor v)) →
    (let end : State = record { cursor = cursor; words = s.words; views = set s.views seat w } in end) ≡ acts s seat v (Claim to)
claim_end s seat to cursor v w won late =
    let S : ℕ → View → State = λ n u. record { cursor = n; words = s.words; views = set s.views seat u } in
    let F : Bool → State = λ b. cond b (S to (opens to v)) (with_view s seat (knows s.cursor v)) in
    elim (cases_eq s.cursor v.cursor) [
      | inl same ↦ let h = won same in ap (λ n. S n w) h.0 ∙ ap (λ u. S to u) h.1 ∙ ap F (sym (eq-eqb s.cursor v.cursor same))
      | inr apart ↦ let h = late apart in ap (λ n. S n w) h.0 ∙ ap (λ u. S s.cursor u) h.1 ∙ ap F (sym (ne_eqb s.cursor v.cursor apart))
    ]

-- the state after a publication
pub publish_end : (s : State) (seat p : ℕ) (t : List ℕ) (words : List ℕ) (v w : View) →
    (get_or s.words p 0 ≡ 0 → (words ≡ set s.words p (code_of t)) × (w ≡ publishes p (code_of t) v)) →
    (get_or s.words p 0 ≢ 0 → (words ≡ s.words) × (w ≡ looks p (get_or s.words p 0) v)) →
    (let end : State = record { cursor = s.cursor; words = words; views = set s.views seat w } in end) ≡ acts s seat v (Publish p t)
publish_end s seat p t words v w new old =
    let S : List ℕ → View → State = λ l u. record { cursor = s.cursor; words = l; views = set s.views seat u } in
    let F : Bool → State = λ b. cond b (S (set s.words p (code_of t)) (publishes p (code_of t) v)) (with_view s seat (looks p (get_or s.words p 0) v)) in
    elim (cases_eq (get_or s.words p 0) 0) [
      | inl same ↦ let h = new same in ap (λ l. S l w) h.0 ∙ ap (λ u. S (set s.words p (code_of t)) u) h.1 ∙ ap F (sym (eq-eqb (get_or s.words p 0) 0 same))
      | inr apart ↦ let h = old apart in ap (λ l. S l w) h.0 ∙ ap (λ u. S s.words u) h.1 ∙ ap F (sym (ne_eqb (get_or s.words p 0) 0 apart))
    ]

-- the state after a split
pub split_end : (s : State) (seat parts : ℕ) (views : List View) (v w u : View) → views ≡ set s.views seat w ++ u ∷ [] → w ≡ split_left parts v → u ≡ split_right parts v →
    (let end : State = record { cursor = s.cursor; words = s.words; views = views } in end) ≡ acts s seat v (Split parts)
split_end s seat parts views v w u e left right =
    let S : List View → State = λ l. record { cursor = s.cursor; words = s.words; views = l } in
    ap S (e ∙ ap (λ x. set s.views seat x ++ u ∷ []) left ∙ ap (λ x. set s.views seat (split_left parts v) ++ x ∷ []) right)

-- two reads of one place
pub reads_same : {X : Type 0} (xs : List X) (i : ℕ) (x y : X) → i < length xs → x ≡ get_or xs i x → y ≡ get_or xs i y → x ≡ y
reads_same xs i x y l e f = e ∙ get_or-any xs i x y l ∙ sym f

-- how many ranks there are
pub total_is : (a : Asked) (items size total : ℕ) → total ≡ length (tuples items size) → items ≡ a.items → size ≡ a.size → total ≡ total_of a
total_is a items size total e f g = e ∙ ap (λ n. length (tuples n size)) f ∙ ap (λ n. length (tuples a.items n)) g

-- what is written over a slice that a Vec lends
pub lent_is : {X Z : Type 0} (v : Vec X Z) (xs ws : List X) → xs ≡ v.items → length ws ≡ length xs → (with_items v ws).items ≡ ws
lent_is v xs ws e l = with_items_is v ws (l ∙ ap length e ∙ sym v.ok.0)

-- Two seats

total_one : (f : View → ℕ) (views : List View) (i : ℕ) (v : View) → get_elem? views i ≡ some v → f v ≤ total f views
total_one f [] i v at = let h = at_less [] i v at in absurd (omega arith)
total_one f (x ∷ xs) zero v at = let same : f x ≡ f v = ap f (same_at (x ∷ xs) 0 x v refl at) in omega arith
total_one f (x ∷ xs) (suc i) v at = let h = total_one f xs i v at in omega arith

pub total_apart : (f : View → ℕ) (views : List View) (i j : ℕ) (v u : View) → get_elem? views i ≡ some v → get_elem? views j ≡ some u → (j ≢ i) → f v + f u ≤ total f views
total_apart f [] i j v u at at' apart = let h = at_less [] i v at in absurd (omega arith)
total_apart f (x ∷ xs) zero zero v u at at' apart = absurd (apart refl)
total_apart f (x ∷ xs) zero (suc j) v u at at' apart =
    let same : f x ≡ f v = ap f (same_at (x ∷ xs) 0 x v refl at) in
    let h = total_one f xs j u at' in omega arith
total_apart f (x ∷ xs) (suc i) zero v u at at' apart =
    let same : f x ≡ f u = ap f (same_at (x ∷ xs) 0 x u refl at') in
    let h = total_one f xs i v at in omega arith
total_apart f (x ∷ xs) (suc i) (suc j) v u at at' apart = let h = total_apart f xs i j v u at at' (λ e. apart (ap suc e)) in omega arith

pub two_parts : (views : List View) (i j : ℕ) (v u : View) → total (λ x. x.parts) views ≡ 64 → get_elem? views i ≡ some v → get_elem? views j ≡ some u → (j ≢ i) → v.parts + u.parts < 2 ^ 16
two_parts views i j v u e at at' apart = let h = total_apart (λ x. x.parts) views i j v u at at' apart in omega arith

-- what isn't written at stays
pub reads_other : {X : Type 0} (xs : List X) (i j : ℕ) (x d : X) → (j ≢ i) → get_or (set xs j x) i d ≡ get_or xs i d
reads_other [] i j x d apart = refl
reads_other (y ∷ ys) zero zero x d apart = absurd (apart refl)
reads_other (y ∷ ys) zero (suc j) x d apart = refl
reads_other (y ∷ ys) (suc i) zero x d apart = refl
reads_other (y ∷ ys) (suc i) (suc j) x d apart = reads_other ys i j x d (λ e. apart (ap suc e))

pub set_comm : {X : Type 0} (xs : List X) (i j : ℕ) (x y : X) → (j ≢ i) → set (set xs j y) i x ≡ set (set xs i x) j y
set_comm [] i j x y apart = refl
set_comm (z ∷ zs) zero zero x y apart = absurd (apart refl)
set_comm (z ∷ zs) zero (suc j) x y apart = refl
set_comm (z ∷ zs) (suc i) zero x y apart = refl
set_comm (z ∷ zs) (suc i) (suc j) x y apart = ap (λ l. z ∷ l) (set_comm zs i j x y (λ e. apart (ap suc e)))

-- the state after a join
pub join_end : (s : State) (seat other : ℕ) (v w u : View) → get_elem? s.views other ≡ some u → (other ≢ seat) → w ≡ joins v u →
    (let end : State = record { cursor = s.cursor; words = s.words; views = set (set s.views other spent) seat w } in end) ≡ acts s seat v (Join other)
join_end s seat other v w u at apart e =
    let S : List View → State = λ l. record { cursor = s.cursor; words = s.words; views = l } in
    ap S (set_comm s.views seat other w spent apart ∙ ap (λ x. set (set s.views seat x) other spent) e) ∙ sym (ap (joined s seat v other) at)

pub lent_set : {X Z : Type 0} (v : Vec X Z) (xs ws : List X) (i : ℕ) (x : X) → xs ≡ v.items → ws ≡ set xs i x → (with_items v ws).items ≡ set v.items i x
lent_set v xs ws i x e is = lent_is v xs ws e (ap length is ∙ length-set xs i x) ∙ is ∙ ap (λ l. set l i x) e

-- a seat's view after another was spent
pub others_view : (views items : List View) (seat other : ℕ) (w : View) → items ≡ set views other spent → (other ≢ seat) → w ≡ get_or items seat w → w ≡ get_or views seat w
others_view views items seat other w e apart is = is ∙ ap (λ l. get_or l seat w) e ∙ reads_other views seat other spent w apart

pub few_at : (views : List View) (seat : ℕ) (v : View) → v ≡ get_or views seat v → ((d : View) → (get_or views seat d).moves < 2 ^ 63) → v.moves < 2 ^ 63
few_at views seat v e h = let P : View → Type 0 = λ w. w.moves < 2 ^ 63 in subst P (sym e) (h v)

pub held_at : (views : List View) (seat most : ℕ) (x : ℕ × ℕ) (v : View) → v ≡ get_or views seat v → ((d : View) (y : ℕ × ℕ) → Has y (get_or views seat d).held → y.1 ≤ most) → Has x v.held → x.1 ≤ most
held_at views seat most x v e h has = let P : View → Type 0 = λ w. Has x w.held in h v x (subst P e has)

-- the state after a publication over words that were lent
pub publish_lent : (s : State) (seat p code : ℕ) (t : List ℕ) (words lent : List ℕ) (v w : View) → lent ≡ s.words → code ≡ code_of t →
    (get_or lent p 0 ≡ 0 → (words ≡ set lent p code) × (w ≡ publishes p code v)) →
    (get_or lent p 0 ≢ 0 → (words ≡ lent) × (w ≡ looks p (get_or lent p 0) v)) →
    (let end : State = record { cursor = s.cursor; words = words; views = set s.views seat w } in end) ≡ acts s seat v (Publish p t)
publish_lent s seat p code t words lent v w e f new old =
    let D : List ℕ → ℕ → Type 0 = λ l c. (get_or l p 0 ≡ 0 → (words ≡ set l p c) × (w ≡ publishes p c v)) × (get_or l p 0 ≢ 0 → (words ≡ l) × (w ≡ looks p (get_or l p 0) v)) in
    let P : List ℕ → Type 0 = λ l. D l (code_of t) in
    let Q : ℕ → Type 0 = λ c. D lent c in
    let h = subst P e (subst Q f (new, old)) in
    publish_end s seat p t words v w h.0 h.1

-- The machine's seats, as what always holds has them

pub takes_not : (a : Asked) (s : State) (seat : ℕ) (kind : Kind) (end : State) → (Allowed a s seat kind → ⊥) → Takes a s seat kind false end
takes_not a s seat kind end not = (λ q. absurd (false≢true q), λ _ h. not h)

pub at_read : (views : List View) (seat : ℕ) (d : View) → seat < length views → get_elem? views seat ≡ some (get_or views seat d)
at_read views seat d l = view_at views seat (get_or views seat d) l (get_or-any views seat d (get_or views seat d) l)

pub few_read : (n : ℕ) (views : List View) (seat : ℕ) → seat < length views → Each (λ v. v.moves < n) views → (d : View) → (get_or views seat d).moves < n
few_read n views seat l few d = few seat (get_or views seat d) (at_read views seat d l)

pub ranges_read : (a : Asked) (s : State) (seat : ℕ) → seat < length s.views → CoreOk a s → (d : View) (x : ℕ × ℕ) → Has x (get_or s.views seat d).held → x.1 ≤ total_of a
ranges_read a s seat l ok d x has =
    let r = (ok.each_view seat (get_or s.views seat d) (at_read s.views seat d l)).ranges x has in
    let most = ok.cursor_most in
    omega (arith, r.1, most)

pub spent_not : (a : Asked) (s : State) (seat : ℕ) (kind : Kind) (v : View) → seat < length s.views → v ≡ get_or s.views seat v → v.parts ≡ 0 → Allowed a s seat kind → ⊥
spent_not a s seat kind v l e none h =
    let p = ap (λ (x : View). x.parts) (same_at s.views seat h.view v h.at (view_at s.views seat v l e)) in
    omega (arith, h.some_parts, p, none)

pub outside_not : (a : Asked) (s : State) (seat : ℕ) (kind : Kind) → length s.views ≤ seat → Allowed a s seat kind → ⊥
outside_not a s seat kind l h = let m = at_less s.views seat h.view h.at in omega (arith, m, l)
