-- What a seat's view shows absent, it goes on to show as long as the seat isn't given back; and it notes no later move
-- than the seat has made.
use Rattle.std.specs.Prelude.{slice_index}
use Rattle.std.proofs.Common.{◌≡◌, ◌≢◌, ℕ, ◌≤◌, Bool, true, false, cond, eqb, List, [], ◌∷◌, ◌++◌, set, refl, sym, ◌∙◌, inl, inr, arith, subst}
use mathlib.Core.Option.{Option, some}
use lib.ListN.{get_elem?}
use Rattle.atomic_table.proofs.Lists.{at_longer, set_else}
use Rattle.tuple_order.specs.Codes.{code_of}
use Rattle.cover_core.specs.declared.state.View.{View}
use Rattle.cover_core.specs.declared.state.State.{State}
use Rattle.cover_core.specs.declared.kind.At.TheVariants.{Cursor, Place}
use Rattle.cover_core.specs.declared.kind.Kind.{Kind}
use Rattle.cover_core.specs.declared.kind.Kind.TheVariants.{Split, Join, Claim, Look, Publish, Settle}
use Rattle.cover_core.specs.Core.{Asked, Each, Has, path}
use Rattle.cover_core.specs.Effects.{Fresh, Shows, first_view, joins, knows, looks, opens, publishes, split_left, split_right, spent, settles}
use Rattle.cover_core.specs.Machine.{with_view, joined, acts, Can, Allowed, after_view, after, IsRun, opening}
use Rattle.cover_core.proofs.Changing.{each_set, same_at, set_over}
use Rattle.cover_core.proofs.Ends.{only-one}
use Rattle.cover_core.proofs.Lists.{put_pairs-right}
use Rattle.cover_core.proofs.Looked.{fresh-same, looks-fresh, publishes-shows, shows-on}
use Rattle.cover_core.proofs.Seats.{each_snoc}

record Goes (n : ℕ) (v w : View) : Type 0 where
  pub fresh : Fresh w
  pub shows : Shows n v w

joins-shows : (n : ℕ) (v u : View) → Shows n v (joins v u)
joins-shows n v u c m (inl h) = inl (λ j l. let o = h j l in (o.0, put_pairs-right (path n c j, o.0) u.seen v.seen o.1, o.2))
joins-shows n v u c m (inr h) = inr (h.0, h.1, (λ j l. let o = h.2 j l in (o.0, put_pairs-right (path n c j, o.0) u.seen v.seen o.1, o.2)), h.3)

goes-looks : (n p d : ℕ) (v : View) → Fresh v → Goes n v (looks p d v)
goes-looks n p d v fresh = record { fresh = looks-fresh p d v fresh; shows = λ c m h. shows-on n c m p d v fresh h }

goes-set : (s : State) (n i : ℕ) (v w' w : View) → get_elem? s.views i ≡ some v → get_elem? (set s.views i w') i ≡ some w → Goes n v w' → Goes n v w
goes-set s n i v w' w at there g = subst (Goes n v) (same_at (set s.views i w') i w' w (set_over s.views i v w' at) there) g

goes-on : (n : ℕ) (v w : View) → w.bare ≡ v.bare → v.moves ≤ w.moves → Fresh v → Shows n v w → Goes n v w
goes-on n v w e more fresh shows = record { fresh = fresh-same v w e more fresh; shows = shows }

acts-show : (a : Asked) (s : State) (n i : ℕ) (v : View) (k : Kind) (w : View) → get_elem? s.views i ≡ some v → Can a s i v k → Fresh v → get_elem? (acts s i v k).views i ≡ some w → Goes n v w
acts-show a s n i v (Split parts) w at can fresh there =
    let l = split_left parts v in
    let here = at_longer (set s.views i l) (split_right parts v ∷ []) i l (set_over s.views i v l at) in
    subst (Goes n v) (same_at (set s.views i l ++ split_right parts v ∷ []) i l w here there) (goes-on n v l refl (omega arith) fresh (λ c m h. h))
acts-show a s n i v (Join other) w at can fresh there =
    let u = can.view in
    let j = joins v u in
    let P : Option View → Type 0 = λ o. get_elem? (joined s i v other o).views i ≡ some w in
    let apart : i ≢ other = λ e. can.apart (sym e) in
    let here = set_else (set s.views i j) other i spent apart ∙ set_over s.views i v j at in
    subst (Goes n v) (same_at (set (set s.views i j) other spent) i j w here (subst P can.at there)) (goes-on n v j refl (omega arith) fresh (joins-shows n v u))
acts-show a s n i v (Claim to) w at can fresh there = go (eqb s.cursor v.cursor) there
  where
    go : (b : Bool) → get_elem? (cond b record { cursor = to; words = s.words; views = set s.views i (opens to v) } (with_view s i (knows s.cursor v))).views i ≡ some w → Goes n v w
    go true e = goes-set s n i v (opens to v) w at e (goes-on n v (opens to v) refl (omega arith) fresh (λ c m h. h))
    go false e = goes-set s n i v (knows s.cursor v) w at e (goes-on n v (knows s.cursor v) refl (omega arith) fresh (λ c m h. h))
acts-show a s n i v (Look Cursor) w at can fresh there = goes-set s n i v (knows s.cursor v) w at there (goes-on n v (knows s.cursor v) refl (omega arith) fresh (λ c m h. h))
acts-show a s n i v (Look (Place p)) w at can fresh there = goes-set s n i v (looks p (slice_index s.words p) v) w at there (goes-looks n p (slice_index s.words p) v fresh)
acts-show a s n i v (Publish p t) w at can fresh there = go (eqb (slice_index s.words p) 0) there
  where
    go : (b : Bool) → get_elem? (cond b record { cursor = s.cursor; words = set s.words p (code_of t); views = set s.views i (publishes p (code_of t) v) } (with_view s i (looks p (slice_index s.words p) v))).views i ≡ some w → Goes n v w
    go true e = let q = publishes p (code_of t) v in goes-set s n i v q w at e (goes-on n v q refl (omega arith) fresh (publishes-shows n p (code_of t) v))
    go false e = goes-set s n i v (looks p (slice_index s.words p) v) w at e (goes-looks n p (slice_index s.words p) v fresh)
acts-show a s n i v (Settle x) w at can fresh there = let q = settles (x.from, x.to) s.cursor v in goes-set s n i v q w at there (goes-on n v q refl (omega arith) fresh (λ c m h. h))

after-goes : (a : Asked) (s : State) (n i : ℕ) (v w : View) (k : Kind) → Allowed a s i k → get_elem? s.views i ≡ some v → Fresh v → get_elem? (after s i k).views i ≡ some w → Goes n v w
after-goes a s n i v w k allowed at fresh there =
    let P : Option View → Type 0 = λ o. get_elem? (after_view s i k o).views i ≡ some w in
    let same : allowed.view ≡ v = same_at s.views i allowed.view v allowed.at at in
    let can = subst (λ (u : View). Can a s i u k) same allowed.can in
    acts-show a s n i v k w at can fresh (subst P at there)

pub after-shows : (a : Asked) (s : State) (n i : ℕ) (v w : View) (k : Kind) → Allowed a s i k → get_elem? s.views i ≡ some v → Fresh v → get_elem? (after s i k).views i ≡ some w → Fresh w × Shows n v w
after-shows a s n i v w k allowed at fresh there = let g = after-goes a s n i v w k allowed at fresh there in (g.fresh, g.shows)

-- No view notes a move that its seat hasn't made.

fresh-set : (s : State) (i : ℕ) (w : View) → Each Fresh s.views → Fresh w → Each Fresh (set s.views i w)
fresh-set s i w all here = each_set Fresh Fresh s.views i w all (λ u h. h) here

fresh-empty : (v : View) → v.bare ≡ [] → Fresh v
fresh-empty v e x h = let P : List (ℕ × ℕ) → Type 0 = λ l. Has x l in absurd (subst P e h)

acts-fresh : (a : Asked) (s : State) (i : ℕ) (v : View) (k : Kind) → get_elem? s.views i ≡ some v → Can a s i v k → Each Fresh s.views → Each Fresh (acts s i v k).views
acts-fresh a s i v (Split parts) at can all =
    let l = split_left parts v in
    each_snoc Fresh (set s.views i l) (split_right parts v) (fresh-set s i l all (fresh-same v l refl (omega arith) (all i v at))) (fresh-empty (split_right parts v) refl)
acts-fresh a s i v (Join other) at can all =
    let u = can.view in
    let j = joins v u in
    let P : Option View → Type 0 = λ o. Each Fresh (joined s i v other o).views in
    let once = fresh-set s i j all (fresh-same v j refl (omega arith) (all i v at)) in
    subst P (sym can.at) (each_set Fresh Fresh (set s.views i j) other spent once (λ w h. h) (fresh-empty spent refl))
acts-fresh a s i v (Claim to) at can all = go (eqb s.cursor v.cursor)
  where
    go : (b : Bool) → Each Fresh (cond b record { cursor = to; words = s.words; views = set s.views i (opens to v) } (with_view s i (knows s.cursor v))).views
    go true = fresh-set s i (opens to v) all (fresh-same v (opens to v) refl (omega arith) (all i v at))
    go false = fresh-set s i (knows s.cursor v) all (fresh-same v (knows s.cursor v) refl (omega arith) (all i v at))
acts-fresh a s i v (Look Cursor) at can all = fresh-set s i (knows s.cursor v) all (fresh-same v (knows s.cursor v) refl (omega arith) (all i v at))
acts-fresh a s i v (Look (Place p)) at can all = fresh-set s i (looks p (slice_index s.words p) v) all (looks-fresh p (slice_index s.words p) v (all i v at))
acts-fresh a s i v (Publish p t) at can all = go (eqb (slice_index s.words p) 0)
  where
    go : (b : Bool) → Each Fresh (cond b record { cursor = s.cursor; words = set s.words p (code_of t); views = set s.views i (publishes p (code_of t) v) } (with_view s i (looks p (slice_index s.words p) v))).views
    go true = let q = publishes p (code_of t) v in fresh-set s i q all (fresh-same v q refl (omega arith) (all i v at))
    go false = fresh-set s i (looks p (slice_index s.words p) v) all (looks-fresh p (slice_index s.words p) v (all i v at))
acts-fresh a s i v (Settle x) at can all = let q = settles (x.from, x.to) s.cursor v in fresh-set s i q all (fresh-same v q refl (omega arith) (all i v at))

after-fresh : (a : Asked) (s : State) (i : ℕ) (k : Kind) → Allowed a s i k → Each Fresh s.views → Each Fresh (after s i k).views
after-fresh a s i k allowed all =
    let P : Option View → Type 0 = λ o. Each Fresh (after_view s i k o).views in
    subst P (sym allowed.at) (acts-fresh a s i allowed.view k allowed.at allowed.can all)

run-fresh : (a : Asked) (xs : List (ℕ × Kind)) (s end : State) → IsRun a xs s end → Each Fresh s.views → Each Fresh end.views
run-fresh a [] s end run all = let P : State → Type 0 = λ t. Each Fresh t.views in subst P run all
run-fresh a (x ∷ xs) s end run all = run-fresh a xs (after s x.0 x.1) end run.1 (after-fresh a s x.0 x.1 run.0 all)

pub opened-fresh : (a : Asked) (n : ℕ) (xs : List (ℕ × Kind)) (end : State) (i : ℕ) (v : View) → IsRun a xs (opening n) end → get_elem? end.views i ≡ some v → Fresh v
opened-fresh a n xs end i v run at = run-fresh a xs (opening n) end run (only-one Fresh first_view (fresh-empty first_view refl)) i v at
