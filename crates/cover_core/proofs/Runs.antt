-- Each step that is allowed, and so each run, keeps what always holds.
use Rattle.std.proofs.Common.{◌≡◌, ℕ, zero, suc, ◌<◌, Bool, true, false, cond, eqb, List, [], ◌∷◌, length, set, refl, ap, sym, ◌∙◌, arith, subst}
use Rattle.std.specs.Prelude.{slice_index}
use Rattle.std.proofs.lemmas.Bool.{eqb-true}
use mathlib.Core.Option.{Option, some}
use lib.ListN.{get_elem?}
use Rattle.atomic_table.proofs.Lists.{set_else}
use Rattle.tuple_order.specs.Codes.{code_of}
use Rattle.cover_core.specs.declared.state.View.{View}
use Rattle.cover_core.specs.declared.state.State.{State}
use Rattle.cover_core.specs.declared.kind.At.TheVariants.{Cursor, Place}
use Rattle.cover_core.specs.declared.kind.Kind.{Kind}
use Rattle.cover_core.specs.declared.kind.Kind.TheVariants.{Split, Join, Claim, Look, Publish, Settle}
use Rattle.cover_core.specs.Core.{Asked, CoreOk, path}
use Rattle.cover_core.specs.Effects.{PassedBy, joins, knows, looks, opens, publishes, settles}
use Rattle.cover_core.specs.Machine.{with_view, joined, acts, MayPublish, Can, Allowed, after_view, after, IsRun}
use Rattle.cover_core.proofs.Moved.{moved, code_of-not_zero}
use Rattle.cover_core.proofs.EachKind.{good_knows, good_opens, good_looks, good_publishes, good_settles}
use Rattle.cover_core.proofs.Seats.{splits, merges}

pub index_at : (words : List ℕ) (p : ℕ) → p < length words → get_elem? words p ≡ some (slice_index words p)
index_at [] p h = absurd (omega arith)
index_at (x ∷ xs) zero h = refl
index_at (x ∷ xs) (suc p) h = index_at xs p (omega arith)

publishes_code : (a : Asked) (s : State) (i : ℕ) (v : View) (p c : ℕ) (t : List ℕ) → CoreOk a s → get_elem? s.views i ≡ some v → 0 < v.parts → code_of t ≡ c → MayPublish a s v p t → get_elem? s.words p ≡ some 0 →
    CoreOk a record { cursor = s.cursor; words = set s.words p c; views = set s.views i (publishes p c v) }
publishes_code a s i v p zero t ok at some_parts coded may empty = absurd (code_of-not_zero t coded)
publishes_code a s i v p (suc c) t ok at some_parts coded may empty =
    let n = length s.words in
    let q = path n (suc c) may.step in
    let place : p ≡ q = may.on_path ∙ ap (λ (x : ℕ). path n x may.step) coded in
    let passed : PassedBy n (suc c) may.step v = subst (λ (x : ℕ). PassedBy n x may.step v) coded may.passed in
    let E : ℕ → Type 0 = λ x. get_elem? s.words x ≡ some 0 in
    let ok' = moved a s i v (publishes q (suc c) v) s.cursor (set s.words q (suc c)) ok at
    (good_publishes a s i v n may.step t may.rank c refl ok at some_parts may.short (subst E place empty) coded may.fails may.ranked may.covered passed) in
    subst (λ (x : ℕ). CoreOk a record { cursor = s.cursor; words = set s.words x (suc c); views = set s.views i (publishes x (suc c) v) }) (sym place) ok'

acts_keep : (a : Asked) (s : State) (i : ℕ) (v : View) (k : Kind) → CoreOk a s → get_elem? s.views i ≡ some v → 0 < v.parts → Can a s i v k → CoreOk a (acts s i v k)
acts_keep a s i v (Split n) ok at some_parts can = splits a s i v n ok at can.0 can.1
acts_keep a s i v (Join j) ok at some_parts can =
    let u = can.view in
    let P : Option View → Type 0 = λ o. CoreOk a (joined s i v j o) in
    subst P (sym can.at) (merges a s i j v u ok at can.apart (set_else s.views i j (joins v u) can.apart ∙ can.at) some_parts)
acts_keep a s i v (Claim to) ok at some_parts can = go (eqb s.cursor v.cursor) refl
  where
    go : (b : Bool) → eqb s.cursor v.cursor ≡ b → CoreOk a (cond b record { cursor = to; words = s.words; views = set s.views i (opens to v) } (with_view s i (knows s.cursor v)))
    go true e = moved a s i v (opens to v) to s.words ok at (good_opens a s i v to ok at some_parts (eqb-true s.cursor v.cursor e) can.0 can.1)
    go false e = moved a s i v (knows s.cursor v) s.cursor s.words ok at (good_knows a s i v ok at some_parts)
acts_keep a s i v (Look Cursor) ok at some_parts can = moved a s i v (knows s.cursor v) s.cursor s.words ok at (good_knows a s i v ok at some_parts)
acts_keep a s i v (Look (Place p)) ok at some_parts can =
    let d = slice_index s.words p in
    moved a s i v (looks p d v) s.cursor s.words ok at (good_looks a s i v p d ok at some_parts (index_at s.words p can))
acts_keep a s i v (Publish p t) ok at some_parts can = go (eqb (slice_index s.words p) 0) refl
  where
    go : (b : Bool) → eqb (slice_index s.words p) 0 ≡ b → CoreOk a (cond b record { cursor = s.cursor; words = set s.words p (code_of t); views = set s.views i (publishes p (code_of t) v) } (with_view s i (looks p (slice_index s.words p) v)))
    go true e = publishes_code a s i v p (code_of t) t ok at some_parts refl can (index_at s.words p can.inside ∙ ap (λ (x : ℕ). some x) (eqb-true (slice_index s.words p) 0 e))
    go false e = moved a s i v (looks p (slice_index s.words p) v) s.cursor s.words ok at (good_looks a s i v p (slice_index s.words p) ok at some_parts (index_at s.words p can.inside))
acts_keep a s i v (Settle x) ok at some_parts can = moved a s i v (settles (x.from, x.to) s.cursor v) s.cursor s.words ok at (good_settles a s i v (x.from, x.to) ok at some_parts can.1)

pub step-keeps : (a : Asked) (s : State) (i : ℕ) (k : Kind) → CoreOk a s → Allowed a s i k → CoreOk a (after s i k)
step-keeps a s i k ok allowed =
    let P : Option View → Type 0 = λ o. CoreOk a (after_view s i k o) in
    subst P (sym allowed.at) (acts_keep a s i allowed.view k ok allowed.at allowed.some_parts allowed.can)

pub run-keeps : (a : Asked) (xs : List (ℕ × Kind)) (s end : State) → CoreOk a s → IsRun a xs s end → CoreOk a end
run-keeps a [] s end ok run = subst (CoreOk a) run ok
run-keeps a (x ∷ xs) s end ok run = run-keeps a xs (after s x.0 x.1) end (step-keeps a s x.0 x.1 ok run.0) run.1
