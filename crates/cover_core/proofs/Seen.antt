-- What a seat may take from the pairs that it has seen.
use Rattle.std.proofs.Common.{◌≡◌, ◌≢◌, ℕ, ◌<◌, ◌≤◌, List, length, refl, subst}
use mathlib.Core.Option.{some}
use lib.ListN.{get_elem?}
use Rattle.tuple_model.specs.Limits.{most_items, most_size}
use Rattle.tuple_model.specs.Tuples.{IsTuple}
use Rattle.tuple_model.proofs.Ranks.{IsTuple-from_rank, rank-from_IsTuple}
use Rattle.tuple_order.specs.Codes.{code_of}
use Rattle.cover_core.specs.declared.state.View.{View}
use Rattle.cover_core.specs.declared.state.State.{State}
use Rattle.cover_core.specs.Core.{Asked, CoreOk, IsAt, IsFailing, ManyFail, Saw, path, total_of}
use Rattle.cover_core.specs.Effects.{PassedBy}
use Rattle.cover_core.proofs.Changing.{same_at}
use Rattle.cover_core.proofs.Full.{full_bound, full_fails, one_stored}
use Rattle.cover_core.proofs.Law.{failing-from_fits}
use Rattle.cover_core.proofs.Paths.{path-onto}

module _ (a : Asked) (s : State) (ok : CoreOk a s) where
  pub seen-stands : (i : ℕ) (v : View) (p c : ℕ) → get_elem? s.views i ≡ some v → Saw p c v → IsAt s.words p c × (c ≢ 0)
  seen-stands i v p c at saw = (ok.each_view i v at).true_pairs (p, c) saw

  pub seen-coded : (i : ℕ) (v : View) (p c : ℕ) → get_elem? s.views i ≡ some v → Saw p c v → (t : List ℕ) × (code_of t ≡ c) × IsTuple a.items a.size t × a.Fails t
  seen-coded i v p c at saw =
      let m = seen-stands i v p c at saw in
      let f = ok.fitting p c m.0 m.1 in
      (f.tuple, f.coded, IsTuple-from_rank a.items a.size f.rank f.tuple f.ranked, f.fails)

  pub seen-fails : a.items ≤ most_items → a.size ≤ most_size → (i : ℕ) (v : View) (p c : ℕ) → get_elem? s.views i ≡ some v → Saw p c v → IsFailing a c
  seen-fails few small i v p c at saw =
      let m = seen-stands i v p c at saw in
      failing-from_fits a s.cursor c few small (ok.fitting p c m.0 m.1)

  -- what two seats saw at one place is the same, and a code was seen at one place alone
  pub seen-one_code : (i j : ℕ) (v w : View) (p c d : ℕ) → get_elem? s.views i ≡ some v → get_elem? s.views j ≡ some w → Saw p c v → Saw p d w → c ≡ d
  seen-one_code i j v w p c d at at' saw saw' = same_at s.words p c d (seen-stands i v p c at saw).0 (seen-stands j w p d at' saw').0

  pub seen-one_place : (i j : ℕ) (v w : View) (p q c : ℕ) → get_elem? s.views i ≡ some v → get_elem? s.views j ≡ some w → Saw p c v → Saw q c w → p ≡ q
  seen-one_place i j v w p q c at at' saw saw' =
      let m = seen-stands i v p c at saw in
      one_stored (length s.words) c p q s.words refl ok.in_order m.1 m.0 (seen-stands j w q c at' saw').0

  -- each place holds another code
  passed-filled : (i : ℕ) (v : View) (c : ℕ) → get_elem? s.views i ≡ some v → PassedBy (length s.words) c (length s.words) v → (p : ℕ) → p < length s.words → (d : ℕ) × (get_elem? s.words p ≡ some d) × (d ≢ 0) × (d ≢ c)
  passed-filled i v c at passed p less =
      let n = length s.words in
      let o = path-onto n c p less in
      let x = passed o.0 o.1 in
      let m = seen-stands i v (path n c o.0) x.0 at x.1 in
      let F : ℕ → Type 0 = λ q. get_elem? s.words q ≡ some x.0 in
      (x.0, subst F o.2 m.0, m.1, x.2)

  pub full-many : (i : ℕ) (v : View) (c : ℕ) → get_elem? s.views i ≡ some v → PassedBy (length s.words) c (length s.words) v → ManyFail a (length s.words)
  full-many i v c at passed = full_fails a s ok (λ p l. let f = passed-filled i v c at passed p l in (f.0, f.1, f.2))

  pub full-fewer : (i : ℕ) (v : View) (t : List ℕ) → get_elem? s.views i ≡ some v → IsTuple a.items a.size t → PassedBy (length s.words) (code_of t) (length s.words) v → length s.words < total_of a
  full-fewer i v t at fits passed =
      let r = rank-from_IsTuple a.items a.size t fits in
      full_bound a s ok t r.0 r.1 (λ p l. passed-filled i v (code_of t) at passed p l)
