-- Each move on the table keeps the rule.
use Rattle.std.proofs.Common.{◌≡◌, ◌≢◌, ℕ, zero, suc, ◌+◌, ◌<◌, ◌≤◌, eqb, List, [], ◌∷◌, ◌++◌, map, length, set, refl, ap, sym, ◌∙◌, inl, inr, arith, subst, Some, replicate, add-one}
use Rattle.std.specs.Prelude.{slice_index}
use Rattle.std.proofs.lemmas.Bool.{cases_eq}
use mathlib.Core.Option.{Option, some, none, some-injective, some-ne-none}
use prog.Atomic.{either}
use lib.ListN.{get_elem?, length-set}
use Rattle.atomic_table.specs.Table.{Me, step, Act, keeps, Valid, carried_after, Allows, Splits, Joins, Final, Seen}
use Rattle.atomic_table.proofs.Lists.{at_map, exchanged, set_again}
use Rattle.tuple_model.specs.Tuples.{HasRank}
use Rattle.tuple_order.specs.Codes.{code_of}
use Rattle.cover_core.specs.declared.state.View.{View}
use Rattle.cover_core.specs.Core.{Asked, CoreOk, InOrder, Covers, Saw, path, times, total_of, Fits}
use Rattle.cover_core.specs.Effects.{knows, opens, looks, publishes, settles, split_left, split_right, spent, Answered, PassedBy, Due, first_view}
use Rattle.cover_core.proofs.Moved.{fits_on}
use Rattle.cover_core.proofs.EachKind.{good_knows, good_opens, good_looks, good_publishes, good_settles}
use Rattle.cover_core.proofs.Changing.{same_at, at_less, set_over}
use Rattle.cover_core.proofs.Paths.{unmade as unmade_in, path-onto}
use Rattle.cover_core.proofs.Full.{full_bound, full_fails, one_stored}
use Rattle.cover_core.proofs.Ends.{Closes, opening_ok, closing}
use Rattle.cover_core.proofs.Seats.{splits, merges}
use Rattle.claim_store.specs.declared.rule.Doing.{Doing}
use Rattle.claim_store.specs.declared.rule.Facts.{Facts}
use Rattle.claim_store.specs.Rule.{Said, doing, view_of, state_of, RowOk, asked, StoreOk, full, Bounded, Sound, Told, IsSound, IsTight, Same, Tight, Agrees, intends, saw_cursor, claimed, saw_place, stored, published, settled, cut_left, cut_right, glued, nobody}
use Rattle.claim_store.proofs.Rows.{map-set, map-snoc, index_at, names_spent, names_set, names_snoc, row_kept}

unchanged : (n : ℕ) → either (eqb n 0) 0 n ≡ n
unchanged n = exchanged n 0 0 (λ m. m ≡ n) (λ e. sym e) (λ e. refl)

module _ {Q : Type 0} (items size : Q → ℕ) (Fails : Q → List ℕ → Type 0) (key : Facts Q) (slots id : ℕ) (me : Me Said (Doing Q)) (some_parts : 0 < me.0.view.parts) (named : me.0.facts ≡ Some key) where
  abbrev ask : Asked
  ask = asked items size Fails key

  abbrev Row : List ℕ → List (Doing Q) → Type 0
  Row = RowOk ask key

  bounded : (c : ℕ) (words : List ℕ) (views : List (Doing Q)) → Row (c ∷ words) views → get_elem? views id ≡ some me.0 → Bounded items size Fails me c
  bounded c words views row at =
      let mine = row.0.each_view id me.0.view (at_map view_of views id me.0 at) in
      (mine.below, (λ p e. let same : key ≡ p = cc in let P : Facts Q → Type 0 = λ y. c ≤ full items size y.query.value in subst P same row.0.cursor_most))

  -- the whole of what a step owes, where the word becomes m
  abbrev Owes : List ℕ → List (Option Said) → List (Doing Q) → ℕ → ℕ → (Me Said (Doing Q) → Type 0) → Type 0
  Owes words homes views i m then = (w : Doing Q) × (a : Act Said) × Valid homes me.1 a × Row (set words i m) (set views id w) × then (w, carried_after me.1 a)

  -- what a seat has seen is sound
  sound_view : (c : ℕ) (words : List ℕ) (views : List (Doing Q)) (w : Doing Q) → Row (c ∷ words) views → get_elem? views id ≡ some w → IsSound ask w.view
  sound_view c words views w row at =
      let mine = row.0.each_view id w.view (at_map view_of views id w at) in
      record {
        failing = λ p d saw. let m = mine.true_pairs (p, d) saw in fits_on ask c (total_of ask) d row.0.cursor_most (row.0.fitting p d m.0 m.1);
        apart = λ p q d saw other.
            let m = mine.true_pairs (p, d) saw in
            let o = mine.true_pairs (q, d) other in
            one_stored (length words) d p q words refl row.0.in_order m.1 m.0 o.0;
        lists = mine.lists;
      }

  -- a move after which the row holds leaves the query's name and the slots, and what the seat knows is sound
  same_after : (c : ℕ) (words : List ℕ) (views : List (Doing Q)) (giving : ℕ) (view : View) → let w = doing me.0.facts giving view in Row (c ∷ words) (set views id w) → get_elem? views id ≡ some me.0 → Same items size Fails me (w, me.1)
  same_after c words views giving view after at = let w = doing me.0.facts giving view in record {
    facts = refl;
    slots = refl;
    sound = λ p e.
        let same : key ≡ p = cc in
        let P : Facts Q → Type 0 = λ y. IsSound (asked items size Fails y) view in
        subst P same (sound_view c words (set views id w) w after (set_over views id me.0 w at));
  }

  sees : (words : List ℕ) (homes : List (Option Said)) (views : List (Doing Q)) → Row words views → get_elem? views id ≡ some me.0 →
      Owes words homes views 0 (slice_index words 0) (saw_cursor items size Fails (step slots 0 0 0 none) me (slice_index words 0))
  sees [] homes views row at = absurd row
  sees (c ∷ words) homes views row at =
      let w = doing me.0.facts 0 (knows c me.0.view) in
      let after = row_kept ask key c c words words views id me.0 w refl row at named (good_knows ask (state_of c words views) id me.0.view row.0 (at_map view_of views id me.0 at) some_parts) in (
        w,
        keeps,
        tt,
        after,
        (same_after c words views 0 (knows c me.0.view) after at, bounded c words views row at, refl),
      )

  pub sees_cursor : Allows (StoreOk items size Fails key) slots id me 0 (λ n. n) (saw_cursor items size Fails (step slots 0 0 0 none) me)
  sees_cursor s row deep at small = sees s.words s.homes s.views row at

  claiming : (from to : ℕ) → me.0.view.cursor ≡ from → from < to → to ≤ total_of ask → (words : List ℕ) (homes : List (Option Said)) (views : List (Doing Q)) → Row words views → get_elem? views id ≡ some me.0 →
      Owes words homes views 0 (either (eqb (slice_index words 0) from) to (slice_index words 0)) (claimed items size Fails (step slots 0 from to none) me (slice_index words 0))
  claiming from to mine less most [] homes views row at = absurd row
  claiming from to mine less most (c ∷ words) homes views row at =
      exchanged c from to (λ m. Owes (c ∷ words) homes views 0 m (claimed items size Fails (step slots 0 from to none) me c))
      (λ hit. let w = doing me.0.facts 0 (opens to me.0.view) in
      let after = row_kept ask key c to words words views id me.0 w refl row at named (good_opens ask (state_of c words views) id me.0.view to row.0 (at_map view_of views id me.0 at) some_parts (hit ∙ sym mine) (omega arith) most) in (
        w,
        keeps,
        tt,
        after,
        (same_after to words views 0 (opens to me.0.view) after at, bounded c words views row at, (λ e. refl), (λ n. absurd (n hit))),
      ))
      (λ miss. let w = doing me.0.facts 0 (knows c me.0.view) in
      let after = row_kept ask key c c words words views id me.0 w refl row at named (good_knows ask (state_of c words views) id me.0.view row.0 (at_map view_of views id me.0 at) some_parts) in (
        w,
        keeps,
        tt,
        after,
        (same_after c words views 0 (knows c me.0.view) after at, bounded c words views row at, (λ e. absurd (miss e)), (λ n. refl)),
      ))

  pub claims : (from to : ℕ) → me.0.view.cursor ≡ from → from < to → to ≤ total_of ask → Allows (StoreOk items size Fails key) slots id me 0 (λ n. either (eqb n from) to n) (claimed items size Fails (step slots 0 from to none) me)
  claims from to mine less most s row deep at small = claiming from to mine less most s.words s.homes s.views row at

  sound : (c p d : ℕ) (words : List ℕ) (views : List (Doing Q)) → Row (c ∷ words) views → get_elem? words p ≡ some d → Sound items size Fails me d
  sound c p d words views row here r e nonzero' =
      let same : key ≡ r = cc in
      let P : Facts Q → Type 0 = λ y. Fits (asked items size Fails y) (full items size y.query.value) d in
      subst P same (fits_on ask c (total_of ask) d row.0.cursor_most (row.0.fitting p d here nonzero'))

  agrees : (c p d : ℕ) (words : List ℕ) (views : List (Doing Q)) → Row (c ∷ words) views → get_elem? views id ≡ some me.0 → get_elem? words p ≡ some d → Told items size Fails me p d
  agrees c p d words views row at here r e =
      let same : key ≡ r = cc in
      let mine = row.0.each_view id me.0.view (at_map view_of views id me.0 at) in
      let n = key.width in
      let P : Facts Q → Type 0 = λ y. Agrees y me.0.view p d in
      let order : InOrder n words = subst (λ (m : ℕ). InOrder m words) row.2 row.0.in_order in
      subst P same record {
        seen = λ b h. same_at words p d b here (mine.true_pairs (p, b) h).0;
        before = λ b k j z less before place h.
            let o = order b k j z less (mine.true_pairs (path n b k, b) h).0 before in
            let f : o.0 ≡ d = same_at words p o.0 d (subst (λ (y : ℕ). get_elem? words y ≡ some o.0) place o.1) here in
            ((λ q. o.2 (f ∙ q)), (λ q. o.3 (f ∙ q)));
        inside = λ q b h. let l = at_less words q b (mine.true_pairs (q, b) h).0 in omega (arith, row.2);
      }

  -- a code whose place is empty is in no list of made codes
  unmade : (c k b : ℕ) (words : List ℕ) (views : List (Doing Q)) → Row (c ∷ words) views → get_elem? views id ≡ some me.0 → k < key.width → get_elem? words (path key.width (suc b) k) ≡ some 0 → PassedBy key.width (suc b) k me.0.view → times (suc b) me.0.view.made ≡ 0
  unmade c k b words views row at short empty passed =
      let mine = row.0.each_view id me.0.view (at_map view_of views id me.0 at) in
      unmade_in ask (state_of c words views) id key.width b k me.0.view row.0 (at_map view_of views id me.0 at) row.2 short empty
      (λ j l. let o = passed j l in let m = mine.true_pairs (path key.width (suc b) j, o.0) o.1 in (o.0, m.0, m.1, o.2))

  looking : (p : ℕ) → p < key.width → (words : List ℕ) (homes : List (Option Said)) (views : List (Doing Q)) → Row words views → get_elem? views id ≡ some me.0 →
      Owes words homes views (suc p) (slice_index words (suc p)) (saw_place items size Fails (step slots (suc p) 0 0 none) me (slice_index words (suc p)))
  looking p less [] homes views row at = absurd row
  looking p less (c ∷ words) homes views row at =
      let d = slice_index words p in
      let here = index_at words p (omega (arith, row.2)) in
      let w = doing me.0.facts 0 (looks p d me.0.view) in
      let P : List ℕ → Type 0 = λ ws. Row (c ∷ ws) (set views id w) in
      let after = row_kept ask key c c words words views id me.0 w refl row at named (good_looks ask (state_of c words views) id me.0.view p d row.0 (at_map view_of views id me.0 at) some_parts here) in (
        w,
        keeps,
        tt,
        subst P (sym (set_again words p d here)) after,
        (same_after c words views 0 (looks p d me.0.view) after at, sound c p d words views row here, (λ q e. let same : p ≡ q = omega arith in let R : ℕ → Type 0 = λ y. (looks p d me.0.view ≡ looks y d me.0.view) × Told items size Fails me y d in subst R same (refl, agrees c p d words views row at here))),
      )

  pub sees_place : (i p : ℕ) → i ≡ suc p → p < key.width → Allows (StoreOk items size Fails key) slots id me i (λ n. n) (saw_place items size Fails (step slots i 0 0 none) me)
  sees_place i p e less = subst (λ (j : ℕ). Allows (StoreOk items size Fails key) slots id me j (λ n. n) (saw_place items size Fails (step slots j 0 0 none) me)) (sym e) (λ s row deep at small. looking p less s.words s.homes s.views row at)

  -- a view that has seen another code at each place of the path
  tight : (c : ℕ) (words : List ℕ) (views : List (Doing Q)) (w : Doing Q) (b : ℕ) → Row (c ∷ words) views → get_elem? views id ≡ some w → Tight ask key.width w.view b
  tight c words views w b row at t r ranked coded passed =
      let mine = row.0.each_view id w.view (at_map view_of views id w at) in
      let s = state_of c words views in
      let filled : (p : ℕ) → p < length words → (d : ℕ) × (get_elem? words p ≡ some d) × (d ≢ 0) × (d ≢ code_of t) = λ p less.
      let on = path-onto key.width b p (omega (arith, row.2)) in
      let o = passed on.0 on.1 in
      let saw : Saw p o.0 w.view = let P : ℕ → Type 0 = λ q. Saw q o.0 w.view in subst P on.2 o.1 in
      let m = mine.true_pairs (p, o.0) saw in
      (o.0, m.0, m.1, (λ z. o.2 (z ∙ coded))) in
      subst (IsTight ask) row.2 record { tuples = full_bound ask s row.0 t r ranked filled; failing = full_fails ask s row.0 (λ p less. let f = filled p less in (f.0, f.1, f.2)) }

  tight_for : (c : ℕ) (words : List ℕ) (views : List (Doing Q)) (w : Doing Q) (b : ℕ) → Row (c ∷ words) views → get_elem? views id ≡ some w → (p : Facts Q) → me.0.facts ≡ Some p → Tight (asked items size Fails p) p.width w.view b
  tight_for c words views w b row at p e =
      let same : key ≡ p = cc in
      let P : Facts Q → Type 0 = λ y. Tight (asked items size Fails y) y.width w.view b in
      subst P same (tight c words views w b row at)

  publishing : (k c : ℕ) (t : List ℕ) (r : ℕ) → k < key.width → code_of t ≡ suc c → Fails key.query.value t → HasRank ask.items ask.size t r → Covers r me.0.view → PassedBy key.width (suc c) k me.0.view →
      (words : List ℕ) (homes : List (Option Said)) (views : List (Doing Q)) → Row words views → get_elem? views id ≡ some me.0 →
      let p = path key.width (suc c) k in p < key.width →
      Owes words homes views (suc p) (either (eqb (slice_index words (suc p)) 0) (suc c) (slice_index words (suc p))) (published items size Fails (step slots (suc p) 0 (suc c) none) me (slice_index words (suc p)))
  publishing k c t r short coded fails rank covers passed [] homes views row at less = absurd row
  publishing k c t r short coded fails rank covers passed (c0 ∷ words) homes views row at less =
      let p = path key.width (suc c) k in
      let d = slice_index words p in
      let here = index_at words p (omega (arith, row.2)) in
      exchanged d 0 (suc c) (λ m. Owes (c0 ∷ words) homes views (suc p) m (published items size Fails (step slots (suc p) 0 (suc c) none) me d))
      (λ hit.
      let w = doing me.0.facts 0 (publishes p (suc c) me.0.view) in
      let empty : get_elem? words p ≡ some 0 = here ∙ ap (λ (y : ℕ). some y) hit in
      let after = row_kept ask key c0 c0 words (set words p (suc c)) views id me.0 w (length-set {A = ℕ} words p (suc c)) row at named
      (good_publishes ask (state_of c0 words views) id me.0.view key.width k t r c row.2 row.0 (at_map view_of views id me.0 at) some_parts short empty coded fails rank covers passed) in (
        w,
        keeps,
        tt,
        after,
        (
          same_after c0 (set words p (suc c)) views 0 (publishes p (suc c) me.0.view) after at,
          (λ q e.
              let same : p ≡ q = omega arith in
              let R : ℕ → Type 0 = λ y. stored items size Fails (step slots (suc p) 0 (suc c) none) me d (w, me.1) y in
              subst R same ((λ z. (refl, unmade c0 k c words views row at short empty passed)), (λ n. absurd (n hit)))),
        ),
      ))
      (λ miss.
      let w = doing me.0.facts 0 (looks p d me.0.view) in
      let P : List ℕ → Type 0 = λ ws. Row (c0 ∷ ws) (set views id w) in
      let after = row_kept ask key c0 c0 words words views id me.0 w refl row at named (good_looks ask (state_of c0 words views) id me.0.view p d row.0 (at_map view_of views id me.0 at) some_parts here) in (
        w,
        keeps,
        tt,
        subst P (sym (set_again words p d here)) after,
        (
          same_after c0 words views 0 (looks p d me.0.view) after at,
          (λ q e.
              let same : p ≡ q = omega arith in
              let R : ℕ → Type 0 = λ y. stored items size Fails (step slots (suc p) 0 (suc c) none) me d (w, me.1) y in
              subst R same ((λ z. absurd (miss z)), (λ n. (refl, tight_for c0 words (set views id w) w (suc c) after (set_over views id me.0 w at))))),
        ),
      ))

  pub publishing_allowed : (i k c : ℕ) (t : List ℕ) (r : ℕ) → i ≡ suc (path key.width (suc c) k) → path key.width (suc c) k < key.width → k < key.width → code_of t ≡ suc c → Fails key.query.value t → HasRank ask.items ask.size t r → Covers r me.0.view → PassedBy key.width (suc c) k me.0.view →
      Allows (StoreOk items size Fails key) slots id me i (λ n. either (eqb n 0) (suc c) n) (published items size Fails (step slots i 0 (suc c) none) me)
  publishing_allowed i k c t r e inside short coded fails rank covers passed =
      subst (λ (j : ℕ). Allows (StoreOk items size Fails key) slots id me j (λ n. either (eqb n 0) (suc c) n) (published items size Fails (step slots j 0 (suc c) none) me)) (sym e)
      (λ s row deep at small. publishing k c t r short coded fails rank covers passed s.words s.homes s.views row at inside)

  pub due_allowed : (i k c : ℕ) → i ≡ suc (path key.width c k) → path key.width c k < key.width → k < key.width → c ≢ 0 → Due ask key.width me.0.view k c →
      Allows (StoreOk items size Fails key) slots id me i (λ n. either (eqb n 0) c n) (published items size Fails (step slots i 0 c none) me)
  due_allowed i k zero e inside short nz d = absurd (nz refl)
  due_allowed i k (suc c) e inside short nz d = publishing_allowed i k c d.tuple d.rank e inside short d.coded d.fails d.ranked d.covered d.passed

  settling : (x : Said) → Answered ask x me.0.view → (words : List ℕ) (homes : List (Option Said)) (views : List (Doing Q)) → Row words views → get_elem? views id ≡ some me.0 →
      Owes words homes views 0 (slice_index words 0) (settled items size Fails (step slots 0 0 0 (some x)) me (slice_index words 0))
  settling x answered [] homes views row at = absurd row
  settling x answered (c ∷ words) homes views row at =
      let w = doing me.0.facts 0 (settles x c me.0.view) in
      let after = row_kept ask key c c words words views id me.0 w refl row at named (good_settles ask (state_of c words views) id me.0.view x row.0 (at_map view_of views id me.0 at) some_parts answered) in (
        w,
        keeps,
        tt,
        after,
        (same_after c words views 0 (settles x c me.0.view) after at, bounded c words views row at, (λ y e. let same = some-injective x y e in let R : Said → Type 0 = λ z. settles x c me.0.view ≡ settles z c me.0.view in subst R same refl)),
      )

  pub settling_allowed : (x : Said) → Answered ask x me.0.view → Allows (StoreOk items size Fails key) slots id me 0 (λ n. either (eqb n 0) 0 n) (settled items size Fails (step slots 0 0 0 (some x)) me)
  settling_allowed x answered s row deep at small =
      let n = slice_index s.words 0 in
      let R : ℕ → Type 0 = λ m. Owes s.words s.homes s.views 0 m (settled items size Fails (step slots 0 0 0 (some x)) me n) in
      subst R (sym (unchanged n)) (settling x answered s.words s.homes s.views row at)

  intending : (x : Said) → (words : List ℕ) (homes : List (Option Said)) (views : List (Doing Q)) → Row words views → get_elem? views id ≡ some me.0 →
      Owes words homes views 0 (slice_index words 0) (intends items size Fails (step slots 0 0 0 (some x)) me (slice_index words 0))
  intending x [] homes views row at = absurd row
  intending x (c ∷ words) homes views row at =
      let w = doing me.0.facts x.0 (knows c me.0.view) in
      let after = row_kept ask key c c words words views id me.0 w refl row at named (good_knows ask (state_of c words views) id me.0.view row.0 (at_map view_of views id me.0 at) some_parts) in (
        w,
        keeps,
        tt,
        after,
        (same_after c words views x.0 (knows c me.0.view) after at, bounded c words views row at, (λ y e. ap (λ (z : Said). z.0) (some-injective x y e)), refl),
      )

  pub intending_allowed : (x : Said) → Allows (StoreOk items size Fails key) slots id me 0 (λ n. either (eqb n 0) 0 n) (intends items size Fails (step slots 0 0 0 (some x)) me)
  intending_allowed x s row deep at small =
      let n = slice_index s.words 0 in
      let R : ℕ → Type 0 = λ m. Owes s.words s.homes s.views 0 m (intends items size Fails (step slots 0 0 0 (some x)) me n) in
      subst R (sym (unchanged n)) (intending x s.words s.homes s.views row at)

  cutting : 0 < me.0.giving → me.0.giving < me.0.view.parts → (words : List ℕ) (views : List (Doing Q)) → Row words views → get_elem? views id ≡ some me.0 →
      Row words (set views id (cut_left me.0) ++ cut_right me.0 ∷ [])
  cutting some_given more [] views row at = absurd row
  cutting some_given more (c ∷ words) views row at =
      let ok = splits ask (state_of c words views) id me.0.view me.0.giving row.0 (at_map view_of views id me.0 at) some_given more in
      let P : List View → Type 0 = λ vs. CoreOk ask record { cursor = c; words = words; views = vs } in
      let e : map view_of (set views id (cut_left me.0) ++ cut_right me.0 ∷ []) ≡ set (map view_of views) id (split_left me.0.giving me.0.view) ++ split_right me.0.giving me.0.view ∷ [] =
      map-snoc view_of (set views id (cut_left me.0)) (cut_right me.0) ∙ ap (λ vs. vs ++ split_right me.0.giving me.0.view ∷ []) (map-set view_of views id (cut_left me.0)) in
      (subst P (sym e) ok, names_snoc key (set views id (cut_left me.0)) (cut_right me.0) (names_set key views id (cut_left me.0) row.1 named) named, row.2)

  pub cutting_allowed : 0 < me.0.giving → me.0.giving < me.0.view.parts → Splits (StoreOk items size Fails key) id me.0 (cut_left me.0) (cut_right me.0)
  cutting_allowed some_given more s row at = cutting some_given more s.words s.views row at

  gluing : (j : ℕ) (e : Doing Q) → (words : List ℕ) (views : List (Doing Q)) → Row words views → get_elem? views id ≡ some me.0 → ¬ (j ≡ id) → get_elem? (set views id (glued me.0 e)) j ≡ some e →
      Row words (set (set views id (glued me.0 e)) j nobody)
  gluing j e [] views row at apart there = absurd row
  gluing j e (c ∷ words) views row at apart there =
      let w = glued me.0 e in
      let there' : get_elem? (set (map view_of views) id w.view) j ≡ some e.view = subst (λ (vs : List View). get_elem? vs j ≡ some e.view) (map-set view_of views id w) (at_map view_of (set views id w) j e there) in
      let ok = merges ask (state_of c words views) id j me.0.view e.view row.0 (at_map view_of views id me.0 at) apart there' some_parts in
      let P : List View → Type 0 = λ vs. CoreOk ask record { cursor = c; words = words; views = vs } in
      let same : map view_of (set (set views id w) j nobody) ≡ set (set (map view_of views) id w.view) j spent = map-set view_of (set views id w) j nobody ∙ ap (λ vs. set vs j spent) (map-set view_of views id w) in
      (subst P (sym same) ok, names_spent key (set views id w) j nobody (names_set key views id w row.1 named) (λ h. absurd (omega arith)), row.2)

  pub gluing_allowed : (j : ℕ) (e : Doing Q) → Joins (StoreOk items size Fails key) id me.0 j e (glued me.0 e) nobody
  gluing_allowed j e s row at apart there = gluing j e s.words s.views row at apart there

-- a pair that was seen lies further along the path than another code
pub seen_further : {Q : Type 0} (key : Facts Q) (v : View) (p d c j k : ℕ) → Agrees key v p d → p ≡ path key.width c j → c ≢ 0 → d ≢ c → k < key.width → j ≤ k →
    Saw (path key.width c k) c v → (d ≢ 0) × (j + 1 ≤ k)
seen_further key v p d c j k agrees at nonzero other less most saw = elim (cases_eq j k) [
  | inl same ↦
      let F : ℕ → Type 0 = λ y. Saw y c v in
      let G : ℕ → Type 0 = λ y. Saw (path key.width c y) c v in
      absurd (other (agrees.seen c (subst F (sym at) (subst G (sym same) saw))))
  | inr apart ↦ ((agrees.before c k j nonzero less (omega arith) (sym at) saw).0, omega arith)
]

length-zeros : (n : ℕ) → length {A = ℕ} (replicate n 0) ≡ n
length-zeros zero = refl
length-zeros (suc n) = ap suc (length-zeros n)

pub opened_row : {Q : Type 0} (items size : Q → ℕ) (Fails : Q → List ℕ → Type 0) (key : Facts Q) (words : List ℕ) → words ≡ replicate (key.width + 1) 0 → RowOk (asked items size Fails key) key words (doing (Some key) 0 first_view ∷ [])
opened_row {Q} items size Fails key words e =
    let n = key.width in
    let f : replicate (n + 1) 0 ≡ 0 ∷ replicate n 0 = ap (λ (x : ℕ). replicate x 0) (add-one n) in
    let P : List ℕ → Type 0 = λ ws. RowOk (asked items size Fails key) key ws (doing (Some key) 0 first_view ∷ []) in
    subst P (sym (e ∙ f)) (opening_ok (asked items size Fails key) n, named_first, length-zeros n)
  where
    named_first : (i : ℕ) (d : Doing Q) → get_elem? (doing (Some key) 0 first_view ∷ []) i ≡ some d → 0 < d.view.parts → d.facts ≡ Some key
    named_first zero d e some_parts = ap (λ (x : Doing Q). x.facts) (sym (some-injective _ d e))
    named_first (suc i) d e some_parts = absurd (some-ne-none d (sym e))

-- the last state
pub closed_row : {Q : Type 0} (items size : Q → ℕ) (Fails : Q → List ℕ → Type 0) (key : Facts Q) (id : ℕ) (d : Doing Q) (words : List ℕ) (xs : List Said) → d.view.parts ≡ 64 →
    Final (Seen (StoreOk items size Fails key) id d) words xs → (cursor : ℕ) × (rest : List ℕ) × (words ≡ cursor ∷ rest) × (length rest ≡ key.width) × Closes (asked items size Fails key) d.view cursor rest
closed_row {Q} items size Fails key id d words xs all final = go words final.0.views (subst (λ (ws : List ℕ). RowOk (asked items size Fails key) key ws final.0.views) final.2 final.1.0) final.1.1
  where
    go : (words : List ℕ) (views : List (Doing Q)) → RowOk (asked items size Fails key) key words views → get_elem? views id ≡ some d → (cursor : ℕ) × (rest : List ℕ) × (words ≡ cursor ∷ rest) × (length rest ≡ key.width) × Closes (asked items size Fails key) d.view cursor rest
    go [] views row at = absurd row
    go (c ∷ ws) views row at = (c, ws, refl, row.2, closing (asked items size Fails key) (state_of c ws views) id d.view row.0 (at_map view_of views id d at) all)
