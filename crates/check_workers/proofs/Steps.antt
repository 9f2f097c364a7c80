-- What the work on one tuple changes, and what is done of a range.
use Rattle.std.proofs.Common.{◌≡◌, ℕ, suc, ◌+◌, ◌<◌, ◌≤◌, List, Bool, true, false, length, refl, ap, sym, ◌∙◌, inl, inr, arith, subst, add-one}
use Rattle.std.specs.List.{slice_get}
use Rattle.std.proofs.lemmas.Bool.{cases_eq, cases_Bool}
use Rattle.tuple_model.specs.Tuples.{IsTuple, HasRank, tuples}
use Rattle.tuple_model.proofs.Ranks.{IsTuple-from_rank}
use Rattle.cover_core.specs.declared.state.View.{View}
use Rattle.cover_core.specs.Core.{Asked, Has}
use Rattle.cover_core.specs.Effects.{put_number, SeenWithin, Shows, NoneStored, Further, Open}
use Rattle.cover_core.proofs.Looked.{further-trans}
use Rattle.claim_store.specs.Seen.{Published}
use Rattle.check_workers.specs.Works.{Worked, Counted, Came, Done, IsAtRank}
use Rattle.check_workers.specs.declared.one.Work.{Work}
use Rattle.check_workers.specs.declared.one.Work.TheVariants.{Covered, Clean, Bad, Full}

-- looks alone are such work
pub worked_look : (n c : ℕ) (u v : View) → Further n u v → Worked n c u v
worked_look n c u v f = record { parts = f.only.parts; held = f.only.held; made = inl f.only.made; cursor = f.only.cursor; moves = f.only.moves; seen = f.only.seen; shows = f.shows }

-- looks before the work on a tuple belong to it
pub worked_after : (n c : ℕ) (u v w : View) → Further n u v → Worked n c v w → Worked n c u w
worked_after n c u v w f h = record {
  parts = h.parts ∙ f.only.parts;
  held = h.held ∙ f.only.held;
  made = elim h.made [ inl e ↦ inl (e ∙ f.only.made) | inr e ↦ inr (e ∙ ap (put_number c) f.only.made) ];
  cursor = let x = f.only.cursor in let y = h.cursor in omega arith;
  moves = let x = f.only.moves in let y = h.moves in omega arith;
  seen = λ x k. h.seen x (f.only.seen x k);
  shows = λ d m k. h.shows d m (f.shows d m k);
}

pub came_after : (a : Asked) (n : ℕ) (t : List ℕ) (u v w : View) (k : Work) → Further n u v → Came a n t v w k → Came a n t u w k
came_after a n t u v w (Covered s) f h = h
came_after a n t u v w Clean f h = h
came_after a n t u v w Bad f h = h
came_after a n t u v w Full f h = (h.0, h.1, h.2, h.3 ∙ f.only.made)

pub worked_published : (n c : ℕ) (v w : View) → Published n v w c → Worked n c v w
worked_published n c v w p = record { parts = p.parts; held = p.held; made = inr p.made; cursor = p.cursor; moves = p.moves; seen = p.seen; shows = p.shows }

-- what was shown absent before a further call is so after it
pub counted_on : (n : ℕ) (t : List ℕ) (u v w : View) (before after : ℕ) → after ≡ before + 1 → NoneStored n t u v → Shows n v w → Counted n t u w before after
counted_on n t u v w before after e none shows = inr (e, (λ k l. let x = none k l in (shows _ u.moves x.0, x.1)))

-- what a tuple's work leaves of its rank, where it found room
pub answered : (a : Asked) (n : ℕ) (t : List ℕ) (v w : View) (k : Work) → (k ≡ Full → ⊥) → IsTuple a.items a.size t → Came a n t v w k → a.Fails t → SeenWithin a t w
answered a n t v w (Covered s) room fits h is = record { subset = s; within = h.0; seen = h.2 }
answered a n t v w Clean room fits h is = absurd (h is)
answered a n t v w Bad room fits h is = record { subset = t; within = record { tuple = fits; subset = λ item k. k }; seen = h.1 }
answered a n t v w Full room fits h is = absurd (room refl)

pub done_more : (a : Asked) (n from r c : ℕ) (t : List ℕ) (v w : View) (k : Work) → Done a from r v → Worked n c v w → HasRank a.items a.size t r → Came a n t v w k → (k ≡ Full → ⊥) → Done a from (r + 1) w
done_more a n from r c t v w k done worked ranked came room q u at is low high = elim (cases_eq q r) [
  | inl same ↦
      let F : ℕ → Type 0 = λ x. HasRank a.items a.size u x in
      let f : u ≡ t = let x = subst F same at in cc in
      let o = answered a n t v w k room (IsTuple-from_rank a.items a.size r t ranked) came (subst a.Fails f is) in
      let P : List ℕ → Type 0 = λ y. SeenWithin a y w in
      subst P (sym f) o
  | inr apart ↦ let o = done q u at is low (omega arith) in record { subset = o.subset; within = o.within; seen = (o.seen.0, worked.seen _ o.seen.1) }
]

-- a rank of an open range is open
pub open-from_held : (a : Asked) (r : ℕ) (t : List ℕ) (x : ℕ × ℕ) (v w : View) → HasRank a.items a.size t r → Has x v.held → w.held ≡ v.held → x.0 ≤ r → r < x.1 → Open a t w
open-from_held a r t x v w ranked has same low high = record { rank = r; ranked = ranked; covered = record { range = x; held = let P : List (ℕ × ℕ) → Type 0 = λ l. Has x l in subst P (sym same) has; from = low; to = high } }

-- a step goes to the next rank, where there is one
pub IsAtRank-next : (items size items' size' rank : ℕ) (t after : List ℕ) (more : Bool) → items' ≡ items → size' ≡ size →
    HasRank items size t rank →
    (more ≡ true → (rank : ℕ) → HasRank items' size' t rank → HasRank items' size' after (suc rank)) →
    (more ≡ false → (rank : ℕ) → HasRank items' size' t rank → length (tuples items' size') ≡ suc rank) →
    IsAtRank items size (rank + 1) after
IsAtRank-next items size items' size' rank t after more is_items is_size here next last l =
    let all : tuples items' size' ≡ tuples items size = ap (λ (n : ℕ). tuples n size') is_items ∙ ap (tuples items) is_size in
    let here' : HasRank items' size' t rank = ap (λ (ts : List (List ℕ)). slice_get ts rank) all ∙ here in
    elim (cases_Bool more) [
      | inl goes ↦ ap (slice_get (tuples items size)) (add-one rank) ∙ ap (λ (ts : List (List ℕ)). slice_get ts (suc rank)) (sym all) ∙ next goes rank here'
      | inr ends ↦ let n = last ends rank here' in let m = ap (λ (ts : List (List ℕ)). length ts) all in absurd (omega arith)
    ]
