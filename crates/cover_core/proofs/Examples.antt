-- The machine at a small question, by computing: two items, at most two at once, of which (0) and (0, 1) fail, and a
-- table of four words.
use Rattle.std.proofs.Common.{◌≡◌, ℕ, ◌⊎◌, ⊎_elim, List, [], ◌∷◌, refl, ap, sym, inl, inr, arith, subst}
use mathlib.Core.Option.{some, some-injective}
use lib.ListN.{get_elem?}
use Rattle.list_laws.proofs.Members.{Contains-cons_head, Contains-cons_tail, Contains-cons_cases}
use Rattle.list_laws.proofs.Once.{Contains-nil}
use Rattle.tuple_model.specs.Limits.{most_items, most_size}
use Rattle.tuple_model.specs.Tuples.{IsSubset, IsTuple}
use Rattle.tuple_order.specs.Codes.{code_of}
use Rattle.tuple_order.specs.declared.ranks.Range.{Range}
use Rattle.cover_core.specs.declared.state.View.{View}
use Rattle.cover_core.specs.declared.state.State.{State}
use Rattle.cover_core.specs.declared.kind.Kind.TheVariants.{Claim, Publish, Settle}
use Rattle.tuple_order.proofs.Codes.{code_of-unique}
use Rattle.cover_core.specs.Core.{Asked, Has, home_of, question_of}
use Rattle.cover_core.specs.Effects.{SeenWithin}
use Rattle.cover_core.specs.Machine.{Allowed, after, opening}
use Rattle.cover_core.proofs.Law.{IsTuple-large}

abbrev small : List ℕ
small = 0 ∷ []

abbrev large : List ℕ
large = 0 ∷ 1 ∷ []

-- the code of (0) and that of (0, 1)
abbrev code_small : ℕ
code_small = 4629735601308958720

abbrev code_large : ℕ
code_large = 4647750137257394176

the_code_of_the_small_one : code_of small ≡ code_small
unfolding code_of
the_code_of_the_small_one = refl

the_code_of_the_large_one : code_of large ≡ code_large
unfolding code_of
the_code_of_the_large_one = refl

-- both paths begin at place 2
the_small_one_begins : home_of 4 code_small ≡ 2
unfolding home_of
the_small_one_begins = refl

the_large_one_begins : home_of 4 code_large ≡ 2
unfolding home_of
the_large_one_begins = refl

abbrev whole : Range
whole = record { from = 0; to = 4; rises = omega arith }

-- seat 0 claims all four ranks
abbrev claimed : State
claimed = after (opening 4) 0 (Claim 4)

all_is_claimed : claimed ≡ record {
  cursor = 4;
  words = 0 ∷ 0 ∷ 0 ∷ 0 ∷ [];
  views = record { parts = 64; cursor = 4; held = (0, 4) ∷ []; seen = []; made = []; moves = 1; bare = [] } ∷ [];
}
all_is_claimed = refl

-- it stores (0, 1)
abbrev stored : State
stored = after claimed 0 (Publish 2 large)

the_large_one_is_stored : stored ≡ record {
  cursor = 4;
  words = 0 ∷ 0 ∷ code_large ∷ 0 ∷ [];
  views = record { parts = 64; cursor = 4; held = (0, 4) ∷ []; seen = (2, code_large) ∷ []; made = code_large ∷ []; moves = 2; bare = [] } ∷ [];
}
unfolding code_of
the_large_one_is_stored = refl

-- at the same place (0) is not stored, and nothing else changes than a move
abbrev met : State
met = after stored 0 (Publish 2 small)

the_small_one_meets_it : met ≡ record {
  cursor = 4;
  words = 0 ∷ 0 ∷ code_large ∷ 0 ∷ [];
  views = record { parts = 64; cursor = 4; held = (0, 4) ∷ []; seen = (2, code_large) ∷ []; made = code_large ∷ []; moves = 3; bare = [] } ∷ [];
}
unfolding code_of
the_small_one_meets_it = refl

-- at the next place it is
abbrev both : State
both = after met 0 (Publish 3 small)

both_are_stored : both ≡ record {
  cursor = 4;
  words = 0 ∷ 0 ∷ code_large ∷ code_small ∷ [];
  views = record { parts = 64; cursor = 4; held = (0, 4) ∷ []; seen = (2, code_large) ∷ (3, code_small) ∷ []; made = code_small ∷ code_large ∷ []; moves = 4; bare = [] } ∷ [];
}
unfolding code_of
both_are_stored = refl

-- the range is settled, and nothing is left to do
all_is_settled : after both 0 (Settle whole) ≡ record {
  cursor = 4;
  words = 0 ∷ 0 ∷ code_large ∷ code_small ∷ [];
  views = record { parts = 64; cursor = 4; held = []; seen = (2, code_large) ∷ (3, code_small) ∷ []; made = code_small ∷ code_large ∷ []; moves = 5; bare = [] } ∷ [];
}
unfolding code_of
all_is_settled = refl

-- Before (0) is stored, the range may not be settled: (0) fails, and no subset of it was seen.

abbrev Fails : List ℕ → Type 0
Fails t = (t ≡ small) ⊎ (t ≡ large)

abbrev asked : Asked
asked = question_of 2 2 Fails

large_is_no_subset : IsSubset large small → ⊥
large_is_no_subset h = elim (Contains-cons_cases 0 [] 1 (h 1 (Contains-cons_tail 0 (1 ∷ []) 1 (Contains-cons_head 1 [])))) [
  | inl e ↦ omega arith
  | inr k ↦ Contains-nil 1 k
]

abbrev first_seen : View → Type 0
first_seen v = (x : ℕ × ℕ) → Has x v.seen → x.1 ≡ code_of large

none_within : (v : View) → first_seen v → SeenWithin asked small v → ⊥
none_within v all s =
    let e = all (s.seen.0, code_of s.subset) s.seen.1 in
    let fits = IsTuple-large 2 2 s.subset (omega arith) (omega arith) s.within.tuple in
    let also : IsTuple most_items most_size large = record { short = omega arith; rising = (omega arith, omega arith, (omega arith, omega arith, tt)) } in
    let same = code_of-unique s.subset large fits also e in
    let P : List ℕ → Type 0 = λ u. IsSubset u small in
    large_is_no_subset (subst P same s.within.subset)

only_the_large_one : (v : View) → get_elem? stored.views 0 ≡ some v → first_seen v
only_the_large_one v e = subst first_seen (some-injective _ v e) (λ x h. ⊎_elim
    (λ (q : (2, code_of large) ≡ x). sym (ap (λ (y : ℕ × ℕ). y.1) q))
    (λ (k : ⊥). absurd k) h)

the_settling_is_refused : Allowed asked stored 0 (Settle whole) → ⊥
the_settling_is_refused allowed = none_within allowed.view (only_the_large_one allowed.view allowed.at)
    (allowed.can.1 1 small refl (inl refl) (omega arith) (omega arith))
