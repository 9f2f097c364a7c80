-- How a name is found among the numbers of variables that stand in the order of their names.
use Rattle.std.proofs.Common.{◌≡◌, ◌≢◌, ◌<◌, ◌≤◌, ◌+◌, ℕ, Bool, true, false, List, [], ◌∷◌, ◌++◌, length, get_or, length-append, reverse, Contains, refl, sym, ap, subst, ◌∙◌, inl, inr, arith}
use Rattle.std.specs.Prelude.{slice_index}
use Rattle.std.specs.declared.cmp.Ordering.{Ordering}
use Rattle.std.specs.declared.cmp.Ordering.TheVariants.{Less, Equal, Greater}
use Rattle.std.specs.List.{insert}
use Rattle.std.specs.List.Sorted.{IsPermutation}
use Rattle.std.specs.Ordering.{ordering_reverse, is_lt}
use Rattle.std.specs.Cmp.{IsTotalOrder}
use Rattle.std.proofs.lemmas.Bool.{cases_lt}
use Rattle.std.proofs.lemmas.Cmp.{nat_list_cmp_total, on_total, tied_itself}
use Rattle.std.proofs.lemmas.List.{length-map, map-append, reverse-reverse, get_or_append_left, get_or_at, get_or_default}
use Rattle.std.proofs.lemmas.List.Elements.{All-cons, All-weaker, Contains-get_or}
use Rattle.std.proofs.lemmas.List.Quantifiers.{all_pairs_push}
use Rattle.std.proofs.lemmas.List.Sorted.{IsPermutation-insert, All-permutation, Contains-permutation}
use Rattle.std.proofs.lemmas.Map.Lookups.{exact_bytes}
use Rattle.gadget_model.specs.Circuit.{Variable}
use Rattle.list_laws.proofs.Members.{Contains-cons_head, Contains-cons_tail}
use Rattle.list_laws.proofs.Inserted.{AllPairs-insert}
use Rattle.gadget_tree.specs.declared.var.Var.{Var}
use Rattle.gadget_tree.specs.Seen.{variable_of, variables_of}
use Rattle.gadget_tree.specs.NameOrder.{compare_names, ComesBefore, name_in, AreByName, IsRank, AreAllInOrder}
use Rattle.gadget_tree.specs.Variables.{names_of, name_at, is_among, place_of, AreDistinct}
use Rattle.gadget_tree.proofs.Names.{contains_among, length-names_of, name_at-place_of, place_of_variable}
use Rattle.gadget_tree.proofs.NamePlaces.{place_of-get_or}
use Rattle.gadget_tree.proofs.Printing.{name_at-variables_of}

order : IsTotalOrder compare_names
order = on_total reverse nat_list_cmp_total

before-itself : (v : List ℕ) → ComesBefore v v → ⊥
before-itself v h = let e = tied_itself order v in absurd cc

-- names that tie are equal
tied-equal : (v w : List ℕ) → compare_names v w ≡ Equal → v ≡ w
tied-equal v w e = sym (reverse-reverse v) ∙ ap reverse (exact_bytes (reverse v) (reverse w) e) ∙ reverse-reverse w

-- a name that differs and doesn't come before comes after
comes-after : (v w : List ℕ) → (ComesBefore v w → ⊥) → v ≢ w → ComesBefore w v
comes-after v w h differs = by_cases (compare_names v w) refl where
  by_cases : (o : Ordering) → compare_names v w ≡ o → ComesBefore w v
  by_cases Less e = absurd (h e)
  by_cases Equal e = absurd (differs (tied-equal v w e))
  by_cases Greater e = order.antisymm w v ∙ ap ordering_reverse e

-- what a comparison says of the name that was compared
less-is : (o : Ordering) → is_lt o ≡ true → o ≡ Less
less-is Less e = refl
less-is Equal e = absurd cc
less-is Greater e = absurd cc

pub compared-before : (seen v w : List ℕ) (o : Ordering) (b : Bool) → seen ≡ v → o ≡ compare_names seen w → b ≡ is_lt o → b ≡ true → ComesBefore v w
compared-before seen v w o b same e f g = ap (λ (z : List ℕ). compare_names z w) (sym same) ∙ sym e ∙ less-is o (sym f ∙ g)

pub compared-other : (seen v w : List ℕ) (o : Ordering) (b : Bool) → seen ≡ v → o ≡ compare_names seen w → b ≡ is_lt o → b ≡ false → ComesBefore v w → ⊥
compared-other seen v w o b same e f g h =
    let less : is_lt o ≡ true = ap is_lt (e ∙ ap (λ (z : List ℕ). compare_names z w) same ∙ h) in
    absurd cc

module _ (variables : List Variable) (numbers : List ℕ) (name : List ℕ) (m : ℕ) (sorted : AreByName variables numbers) (below : m < length numbers) where
  -- with the name at a place those before it come before too
  pub up-to : ComesBefore (name_in variables numbers m) name → (i : ℕ) → i < m + 1 → ComesBefore (name_in variables numbers i) name
  up-to h i l = elim (cases_lt i m) [
    | inl less ↦ order.trans (name_in variables numbers i) (name_in variables numbers m) name (sorted i m 0 less below) h
    | inr reached ↦ let e : m ≡ i = omega arith in subst (λ (k : ℕ). ComesBefore (name_in variables numbers k) name) e h
  ]

  -- where it doesn't come before, neither do those from there on
  pub from-there : (ComesBefore (name_in variables numbers m) name → ⊥) → (i : ℕ) → m ≤ i → i < length numbers → ComesBefore (name_in variables numbers i) name → ⊥
  from-there h i l b k = elim (cases_lt m i) [
    | inl less ↦ h (order.trans (name_in variables numbers m) (name_in variables numbers i) name (sorted m i 0 less b) k)
    | inr reached ↦ let e : i ≡ m = omega arith in h (subst (λ (n : ℕ). ComesBefore (name_in variables numbers n) name) e k)
  ]

-- where the code reads a name by its place among the numbers
pub name-seen : (vars : List Var) (numbers : List ℕ) (place number : ℕ) (var : Var) → AreAllInOrder (variables_of vars) numbers → place < length numbers → number ≡ slice_index numbers place →
    (number < length vars) × ((get_or vars number var).name ≡ name_in (variables_of vars) numbers place)
name-seen vars numbers place number var h l e =
    let below : number < length vars = omega (arith, h.below place 0 l, length-map vars variable_of, e) in
    (below, sym (name_at-variables_of vars number var below) ∙ ap (name_at (variables_of vars)) e)

-- the number that stands at a place is that of its name
pub found-at : (vars : List Var) (numbers : List ℕ) (w : List ℕ) (place : ℕ) → AreAllInOrder (variables_of vars) numbers → place < length numbers → name_in (variables_of vars) numbers place ≡ w →
    (is_among (names_of (variables_of vars)) w ≡ true) × (slice_index numbers place ≡ place_of (names_of (variables_of vars)) w)
found-at vars numbers w place h l e =
    let names = names_of (variables_of vars) in
    let k = slice_index numbers place in
    let below : k < length names = omega (arith, h.below place 0 l, length-names_of (variables_of vars)) in
    (contains_among names w (subst (Contains names) e (Contains-get_or names k [] below)), sym (place_of-get_or names k [] h.distinct below) ∙ ap (place_of names) e)

-- where the first name that doesn't come before isn't this one, none is
pub not-found : (vars : List Var) (numbers : List ℕ) (w : List ℕ) (r : ℕ) → AreAllInOrder (variables_of vars) numbers → IsRank (variables_of vars) numbers w r →
    (r < length numbers → name_in (variables_of vars) numbers r ≡ w → ⊥) → is_among (names_of (variables_of vars)) w ≡ true → ⊥
not-found vars numbers w r h rank differs found =
    let variables = variables_of vars in
    let k = place_of (names_of variables) w in
    let at = h.each k (place_of_variable variables w found) in
    let i = at.0 in
    let named : name_in variables numbers i ≡ w = ap (name_at variables) (get_or_default numbers i 0 k at.1 ∙ at.2) ∙ name_at-place_of variables w found in
    elim (cases_lt i r) [
      | inl less ↦ before-itself w (subst (λ (v : List ℕ). ComesBefore v w) named (rank.before i less))
      | inr reached ↦ elim (cases_lt r i) [
        | inl less ↦ rank.others r (omega arith) (omega arith) (subst (λ (v : List ℕ). ComesBefore (name_in variables numbers r) v) named (h.in_order r i 0 less at.1))
        | inr within ↦ let e : i ≡ r = omega arith in differs (omega arith) (subst (λ (n : ℕ). name_in variables numbers n ≡ w) e named)
      ]
    ]

-- One more variable, whose number is put in at its rank.
module _ (variables : List Variable) (numbers : List ℕ) (v : Variable) (r : ℕ) (h : AreAllInOrder variables numbers) (fresh : is_among (names_of variables) v.name ≡ false)
    (rank : IsRank variables numbers v.name r) where
  abbrev more : List Variable
  more = variables ++ v ∷ []

  abbrev count : ℕ
  count = length variables

  abbrev now : List ℕ
  now = insert numbers r count

  moved : IsPermutation (count ∷ numbers) now
  moved = IsPermutation-insert numbers r count

  longer : length more ≡ count + 1
  longer = length-append variables (v ∷ [])

  names-more : names_of more ≡ names_of variables ++ v.name ∷ []
  names-more = map-append (λ (x : Variable). x.name) variables (v ∷ [])

  old-name : (k : ℕ) → k < count → name_at more k ≡ name_at variables k
  old-name k l =
      ap (λ (ns : List (List ℕ)). get_or ns k []) names-more ∙ get_or_append_left (names_of variables) (v.name ∷ []) [] k (omega (arith, length-names_of variables))

  new-name : name_at more count ≡ v.name
  new-name = ap (λ (ns : List (List ℕ)). get_or ns count []) names-more ∙ get_or_at (names_of variables) v.name [] [] count (length-names_of variables)

  differs : (k : ℕ) → k < count → name_at variables k ≢ v.name
  differs k l e =
      let names = names_of variables in
      let found = contains_among names v.name (subst (Contains names) e (Contains-get_or names k [] (omega (arith, length-names_of variables)))) in
      absurd cc

  -- the fact of two places, where all names are seen with the new one
  abbrev Ordered : ℕ → ℕ → Type 0
  Ordered j k = ComesBefore (name_at more j) (name_at more k)

  as-before : (j k : ℕ) → j < count → k < count → ComesBefore (name_at variables j) (name_at variables k) → Ordered j k
  as-before j k a b p =
      subst (λ (w : List ℕ). ComesBefore w (name_at more k)) (sym (old-name j a)) (subst (λ (w : List ℕ). ComesBefore (name_at variables j) w) (sym (old-name k b)) p)

  before-new : (j : ℕ) → j < count → ComesBefore (name_at variables j) v.name → Ordered j count
  before-new j a p = subst (λ (w : List ℕ). ComesBefore w (name_at more count)) (sym (old-name j a)) (subst (λ (w : List ℕ). ComesBefore (name_at variables j) w) (sym new-name) p)

  new-before : (j : ℕ) → j < count → ComesBefore v.name (name_at variables j) → Ordered count j
  new-before j a p = subst (λ (w : List ℕ). ComesBefore w (name_at more j)) (sym new-name) (subst (λ (w : List ℕ). ComesBefore v.name w) (sym (old-name j a)) p)

  pub index-push : AreAllInOrder more now
  index-push = record {
    distinct = subst AreDistinct (sym names-more) (all_pairs_push (λ a b. a ≢ b) (names_of variables) v.name h.distinct
        (λ k d l e. let found = contains_among (names_of variables) v.name (subst (Contains (names_of variables)) e (Contains-get_or (names_of variables) k d l)) in absurd cc));
    in_order = AllPairs-insert Ordered numbers r count rank.within (λ i j d less l. as-before (get_or numbers i d) (get_or numbers j d) (h.below i d (omega arith)) (h.below j d l) (h.in_order i j d less l))
        (λ k d l. let b : k < length numbers = omega (arith, rank.within) in subst (λ (j : ℕ). Ordered j count) (get_or_default numbers k 0 d b) (before-new (slice_index numbers k) (h.below k 0 b) (rank.before k l)))
        (λ k d a b. subst (λ (j : ℕ). Ordered count j) (get_or_default numbers k 0 d b)
        (new-before (slice_index numbers k) (h.below k 0 b) (comes-after (name_in variables numbers k) v.name (rank.others k a b) (differs (slice_index numbers k) (h.below k 0 b)))));
    below = All-permutation (λ k. k < length more) (count ∷ numbers) now moved
        (All-cons (λ k. k < length more) count numbers (omega (arith, longer)) (All-weaker (λ k. k < count) (λ k. k < length more) (λ k l. omega (arith, longer)) numbers h.below));
    each = λ k l. Contains-permutation (count ∷ numbers) now k moved (elim (cases_lt k count) [
      | inl less ↦ Contains-cons_tail count numbers k (h.each k less)
      | inr reached ↦ let e : count ≡ k = omega (arith, longer) in subst (Contains (count ∷ numbers)) e (Contains-cons_head count numbers)
    ]);
  }

-- the same as the code keeps the variables, their numbers and the new name
pub indexed-push : (vars seen more : List Var) (numbers ns now : List ℕ) (var : Var) (name : List ℕ) (number r : ℕ) → AreAllInOrder (variables_of vars) numbers →
    is_among (names_of (variables_of vars)) var.name ≡ false → seen ≡ vars → ns ≡ numbers → name ≡ var.name → IsRank (variables_of seen) ns name r → number ≡ length vars →
    now ≡ insert numbers r number → more ≡ vars ++ var ∷ [] → AreAllInOrder (variables_of more) now
indexed-push vars seen more numbers ns now var name number r h fresh same same_numbers named rank counted e f =
    let vs = variables_of vars in
    let r1 = subst (λ (z : List Var). IsRank (variables_of z) ns name r) same rank in
    let r2 = subst (λ (z : List ℕ). IsRank vs z name r) same_numbers r1 in
    let r3 = subst (λ (z : List ℕ). IsRank vs numbers z r) named r2 in
    let number_is : number ≡ length vs = counted ∙ sym (length-map vars variable_of) in
    let more_is : variables_of more ≡ vs ++ variable_of var ∷ [] = ap variables_of f ∙ map-append variable_of vars (var ∷ []) in
    subst (λ (z : List Variable). AreAllInOrder z now) (sym more_is)
    (subst (AreAllInOrder (vs ++ variable_of var ∷ [])) (ap (insert numbers r) (sym number_is) ∙ sym e) (index-push vs numbers (variable_of var) r h fresh r3))
