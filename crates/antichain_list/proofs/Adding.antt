-- A code comes in at its place, and the codes of supersets after it go: then the tuples are an antichain again, and the tuple came in.
use Rattle.std.proofs.Common.{◌≡◌, ℕ, ◌+◌, ◌<◌, ◌≤◌, ◌⊎◌, List, [], ◌∷◌, ◌++◌, map, length, take, drop, get_or, ap, sym, ◌∙◌, inl, inr, arith, subst, Contains}
use Rattle.std.specs.List.{All, AllPairs, insert}
use Rattle.std.proofs.lemmas.Bool.{cases_lt}
use Rattle.std.proofs.lemmas.List.{take-append-drop, take_at, drop_at, append_assoc, length-append, get_or_default, get_or-take, get_or-drop, length-take-le, length-drop}
use Rattle.std.proofs.lemmas.List.Elements.{All-append, All-cons, All-take, All-contains, All-contains_itself, All-weaker, Contains-append_left, Contains-append_right, Contains-append_cases}
use Rattle.std.proofs.lemmas.List.Kept.{AllPairs-cons}
use Rattle.list_laws.proofs.Members.{Contains-cons_head, Contains-cons_tail, Contains-cons_cases, Contains-map, Contains-from_map, AllPairs-append, AllPairs-append_left, AllPairs-append_right}
use Rattle.tuple_model.specs.Limits.{most_items, most_size}
use Rattle.tuple_model.specs.Tuples.{IsTuple, IsSubset}
use Rattle.tuple_model.specs.Minimal.{Picks}
use Rattle.tuple_model.specs.Antichains.{Covers, Adds}
use Rattle.tuple_model.proofs.Antichains.{IsSubset-before, IsAntichain-added, Covers-member}
use Rattle.tuple_model.proofs.Picking.{picked-from_member, member-from_picked, AllPairs-picked}
use Rattle.tuple_order.specs.Codes.{code_of, tuple_of_code}
use Rattle.tuple_order.proofs.Codes.{tuple_of_code-code_of, code_of-before}
use Rattle.antichain_list.specs.Held.{IsCode, AreCodes, IsNoSuperset}
use Rattle.antichain_list.proofs.Coded.{IsCode-code_of, code-from_member, member-from_code, ordered-from_rising, rising-from_codes}

-- Where a code belongs: after the lower ones.
pub record IsPlace (codes : List ℕ) (code place : ℕ) : Type 0 where
  pub within : place ≤ length codes
  pub lower : (k : ℕ) → k < place → get_or codes k 0 < code
  pub others : (k : ℕ) → place ≤ k → k < length codes → code ≤ get_or codes k 0

member_before : (codes : List ℕ) (code place n : ℕ) → IsPlace codes code place → Contains (take place codes) n → n < code
member_before codes code place n p k =
    let w = p.within in
    let l : k.0 < place = let s = length-take-le place codes w in let m = k.1 in omega arith in
    let e : n ≡ get_or codes k.0 0 = sym k.2 ∙ get_or-take place codes k.0 n l ∙ get_or_default codes k.0 n 0 (omega arith) in
    let b = p.lower k.0 l in
    omega arith

member_after : (codes : List ℕ) (code place n : ℕ) → IsPlace codes code place → Contains (drop place codes) n → code ≤ n
member_after codes code place n p k =
    let w = p.within in
    let l : place + k.0 < length codes = let s = length-drop place codes in let m = k.1 in omega arith in
    let e : n ≡ get_or codes (place + k.0) 0 = sym k.2 ∙ get_or-drop place codes k.0 n ∙ get_or_default codes (place + k.0) n 0 l in
    let b = p.others (place + k.0) (omega arith) l in
    omega arith

module _ (codes t : List ℕ) (place : ℕ) (rest : List ℕ) where
  after : List ℕ
  after = take place codes ++ code_of t ∷ rest

  parts : (n : ℕ) → Contains codes n → Contains (take place codes) n ⊎ Contains (drop place codes) n
  parts n k = let P : List ℕ → Type 0 = λ xs. Contains xs n in Contains-append_cases (take place codes) (drop place codes) n (subst P (sym (take-append-drop place codes)) k)

  member-left : (n : ℕ) → Contains (take place codes) n → Contains codes n
  member-left n k = let P : List ℕ → Type 0 = λ xs. Contains xs n in subst P (take-append-drop place codes) (Contains-append_left (take place codes) (drop place codes) n k)

  member-right : (n : ℕ) → Contains (drop place codes) n → Contains codes n
  member-right n k = let P : List ℕ → Type 0 = λ xs. Contains xs n in subst P (take-append-drop place codes) (Contains-append_right (take place codes) (drop place codes) n k)

  module _ (held : AreCodes codes) (fits : IsTuple most_items most_size t) (p : IsPlace codes (code_of t) place) (picked : Picks (IsNoSuperset t) (drop place codes) rest)
      (new : Covers (map tuple_of_code codes) t → ⊥) where
    rest_member : (n : ℕ) → Contains rest n → Contains codes n × IsNoSuperset t n
    rest_member n k = let r = member-from_picked (IsNoSuperset t) (drop place codes) rest n picked k in (member-right n r.0, r.1)

    -- the code is new
    rest_after : (n : ℕ) → Contains rest n → code_of t < n
    rest_after n k =
        let r = member-from_picked (IsNoSuperset t) (drop place codes) rest n picked k in
        let l = member_after codes (code_of t) place n p r.0 in
        elim (cases_lt (code_of t) n) [
          | inl less ↦ less
          | inr most ↦
              let e : n ≡ code_of t = omega arith in
              absurd (new (Covers-member (map tuple_of_code codes) t (member-from_code codes t fits (subst (Contains codes) e (member-right n r.0)))))
        ]

    after-coded : All IsCode after
    unfolding after
    after-coded = All-append IsCode (take place codes) (code_of t ∷ rest) (All-take IsCode place codes held.coded)
        (All-cons IsCode (code_of t) rest (IsCode-code_of t fits)
        (All-weaker (Contains rest) IsCode (λ n k. All-contains IsCode codes n held.coded (rest_member n k).0) rest (All-contains_itself rest)))

    after-rising : AllPairs ◌<◌ after
    unfolding after
    after-rising =
        let rises : AllPairs ◌<◌ (take place codes ++ drop place codes) = let P : List ℕ → Type 0 = AllPairs ◌<◌ in subst P (sym (take-append-drop place codes)) (rising-from_codes codes held) in
        AllPairs-append ◌<◌ (take place codes) (code_of t ∷ rest)
        (AllPairs-append_left ◌<◌ (take place codes) (drop place codes) rises)
        (AllPairs-cons ◌<◌ (code_of t) rest
        (All-weaker (Contains rest) (λ n. code_of t < n) rest_after rest (All-contains_itself rest))
        (AllPairs-picked ◌<◌ (IsNoSuperset t) (drop place codes) rest picked (AllPairs-append_right ◌<◌ (take place codes) (drop place codes) rises)))
        (λ m n k l.
        let b = member_before codes (code_of t) place m p k in
        elim (Contains-cons_cases (code_of t) rest n l) [
          | inl e ↦ omega arith
          | inr r ↦ let a = rest_after n r in omega arith
        ])

    -- a tuple that comes before isn't a superset
    no_superset_before : (n : ℕ) → Contains (take place codes) n → IsNoSuperset t n
    no_superset_before n k has =
        let c = All-contains IsCode codes n held.coded (member-left n k) in
        let b = member_before codes (code_of t) place n p k in
        let s = c.same in
        elim (IsSubset-before most_items t (tuple_of_code n) fits.rising c.tuple.rising has) [
          | inl e ↦ let f = ap code_of e in omega arith
          | inr before ↦ let l = code_of-before t (tuple_of_code n) fits c.tuple before in omega arith
        ]

    member-cases : (m : List ℕ) → Contains (map tuple_of_code after) m → (m ≡ t) ⊎ (Contains (map tuple_of_code codes) m × (IsSubset t m → ⊥))
    unfolding after
    member-cases m k =
        let r = Contains-from_map tuple_of_code after m k in
        let known : Contains codes r.0 → IsNoSuperset t r.0 → Contains (map tuple_of_code codes) m × (IsSubset t m → ⊥) =
        λ there none. (subst (Contains (map tuple_of_code codes)) r.2 (Contains-map tuple_of_code codes r.0 there), λ has. none (subst (IsSubset t) (sym r.2) has)) in
        elim (Contains-append_cases (take place codes) (code_of t ∷ rest) r.0 r.1) [
          | inl before ↦ inr (known (member-left r.0 before) (no_superset_before r.0 before))
          | inr from ↦ elim (Contains-cons_cases (code_of t) rest r.0 from) [
            | inl e ↦ inl (sym r.2 ∙ ap tuple_of_code (sym e) ∙ tuple_of_code-code_of t fits)
            | inr later ↦ let q = rest_member r.0 later in inr (known q.0 q.1)
          ]
        ]

    member-added : (m : List ℕ) → ((m ≡ t) ⊎ (Contains (map tuple_of_code codes) m × (IsSubset t m → ⊥))) → Contains (map tuple_of_code after) m
    unfolding after
    member-added m (inl e) =
        let P : List ℕ → Type 0 = Contains (map tuple_of_code (take place codes ++ code_of t ∷ rest)) in
        subst P (sym e) (member-from_code after t fits (Contains-append_right (take place codes) (code_of t ∷ rest) (code_of t) (Contains-cons_head (code_of t) rest)))
    member-added m (inr h) =
        let g = All-contains (IsTuple most_items most_size) (map tuple_of_code codes) m held.antichain.tuples h.0 in
        let none : IsNoSuperset t (code_of m) = λ has. h.1 (subst (IsSubset t) (tuple_of_code-code_of m g) has) in
        member-from_code after m g (elim (parts (code_of m) (code-from_member codes m held.coded h.0)) [
          | inl before ↦ Contains-append_left (take place codes) (code_of t ∷ rest) (code_of m) before
          | inr later ↦ Contains-append_right (take place codes) (code_of t ∷ rest) (code_of m)
              (Contains-cons_tail (code_of t) rest (code_of m) (picked-from_member (IsNoSuperset t) (drop place codes) rest (code_of m) picked later none))
        ])

    pub Adds-from_place : Adds (map tuple_of_code codes) t (map tuple_of_code (take place codes ++ code_of t ∷ rest))
    unfolding after
    Adds-from_place m = (member-cases m, member-added m)

    pub AreCodes-from_place : AreCodes (take place codes ++ code_of t ∷ rest)
    unfolding after
    AreCodes-from_place = record {
      coded = after-coded;
      antichain = IsAntichain-added (map tuple_of_code codes) t (map tuple_of_code after) held.antichain fits new Adds-from_place (ordered-from_rising after after-coded after-rising);
    }

-- the first places of a list into which an element was inserted, and those after it
take-insert : {X : Type 0} (xs : List X) (i : ℕ) (x : X) → i ≤ length xs → take (i + 1) (insert xs i x) ≡ take i xs ++ x ∷ []
take-insert {X} xs i x l =
    let s = length-take-le i xs l in
    ap (take (i + 1)) (sym (append_assoc (take i xs) (x ∷ []) (drop i xs)))
    ∙ take_at (take i xs ++ x ∷ []) (drop i xs) (i + 1) (omega (arith, length-append (take i xs) (x ∷ [])))

drop-insert : {X : Type 0} (xs : List X) (i : ℕ) (x : X) → i ≤ length xs → drop (i + 1) (insert xs i x) ≡ drop i xs
drop-insert {X} xs i x l =
    let s = length-take-le i xs l in
    ap (drop (i + 1)) (sym (append_assoc (take i xs) (x ∷ []) (drop i xs)))
    ∙ drop_at (take i xs ++ x ∷ []) (drop i xs) (i + 1) (omega (arith, length-append (take i xs) (x ∷ [])))

-- what the codes are after a tuple was added
pub record AddsCode (codes t after : List ℕ) : Type 0 where
  pub held : AreCodes after
  pub added : Adds (map tuple_of_code codes) t (map tuple_of_code after)

pub AddsCode-inserted : (codes t : List ℕ) (code place : ℕ) (inserted after : List ℕ) → AreCodes codes → IsTuple most_items most_size t → (Covers (map tuple_of_code codes) t → ⊥) →
    code ≡ code_of t → IsPlace codes code place → inserted ≡ insert codes place code →
    ((rest : List ℕ) × (after ≡ take (place + 1) inserted ++ rest) × Picks (IsNoSuperset t) (drop (place + 1) inserted) rest) → AddsCode codes t after
AddsCode-inserted codes t code place inserted after held fits new e p i r =
    let q : IsPlace codes (code_of t) place = subst (λ (n : ℕ). IsPlace codes n place) e p in
    let f : after ≡ take place codes ++ code_of t ∷ r.0 =
    r.1
    ∙ ap (λ (xs : List ℕ). take (place + 1) xs ++ r.0) i
    ∙ ap (λ (xs : List ℕ). xs ++ r.0) (take-insert codes place code p.within)
    ∙ append_assoc (take place codes) (code ∷ []) r.0
    ∙ ap (λ (n : ℕ). take place codes ++ n ∷ r.0) e in
    let P : List ℕ → Type 0 = λ xs. Picks (IsNoSuperset t) xs r.0 in
    let picked = subst P (ap (drop (place + 1)) i ∙ drop-insert codes place code p.within) r.2 in
    subst (AddsCode codes t) (sym f) (record {
      held = AreCodes-from_place codes t place r.0 held fits q picked new;
      added = Adds-from_place codes t place r.0 held fits q picked new;
    })
