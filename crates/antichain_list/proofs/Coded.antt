-- Lists of codes, and the tuples that they are the codes of: both are in order, and have the same members.
use Rattle.std.proofs.Common.{◌≡◌, ℕ, ◌<◌, List, [], ◌∷◌, map, length, get_or, refl, ap, sym, ◌∙◌, inl, inr, arith, subst, Contains}
use Rattle.std.specs.List.{All, AllPairs}
use Rattle.std.specs.List.Sorted.{IsNonDecreasing}
use Rattle.std.proofs.Math.ListN.{length-map, get_or-map}
use Rattle.std.proofs.lemmas.Bool.{cases_lt}
use Rattle.std.proofs.lemmas.List.{get_or_default}
use Rattle.std.proofs.lemmas.List.Elements.{All-contains, All-head, All-tail}
use Rattle.list_laws.proofs.Members.{Contains-map, Contains-from_map, AllPairs-map, AllPairs-weaker}
use Rattle.tuple_model.specs.Limits.{most_items, most_size}
use Rattle.tuple_model.specs.Tuples.{IsTuple, IsBefore}
use Rattle.tuple_order.specs.Codes.{code_of, tuple_of_code}
use Rattle.tuple_order.proofs.Codes.{tuple_of_code-code_of, code_of-before, IsBefore-from_code_of}
use Rattle.antichain_list.specs.Held.{IsCode, AreCodes}

pub IsCode-code_of : (t : List ℕ) → IsTuple most_items most_size t → IsCode (code_of t)
IsCode-code_of t h =
    let e = tuple_of_code-code_of t h in
    record { tuple = subst (IsTuple most_items most_size) (sym e) h; same = ap code_of e }

-- the codes of the tuples are the numbers that are held
pub map-code_of : (codes : List ℕ) → All IsCode codes → map code_of (map tuple_of_code codes) ≡ codes
map-code_of [] h = refl
map-code_of (code ∷ codes) h =
    let e = (All-head IsCode code codes h).same in
    let rest = map-code_of codes (All-tail IsCode code codes h) in
    cc

pub code-from_member : (codes : List ℕ) (t : List ℕ) → All IsCode codes → Contains (map tuple_of_code codes) t → Contains codes (code_of t)
code-from_member codes t h k =
    let r = Contains-from_map tuple_of_code codes t k in
    subst (Contains codes) (sym (All-contains IsCode codes r.0 h r.1).same ∙ ap code_of r.2) r.1

pub member-from_code : (codes : List ℕ) (t : List ℕ) → IsTuple most_items most_size t → Contains codes (code_of t) → Contains (map tuple_of_code codes) t
member-from_code codes t h k = subst (Contains (map tuple_of_code codes)) (tuple_of_code-code_of t h) (Contains-map tuple_of_code codes (code_of t) k)

-- the tuple of the lower code comes first
before_from_codes : (m n : ℕ) → IsCode m → IsCode n → m < n → IsBefore (tuple_of_code m) (tuple_of_code n)
before_from_codes m n g h l =
    let e = g.same in
    let f = h.same in
    IsBefore-from_code_of (tuple_of_code m) (tuple_of_code n) g.tuple h.tuple (omega arith)

codes_from_before : (m n : ℕ) → IsCode m → IsCode n → IsBefore (tuple_of_code m) (tuple_of_code n) → m < n
codes_from_before m n g h b =
    let e = g.same in
    let f = h.same in
    let l = code_of-before (tuple_of_code m) (tuple_of_code n) g.tuple h.tuple b in
    omega arith

pub ordered-from_rising : (codes : List ℕ) → All IsCode codes → AllPairs ◌<◌ codes → AllPairs IsBefore (map tuple_of_code codes)
ordered-from_rising codes h o =
    AllPairs-map (λ m n. IsBefore (tuple_of_code m) (tuple_of_code n)) IsBefore tuple_of_code (λ m n b. b) codes
    (AllPairs-weaker ◌<◌ (λ m n. IsBefore (tuple_of_code m) (tuple_of_code n)) codes
    (λ m n k l less. before_from_codes m n (All-contains IsCode codes m h k) (All-contains IsCode codes n h l) less) o)

pub rising-from_ordered : (codes : List ℕ) → All IsCode codes → AllPairs IsBefore (map tuple_of_code codes) → AllPairs ◌<◌ codes
rising-from_ordered codes h o i j d l m =
    let b = o i j (tuple_of_code d) l (omega (arith, length-map codes tuple_of_code)) in
    let P : List ℕ → Type 0 = λ t. IsBefore t (tuple_of_code (get_or codes j d)) in
    codes_from_before (get_or codes i d) (get_or codes j d) (h i d (omega arith)) (h j d m)
    (subst P (get_or-map tuple_of_code codes i d) (subst (IsBefore (get_or (map tuple_of_code codes) i (tuple_of_code d))) (get_or-map tuple_of_code codes j d) b))

pub rising-from_codes : (codes : List ℕ) → AreCodes codes → AllPairs ◌<◌ codes
rising-from_codes codes h = rising-from_ordered codes h.coded h.antichain.ordered

-- so they can be searched
pub IsNonDecreasing-from_codes : (codes : List ℕ) → AreCodes codes → IsNonDecreasing codes
IsNonDecreasing-from_codes codes h i j d l m = elim (cases_lt i j) [
  | inl less ↦ let r = rising-from_codes codes h i j d less m in omega arith
  | inr most ↦ let e : i ≡ j = omega arith in let f = ap (λ (k : ℕ). get_or codes k d) e in omega arith
]

-- the code at a place is that of the tuple at the place
pub get_or-codes : (list : List (List ℕ)) (codes : List ℕ) (place : ℕ) → codes ≡ map code_of list → place < length list → get_or codes place 0 ≡ code_of (get_or list place [])
get_or-codes list codes place e l =
    let m : place < length (map code_of list) = omega (arith, length-map list code_of) in
    ap (λ (ns : List ℕ). get_or ns place 0) e ∙ get_or_default (map code_of list) place 0 (code_of []) m ∙ get_or-map code_of list place []
