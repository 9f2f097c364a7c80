-- A run: tuples in a row that share all items but the last.
use Rattle.std.proofs.Common.{◌≡◌, ℕ, zero, suc, ◌+◌, ◌-◌, ◌<◌, ◌≤◌, Bool, cond, ltb, List, [], ◌∷◌, ◌++◌, length, take, Contains, Option, Some, None, refl, ap, sym, ◌∙◌, inl, inr, arith, subst}
use Rattle.std.specs.Option.{option_or, option_map}
use Rattle.std.specs.List.{slice_index, slice_get}
use Rattle.std.proofs.lemmas.Bool.{cases_lt, lt-ltb}
use Rattle.std.proofs.lemmas.List.Elements.{Contains-append_left}
use Rattle.tuple_model.specs.Tuples.{HasRank, IsRising, IsSubset, IsTuple, tuples}
use Rattle.tuple_model.proofs.Antichains.{IsSubset-trans}
use Rattle.tuple_order.specs.Steps.{next_of_size, numbers_from}
use Rattle.tuple_order.proofs.Walk.{next_rank}
use Rattle.tuple_order.proofs.Stepping.{next_tuple-raised}
use Rattle.cover_core.specs.declared.state.View.{View}
use Rattle.cover_core.specs.Core.{Asked}
use Rattle.cover_core.specs.Effects.{Further, SeenWithin}
use Rattle.check_workers.specs.Works.{Done, ShareItems, prefix_of}

-- raising the last item gives the next list of its size
raised_last : (high x : ℕ) (p : List ℕ) → suc x < high → next_of_size high (p ++ x ∷ []) ≡ Some (p ++ suc x ∷ [])
raised_last high x [] less = ap (λ (b : Bool). cond b (Some (suc x ∷ [])) None) (lt-ltb (suc x + 0) high (omega arith))
raised_last high x (y ∷ p) less =
    let rest = p ++ x ∷ [] in
    ap (λ (s : Option (List ℕ)). option_or (option_map (λ t. y ∷ t) s) (cond (ltb (suc y + length rest) high) (Some (numbers_from (suc y) (suc (length rest)))) None)) (raised_last high x p less)

-- so the tuple some ranks further has the last item raised by as much, where there is such an item
raised_by : (items size r x d : ℕ) (p : List ℕ) → HasRank items size (p ++ x ∷ []) r → x + d < items → HasRank items size (p ++ (x + d) ∷ []) (r + d)
raised_by items size r x zero p h less =
    let a : x ≡ x + 0 = omega arith in
    let b : r ≡ r + 0 = omega arith in
    let P : ℕ → Type 0 = λ n. HasRank items size (p ++ n ∷ []) (r + 0) in
    let R : ℕ → Type 0 = λ n. HasRank items size (p ++ x ∷ []) n in
    subst P a (subst R b h)
raised_by items size r x (suc d) p h less =
    let before = raised_by items size r x d p h (omega arith) in
    let a : suc (x + d) ≡ x + suc d = omega arith in
    let b : suc (r + d) ≡ r + suc d = omega arith in
    let now : HasRank items size (p ++ suc (x + d) ∷ []) (suc (r + d)) =
    next_rank items size (r + d) (p ++ (x + d) ∷ []) before ∙ next_tuple-raised items size (p ++ (x + d) ∷ []) (p ++ suc (x + d) ∷ []) (raised_last items (x + d) p (omega arith)) in
    let P : ℕ → Type 0 = λ n. HasRank items size (p ++ n ∷ []) (r + suc d) in
    let R : ℕ → Type 0 = λ n. HasRank items size (p ++ suc (x + d) ∷ []) n in
    subst P a (subst R b now)

-- a list that isn't empty is its prefix with its last element
last_apart : (x : ℕ) (xs : List ℕ) → x ∷ xs ≡ take (length xs) (x ∷ xs) ++ slice_index (x ∷ xs) (length xs) ∷ []
last_apart x [] = refl
last_apart x (y ∷ ys) = ap (λ (l : List ℕ). x ∷ l) (last_apart y ys)

same_tuple : (items size r : ℕ) (t u : List ℕ) → HasRank items size t r → HasRank items size u r → t ≡ u
same_tuple items size r t u h k = let e = sym h ∙ k in cc

-- the tuples up to a rank have the items of the prefix, where as many items are left for the last place
pub shares-prefix : (items size from to left : ℕ) (t : List ℕ) → HasRank items size t from → to ≤ from + left → (length t ≡ 0 → left ≤ 1) → (0 < length t → left + slice_index t (length t - 1) ≤ items) → ShareItems items size (prefix_of t) from to
shares-prefix items size from to left [] h few none some q u at low high item k = let z = k.1 in absurd (omega arith)
shares-prefix items size from to left (x ∷ xs) h few none some q u at low high item k =
    let n = length xs in
    let is : suc n - 1 ≡ n = omega arith in
    let p = take n (x ∷ xs) in
    let last = slice_index (x ∷ xs) n in
    let room : left + last ≤ items = subst (λ (m : ℕ). left + slice_index (x ∷ xs) m ≤ items) is (some (omega arith)) in
    let d = q - from in
    let at' : from + d ≡ q = omega arith in
    let start = subst (λ (l : List ℕ). HasRank items size l from) (last_apart x xs) h in
    let there = raised_by items size from last d p start (omega arith) in
    let e = same_tuple items size q (p ++ (last + d) ∷ []) u (subst (λ (m : ℕ). HasRank items size (p ++ (last + d) ∷ []) m) at' there) at in
    let P : List ℕ → Type 0 = λ l. Contains l item in
    let k' = subst (λ (m : ℕ). Contains (take m (x ∷ xs)) item) is k in
    subst P e (Contains-append_left p ((last + d) ∷ []) item k')

rising-take : (n low high : ℕ) (t : List ℕ) → IsRising low high t → IsRising low high (take n t)
rising-take zero low high t h = tt
rising-take (suc n) low high [] h = tt
rising-take (suc n) low high (x ∷ xs) h = (h.0, h.1, rising-take n (suc x) high xs h.2)

short-take : (n : ℕ) (t : List ℕ) → length (take n t) ≤ length t
short-take zero t = omega arith
short-take (suc n) [] = omega arith
short-take (suc n) (x ∷ xs) = let l = short-take n xs in omega arith

-- the prefix of a tuple is a tuple
pub IsTuple-prefix : (items size : ℕ) (t : List ℕ) → IsTuple items size t → IsTuple items size (prefix_of t)
IsTuple-prefix items size t h = let l = short-take (length t - 1) t in let m = h.short in record { short = omega arith; rising = rising-take (length t - 1) 0 items t h.rising }

-- what was done stays done
pub done_on : (a : Asked) (n begin from : ℕ) (v w : View) → Further n v w → Done a begin from v → Done a begin from w
done_on a n begin from v w f done q u at is low high = let s = done q u at is low high in record { subset = s.subset; within = s.within; seen = (s.seen.0, f.only.seen _ s.seen.1) }

-- what was seen within the prefix is within each tuple of the run
pub done_run : (a : Asked) (begin from to : ℕ) (p : List ℕ) (w : View) → Done a begin from w → SeenWithin a p w → ShareItems a.items a.size p from to → Done a begin to w
done_run a begin from to p w done seen share q u at is low high = elim (cases_lt q from) [
  | inl old ↦ done q u at is low old
  | inr new ↦ record { subset = seen.subset; within = record { tuple = seen.within.tuple; subset = IsSubset-trans seen.subset p u seen.within.subset (share q u at new high) }; seen = seen.seen }
]
