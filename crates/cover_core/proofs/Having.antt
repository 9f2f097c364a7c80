-- What stands in a list, by where it is read.
use Rattle.std.proofs.Common.{◌≡◌, ◌≢◌, ◌↔◌, Bool, true, ℕ, zero, suc, ◌+◌, ◌<◌, ◌≤◌, ◌^◌, ◌⊎◌, ⊎_elim, inl, inr, List, [], ◌∷◌, length, get_or, drop, refl, ap, sym, ◌∙◌, arith, subst}
use Rattle.std.proofs.lemmas.Bool.{cases_eq, cases_lt}
use Rattle.tuple_model.specs.Tuples.{IsRising, IsSubset, IsTuple, subset}
use Rattle.tuple_model.proofs.Subsets.{IsTuple-subset, member-from_subset, subset-from_members}
use Rattle.tuple_order.specs.Codes.{code_of}
use Rattle.cover_core.specs.declared.state.View.{View}
use Rattle.cover_core.specs.Core.{Asked, Has, IsWithin, path}
use Rattle.cover_core.specs.Effects.{PassedBy, Seen, SeenWithin}
use Rattle.cover_core.proofs.Standing.{read-drop, get_or-any}

pub read-has : {X : Type 0} (xs : List X) (n : ℕ) (d : X) → n < length xs → Has (get_or xs n d) xs
read-has [] n d l = absurd (omega arith)
read-has (x ∷ xs) zero d l = inl refl
read-has (x ∷ xs) (suc n) d l = inr (read-has xs n d (omega arith))

-- what stands from a place on, and isn't what stands there, stands after it
pub has-onward : {X : Type 0} (x : X) (xs : List X) (n : ℕ) (d : X) → n < length xs → (get_or xs n d ≡ x → ⊥) → Has x (drop n xs) → Has x (drop (n + 1) xs)
has-onward {X = X} x xs n d l apart h =
    let y = get_or xs n d in
    let P : List X → Type 0 = λ zs. Has x zs in
    ⊎_elim (λ (q : y ≡ x). absurd (apart q)) (λ (k : Has x (drop (n + 1) xs)). k) (subst P (read-drop xs n y l (get_or-any xs n d y l)) h)

pub has-past : {X : Type 0} (x : X) (xs : List X) (n : ℕ) → length xs ≤ n → Has x (drop n xs) → ⊥
has-past x [] zero l h = h
has-past x [] (suc n) l h = h
has-past x (y ∷ ys) zero l h = absurd (omega arith)
has-past x (y ∷ ys) (suc n) l h = has-past x ys n (omega arith) h

pub code-found : (xs : List (ℕ × ℕ)) (n c : ℕ) → n < length xs → (get_or xs n (0, 0)).1 ≡ c → (place : ℕ) × Has (place, c) xs
code-found xs n c l e =
    let y = get_or xs n (0, 0) in
    let P : ℕ → Type 0 = λ d. Has (y.0, d) xs in
    (y.0, subst P e (read-has xs n (0, 0) l))

pub code-later : (xs : List (ℕ × ℕ)) (n c p : ℕ) → n < length xs → ((get_or xs n (0, 0)).1 ≡ c → ⊥) → Has (p, c) (drop n xs) → Has (p, c) (drop (n + 1) xs)
code-later xs n c p l apart h = has-onward (p, c) xs n (0, 0) l (λ q. apart (ap (λ (z : ℕ × ℕ). z.1) q)) h

pub other-found : (xs : List (ℕ × ℕ)) (n p c : ℕ) → n < length xs → (get_or xs n (0, 0)).0 ≡ p → ((get_or xs n (0, 0)).1 ≡ c → ⊥) → (other : ℕ) × Has (p, other) xs × (other ≢ c)
other-found xs n p c l e apart =
    let y = get_or xs n (0, 0) in
    let P : ℕ → Type 0 = λ q. Has (q, y.1) xs in
    (y.1, subst P e (read-has xs n (0, 0) l), apart)

-- Rising lists

pub rising-below : (low high more : ℕ) (t : List ℕ) → IsRising low more t → ((k : ℕ) → k < length t → get_or t k 0 < high) → IsRising low high t
rising-below low high more [] h below = h
rising-below low high more (x ∷ xs) h below = (h.0, below 0 (omega arith), rising-below (suc x) high more xs h.2 (λ k l. below (suc k) (omega arith)))

pub below-rising : (low high : ℕ) (t : List ℕ) → IsRising low high t → (k : ℕ) → k < length t → get_or t k 0 < high
below-rising low high [] h k l = absurd (omega arith)
below-rising low high (x ∷ xs) h zero l = h.1
below-rising low high (x ∷ xs) h (suc k) l = below-rising (suc x) high xs h.2 k (omega arith)

-- Subsets by number

pub is_within : (a : Asked) (k : ℕ) (t : List ℕ) → IsTuple a.items a.size t → IsWithin a (subset k t) t
is_within a k t fits = record { tuple = IsTuple-subset a.items a.size k t fits; subset = member-from_subset k t }

-- a seen subset of a tuple is one of its numbered ones
pub within-numbered : (a : Asked) (t : List ℕ) (v : View) → IsTuple a.items a.size t → SeenWithin a t v → (k : ℕ) × (k < 2 ^ length t) × Seen (code_of (subset k t)) v
within-numbered a t v fits h =
    let n = subset-from_members 0 a.items t h.subset fits.rising h.within.tuple.rising h.within.subset in
    let P : List ℕ → Type 0 = λ s. Seen (code_of s) v in
    (n.0, n.1, subst P (sym n.2) h.seen)

-- The subsets of a tuple, looked up by their codes

pub seen-here : (a : Asked) (t : List ℕ) (v : View) (seen : List (ℕ × ℕ)) (k code : ℕ) → IsTuple a.items a.size t → v.seen ≡ seen → code ≡ code_of (subset k t) → ((place : ℕ) × Has (place, code) seen) → SeenWithin a t v
seen-here a t v seen k code fits e coded h =
    let P : List (ℕ × ℕ) → Type 0 = λ l. Has (h.0, code_of (subset k t)) l in
    let Q : ℕ → Type 0 = λ d. Has (h.0, d) seen in
    record { subset = subset k t; within = is_within a k t fits; seen = (h.0, subst P (sym e) (subst Q coded h.1)) }

pub seen-back : (t : List ℕ) (v : View) (seen : List (ℕ × ℕ)) (k code : ℕ) → v.seen ≡ seen → code ≡ code_of (subset k t) → Seen (code_of (subset k t)) v → (place : ℕ) × Has (place, code) seen
seen-back t v seen k code e coded h =
    let P : List (ℕ × ℕ) → Type 0 = λ l. Has (h.0, code) l in
    let Q : ℕ → Type 0 = λ d. Has (h.0, d) v.seen in
    (h.0, subst P e (subst Q (sym coded) h.1))

-- a tuple fits where it is short, and its items are low
pub fits-from : (items size most n : ℕ) (xs t : List ℕ) (b : Bool) → xs ≡ t → length xs ≤ size → IsRising 0 most t → n ≡ items → ((b ≡ true) ↔ ((k : ℕ) → k < length xs → get_or xs k 0 < n)) → (b ≡ true) ↔ IsTuple items size t
fits-from items size most n xs t b e short rising same both =
    let P : List ℕ → Type 0 = λ l. (length l ≤ size) × ((b ≡ true) ↔ ((k : ℕ) → k < length l → get_or l k 0 < n)) in
    let h = subst P e (short, both) in (
      λ is. record { short = h.0; rising = rising-below 0 items most t rising (λ k l. let m = h.1.0 is k l in omega arith) },
      λ f. h.1.1 (λ k l. let m = below-rising 0 items t f.rising k l in omega arith),
    )
