-- Digits one by one: the code of a tuple with one item more, and one item more that is read off from a code.
use Rattle.std.proofs.Common.{◌≡◌, ℕ, zero, suc, ◌+◌, ◌-◌, ◌*◌, ◌/◌, ◌%◌, ◌^◌, ◌<◌, ◌≤◌, List, [], ◌∷◌, ◌++◌, length, take, drop, get_or, refl, ap, sym, ◌∙◌, arith, subst, pow-suc, length-append}
use Rattle.std.proofs.lemmas.List.{drop_more, take_at}
use Rattle.std.proofs.lemmas.Nat.{pow-add}
use Rattle.tuple_model.specs.Limits.{most_items, most_size}
use Rattle.tuple_model.specs.Tuples.{IsTuple}
use Rattle.tuple_order.specs.Codes.{digits, code_of, items_of_digits, HasRoom, code_with}
use Rattle.tuple_order.proofs.Codes.{worth-next, digits-cons, code_of-size, code_of-small}

-- digits have nine bits
power-of_two : (r : ℕ) → 512 ^ r ≡ 2 ^ (9 * r)
power-of_two zero = refl
power-of_two (suc r) =
    let e : 9 * r + 9 ≡ 9 * suc r = omega arith in
    let P : ℕ → Type 0 = λ n. 512 ^ suc r ≡ 2 ^ n in
    let i = power-of_two r in
    let a = pow-suc 512 r in
    let b = pow-add 2 (9 * r) 9 in
    subst P e (omega arith)

worth-at : (n : ℕ) → n ≤ 5 → 512 ^ (5 - n) ≡ 2 ^ (45 - 9 * n)
worth-at n l =
    let e : 9 * (5 - n) ≡ 45 - 9 * n = omega arith in
    power-of_two (5 - n) ∙ ap (λ (k : ℕ). 2 ^ k) e

digits-more : (r item : ℕ) (s : List ℕ) → length s ≤ r → digits (512 ^ r) (s ++ item ∷ []) ≡ digits (512 ^ r) s + (item + 1) * 512 ^ (r - length s)
digits-more r item [] l =
    let e : r ≡ r - 0 = omega arith in
    let p : (item + 1) * 512 ^ r ≡ (item + 1) * 512 ^ (r - 0) = ap (λ (n : ℕ). (item + 1) * 512 ^ n) e in
    omega arith
digits-more zero item (x ∷ s) l = absurd (omega arith)
digits-more (suc r) item (x ∷ s) l =
    let i = digits-more r item s (omega arith) in
    let e : r - length s ≡ suc r - suc (length s) = omega arith in
    let p : (item + 1) * 512 ^ (r - length s) ≡ (item + 1) * 512 ^ (suc r - suc (length s)) = ap (λ (n : ℕ). (item + 1) * 512 ^ n) e in
    omega (arith, digits-cons r x s, digits-cons r x (s ++ item ∷ []))

IsTuple-longer_room : (s : List ℕ) (item : ℕ) → IsTuple most_items most_size (s ++ item ∷ []) → length s ≤ 5
IsTuple-longer_room s item h = omega (arith, h.short, length-append s (item ∷ []))

-- what is added to the code of a tuple gives that of the tuple with one item more
pub code_of-more : (s : List ℕ) (item : ℕ) → IsTuple most_items most_size s → IsTuple most_items most_size (s ++ item ∷ []) →
    code_with (code_of s) item ≡ code_of (s ++ item ∷ [])
unfolding code_of
code_of-more s item g h =
    let l = IsTuple-longer_room s item h in
    let size : code_of s / 2 ^ 54 % 256 ≡ length s = code_of-size s g in
    let worth : (item + 1) * 512 ^ (5 - length s) ≡ (item + 1) * 2 ^ (45 - 9 * (code_of s / 2 ^ 54 % 256)) =
    ap (λ (n : ℕ). (item + 1) * n) (worth-at (length s) l) ∙ ap (λ (n : ℕ). (item + 1) * 2 ^ (45 - 9 * n)) (sym size) in
    let d : digits (2 ^ 45) (s ++ item ∷ []) ≡ digits (2 ^ 45) s + (item + 1) * 512 ^ (5 - length s) = digits-more 5 item s l in
    let n = length-append s (item ∷ []) in
    omega arith

pub HasRoom-code_of : (s : List ℕ) (item : ℕ) → IsTuple most_items most_size s → IsTuple most_items most_size (s ++ item ∷ []) → HasRoom (code_of s)
HasRoom-code_of s item g h = (code_of-small s g, omega (arith, code_of-size s g, IsTuple-longer_room s item h))

pub length-items_of_digits : (n worth code : ℕ) → length (items_of_digits n worth code) ≡ n
length-items_of_digits zero worth code = refl
length-items_of_digits (suc n) worth code = ap suc (length-items_of_digits n (worth / 512) code)

items_of_digits-more : (r n code : ℕ) → n ≤ r →
    items_of_digits (suc n) (512 ^ r) code ≡ items_of_digits n (512 ^ r) code ++ (code / 512 ^ (r - n) % 512 - 1) ∷ []
items_of_digits-more r zero code l = let e : r ≡ r - 0 = omega arith in ap (λ (n : ℕ). (code / 512 ^ n % 512 - 1) ∷ []) e
items_of_digits-more zero (suc n) code l = absurd (omega arith)
items_of_digits-more (suc r) (suc n) code l =
    let e : r - n ≡ suc r - suc n = omega arith in
    let first = code / 512 ^ suc r % 512 - 1 in
    ap (λ (worth : ℕ). first ∷ items_of_digits (suc n) worth code) (worth-next r)
    ∙ ap (λ (items : List ℕ). first ∷ items) (items_of_digits-more r n code (omega arith))
    ∙ ap (λ (items : List ℕ). first ∷ (items ++ (code / 512 ^ (r - n) % 512 - 1) ∷ [])) (sym (ap (λ (worth : ℕ). items_of_digits n worth code) (worth-next r)))
    ∙ ap (λ (k : ℕ). first ∷ (items_of_digits n (512 ^ suc r / 512) code ++ (code / 512 ^ k % 512 - 1) ∷ [])) e

pub read-more : (code place : ℕ) → place < 6 →
    items_of_digits (place + 1) (2 ^ 45) code ≡ items_of_digits place (2 ^ 45) code ++ (code / 2 ^ (45 - 9 * place) % 512 - 1) ∷ []
read-more code place l =
    let e : place + 1 ≡ suc place = omega arith in
    ap (λ (n : ℕ). items_of_digits n (2 ^ 45) code) e
    ∙ items_of_digits-more 5 place code (omega arith)
    ∙ ap (λ (worth : ℕ). items_of_digits place (2 ^ 45) code ++ (code / worth % 512 - 1) ∷ []) (worth-at place (omega arith))

-- one digit of a tuple's code is added, and the others are left
pub digits-at : (worth : ℕ) (t : List ℕ) (i : ℕ) → i < length t →
    digits worth (drop i t) ≡ (get_or t i 0 + 1) * worth + digits (worth / 512) (drop (i + 1) t)
digits-at worth t i l = ap (digits worth) (drop_more t i 0 l)

pub code_of-start : (t : List ℕ) → 2 ^ 62 + length t * 2 ^ 54 + digits (2 ^ 45) t ≡ code_of t
unfolding code_of
code_of-start t = refl

-- the items that were read stand first where they were written
pub first-read : (size code : ℕ) (places read rest : List ℕ) → length places ≡ size → read ≡ items_of_digits (length places) (2 ^ 45) code →
    take size (read ++ rest) ≡ items_of_digits size (2 ^ 45) code
first-read size code places read rest l e =
    let f = e ∙ ap (λ (n : ℕ). items_of_digits n (2 ^ 45) code) l in
    take_at read rest size (ap (λ (items : List ℕ). length items) f ∙ length-items_of_digits size (2 ^ 45) code) ∙ f
