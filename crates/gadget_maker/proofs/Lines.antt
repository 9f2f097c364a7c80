-- The lines of the texts, and the texts row by row.
use Rattle.std.proofs.Common.{◌≡◌, ◌≤◌, ◌<◌, ℕ, ◌+◌, ◌-◌, zero, suc, ◌++◌, [], ◌∷◌, ap, ap₂, sym, refl, ◌∙◌, append_assoc, arith, map, codes}
use Rattle.std.specs.Prelude.{flat_map}
use Rattle.std.specs.List.{range_with_len}
use Rattle.gadget_maker.specs.Texts.{Text, indexed, paired, digit, below, sum_line, product_of_pair, masked_products, running_sum, random_of, text_of, isw_text, refresh_text}
use Rattle.gadget_maker.specs.Rows.{assignment_line, sum_steps_from, sum_step, sum_name, other, random_row, product_row, masked_row}

sum_line_is : (x a b : Text) → assignment_line x a 43 b ≡ sum_line x a b ++ 10 ∷ []
sum_line_is x a b = ap (λ (xs : Text). xs ++ 10 ∷ []) (sym (append_assoc (x ++ codes " = " ++ a) (codes " + ") b))

pub product_is : (i j : ℕ) (x a b now new : Text) → x ≡ paired (codes "p") i j → a ≡ indexed (codes "a") i → b ≡ indexed (codes "b") j
    → new ≡ now ++ assignment_line x a 42 b → new ≡ now ++ (product_of_pair (i, j) ++ 10 ∷ [])
product_is i j x a b now new p q r h = h ∙ ap (λ xs. now ++ xs) (let e : assignment_line x a 42 b ≡ product_of_pair (i, j) ++ 10 ∷ [] = rw (p, q, r) refl in e)

pub masked_is : (i j : ℕ) (m r p s q old now new : Text) → m ≡ paired (codes "u") i j → r ≡ paired (codes "r") i j → p ≡ paired (codes "p") i j
    → s ≡ paired (codes "r") j i → q ≡ paired (codes "p") j i
    → now ≡ old ++ assignment_line m r 43 p → new ≡ now ++ assignment_line s m 43 q → new ≡ old ++ text_of (masked_products (i, j))
masked_is i j m r p s q old now new em er ep es eq h k =
    k ∙ ap (λ xs. xs ++ assignment_line s m 43 q) h ∙ append_assoc old (assignment_line m r 43 p) (assignment_line s m 43 q)
    ∙ ap (λ xs. old ++ xs) (let e : assignment_line m r 43 p ++ assignment_line s m 43 q ≡ text_of (masked_products (i, j)) = rw (em, er, ep, es, eq) refl in e)

pub sum_more : (n : ℕ) (output : Text) (term : ℕ → ℕ → Text) (i k : ℕ) → k < n - 1 → (now new whole sum next addend : Text)
    → next ≡ sum_name n output i k → addend ≡ term i (other i k)
    → now ++ text_of (running_sum sum (sum_steps_from n output term i k)) ≡ whole → new ≡ now ++ assignment_line next sum 43 addend
    → new ++ text_of (running_sum next (sum_steps_from n output term i (k + 1))) ≡ whole
sum_more n output term i k l now new whole sum next addend p q inv h =
    let rest = sum_steps_from n output term i (k + 1) in
    let e : n - 1 - k ≡ suc (n - 1 - (k + 1)) = omega arith in
    let steps : sum_steps_from n output term i k ≡ (next, addend) ∷ rest =
    ap (λ len. map (sum_step n output term i) (range_with_len k len)) e ∙ ap₂ (λ (a b : Text). (a, b) ∷ rest) (sym p) (sym q) in
    ap (λ xs. xs ++ text_of (running_sum next rest)) (h ∙ ap (λ xs. now ++ xs) (sum_line_is next sum addend))
    ∙ append_assoc now (sum_line next sum addend ++ 10 ∷ []) (text_of (running_sum next rest))
    ∙ ap (λ xs. now ++ xs) (sym (ap (λ ss. text_of (running_sum sum ss)) steps)) ∙ inv

-- the header lines
abbrev headers_text : ℕ → Text → ℕ → Text
headers_text n inputs output =
    codes "#SHARES " ++ digit n ++ codes "\n#IN" ++ inputs ++ codes "\n#RANDOMS" ++ flat_map (random_row n) (below n) ++ codes "\n#OUT " ++ output ∷ 10 ∷ []

abbrev pub product_sum : ℕ → ℕ → Text
product_sum n i = text_of (running_sum (paired (codes "p") i i) (sum_steps_from n (codes "c") (paired (codes "r")) i 0))

abbrev pub share_sum : ℕ → ℕ → Text
share_sum n i = text_of (running_sum (codes "a" ++ digit i) (sum_steps_from n (codes "d") random_of i 0))

isw_whole : (n : ℕ) → 2 ≤ n → n ≤ 5 → [] ++ headers_text n (codes " a b") 99 ++ flat_map (product_row n) (below n) ++ flat_map (masked_row n) (below n) ++ flat_map (product_sum n) (below n) ≡ isw_text n
unfolding isw_text
isw_whole zero l h = absurd (omega arith)
isw_whole (suc zero) l h = absurd (omega arith)
isw_whole (suc (suc zero)) l h = refl
isw_whole (suc (suc (suc zero))) l h = refl
isw_whole (suc (suc (suc (suc zero)))) l h = refl
isw_whole (suc (suc (suc (suc (suc zero))))) l h = refl
isw_whole (suc (suc (suc (suc (suc (suc n)))))) l h = absurd (omega arith)

refresh_whole : (n : ℕ) → 2 ≤ n → n ≤ 5 → [] ++ headers_text n (codes " a") 100 ++ flat_map (share_sum n) (below n) ≡ refresh_text n
unfolding refresh_text
refresh_whole zero l h = absurd (omega arith)
refresh_whole (suc zero) l h = absurd (omega arith)
refresh_whole (suc (suc zero)) l h = refl
refresh_whole (suc (suc (suc zero))) l h = refl
refresh_whole (suc (suc (suc (suc zero)))) l h = refl
refresh_whole (suc (suc (suc (suc (suc zero))))) l h = refl
refresh_whole (suc (suc (suc (suc (suc (suc n)))))) l h = absurd (omega arith)

pub headers_added : (n : ℕ) (inputs : Text) (output : ℕ) (start text : Text) → start ≡ [] → text ≡ start ++ codes "#SHARES " ++ digit n ++ codes "\n#IN" ++ inputs ++ codes "\n#RANDOMS" ++ flat_map (random_row n) (below n) ++ codes "\n#OUT " ++ output ∷ 10 ∷ []
    → text ≡ [] ++ headers_text n inputs output
headers_added n inputs output start text e h = rw e at h

pub all_rows : (f : ℕ → Text) (n i : ℕ) (old now : Text) → (i < n → ⊥) → i ≤ n → now ≡ old ++ flat_map f (range_with_len 0 (i - 0)) → now ≡ old ++ flat_map f (below n)
all_rows f n i old now end l e = e ∙ ap (λ k. old ++ flat_map f (range_with_len 0 k)) (let same : i - 0 ≡ n = omega arith in same)

pub isw_done : (n : ℕ) → 2 ≤ n → n ≤ 5 → (headers products masked now : Text) → headers ≡ [] ++ headers_text n (codes " a b") 99
    → products ≡ headers ++ flat_map (product_row n) (below n) → masked ≡ products ++ flat_map (masked_row n) (below n)
    → now ≡ masked ++ flat_map (product_sum n) (below n) → now ≡ isw_text n
isw_done n l h headers products masked now e f g k =
    k ∙ ap (λ xs. xs ++ flat_map (product_sum n) (below n)) (g ∙ ap (λ xs. xs ++ flat_map (masked_row n) (below n)) (f ∙ ap (λ xs. xs ++ flat_map (product_row n) (below n)) e))
    ∙ isw_whole n l h

pub refresh_done : (n : ℕ) → 2 ≤ n → n ≤ 5 → (headers now : Text) → headers ≡ [] ++ headers_text n (codes " a") 100
    → now ≡ headers ++ flat_map (share_sum n) (below n) → now ≡ refresh_text n
refresh_done n l h headers now e k = k ∙ ap (λ xs. xs ++ flat_map (share_sum n) (below n)) e ∙ refresh_whole n l h
