-- A tuple made item by item from a list, as long as the items rise.
use Rattle.std.proofs.Common.{◌≡◌, ℕ, suc, ◌+◌, ◌<◌, ◌≤◌, List, [], ◌∷◌, ◌++◌, length, take, drop, get_or, ap, sym, ◌∙◌, arith, subst, length-take, take-append-drop, length-append}
use Rattle.std.proofs.lemmas.List.{drop_more}
use Rattle.tuple_model.specs.Tuples.{IsRising, IsTuple}

-- the least number that can come after the items of a list
abbrev pub least_after : ℕ → List ℕ → ℕ
least_after low [] = low
least_after low (x ∷ xs) = least_after (suc x) xs

pub IsRising-more : (low high : ℕ) (s : List ℕ) (x : ℕ) → IsRising low high s → least_after low s ≤ x → x < high → IsRising low high (s ++ x ∷ [])
IsRising-more low high [] x h l m = (l, m, tt)
IsRising-more low high (y ∷ s) x h l m = (h.0, h.1, IsRising-more (suc y) high s x h.2 l m)

IsRising-rest : (low high : ℕ) (s t : List ℕ) → IsRising low high (s ++ t) → IsRising (least_after low s) high t
IsRising-rest low high [] t h = h
IsRising-rest low high (y ∷ s) t h = IsRising-rest (suc y) high s t h.2

-- the next item of a tuple is above those before it, and below 511
pub next_item-rises : (t : List ℕ) (i : ℕ) → i < length t → IsTuple 511 6 t → (least_after 0 (take i t) ≤ get_or t i 0) × (get_or t i 0 < 511)
next_item-rises t i l h =
    let e : take i t ++ (get_or t i 0 ∷ drop (i + 1) t) ≡ t = ap (λ (r : List ℕ). take i t ++ r) (sym (drop_more t i 0 l)) ∙ take-append-drop i t in
    let r = IsRising-rest 0 511 (take i t) (get_or t i 0 ∷ drop (i + 1) t) (subst (IsRising 0 511) (sym e) h.rising) in
    (r.0, r.1)

-- and one more such item makes a longer tuple
pub IsTuple-more : (t : List ℕ) (i x : ℕ) → i < length t → length t ≤ 6 → IsTuple 511 6 (take i t) → least_after 0 (take i t) ≤ x → x < 511 → IsTuple 511 6 (take i t ++ x ∷ [])
IsTuple-more t i x l m h low high = record {
  short = omega (arith, length-append (take i t) (x ∷ []), length-take i t);
  rising = IsRising-more 0 511 (take i t) x h.rising low high;
}
