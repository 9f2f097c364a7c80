-- The inner names of a line: each is a name, and they differ from each other and from the name on the left.
use Rattle.std.proofs.Common.{◌≡◌, ◌≢◌, ◌<◌, ◌+◌, ◌^◌, ℕ, true, IsTrue, ◌&&◌, List, [], ◌∷◌, ◌++◌, map, length, get_or, refl, sym, ap, ◌∙◌, subst, arith, append_assoc, length-append}
use Rattle.std.specs.Prelude.{All, AllPairs, codes, decimal}
use Rattle.std.specs.List.{list_all, range_with_len, join_with_byte}
use Rattle.std.proofs.lemmas.Bool.{and_from}
use Rattle.std.proofs.lemmas.Fmt.{decimal_injective}
use Rattle.std.proofs.lemmas.List.{append_cancel_left}
use Rattle.std.proofs.lemmas.List.Elements.{All-push}
use Rattle.std.proofs.lemmas.List.Folds.{list_all-append}
use Rattle.std.proofs.lemmas.List.FromFn.{length-map-range_with_len, get_or-map-range_with_len}
use Rattle.std.proofs.lemmas.List.Quantifiers.{all_pairs_push}
use Rattle.gadget_text.specs.Names.{is_number, is_name}
use Rattle.gadget_text.proofs.NameParts.{names_by_parts}
use Rattle.gadget_tree.specs.Variables.{AreDistinct}
use Rattle.gadget_tree.specs.Operations.{inner_name}
use Rattle.gadget_tree.proofs.Decimals.{is_number-decimal}

-- one piece more in a row
join_with_byte-push : (c : ℕ) (x : List ℕ) (xs : List (List ℕ)) (y : List ℕ) → join_with_byte c (x ∷ (xs ++ y ∷ [])) ≡ join_with_byte c (x ∷ xs) ++ c ∷ y
join_with_byte-push c x [] y = refl
join_with_byte-push c x (z ∷ xs) y =
    ap (λ (w : List ℕ). x ++ c ∷ w) (join_with_byte-push c z xs y) ∙ sym (append_assoc x (c ∷ join_with_byte c (z ∷ xs)) (c ∷ y))

-- an inner name of a name is a name
pub inner_is_name : (name : List ℕ) (k : ℕ) → k < 2 ^ 64 → IsTrue (is_name name) → IsTrue (is_name (inner_name name k))
inner_is_name name k l h =
    let p = (names_by_parts name).0 h in
    let parts = p.2 in
    let numbers = p.1 ++ decimal k ∷ [] in
    let all : list_all is_number numbers ≡ true =
    list_all-append is_number p.1 (decimal k ∷ []) ∙ and_from (list_all is_number p.1) (is_number (decimal k) && true) parts.are_numbers (and_from (is_number (decimal k)) true (is_number-decimal k l) refl)
    in
    let word : inner_name name k ≡ join_with_byte 46 (p.0 ∷ numbers) =
    append_assoc name (codes ".") (decimal k) ∙ ap (λ (w : List ℕ). w ++ 46 ∷ decimal k) parts.is_word ∙ sym (join_with_byte-push 46 p.0 p.1 (decimal k))
    in
    (names_by_parts (inner_name name k)).1 (p.0, numbers, record { is_stem = parts.is_stem; are_numbers = all; is_word = word })

-- inner names with different numbers differ
pub inner_once : (name : List ℕ) (i j : ℕ) → i < 2 ^ 64 → j < 2 ^ 64 → inner_name name i ≡ inner_name name j → i ≡ j
inner_once name i j l m e = decimal_injective i j l m (append_cancel_left (name ++ codes ".") (decimal i) (decimal j) e)

-- an inner name isn't the name on the left
pub inner_is_other : (name : List ℕ) (k : ℕ) → inner_name name k ≢ name
inner_is_other name k e =
    let l = ap length e in
    let a = length-append (name ++ codes ".") (decimal k) in
    let b = length-append name (codes ".") in
    absurd (omega arith)

module _ (name : List ℕ) (n : ℕ) (few : n < 1000) where
  -- the inner names from 1 on
  abbrev inner : List (List ℕ)
  inner = map (inner_name name) (range_with_len 1 n)

  inner_at : (i : ℕ) (d : List ℕ) → i < n → get_or inner i d ≡ inner_name name (1 + i)
  inner_at i d l = get_or-map-range_with_len (inner_name name) 1 n i (1 + i) d l refl

  inner_apart : AllPairs (λ a b. a ≢ b) inner
  inner_apart i j d l m e =
      let len = length-map-range_with_len (inner_name name) 1 n in
      let below : j < n = omega arith in
      let same = inner_once name (1 + i) (1 + j) (omega arith) (omega arith) (sym (inner_at i d (omega arith)) ∙ e ∙ inner_at j d below) in
      absurd (omega arith)

  -- the names of a line differ
  pub names_apart : AreDistinct (map (inner_name name) (range_with_len 1 n) ++ name ∷ [])
  names_apart =
      all_pairs_push (λ a b. a ≢ b) inner name inner_apart
      (λ k d l e. let len = length-map-range_with_len (inner_name name) 1 n in inner_is_other name (1 + k) (sym (inner_at k d (omega arith)) ∙ e))

  -- they are names
  pub all_are_names : IsTrue (is_name name) → All (λ w. IsTrue (is_name w)) (map (inner_name name) (range_with_len 1 n) ++ name ∷ [])
  all_are_names h =
      All-push (λ w. IsTrue (is_name w)) inner name
      (λ i d l.
      let len = length-map-range_with_len (inner_name name) 1 n in
      subst (λ (w : List ℕ). IsTrue (is_name w)) (sym (inner_at i d (omega arith))) (inner_is_name name (1 + i) (omega arith) h))
      h
