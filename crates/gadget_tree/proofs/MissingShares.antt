-- The first output share that is missing, found from share to share.
use Rattle.std.proofs.Common.{◌≡◌, ◌<◌, ◌+◌, ℕ, suc, Bool, true, false, cond, not, List, [], ◌∷◌, ◌++◌, map, length, get_or, drop, drop-cons, Option, Some, None, Result, Ok, Err, refl, sym, ap, ◌∙◌, arith, append_assoc, take-append-drop}
use Rattle.std.specs.Prelude.{option_map}
use Rattle.std.specs.List.{range_with_len}
use Rattle.std.proofs.lemmas.List.{map-append}
use Rattle.std.proofs.lemmas.List.FromFn.{map-range_with_len_more, take-map-range_with_len, length-map-range_with_len, get_or-map-range_with_len}
use Rattle.gadget_model.specs.Circuit.{Variable}
use Rattle.gadget_text.specs.declared.token.Token.{Token}
use Rattle.gadget_text.specs.Errors.{refuse_found, ◌>>◌}
use Rattle.gadget_text.specs.Places.{text_in}
use Rattle.gadget_text.specs.declared.file_error.FileError.{FileError}
use Rattle.gadget_text.specs.declared.file_error.FileError.TheVariants.{OutputMissing}
use Rattle.gadget_tree.specs.Variables.{share_name, share_names, names_of, is_among, place_of}
use Rattle.gadget_tree.specs.File.{OutputShare, output_share, shares_of_output, output_shares_from, first_missing, offence_of, check_shares}

-- item i of a list made from a function of the index, between those before it and those after it
split_at : {X : Type 0} (f : ℕ → X) (n i : ℕ) → i < n → map f (range_with_len 0 n) ≡ map f (range_with_len 0 i) ++ f i ∷ drop (suc i) (map f (range_with_len 0 n))
split_at f n i l =
    let xs = map f (range_with_len 0 n) in
    let long = length-map-range_with_len f 0 n in
    sym (take-append-drop i xs)
    ∙ ap (λ z. z ++ drop i xs) (take-map-range_with_len f 0 n i (omega arith))
    ∙ ap (λ z. map f (range_with_len 0 i) ++ z) (drop-cons xs i (f i) (omega arith) ∙ ap (λ x. x ∷ drop (suc i) xs) (get_or-map-range_with_len f 0 n i i (f i) l (omega arith)))

module _ (variables : List Variable) where
  -- of two lists of shares the first is looked at first
  check_shares-append : (xs ys : List OutputShare) → check_shares variables (xs ++ ys) ≡ (check_shares variables xs >> check_shares variables ys)
  check_shares-append [] ys = refl
  check_shares-append (x ∷ xs) ys = by_cases (not (is_among (names_of variables) x.name)) (check_shares-append xs ys) where
    by_cases : (b : Bool) → check_shares variables (xs ++ ys) ≡ (check_shares variables xs >> check_shares variables ys) →
        refuse_found (option_map offence_of (cond b (Some x) (first_missing variables (xs ++ ys)))) ≡ (refuse_found (option_map offence_of (cond b (Some x) (first_missing variables xs))) >> check_shares variables ys)
    by_cases true ih = refl
    by_cases false ih = ih

  -- where the first shares are there, the others decide
  past : (xs ys : List OutputShare) → check_shares variables xs ≡ Ok tt → check_shares variables (xs ++ ys) ≡ check_shares variables ys
  past xs ys e = check_shares-append xs ys ∙ ap (λ (r : Result (Unit {0}) FileError). r >> check_shares variables ys) e

  -- a share that is missing where none before it is
  pub missing_here : (n k i : ℕ) (stem name : List ℕ) → i < n → check_shares variables (map (output_share k stem) (range_with_len 0 i)) ≡ Ok tt → name ≡ share_name stem i → is_among (names_of variables) name ≡ false →
      check_shares variables (shares_of_output n k stem) ≡ Err (OutputMissing k i)
  missing_here n k i stem name l none e fresh =
      let f = output_share k stem in
      let after = drop (suc i) (map f (range_with_len 0 n)) in
      let here : is_among (names_of variables) (share_name stem i) ≡ false = ap (is_among (names_of variables)) (sym e) ∙ fresh in
      ap (check_shares variables) (split_at f n i l) ∙ past (map f (range_with_len 0 i)) (f i ∷ after) none
      ∙ ap (λ (b : Bool). refuse_found (option_map offence_of (cond (not b) (Some (f i)) (first_missing variables after)))) here

  -- one more share that is there
  pub one_more_there : (k i : ℕ) (stem name : List ℕ) → check_shares variables (map (output_share k stem) (range_with_len 0 i)) ≡ Ok tt → name ≡ share_name stem i → is_among (names_of variables) name ≡ true →
      check_shares variables (map (output_share k stem) (range_with_len 0 (i + 1))) ≡ Ok tt
  one_more_there k i stem name none e stands =
      let f = output_share k stem in
      let here : is_among (names_of variables) (share_name stem i) ≡ true = ap (is_among (names_of variables)) (sym e) ∙ stands in
      let nothing : Option OutputShare = None in
      ap (check_shares variables) (map-range_with_len_more f 0 i i (omega arith)) ∙ past (map f (range_with_len 0 i)) (f i ∷ []) none
      ∙ ap (λ (b : Bool). refuse_found (option_map offence_of (cond (not b) (Some (f i)) nothing))) here

  -- and its number
  pub one_more_number : (xs ys : List ℕ) (i number : ℕ) (stem name : List ℕ) → ys ≡ xs ++ map (place_of (names_of variables)) (map (share_name stem) (range_with_len 0 i)) → name ≡ share_name stem i →
      number ≡ place_of (names_of variables) name → ys ++ number ∷ [] ≡ xs ++ map (place_of (names_of variables)) (map (share_name stem) (range_with_len 0 (i + 1)))
  one_more_number xs ys i number stem name e s m =
      let place = place_of (names_of variables) in
      let before = map (share_name stem) (range_with_len 0 i) in
      let here : number ≡ place (share_name stem i) = m ∙ ap place s in
      ap (λ (z : List ℕ). z ++ number ∷ []) e
      ∙ append_assoc xs (map place before) (number ∷ [])
      ∙ ap (λ (z : ℕ). xs ++ (map place before ++ z ∷ [])) here
      ∙ ap (λ (z : List ℕ). xs ++ z) (sym (ap (map place) (map-range_with_len_more (share_name stem) 0 i i (omega arith)) ∙ map-append place before (share_name stem i ∷ [])))

  module _ (bytes : List ℕ) (words : List Token) (n k : ℕ) (d : Token) (stem : List ℕ) (l : k < length words) (e : stem ≡ text_in bytes (get_or words k d)) where
    -- the texts from output k on
    texts_from : map (text_in bytes) (drop k words) ≡ stem ∷ map (text_in bytes) (drop (k + 1) words)
    texts_from =
        let next : suc k ≡ k + 1 = omega arith in
        ap (map (text_in bytes)) (drop-cons words k d l)
        ∙ ap (λ (z : List ℕ). z ∷ map (text_in bytes) (drop (suc k) words)) (sym e)
        ∙ ap (λ (m : ℕ). stem ∷ map (text_in bytes) (drop m words)) next

    -- a share of output k is missing
    pub missing_in : (r : Result (Unit {0}) FileError) (error : FileError) → check_shares variables (output_shares_from n k (map (text_in bytes) (drop k words))) ≡ r →
        check_shares variables (shares_of_output n k stem) ≡ Err error → r ≡ Err error
    missing_in r error same found =
        let rest = output_shares_from n (k + 1) (map (text_in bytes) (drop (k + 1) words)) in
        sym same ∙ ap (λ (z : List (List ℕ)). check_shares variables (output_shares_from n k z)) texts_from
        ∙ check_shares-append (shares_of_output n k stem) rest ∙ ap (λ (z : Result (Unit {0}) FileError). z >> check_shares variables rest) found

    -- or of an output after it
    pub missing_after : (r : Result (Unit {0}) FileError) → check_shares variables (output_shares_from n k (map (text_in bytes) (drop k words))) ≡ r →
        check_shares variables (shares_of_output n k stem) ≡ Ok tt → check_shares variables (output_shares_from n (k + 1) (map (text_in bytes) (drop (k + 1) words))) ≡ r
    missing_after r same none =
        let rest = output_shares_from n (k + 1) (map (text_in bytes) (drop (k + 1) words)) in
        sym (past (shares_of_output n k stem) rest none)
        ∙ sym (ap (λ (z : List (List ℕ)). check_shares variables (output_shares_from n k z)) texts_from) ∙ same

    -- the numbers of output k, and those after it
    pub numbers_behind : (numbers more all : List ℕ) → numbers ++ map (place_of (names_of variables)) (share_names n (map (text_in bytes) (drop k words))) ≡ all →
        more ≡ numbers ++ map (place_of (names_of variables)) (map (share_name stem) (range_with_len 0 n)) →
        more ++ map (place_of (names_of variables)) (share_names n (map (text_in bytes) (drop (k + 1) words))) ≡ all
    numbers_behind numbers more all same e =
        let place = place_of (names_of variables) in
        let own = map (share_name stem) (range_with_len 0 n) in
        let rest = share_names n (map (text_in bytes) (drop (k + 1) words)) in
        ap (λ (z : List ℕ). z ++ map place rest) e
        ∙ append_assoc numbers (map place own) (map place rest)
        ∙ ap (λ (z : List ℕ). numbers ++ z) (sym (map-append place own rest))
        ∙ sym (ap (λ (z : List (List ℕ)). numbers ++ map place (share_names n z)) texts_from) ∙ same
