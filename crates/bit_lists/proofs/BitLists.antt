-- The laws of sums of lists of bits: they form a group, and the sum that a choice takes is linear in the choice and in the values.
use Rattle.std.proofs.Common.{◌≡◌, Bool, true, false, ◌&&◌, ℕ, zero, suc, List, [], ◌∷◌, ◌++◌, length, refl, ap, sym, ◌∙◌, inl, inr, ◌⊎◌, arith}
use Rattle.gadget_model.specs.Bits.{add}
use Rattle.gadget_model.proofs.Sums.{add-false, add-same, add-comm, add-assoc, add-middle, and-add_left}
use Rattle.bit_lists.specs.BitLists.{add_bits, chosen_sum}

pub and-add_right : (c a b : Bool) → (c && add a b) ≡ add (c && a) (c && b)
and-add_right true a b = refl
and-add_right false a b = refl

pub add_bits-nil : (a : List Bool) → add_bits a [] ≡ a
add_bits-nil [] = refl
add_bits-nil (a ∷ as') = refl

pub add_bits-comm : (a b : List Bool) → add_bits a b ≡ add_bits b a
add_bits-comm [] b = sym (add_bits-nil b)
add_bits-comm (a ∷ as') [] = refl
add_bits-comm (a ∷ as') (b ∷ bs) = let h = add_bits-comm as' bs in let k = add-comm a b in cc

pub add_bits-assoc : (a b c : List Bool) → add_bits (add_bits a b) c ≡ add_bits a (add_bits b c)
add_bits-assoc [] b c = refl
add_bits-assoc (a ∷ as') [] c = refl
add_bits-assoc (a ∷ as') (b ∷ bs) [] = refl
add_bits-assoc (a ∷ as') (b ∷ bs) (c ∷ cs) = let h = add_bits-assoc as' bs cs in let k = add-assoc a b c in cc

pub length-add_bits : (a b : List Bool) → length a ≡ length b → length (add_bits a b) ≡ length b
length-add_bits [] b e = refl
length-add_bits (a ∷ as') [] e = e
length-add_bits (a ∷ as') (b ∷ bs) e = let h = length-add_bits as' bs (omega arith) in omega arith

-- a + (a + b) = b
pub add_bits-cancel : (a b : List Bool) → length a ≡ length b → add_bits a (add_bits a b) ≡ b
add_bits-cancel [] b e = refl
add_bits-cancel (a ∷ as') [] e = absurd (omega arith)
add_bits-cancel (a ∷ as') (b ∷ bs) e =
    let h = add_bits-cancel as' bs (omega arith) in
    let k = sym (add-assoc a a b) ∙ ap (λ (z : Bool). add z b) (add-same a) in
    cc

pub chosen_sum-nil : (c : List Bool) → chosen_sum c [] ≡ false
chosen_sum-nil [] = refl
chosen_sum-nil (c ∷ cs) = refl

-- what a choice takes of a sum of values is the sum of what it takes of each
pub chosen_sum-add_bits : (c v w : List Bool) → chosen_sum c (add_bits v w) ≡ add (chosen_sum c v) (chosen_sum c w)
chosen_sum-add_bits [] v w = refl
chosen_sum-add_bits (c ∷ cs) [] w = refl
chosen_sum-add_bits (c ∷ cs) (v ∷ vs) [] = sym (add-false _)
chosen_sum-add_bits (c ∷ cs) (v ∷ vs) (w ∷ ws) =
    ap (λ (z : Bool). add (c && add v w) z) (chosen_sum-add_bits cs vs ws)
    ∙ ap (λ (z : Bool). add z (add (chosen_sum cs vs) (chosen_sum cs ws))) (and-add_right c v w)
    ∙ add-middle (c && v) (c && w) (chosen_sum cs vs) (chosen_sum cs ws)

-- what a sum of choices takes is the sum of what each takes
pub chosen_sum-add_choice : (c d v : List Bool) → chosen_sum (add_bits c d) v ≡ add (chosen_sum c v) (chosen_sum d v)
chosen_sum-add_choice [] d v = refl
chosen_sum-add_choice (c ∷ cs) [] v = sym (add-false _)
chosen_sum-add_choice (c ∷ cs) (d ∷ ds) [] = refl
chosen_sum-add_choice (c ∷ cs) (d ∷ ds) (v ∷ vs) =
    ap (λ (z : Bool). add (add c d && v) z) (chosen_sum-add_choice cs ds vs)
    ∙ ap (λ (z : Bool). add z (add (chosen_sum cs vs) (chosen_sum ds vs))) (and-add_left c d v)
    ∙ add-middle (c && v) (d && v) (chosen_sum cs vs) (chosen_sum ds vs)

-- two lists of one length are equal, or some choice tells them apart
pub tell_apart : (v w : List Bool) → length v ≡ length w → (v ≡ w) ⊎ ((c : List Bool) × (add (chosen_sum c v) (chosen_sum c w) ≡ true))
tell_apart [] [] e = inl refl
tell_apart [] (w ∷ ws) e = absurd (omega arith)
tell_apart (v ∷ vs) [] e = absurd (omega arith)
tell_apart (true ∷ vs) (false ∷ ws) e = inr (true ∷ [], refl)
tell_apart (false ∷ vs) (true ∷ ws) e = inr (true ∷ [], refl)
tell_apart (true ∷ vs) (true ∷ ws) e = elim (tell_apart vs ws (omega arith)) [
  | inl h ↦ inl (ap (λ (z : List Bool). true ∷ z) h)
  | inr h ↦ inr (false ∷ h.0, h.1)
]
tell_apart (false ∷ vs) (false ∷ ws) e = elim (tell_apart vs ws (omega arith)) [
  | inl h ↦ inl (ap (λ (z : List Bool). false ∷ z) h)
  | inr h ↦ inr (false ∷ h.0, h.1)
]

-- a choice of one more row is one of n rows and a last place
pub split_last : (n : ℕ) (c : List Bool) → length c ≡ suc n → (e : List Bool) × (b : Bool) × (c ≡ e ++ b ∷ []) × (length e ≡ n)
split_last n [] l = absurd (omega arith)
split_last zero (b ∷ []) l = ([], b, refl, refl)
split_last zero (b ∷ a ∷ c) l = absurd (omega arith)
split_last (suc n) (b ∷ c) l =
    let r = split_last n c (omega arith) in
    (b ∷ r.0, r.1, ap (λ (z : List Bool). b ∷ z) r.2, ap suc r.3)
