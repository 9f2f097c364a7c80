-- The blanks in front of a line.
use Rattle.std.proofs.Common.{◌≡◌, ◌+◌, ℕ, suc, [], ◌∷◌, Bool, true, false, List, cond, drop, refl, ap, ◌∙◌, arith}
use Rattle.std.specs.List.{prefix_len}
use Rattle.gadget_text.specs.Bytes.{is_blank, is_hash}
use Rattle.gadget_text.specs.Lines.{line_kind, hash_kind, header_behind}
use Rattle.gadget_text.specs.declared.line_kind.LineKind.TheVariants.{Assignment}

-- how many blanks stand in front
abbrev pub blanks : List ℕ → ℕ
blanks xs = prefix_len is_blank xs

drop_more : (n b : ℕ) (bs : List ℕ) → drop (1 + n) (b ∷ bs) ≡ drop n bs
drop_more n b bs = let e : 1 + n ≡ suc n = omega arith in ap (λ (z : ℕ). drop z (b ∷ bs)) e

no_more : (blank : Bool) (b : ℕ) (bs : List ℕ) → is_blank b ≡ blank → blanks (drop (blanks bs) bs) ≡ 0 → blanks (drop (cond blank (1 + blanks bs) 0) (b ∷ bs)) ≡ 0
no_more true b bs e ih = ap blanks (drop_more (blanks bs) b bs) ∙ ih
no_more false b bs e ih = ap (λ (z : Bool). cond z (1 + blanks bs) 0) e

-- no blanks stand after those in front
pub blanks_behind : (xs : List ℕ) → blanks (drop (blanks xs) xs) ≡ 0
blanks_behind [] = refl
blanks_behind (b ∷ bs) = no_more (is_blank b) b bs refl (blanks_behind bs)

kind_more : (blank : Bool) (b : ℕ) (bs : List ℕ) → is_blank b ≡ blank → line_kind (drop (blanks bs) bs) ≡ line_kind bs →
    line_kind (drop (cond blank (1 + blanks bs) 0) (b ∷ bs)) ≡ cond blank (line_kind bs) (cond (is_hash b) (hash_kind (header_behind bs)) Assignment)
kind_more true b bs e ih = ap line_kind (drop_more (blanks bs) b bs) ∙ ih
kind_more false b bs e ih = ap (λ (z : Bool). cond z (line_kind bs) (cond (is_hash b) (hash_kind (header_behind bs)) Assignment)) e

-- the blanks in front do not change the kind of a line
pub kind_behind : (xs : List ℕ) → line_kind (drop (blanks xs) xs) ≡ line_kind xs
kind_behind [] = refl
kind_behind (b ∷ bs) = kind_more (is_blank b) b bs refl (kind_behind bs)
