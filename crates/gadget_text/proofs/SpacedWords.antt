-- The tokens of lines whose words stand one space apart.
use Rattle.std.proofs.Common.{◌≡◌, ◌==◌, ℕ, Bool, true, false, cond, not, ◌&&◌, List, [], ◌∷◌, ◌++◌, length, map, flat_map, Some, None, refl, sym, ap, ◌∙◌, subst, ne_eqb, arith, append-nil, nat_le}
use Rattle.std.specs.List.{AllByRecursion, list_all, prefix_len, join_with_byte}
use Rattle.std.proofs.lemmas.Bool.{and_parts, or_from, and_from, leb-true, not-true, eqb-false, not_from_false}
use Rattle.std.proofs.lemmas.List.{drop_at}
use Rattle.gadget_text.specs.declared.token.Header.{Header}
use Rattle.gadget_text.specs.declared.token.Header.TheVariants.{Profile, Shares, In, Randoms, Out}
use Rattle.gadget_text.specs.declared.token.TokenKind.{TokenKind}
use Rattle.gadget_text.specs.declared.token.TokenKind.TheVariants.{Head, Word, Equals, Plus, Times}
use Rattle.gadget_text.specs.declared.words.Words.TheVariants.{Solid, Named}
use Rattle.gadget_text.specs.declared.line_kind.LineKind.{LineKind}
use Rattle.gadget_text.specs.declared.line_kind.LineKind.TheVariants.{HeaderLine, Assignment}
use Rattle.gadget_text.specs.Bytes.{is_blank, is_hash, is_in_word}
use Rattle.gadget_text.specs.Lines.{header_word, ends_header, has_header, header_behind, hash_kind, line_kind, before_hash, kept_part}
use Rattle.gadget_text.specs.Segments.{segments, kept_segments}
use Rattle.gadget_text.specs.Tokens.{Lexeme, without_gaps, line_lexemes}
use Rattle.gadget_text.proofs.Runs.{word_whole}
use Rattle.gadget_text.proofs.WordBytes.{IsPrinted, IsPlain, IsSolid, IsWord, IsNamed, IsWord-from_named, each_passes, each_weaker, each_append}

-- words, each with a space in front
abbrev pub spaced : List (List ℕ) → List ℕ
spaced ws = flat_map (λ w. 32 ∷ w) ws

-- words joined by spaces are the first, and the others with a space in front of each
pub joined_spaced : (w : List ℕ) (ws : List (List ℕ)) → join_with_byte 32 (w ∷ ws) ≡ w ++ spaced ws
joined_spaced w [] = sym (append-nil w)
joined_spaced w (v ∷ ws) = ap (λ (z : List ℕ). w ++ 32 ∷ z) (joined_spaced v ws)

plain_solid : (b : ℕ) → IsSolid b → IsPlain b
plain_solid b h = record { printed = record { low = omega (arith, h.low); high = h.high }; other = λ e. omega (arith, e, h.low) }

plain_word : (w : List ℕ) → IsWord w → AllByRecursion IsPlain w
plain_word w h = each_weaker IsSolid IsPlain plain_solid w h.solid

spaced_plain : (ws : List (List ℕ)) → AllByRecursion (AllByRecursion IsPlain) ws → AllByRecursion IsPlain (spaced ws)
spaced_plain [] h = tt
spaced_plain (w ∷ ws) h =
    let space : IsPlain 32 = record { printed = record { low = omega arith; high = omega arith }; other = λ e. omega (arith, e) } in
    (space, each_append IsPlain w (spaced ws) h.0 (spaced_plain ws h.1))

unhashed : (b : ℕ) → IsPlain b → is_hash b ≡ false
unhashed b h = ne_eqb b 35 h.other

before_plain : (xs : List ℕ) → AllByRecursion IsPlain xs → before_hash xs ≡ xs
before_plain [] h = refl
before_plain (b ∷ xs) h = ap (λ (t : Bool). cond t [] (b ∷ before_hash xs)) (unhashed b h.0) ∙ ap (λ (z : List ℕ). b ∷ z) (before_plain xs h.1)

solid_unblank : (b : ℕ) → IsSolid b → is_blank b ≡ false
solid_unblank b h = or_from (b == 32) (b == 9) (ne_eqb b 32 (λ e. omega (arith, e, h.low))) (ne_eqb b 9 (λ e. omega (arith, e, h.low)))

solid_in_word : (w : List ℕ) → AllByRecursion IsSolid w → list_all (is_in_word Solid) w ≡ true
solid_in_word [] h = refl
solid_in_word (b ∷ w) h = and_from (not (is_blank b)) (list_all (is_in_word Solid) w) (not_from_false (is_blank b) (solid_unblank b h.0)) (solid_in_word w h.1)

-- no byte of a word stands in front of spaced words
solid_behind : (ws : List (List ℕ)) → prefix_len (is_in_word Solid) (spaced ws) ≡ 0
solid_behind [] = refl
solid_behind (w ∷ ws) = refl

named_behind : (ws : List (List ℕ)) → prefix_len (is_in_word Named) (spaced ws) ≡ 0
named_behind [] = refl
named_behind (w ∷ ws) = refl

-- the token of a word
abbrev pub word_lexeme : List ℕ → Lexeme
word_lexeme w = record { kind = Word; text = w }

words_lexemes : (ws : List (List ℕ)) → AllByRecursion IsWord ws → without_gaps (segments Solid (spaced ws)) ≡ map word_lexeme ws
words_lexemes [] h = refl
words_lexemes (w ∷ ws) h =
    ap without_gaps (word_whole Solid w (spaced ws) (solid_in_word w h.0.solid) h.0.some (solid_behind ws))
    ∙ ap (λ (z : List Lexeme). word_lexeme w ∷ z) (words_lexemes ws h.1)

-- the token of a header
abbrev pub header_lexeme : Header → Lexeme
header_lexeme h = record { kind = Head h; text = 35 ∷ header_word h }

header_found : (h : Header) (rest : List ℕ) → ends_header rest ≡ true → header_behind (header_word h ++ rest) ≡ Some h
unfolding header_behind has_header
header_found Profile rest e = ap (λ (t : Bool). cond t (Some Profile) None) e
header_found Shares rest e = ap (λ (t : Bool). cond t (Some Shares) None) e
header_found In rest e = ap (λ (t : Bool). cond t (Some In) None) e
header_found Randoms rest e = ap (λ (t : Bool). cond t (Some Randoms) None) e
header_found Out rest e = ap (λ (t : Bool). cond t (Some Out) None) e

ends_spaced : (ws : List (List ℕ)) → ends_header (spaced ws) ≡ true
ends_spaced [] = refl
ends_spaced (w ∷ ws) = refl

-- a test for plain bytes
abbrev is_plain : ℕ → Bool
is_plain b = (nat_le 32 b && nat_le b 126) && not (b == 35)

tested_plain : (b : ℕ) → is_plain b ≡ true → IsPlain b
tested_plain b e =
    let h = and_parts (nat_le 32 b && nat_le b 126) (not (b == 35)) e in
    let k = and_parts (nat_le 32 b) (nat_le b 126) h.0 in
    record { printed = record { low = leb-true 32 b k.0; high = leb-true b 126 k.1 }; other = eqb-false b 35 (not-true (b == 35) h.1) }

header_plain : (h : Header) → AllByRecursion IsPlain (header_word h)
header_plain h = each_passes is_plain IsPlain tested_plain (header_word h) (by_cases h) where
  by_cases : (k : Header) → list_all is_plain (header_word k) ≡ true
  by_cases Profile = refl
  by_cases Shares = refl
  by_cases In = refl
  by_cases Randoms = refl
  by_cases Out = refl

header_lexemes : (h : Header) (ws : List (List ℕ)) → AllByRecursion IsWord ws → AllByRecursion IsPlain (spaced ws) →
    line_lexemes (35 ∷ (header_word h ++ spaced ws)) ≡ header_lexeme h ∷ map word_lexeme ws
header_lexemes h ws k p =
    let bs = header_word h ++ spaced ws in
    ap (λ (z : LineKind). without_gaps (kept_segments z (35 ∷ before_hash bs))) (ap hash_kind (header_found h (spaced ws) (ends_spaced ws)))
    ∙ ap (λ (z : List ℕ). without_gaps (kept_segments (HeaderLine h) (35 ∷ z))) (before_plain bs (each_append IsPlain (header_word h) (spaced ws) (header_plain h) p))
    ∙ ap (λ (z : List ℕ). header_lexeme h ∷ without_gaps (segments Solid z)) (drop_at (header_word h) (spaced ws) (length (header_word h)) refl)
    ∙ ap (λ (z : List Lexeme). header_lexeme h ∷ z) (words_lexemes ws k)

printed_plain : (b : ℕ) → IsPlain b → IsPrinted b
printed_plain b h = h.printed

-- a line is printed, and has these tokens
pub record HasLexemes (line : List ℕ) (lexemes : List Lexeme) : Type 0 where
  pub printed : AllByRecursion IsPrinted line
  pub reads : line_lexemes line ≡ lexemes

-- a header with words after it has the tokens of the header and of these
pub HasLexemes-header : (h : Header) (ws : List (List ℕ)) → AllByRecursion IsWord ws →
    HasLexemes (join_with_byte 32 ((35 ∷ header_word h) ∷ ws)) (header_lexeme h ∷ map word_lexeme ws)
HasLexemes-header h ws k =
    let p = spaced_plain ws (each_weaker IsWord (AllByRecursion IsPlain) plain_word ws k) in
    let hash : IsPrinted 35 = record { low = omega arith; high = omega arith } in
    let line = joined_spaced (35 ∷ header_word h) ws in
    let printed = each_weaker IsPlain IsPrinted printed_plain (header_word h ++ spaced ws) (each_append IsPlain (header_word h) (spaced ws) (header_plain h) p) in
    record {
      printed = subst (AllByRecursion IsPrinted) (sym line) (hash, printed);
      reads = ap line_lexemes line ∙ header_lexemes h ws k p;
    }

-- the token of a sign
abbrev pub sign_lexeme : TokenKind → ℕ → Lexeme
sign_lexeme kind b = record { kind = kind; text = b ∷ [] }

-- a name that stands after a space
named_lexemes : (w : List ℕ) (ws : List (List ℕ)) → IsNamed w → without_gaps (segments Named (spaced (w ∷ ws))) ≡ word_lexeme w ∷ without_gaps (segments Named (spaced ws))
named_lexemes w ws h = ap without_gaps (word_whole Named w (spaced ws) h.letters h.some (named_behind ws))

-- a line that begins with a solid byte and has no `#` is an assignment line
assignment_lexemes : (b : ℕ) (xs : List ℕ) → IsSolid b → AllByRecursion IsPlain xs → line_lexemes (b ∷ xs) ≡ without_gaps (segments Named (b ∷ xs))
assignment_lexemes b xs h p =
    ap (λ (t : Bool). without_gaps (kept_segments (cond t (line_kind xs) (cond (is_hash b) (hash_kind (header_behind xs)) Assignment)) (b ∷ cond t (kept_part xs) (before_hash xs)))) (solid_unblank b h)
    ∙ ap (λ (t : Bool). without_gaps (kept_segments (cond t (hash_kind (header_behind xs)) Assignment) (b ∷ before_hash xs))) (unhashed b (plain_solid b h))
    ∙ ap (λ (z : List ℕ). without_gaps (segments Named (b ∷ z))) (before_plain xs p)

-- a name in front, and what stands after it
assignment_from : (x rest : List ℕ) (lexemes : List Lexeme) → IsNamed x → AllByRecursion IsPlain rest → prefix_len (is_in_word Named) rest ≡ 0 →
    without_gaps (segments Named rest) ≡ lexemes → HasLexemes (x ++ rest) (word_lexeme x ∷ lexemes)
assignment_from [] rest lexemes h p q e = absurd (omega (arith, h.some))
assignment_from (b ∷ bs) rest lexemes h p q e =
    let word = IsWord-from_named (b ∷ bs) h in
    let plain = each_append IsPlain bs rest (plain_word (b ∷ bs) word).1 p in
    record {
      printed = each_weaker IsPlain IsPrinted printed_plain (b ∷ (bs ++ rest)) (plain_solid b word.solid.0, plain);
      reads =
          assignment_lexemes b (bs ++ rest) word.solid.0 plain
          ∙ ap without_gaps (word_whole Named (b ∷ bs) rest h.letters h.some q)
          ∙ ap (λ (z : List Lexeme). word_lexeme (b ∷ bs) ∷ z) e;
    }

assignment_spaced : (x : List ℕ) (ws : List (List ℕ)) (lexemes : List Lexeme) → IsNamed x → AllByRecursion (AllByRecursion IsPlain) ws →
    without_gaps (segments Named (spaced ws)) ≡ lexemes → HasLexemes (join_with_byte 32 (x ∷ ws)) (word_lexeme x ∷ lexemes)
assignment_spaced x ws lexemes h p e =
    subst (λ (z : List ℕ). HasLexemes z (word_lexeme x ∷ lexemes)) (sym (joined_spaced x ws)) (assignment_from x (spaced ws) lexemes h (spaced_plain ws p) (named_behind ws) e)

plain_named : (w : List ℕ) → IsNamed w → AllByRecursion IsPlain w
plain_named w h = plain_word w (IsWord-from_named w h)

plain_sign : (b : ℕ) → is_plain b ≡ true → AllByRecursion IsPlain (b ∷ [])
plain_sign b e = (tested_plain b e, tt)

-- the tokens of `x = a`
pub HasLexemes-copy : (x a : List ℕ) → IsNamed x → IsNamed a →
    HasLexemes (join_with_byte 32 (x ∷ (61 ∷ []) ∷ a ∷ [])) (word_lexeme x ∷ sign_lexeme Equals 61 ∷ word_lexeme a ∷ [])
HasLexemes-copy x a h k =
    assignment_spaced x ((61 ∷ []) ∷ a ∷ []) (sign_lexeme Equals 61 ∷ word_lexeme a ∷ []) h (plain_sign 61 refl, (plain_named a k, tt))
    (ap (λ (z : List Lexeme). sign_lexeme Equals 61 ∷ z) (named_lexemes a [] k))

-- the tokens of `x = a + b`
pub HasLexemes-sum : (x a b : List ℕ) → IsNamed x → IsNamed a → IsNamed b →
    HasLexemes (join_with_byte 32 (x ∷ (61 ∷ []) ∷ a ∷ (43 ∷ []) ∷ b ∷ [])) (word_lexeme x ∷ sign_lexeme Equals 61 ∷ word_lexeme a ∷ sign_lexeme Plus 43 ∷ word_lexeme b ∷ [])
HasLexemes-sum x a b h k l =
    assignment_spaced x ((61 ∷ []) ∷ a ∷ (43 ∷ []) ∷ b ∷ []) (sign_lexeme Equals 61 ∷ word_lexeme a ∷ sign_lexeme Plus 43 ∷ word_lexeme b ∷ []) h
    (plain_sign 61 refl, (plain_named a k, (plain_sign 43 refl, (plain_named b l, tt))))
    (ap (λ (z : List Lexeme). sign_lexeme Equals 61 ∷ z) (named_lexemes a ((43 ∷ []) ∷ b ∷ []) k)
    ∙ ap (λ (z : List Lexeme). sign_lexeme Equals 61 ∷ word_lexeme a ∷ sign_lexeme Plus 43 ∷ z) (named_lexemes b [] l))

-- the tokens of `x = a * b`
pub HasLexemes-product : (x a b : List ℕ) → IsNamed x → IsNamed a → IsNamed b →
    HasLexemes (join_with_byte 32 (x ∷ (61 ∷ []) ∷ a ∷ (42 ∷ []) ∷ b ∷ [])) (word_lexeme x ∷ sign_lexeme Equals 61 ∷ word_lexeme a ∷ sign_lexeme Times 42 ∷ word_lexeme b ∷ [])
HasLexemes-product x a b h k l =
    assignment_spaced x ((61 ∷ []) ∷ a ∷ (42 ∷ []) ∷ b ∷ []) (sign_lexeme Equals 61 ∷ word_lexeme a ∷ sign_lexeme Times 42 ∷ word_lexeme b ∷ []) h
    (plain_sign 61 refl, (plain_named a k, (plain_sign 42 refl, (plain_named b l, tt))))
    (ap (λ (z : List Lexeme). sign_lexeme Equals 61 ∷ z) (named_lexemes a ((42 ∷ []) ∷ b ∷ []) k)
    ∙ ap (λ (z : List Lexeme). sign_lexeme Equals 61 ∷ word_lexeme a ∷ sign_lexeme Times 42 ∷ z) (named_lexemes b [] l))
