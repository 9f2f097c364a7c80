-- The words of a line lie where its tokens do.
use Rattle.std.proofs.Common.{◌≡◌, ℕ, List, [], ◌∷◌, subst}
use Rattle.std.specs.Prelude.{All}
use Rattle.std.proofs.lemmas.List.Elements.{All-nil, All-cons, All-head, All-tail, All-append}
use Rattle.gadget_text.specs.declared.token.Token.{Token}
use Rattle.gadget_text.specs.declared.token.TokenKind.{TokenKind}
use Rattle.gadget_text.specs.declared.token.TokenKind.TheVariants.{Word}
use Rattle.gadget_text.specs.Places.{LiesWithin}
use Rattle.gadget_grammar.specs.declared.step.Step.{Step}
use Rattle.gadget_grammar.specs.declared.step.Step.TheVariants as code
use Rattle.gadget_grammar.specs.Seen.{IsStepWithin, name_tokens, where_word, word_tokens}

module _ (len : ℕ) where
  -- a token, where it is a word
  word_within : (kind : TokenKind) (t : Token) → LiesWithin len t → All (LiesWithin len) (where_word kind t)
  word_within Word t h = All-cons (LiesWithin len) t [] h (All-nil (LiesWithin len))
  word_within kind t h = All-nil (LiesWithin len)

  -- the words among tokens
  words_within : (ts : List Token) → All (LiesWithin len) ts → All (LiesWithin len) (word_tokens ts)
  words_within [] h = All-nil (LiesWithin len)
  words_within (t ∷ ts) h =
      All-append (LiesWithin len) (where_word t.kind t) (word_tokens ts) (word_within t.kind t (All-head (LiesWithin len) t ts h)) (words_within ts (All-tail (LiesWithin len) t ts h))

  -- steps whose names are such words
  names_within : (steps : List Step) → All (LiesWithin len) (name_tokens steps) → All (IsStepWithin len) steps
  names_within [] h = All-nil (IsStepWithin len)
  names_within (code.Name t ∷ steps) h =
      All-cons (IsStepWithin len) (code.Name t) steps (All-head (LiesWithin len) t (name_tokens steps) h) (names_within steps (All-tail (LiesWithin len) t (name_tokens steps) h))
  names_within (code.Sum ∷ steps) h = All-cons (IsStepWithin len) code.Sum steps tt (names_within steps h)
  names_within (code.Product ∷ steps) h = All-cons (IsStepWithin len) code.Product steps tt (names_within steps h)

  -- the steps of a line whose words are a name and those of the steps
  pub steps_within : (ts : List Token) (name : Token) (steps : List Step) → All (LiesWithin len) ts → word_tokens ts ≡ name ∷ name_tokens steps → All (IsStepWithin len) steps
  steps_within ts name steps h e = names_within steps (All-tail (LiesWithin len) name (name_tokens steps) (subst (All (LiesWithin len)) e (words_within ts h)))
