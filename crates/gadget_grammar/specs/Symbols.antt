-- What the grammar sees of the tokens of a line.
use Rattle.std.specs.Prelude.{ℕ, List, map}
use Rattle.gadget_text.specs.declared.token.TokenKind.{TokenKind}
use Rattle.gadget_text.specs.declared.token.TokenKind.TheVariants as kind
use Rattle.gadget_text.specs.Tokens.{Lexeme}

-- a word with its text, or a sign: `+` and `^` are both `plus`, and `*` and `&` are both `times`
pub data Symbol : Type 0 where
  word : List ℕ → Symbol
  equals : Symbol
  plus : Symbol
  times : Symbol
  opening : Symbol
  closing : Symbol
  other : Symbol

-- the symbol of a token of this kind with this text; a header is no part of an expression
abbrev pub symbol_of_kind : TokenKind → List ℕ → Symbol
symbol_of_kind (kind.Head header) text = other
symbol_of_kind kind.Word text = word text
symbol_of_kind kind.Equals text = equals
symbol_of_kind kind.Plus text = plus
symbol_of_kind kind.Times text = times
symbol_of_kind kind.Open text = opening
symbol_of_kind kind.Close text = closing
symbol_of_kind kind.Other text = other

-- the symbol of a token
abbrev pub symbol_of : Lexeme → Symbol
symbol_of lexeme = symbol_of_kind lexeme.kind lexeme.text

-- the symbols of tokens
abbrev pub symbols_of : List Lexeme → List Symbol
symbols_of lexemes = map symbol_of lexemes
