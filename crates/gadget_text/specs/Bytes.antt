-- The bytes of a gadget file by what they stand for.
use Rattle.std.specs.Prelude.{ℕ, Bool, ◌&&◌, ◌||◌, ◌==◌, not, nat_le, if◌then◌else◌}
use Rattle.std.specs.Char.{is_ascii_alphanumeric}
use Rattle.gadget_text.specs.declared.token.TokenKind.{TokenKind}
use Rattle.gadget_text.specs.declared.token.TokenKind.TheVariants.{Equals, Plus, Times, Open, Close, Other}
use Rattle.gadget_text.specs.declared.words.Words.{Words}
use Rattle.gadget_text.specs.declared.words.Words.TheVariants.{Solid, Named}

-- a line feed
abbrev pub is_feed : ℕ → Bool
is_feed b = b == 10

-- a space or a tab
abbrev pub is_blank : ℕ → Bool
is_blank b = b == 32 || b == 9

-- `#`
abbrev pub is_hash : ℕ → Bool
is_hash b = b == 35

-- a tab, or a byte from the space to `~`
abbrev pub is_allowed : ℕ → Bool
is_allowed b = b == 9 || (nat_le 32 b && nat_le b 126)

-- a letter, a digit, `_` or `.`
abbrev pub is_name_byte : ℕ → Bool
is_name_byte b = is_ascii_alphanumeric b || b == 95 || b == 46

-- Words are of two sorts: in a header line they have all bytes but blanks, in an assignment line those of names.
abbrev pub is_in_word : Words → ℕ → Bool
is_in_word Solid b = not (is_blank b)
is_in_word Named b = is_name_byte b

-- what a byte is that stands in no word and is no blank: `=`, `+` or `^`, `*` or `&`, `(`, `)`, or another one
abbrev pub sign_kind : ℕ → TokenKind
sign_kind b =
    if b == 61 then Equals
    else (if b == 43 || b == 94 then Plus
    else (if b == 42 || b == 38 then Times
    else (if b == 40 then Open
    else (if b == 41 then Close else Other))))
