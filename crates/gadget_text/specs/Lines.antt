-- The lines of a file, the kind of a line, and the part of it that counts.
use Rattle.std.specs.Prelude.{ℕ, ◌+◌, Bool, true, false, ◌&&◌, ◌||◌, ◌==◌, nat_eq, if◌then◌else◌, List, [], ◌∷◌, map, length, drop, codes, Option, Some, None}
use Rattle.std.specs.List.{slice_split, list_all, starts_with}
use Rattle.gadget_text.specs.declared.token.Header.{Header}
use Rattle.gadget_text.specs.declared.token.Header.TheVariants.{Profile, Shares, In, Randoms, Out}
use Rattle.gadget_text.specs.declared.line_kind.LineKind.{LineKind}
use Rattle.gadget_text.specs.declared.line_kind.LineKind.TheVariants.{Blank, Comment, HeaderLine, Assignment}
use Rattle.gadget_text.specs.Bytes.{is_feed, is_blank, is_hash, is_allowed}

-- the pieces between line feeds
abbrev pub pieces_of : List ℕ → List (List ℕ)
pieces_of bytes = slice_split is_feed bytes

-- a line without a carriage return that is its last byte
abbrev pub without_return : List ℕ → List ℕ
without_return [] = []
without_return (b ∷ []) = if b == 13 then [] else b ∷ []
without_return (b ∷ c ∷ bs) = b ∷ without_return (c ∷ bs)

-- the lines of a file
abbrev pub lines_of : List ℕ → List (List ℕ)
lines_of bytes = map without_return (pieces_of bytes)

-- the word of a header
abbrev pub header_word : Header → List ℕ
header_word Profile = codes "PROFILE"
header_word Shares = codes "SHARES"
header_word In = codes "IN"
header_word Randoms = codes "RANDOMS"
header_word Out = codes "OUT"

-- after a header's word stands a blank or `#`, or the line ends
abbrev pub ends_header : List ℕ → Bool
ends_header [] = true
ends_header (b ∷ bs) = is_blank b || is_hash b

-- the header's word stands here, and ends
unfoldable pub has_header : Header → List ℕ → Bool
has_header h bs = starts_with nat_eq bs (header_word h) && ends_header (drop (length (header_word h)) bs)

-- which header stands directly after `#`
unfoldable pub header_behind : List ℕ → Option Header
header_behind bs =
    if has_header Profile bs then Some Profile
    else (if has_header Shares bs then Some Shares
    else (if has_header In bs then Some In
    else (if has_header Randoms bs then Some Randoms
    else (if has_header Out bs then Some Out else None))))

-- a line that begins with `#` is a header line where a header stands after it, and otherwise a comment
abbrev pub hash_kind : Option Header → LineKind
hash_kind None = Comment
hash_kind (Some h) = HeaderLine h

-- The kind of a line goes by its first byte that is no blank: there is none, or it is `#`, or another byte.
abbrev pub line_kind : List ℕ → LineKind
line_kind [] = Blank
line_kind (b ∷ bs) =
    if is_blank b then line_kind bs else (if is_hash b then hash_kind (header_behind bs) else Assignment)

-- what stands before the next `#`
abbrev pub before_hash : List ℕ → List ℕ
before_hash [] = []
before_hash (b ∷ bs) = if is_hash b then [] else b ∷ before_hash bs

-- The kept part of a line: the blanks in front, the first other byte, and what stands between this and the next `#`.
abbrev pub kept_part : List ℕ → List ℕ
kept_part [] = []
kept_part (b ∷ bs) = b ∷ (if is_blank b then kept_part bs else before_hash bs)

-- The kept part counts in header lines and assignment lines.
abbrev pub counts : LineKind → Bool
counts Blank = false
counts Comment = false
counts (HeaderLine h) = true
counts Assignment = true

-- no byte that counts is forbidden
abbrev pub is_text : List ℕ → Bool
is_text line = if counts (line_kind line) then list_all is_allowed (kept_part line) else true

-- the first line with a forbidden byte that counts, of lines that are numbered from this number on
abbrev pub first_not_text : ℕ → List (List ℕ) → Option ℕ
first_not_text number [] = None
first_not_text number (line ∷ lines) = if is_text line then first_not_text (number + 1) lines else Some number
