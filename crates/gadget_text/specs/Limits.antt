-- How long a file may be.
use Rattle.std.specs.Prelude.{ℕ}

-- A file has at most this many bytes, a mebibyte.
abbrev pub most_file_bytes : ℕ
most_file_bytes = 1048576
