-- How much is said of a status.
use Rattle.std.specs.Prelude.{ℕ}

-- how many bytes the line of text of a status may have
abbrev pub most_line_bytes : ℕ
most_line_bytes = 120
