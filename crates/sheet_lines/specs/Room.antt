-- How many bytes a number, the nodes of a path and a line have at the most. Assumes nothing: these are definitions.
use Rattle.std.specs.Prelude.{ℕ, ◌+◌, ◌*◌}
use Rattle.table.specs.Table.{most_nodes}

abbrev pub most_digits : ℕ
most_digits = 20

-- each number after a space
abbrev pub most_path : ℕ
most_path = most_nodes * (1 + most_digits)

abbrev pub line_room : ℕ
line_room = 32768
