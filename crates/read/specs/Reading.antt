-- A Reader n bytes further on; and what a directory record says of its table.
use Rattle.std.specs.Prelude.{ℕ, ◌+◌}
use Rattle.model.specs.Font.{Row}
use Rattle.read.specs.declared.reader.Reader.{Reader}
use Rattle.read.specs.declared.reader.Extent.{Extent}

abbrev pub further : Reader → ℕ → Reader
further r n = record { «data» = r.data; offset = r.offset + n }

unfoldable pub extent_of : Row → Extent
extent_of row = record { offset = row.offset; length = row.size }
