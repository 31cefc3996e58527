-- The arc and the table that the code's own structs hold. Assumes nothing: these are definitions.
use Rattle.table.specs.declared.links.Arc as links
use Rattle.table.specs.declared.links.LinkTable.{LinkTable}
use Rattle.table.specs.Table.{Arc, Table, arc, table_of}

-- an arc
abbrev pub arc_of : links.Arc → Arc
arc_of a = arc a.tail a.head a.length

-- a table
abbrev pub table_in : LinkTable → Table
table_in l = table_of l.n l.origin l.columns.tails.now l.columns.heads.now l.columns.lengths.now
