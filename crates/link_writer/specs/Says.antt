-- What the writer's structs stand for, in the terms of Format.antt. Assumes nothing: these are definitions.
use Rattle.std.specs.Prelude.{List, ℕ}
use Rattle.table.specs.declared.links.Columns.{Columns}
use Rattle.table.specs.Table.{Arc, arcs_of}
use Rattle.link_format.specs.Format.{header_bytes}
use Rattle.link_writer.specs.declared.header.FileHeader.{FileHeader}

-- a header's bytes
abbrev pub bytes_of : FileHeader → List ℕ
bytes_of h = header_bytes h.n h.origin h.wanted.now

-- the arcs of the columns
abbrev pub arcs_in : Columns → List Arc
arcs_in c = arcs_of c.tails.now c.heads.now c.lengths.now
