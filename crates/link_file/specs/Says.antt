-- What the entries answer to what their inner functions give. Assumes nothing: these are definitions.
use Rattle.std.specs.Prelude.{ℕ, Result, Ok, Err}
use Rattle.table.specs.declared.faults.Refusal.{Refusal}
use Rattle.table.specs.Told.{tells}
use Rattle.link_format.specs.Buffers.{no_content}
use Rattle.link_reader.specs.declared.header.Header.{Header}
use Rattle.link_file.specs.declared.TableRead.{TableRead}
use Rattle.link_file.specs.declared.Written.{Written}
use Rattle.link_file.specs.Entries.{read_answer, write_answer}

-- the reader's answer to a header and so many arcs that were read, or to a refusal
abbrev pub table_answer : Result (Header × ℕ) Refusal → TableRead
table_answer (Ok t) = record { number = 0; place = 0; n = t.0.n; origin = t.0.origin; arcs = t.1; wanted = t.0.wanted }
table_answer (Err r) = read_answer (tells r) no_content

-- the writer's answer to a file of so many bytes, or to a refusal
abbrev pub file_answer : Result ℕ Refusal → Written
file_answer (Ok size) = record { number = 0; place = 0; length = size }
file_answer (Err r) = write_answer (tells r) 0
