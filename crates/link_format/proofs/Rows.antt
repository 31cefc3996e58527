-- The rows hold: each computes. Assumes nothing.
use mathlib.Core.Path.{refl}
use Rattle.table.specs.Refusals.{no_refusal, refusal, columns_bad, count_bad}
use Rattle.table.specs.Table.{arcs_of, arc}
use Rattle.link_format.specs.Buffers.{writing, file_of}
use Rattle.link_format.specs.Format.{content, bytes, bit_map, has, field_bytes, count_up, counts_from, all_nodes, nodes_bytes, wanted_bytes, header_bits, header_bytes, record_bits, fields_bytes, record_bytes, records_bytes, file_bytes}
use Rattle.link_format.specs.Reading.{forbidden_header, ◌>>◌, ◌>>=◌, and_then, give, here, refuse_if, number, field, optional, implied, forbidden, read_nodes, read_wanted, read_header, read_record, read_records, read_content, read_file}
use Rattle.link_format.specs.Rows.{Rows}

pub rows : Rows
unfolding arc content bytes bit_map has field_bytes count_up counts_from all_nodes nodes_bytes wanted_bytes header_bits header_bytes record_bits fields_bytes record_bytes records_bytes file_bytes ◌>>=◌ ◌>>◌ and_then give here refuse_if number field optional implied forbidden read_nodes read_wanted read_header read_record read_records read_content read_file forbidden_header count_bad columns_bad refusal no_refusal arcs_of file_of writing
rows =
    record {
      example_read = refl;
      example_written = refl;
      down_read = refl;
      down_written = refl;
      empty = refl;
      cut = refl;
      cut_record = refl;
      no_count = refl;
      forbidden_bit = refl;
      forbidden_beside = refl;
      first_incomplete = refl;
      no_nodes = refl;
      no_nodes_cut = refl;
      many_wanted = refl;
      head_too_high = refl;
      head_written = refl;
      origin_needless = refl;
      wanted_needless = refl;
      tail_needless = refl;
      wanted_empty = refl;
      record_6001 = λ before at b rest. refl;
      write_no_nodes = refl;
      write_columns = refl;
      write_wanted = refl;
      write_short = refl;
      write_just_room = refl;
    }
