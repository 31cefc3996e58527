-- The rows of specs/Rows.antt, computed. Assumes nothing.
use mathlib.Core.Path.{refl}
use Rattle.table.specs.Table.{arc}
use Rattle.table.specs.Refusals.{refusal, no_refusal, or_else, count_bad, columns_short}
use Rattle.link_format.specs.Format.{content, bytes, bit_map, has, field_bytes, count_up, counts_from, all_nodes, nodes_bytes, wanted_bytes, header_bits, header_bytes, record_bits, fields_bytes, record_bytes, records_bytes, file_bytes}
use Rattle.test_load.specs.Load.{pair, pairs_of, pairs_from, pairs, draw, drawn, load}
use Rattle.test_load.specs.Making.{range_bad, load_refusal}
use Rattle.load_file.specs.LoadFile.{of_numbers, number_in, load_file_of, load_file_in, arcs_of_load, content_of_load, bytes_of_load, load_file_refusal}
use Rattle.load_file.specs.Rows.{by_seed, by_origin, Rows}

pub rows : Rows
unfolding arc refusal no_refusal or_else count_bad columns_short content bytes bit_map has field_bytes count_up counts_from all_nodes nodes_bytes wanted_bytes header_bits header_bytes record_bits fields_bytes record_bytes records_bytes file_bytes pair pairs_of pairs_from pairs draw drawn load range_bad load_refusal of_numbers number_in load_file_of load_file_in arcs_of_load content_of_load bytes_of_load load_file_refusal by_seed by_origin
rows =
    record {
      four_words = refl;
      five_words = refl;
      no_words = refl;
      three_words = refl;
      six_words = refl;
      plus = refl;
      zeros = refl;
      minus = refl;
      plus_alone = refl;
      two_pluses = refl;
      empty = refl;
      letter_behind = refl;
      space_in_front = refl;
      hexadecimal = refl;
      greatest_seed = refl;
      seed_too_great = refl;
      greatest_origin = refl;
      origin_too_great = refl;
      n_a_letter = refl;
      chance_a_letter = refl;
      largest_a_letter = refl;
      origin_a_letter = refl;
      origin_1 = refl;
      origin_0 = refl;
      no_nodes = refl;
      chance_too_great = refl;
      too_many_arcs = refl;
      origin_too_high = refl;
      highest_origin = refl;
      just_room = refl;
      too_short = refl;
      one_before_sixteen = refl;
      sixteen_before_four = refl;
      seventeen_before_four = refl;
      four_before_thirteen = refl;
    }
