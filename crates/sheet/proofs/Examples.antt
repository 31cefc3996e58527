-- The rows of specs/Examples.antt: all but the last are computed. Assumes nothing.
use mathlib.Core.Path.{refl}
use borrow.Author.Tests.{lt-ltb}
use lib.ListN.{length}
use Rattle.table.specs.Table.{arc, table, arcs_of, table_of, arc_count, arc_at, present, present_at, tail_at, head_at, length_at, tails_of, heads_of, lengths_of}
use Rattle.table.specs.Refusals.{refusal, no_refusal, or_else, count_bad, columns_bad, room, rooms_fit, wanted_from, wanted_refusal, arc_fault, arcs_from, arcs_refusal, table_refusal}
use Rattle.auction.specs.Auction.{state, terminal, price_at, bound_at, kept_at, status_at, or_zero, distance, was_reached, is_deleted, iterations, improves, with_kept, with_status, takes, offer, offers, reach, fresh, start, bid, is_kept, to_child, lower_bid, with_bid, best_from, best, without_terminal, deletion, contraction, longer, extension, iteration, next, ended, go_on, run, all_reached, most_iterations, auction}
use Rattle.auction.specs.HandOver.{how_many, entries, greatest, sum, horizon, reached_count, distances, prices, arc_or_none, tree, mark_number, mark, marks, first_missing, route_refusal, handed_over}
use Rattle.link_format.specs.Format.{content, bytes, bit_map, has, field_bytes, count_up, counts_from, all_nodes, nodes_bytes, wanted_bytes, header_bits, header_bytes, record_bits, fields_bytes, record_bytes, records_bytes, file_bytes}
use Rattle.link_format.specs.Reading.{◌>>◌, ◌>>=◌, and_then, give, here, refuse_if, number, field, optional, implied, forbidden_header, forbidden, read_nodes, read_wanted, read_header, read_record, read_records, read_content, read_file}
use Rattle.auction.specs.Plan.{rooms, plan_refusal, refused_plan, routes_of, plan}
use Rattle.auction.specs.Demands.{distance_of, price_of, link_of}
use Rattle.listing.specs.Listing.{entry, node_before, leads_back, back_to, path, listed, refused, early_number, early_of, into, listing}
use Rattle.sheet.specs.Text.{places_from, places, decimal, spaced}
use Rattle.sheet.specs.Sheet.{refused_line, reached_line, counts_line, arc_text, node_line, path_line, marks_line, node_count, has_distance, with_node, passing, reached_nodes, before, insert, has_line, path_nodes, node_lines, path_lines, marks_lines, after_nodes, after_counts, from_counts, from_reached, sheet}
use Rattle.sheet.specs.Printed.{read_input, plan_of, lines_of, printed}
use Rattle.sheet.specs.Printed.{most_input}
use Rattle.sheet.specs.Examples.{Examples}

pub examples : Examples
unfolding arc table arcs_of table_of arc_count arc_at present present_at tail_at head_at length_at refusal no_refusal or_else count_bad columns_bad room rooms_fit wanted_from wanted_refusal arc_fault arcs_from arcs_refusal table_refusal state terminal price_at bound_at kept_at status_at or_zero distance was_reached is_deleted iterations improves with_kept with_status takes offer offers reach fresh start bid is_kept to_child lower_bid with_bid best_from best without_terminal deletion contraction longer extension iteration next ended go_on run all_reached most_iterations auction how_many entries greatest sum horizon reached_count distances prices arc_or_none tree mark_number mark marks first_missing route_refusal handed_over content bytes bit_map has field_bytes count_up counts_from all_nodes nodes_bytes wanted_bytes header_bits header_bytes record_bits fields_bytes record_bytes records_bytes file_bytes tails_of heads_of lengths_of ◌>>◌ ◌>>=◌ and_then give here refuse_if number field optional implied forbidden_header forbidden read_nodes read_wanted read_header read_record read_records read_content read_file rooms plan_refusal refused_plan routes_of plan distance_of price_of link_of entry node_before leads_back back_to path listed refused early_number early_of into listing places_from places decimal spaced refused_line reached_line counts_line arc_text node_line path_line marks_line node_count has_distance with_node passing reached_nodes before insert has_line path_nodes node_lines path_lines marks_lines after_nodes after_counts from_counts from_reached sheet read_input plan_of lines_of printed
examples =
    record {
      the_file = refl;
      no_route = refl;
      down_link = refl;
      all_down = refl;
      nothing_wanted = refl;
      one_wanted = refl;
      one_node = refl;
      loop = refl;
      parallel = refl;
      nearer_first = refl;
      smaller_first = refl;
      twenty_digits = refl;
      empty_file = refl;
      faulty_table = refl;
      too_long = λ input h. rw (lt-ltb most_input (length input) h) refl;
    }
