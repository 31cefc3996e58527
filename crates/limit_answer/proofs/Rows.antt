-- The rows of specs/Rows.antt, computed. Assumes nothing.
use mathlib.Core.Path.{refl}
use Rattle.table.specs.Table.{arc, table, arcs_of, table_of, arc_count, arc_at, present, present_at, tail_at, head_at, length_at}
use Rattle.table.specs.Refusals.{refusal, no_refusal, or_else, count_bad, columns_bad, rooms_fit, wanted_from, wanted_refusal, arc_fault, arcs_from, arcs_refusal, table_refusal}
use Rattle.auction.specs.Auction.{state, terminal, price_at, bound_at, kept_at, status_at, or_zero, distance, was_reached, is_deleted, iterations, improves, with_kept, with_status, takes, offer, offers, reach, fresh, start, bid, is_kept, to_child, lower_bid, with_bid, best_from, best, without_terminal, deletion, contraction, longer, extension, iteration, next, ended, go_on, run, all_reached, most_iterations}
use Rattle.auction.specs.Limit.{above, decided, limited, limited_state}
use Rattle.limit_answer.specs.Answer.{within, limit_refusal, limit_of, within_limit}
use Rattle.limit_answer.specs.Rows.{of_T, of_arc, Rows}

pub rows : Rows
unfolding arc table arcs_of table_of arc_count arc_at present present_at tail_at head_at length_at refusal no_refusal or_else count_bad columns_bad rooms_fit wanted_from wanted_refusal arc_fault arcs_from arcs_refusal table_refusal state terminal price_at bound_at kept_at status_at or_zero distance was_reached is_deleted iterations improves with_kept with_status takes offer offers reach fresh start bid is_kept to_child lower_bid with_bid best_from best without_terminal deletion contraction longer extension iteration next ended go_on run all_reached most_iterations above decided limited limited_state within limit_refusal limit_of within_limit of_T of_arc
rows =
    record {
      node_0 = refl;
      node_1 = refl;
      node_2 = refl;
      node_3 = refl;
      node_4 = refl;
      arc_down = refl;
      longest_arc = refl;
      no_nodes = refl;
      unequal_columns = refl;
      origin_too_high = refl;
      node_too_high = refl;
      head_too_high = refl;
      length_zero = refl;
      second_head = refl;
      second_length = refl;
      origin_before_node = refl;
      node_before_arcs = refl;
      down_with_bad_end = refl;
    }
