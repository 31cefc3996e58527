-- The rows of specs/Rows.antt, computed. Assumes nothing.
use mathlib.Core.Path.{refl}
use Rattle.table.specs.Table.{arc, table, arcs_of, table_of, arc_count, arc_at, present, present_at, tail_at, head_at, length_at}
use Rattle.table.specs.Refusals.{refusal, no_refusal, or_else, count_bad, columns_bad, arc_fault, arcs_from, arcs_refusal}
use Rattle.auction.specs.Auction.{state, terminal, price_at, bound_at, kept_at, status_at, or_zero, distance, was_reached, is_deleted, improves, with_kept, with_status, takes, offer, offers, reach, fresh, start, bid, is_kept, to_child, lower_bid, with_bid, best_from, best, without_terminal, deletion, contraction, longer, extension, iteration, next, ended, go_on, run, all_reached, most_iterations, auction}
use Rattle.auction.specs.HandOver.{entries, arc_or_none, tree, handed_over}
use Rattle.auction.specs.Plan.{routes_of}
use Rattle.listing.specs.Listing.{listing, early_of, early_number, into, refused, listed, path, back_to, leads_back, node_before, entry}
use Rattle.keeping.specs.Keeping.{lesser, between, shortest_from, step_length, plus, total, lent_total, first_node, last_node, same_ends, no_greater, stays, table_in, fresh_refusal, keep_refusal, kept, choice, keep, is_standing, given}
use Rattle.keeping.specs.Rows.{on_T, on_two, with_short_cut, listed_to_2, round_loop, Rows}

pub rows : Rows
unfolding arc table arcs_of table_of arc_count arc_at present present_at tail_at head_at length_at refusal no_refusal or_else count_bad columns_bad arc_fault arcs_from arcs_refusal state terminal price_at bound_at kept_at status_at or_zero distance was_reached is_deleted improves with_kept with_status takes offer offers reach fresh start bid is_kept to_child lower_bid with_bid best_from best without_terminal deletion contraction longer extension iteration next ended go_on run all_reached most_iterations auction entries arc_or_none tree handed_over routes_of listing early_of early_number into refused listed path back_to leads_back node_before entry lesser between shortest_from step_length plus total lent_total first_node last_node same_ends no_greater stays table_in fresh_refusal keep_refusal kept choice keep is_standing given on_T on_two with_short_cut listed_to_2 round_loop
rows =
    record {
      listed_before = refl;
      listed_after = refl;
      moved_route = refl;
      gives_way = refl;
      gives_way_down = refl;
      two_steps = refl;
      three_steps = refl;
      longer = refl;
      no_standing = refl;
      other_first = refl;
      other_last = refl;
      standing_too_high = refl;
      standing_no_step = refl;
      one_node = refl;
      parallel = refl;
      parallel_total = refl;
      standing_down = refl;
      fresh_down = refl;
      down_beside = refl;
      loop_longer = refl;
      loop_fresh = refl;
      no_loop = refl;
      most_standing = refl;
      standing_too_long = refl;
      most_fresh = refl;
      fresh_too_long = refl;
      no_fresh = refl;
      fresh_no_step = refl;
      fresh_too_high = refl;
      no_nodes = refl;
      unequal_columns = refl;
      head_too_high = refl;
      length_zero = refl;
      down_with_bad_end = refl;
      given_standing = refl;
      given_fresh = refl;
      given_nothing = refl;
    }
