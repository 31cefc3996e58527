-- The rows of specs/Rows.antt, computed. Assumes nothing.
use mathlib.Core.Path.{refl}
use Rattle.table.specs.Table.{arc, table, arcs_of, table_of, arc_count, arc_at, present, present_at, tail_at, head_at, length_at}
use Rattle.table.specs.Refusals.{refusal, no_refusal, or_else, count_bad, columns_bad, room, rooms_fit, wanted_from, wanted_refusal, arc_fault, arcs_from, arcs_refusal, table_refusal}
use Rattle.auction.specs.Auction.{state, terminal, price_at, bound_at, kept_at, status_at, or_zero, distance, was_reached, is_deleted, iterations, improves, with_kept, with_status, takes, offer, offers, reach, fresh, start, bid, is_kept, to_child, lower_bid, with_bid, best_from, best, without_terminal, deletion, contraction, longer, extension, iteration, next, ended, go_on, run, all_reached, most_iterations, auction, after, then_next}
use Rattle.auction.specs.Scans.{same_at, same_children_from, same_children, same_price, scans_now, and_earlier, history, or_now, last_scan, scan_count, scans}
use Rattle.auction.specs.HandOver.{entries, greatest, sum, horizon, reached_count, distances, prices, arc_or_none, tree, mark_number, mark, marks, first_missing, route_refusal, handed_over}
use Rattle.auction.specs.Plan.{rooms, plan_refusal, refused_plan, routes_of, plan}
use Rattle.auction.specs.Rack.{untouched, lent, due}
use Rattle.collector.specs.Plan.{plan_to_collector}
use Rattle.collector.specs.Rows.{given, rows, RowsHold}

pub rows_hold : RowsHold
unfolding arc table arcs_of table_of arc_count arc_at present present_at tail_at head_at length_at refusal no_refusal or_else count_bad columns_bad room rooms_fit wanted_from wanted_refusal arc_fault arcs_from arcs_refusal table_refusal state terminal price_at bound_at kept_at status_at or_zero distance was_reached is_deleted iterations improves with_kept with_status takes offer offers reach fresh start bid is_kept to_child lower_bid with_bid best_from best without_terminal deletion contraction longer extension iteration next ended go_on run all_reached most_iterations auction after then_next same_at same_children_from same_children same_price scans_now and_earlier history or_now last_scan scan_count scans entries greatest sum horizon reached_count distances prices arc_or_none tree mark_number mark marks first_missing route_refusal handed_over rooms plan_refusal refused_plan routes_of plan untouched lent due plan_to_collector given rows RowsHold
rows_hold = refl
