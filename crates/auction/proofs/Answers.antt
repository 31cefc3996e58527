-- The rows of the test rack, computed. Assumes nothing.
use mathlib.Core.Path.{◌≡◌, refl}
use mathlib.Core.List.{List}
use Prim.Native.Nat.{ℕ, ◌<◌}
use lib.ListN.{length}
use borrow.Author.Tests.{lt-ltb}
use Rattle.table.specs.Table.{arc, table, arcs_of, table_of, arc_count, arc_at, present, present_at, tail_at, head_at, length_at, most_wanted}
use Rattle.table.specs.Refusals.{refusal, no_refusal, or_else, count_bad, columns_bad, room, rooms_fit, wanted_from, wanted_refusal, arc_fault, arcs_from, arcs_refusal, table_refusal}
use Rattle.auction.specs.Auction.{state, terminal, price_at, bound_at, kept_at, status_at, or_zero, distance, was_reached, is_deleted, iterations, improves, with_kept, with_status, takes, offer, offers, reach, fresh, start, bid, is_kept, to_child, lower_bid, with_bid, best_from, best, without_terminal, deletion, contraction, longer, extension, iteration, next, ended, go_on, run, all_reached, most_iterations, auction, after, then_next}
use Rattle.auction.specs.Scans.{same_at, same_children_from, same_children, same_price, scans_now, and_earlier, history, or_now, last_scan, scan_count, scans}
use Rattle.auction.specs.HandOver.{entries, greatest, sum, how_many, horizon, reached_count, distances, prices, arc_or_none, tree, mark_number, mark, marks, first_missing, route_refusal, handed_over}
use Rattle.auction.specs.Plan.{rooms, plan_refusal, refused_plan, routes_of, plan}
use Rattle.auction.specs.Rack.{untouched, lent, given, due, rack, tally, tallies, refusal_at, RackHolds}

long_wanted : (n : ℕ) (wanted : List ℕ) → most_wanted < length wanted → wanted_refusal n wanted ≡ refusal 5 1024
unfolding wanted_refusal
long_wanted n ws h = rw (lt-ltb most_wanted (length ws) h)

pub rack_holds : RackHolds
unfolding arc table arcs_of table_of arc_count arc_at present present_at tail_at head_at length_at refusal no_refusal or_else count_bad columns_bad room rooms_fit wanted_from wanted_refusal arc_fault arcs_from arcs_refusal table_refusal state terminal price_at bound_at kept_at status_at or_zero distance was_reached is_deleted iterations improves with_kept with_status takes offer offers reach fresh start bid is_kept to_child lower_bid with_bid best_from best without_terminal deletion contraction longer extension iteration next ended go_on run all_reached most_iterations auction after then_next same_at same_children_from same_children same_price scans_now and_earlier history or_now last_scan scan_count scans entries greatest sum how_many horizon reached_count distances prices arc_or_none tree mark_number mark marks first_missing route_refusal handed_over rooms plan_refusal refused_plan routes_of plan untouched lent given due rack tally tallies refusal_at
rack_holds =
    record {
      answers = refl;
      bounds = refl;
      marks_tallied = refl;
      most = refl;
      too_many_nodes = refl;
      too_many_arcs = refl;
      too_many_wanted = refl;
      long_wanted = long_wanted;
    }
