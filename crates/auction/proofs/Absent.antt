-- The promises of specs/Absent.antt, all of them. Assumes nothing.
use native.Mathlib.Omega.{arith}
use Rattle.auction.specs.Absent.{DownIsAllOnes, Absent}
use Rattle.auction.proofs.Nowhere.{absent_nowhere}
use Rattle.auction.proofs.Without.Places.{absent_closed_up}
use Rattle.auction.proofs.Without.Walks.{walks_without_absent}
use Rattle.auction.proofs.Without.Runs.{steps_without_absent, auction_without_absent, limited_without_absent}
use Rattle.auction.proofs.Without.Scans.{scans_without_absent}
use Rattle.auction.proofs.Without.Handed.{plan_without_absent}

down_is_all_ones : DownIsAllOnes
unfolding DownIsAllOnes
down_is_all_ones = omega arith

pub absent : Absent
absent =
    record {
      down_is_all_ones = down_is_all_ones;
      absent_nowhere = absent_nowhere;
      absent_closed_up = absent_closed_up;
      walks_without_absent = walks_without_absent;
      steps_without_absent = steps_without_absent;
      auction_without_absent = auction_without_absent;
      limited_without_absent = limited_without_absent;
      scans_without_absent = scans_without_absent;
      plan_without_absent = plan_without_absent;
    }
