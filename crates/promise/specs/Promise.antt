-- THE WHOLE PROMISE OF THE PRODUCT, on one page: a field for each promise of every crate, by its type. A promise that goes missing anywhere fails the check
-- of this page, and so does one whose proof does (proofs/Kept.antt). Each type has its sentence in plain words where it stands. Assumes nothing.
use Rattle.auction.specs.Promises.{WalkShortest, WalkGiven, PricesFit, PricesShow, RouteToAll, NoRoute, FewIterations, FewerIterations, EndsByItself, IterationsCounted, EarliestLink, MarksTallied, NeverAbove, DistancesStay, Ascending, SmallDistances, SmallSums, ScansBetween, RememberedChild, UnrefusedIsTable, TableIsUnrefused, LongestOf32Bits, LengthsOf32Bits}
use Rattle.auction.specs.Demands.{DemandsMet, CountsPinned, HollowFails}
use Rattle.auction.specs.Limit.{WithinLimit, LimitCuts, Unlimited}
use Rattle.auction.specs.Absent.{DownIsAllOnes, AbsentNowhere, AbsentClosedUp, WalksWithoutAbsent, StepsWithoutAbsent, AuctionWithoutAbsent, LimitedWithoutAbsent, ScansWithoutAbsent, PlanWithoutAbsent}
use Rattle.auction.specs.Stability.{SameChoice, RouteStays, WantedRouteStays, LinkAdded}
use Rattle.auction.specs.Rack.{RackHolds}
use Rattle.limit_answer.specs.Promises.{LimitsKept, LimitsPinned, LimitsRefused}
use Rattle.limit_answer.specs.Rows as Limits
use Rattle.collector.specs.Exchanged.{ExchangedWalks, ExchangedTwice, ExchangedIsTable, ExchangedColumns, ExchangedWithoutAbsent}
use Rattle.collector.specs.Promises.{CollectsByExchange, CollectorServed, CollectorRefusals, CollectedWithoutAbsent}
use Rattle.collector.specs.Stability.{SameChoiceIn, RouteStaysIn, SenderRouteStays, LinkAddedIn}
use Rattle.collector.specs.Rows as Collector
use Rattle.planner.specs.Promise.{PlansKept, RefusalsTouchNothing}
use Rattle.listing.specs.Promises.{RoutesListed, PlansListed, SendersListed}
use Rattle.listing.specs.Examples as Paths
use Rattle.keeping.specs.Promises.{TotalIsLeast, NoTotalNoWalk, KeptIsShort, KeepRefusals, TotalsWithoutAbsent, KeptWithoutAbsent, StandingKept, StandingKeptIn}
use Rattle.keeping.specs.Rows as Keeping
use Rattle.test_load.specs.Promises.{LoadListed, NoChanceNoArc, EveryPairCertain, LoadsPlanned, LoadRefusals}
use Rattle.test_load.specs.Rows as Loads
use Rattle.link_format.specs.Promises.{AcceptedFilesWriteBack, WrittenTablesReadBack, LongFilesAreRefused, FilesRefusedByNumber, NeedlessIsNotCanonical, NeedlessHeaderIsNotCanonical}
use Rattle.link_format.specs.Rows as Files
use Rattle.link_file.specs.Promises.{WriteThenRead, ReadThenWrite, AnswersFit}
use Rattle.load_file.specs.Promises.{LoadFilesInRange, LoadFilesReadBack, EnoughRoom, LoadFileRefusals}
use Rattle.load_file.specs.Rows as LoadFiles
use Rattle.sheet.specs.Promises.{EachOnce, InOrder, OrderUnseen, PlansPrinted, RefusalsPrinted}
use Rattle.sheet.specs.Examples as Sheets
use Rattle.printer.specs.Promises.{PiecesPrinted}

pub record Promise : Type 0 where
  -- THE PAGE FOR USERS: demands 2 and 3 of every answer 0 or 8 and its four buffers; any other number touches nothing
  pub plans_kept : PlansKept
  pub refusals_touch_nothing : RefusalsTouchNothing
  pub demands_met : DemandsMet
  pub counts_pinned : CountsPinned
  pub hollow_fails : HollowFails
  -- THE RUN: shortest walks and the prices that show it
  pub walk_shortest : WalkShortest
  pub walk_given : WalkGiven
  pub prices_fit : PricesFit
  pub prices_show : PricesShow
  pub earliest_link : EarliestLink
  -- the marks add up to the arcs, and those of mark 3 are one for each node reached but the origin
  pub marks_tallied : MarksTallied
  -- "no route" exactly where there is none
  pub route_to_all : RouteToAll
  pub no_route : NoRoute
  -- it ends by itself, soon, with the auction's own counts
  pub ends_by_itself : EndsByItself
  pub iterations_counted : IterationsCounted
  pub few_iterations : FewIterations
  pub fewer_iterations : FewerIterations
  -- at every state of it
  pub never_above : NeverAbove
  pub distances_stay : DistancesStay
  pub ascending : Ascending
  pub small_distances : SmallDistances
  pub small_sums : SmallSums
  -- a node goes by the child that it remembers until it scans again, and each contraction and each deletion scans
  pub remembered_child : RememberedChild
  pub scans_between : ScansBetween
  -- WITHIN A LIMIT: yes exactly when some walk is no longer, after the iterations of the same run, cut; a refusal says no, after none
  pub limits_kept : LimitsKept
  pub limits_pinned : LimitsPinned
  pub limits_refused : LimitsRefused
  pub within_limit : WithinLimit
  pub limit_cuts : LimitCuts
  pub unlimited : Unlimited
  -- EVERYONE TO THE COLLECTOR: each sender that has a walk to the collector is given a shortest one, by the earliest listed link; all by one result about the
  -- table with tails and heads exchanged
  pub collector_served : CollectorServed
  pub collector_refusals : CollectorRefusals
  pub collects_by_exchange : CollectsByExchange
  pub exchanged_walks : ExchangedWalks
  pub exchanged_twice : ExchangedTwice
  pub exchanged_is_table : ExchangedIsTable
  pub exchanged_columns : ExchangedColumns
  pub exchanged_without_absent : ExchangedWithoutAbsent
  -- WHAT IS REFUSED: the tables that are not refused are just those of which all this is promised
  pub unrefused_is_table : UnrefusedIsTable
  pub table_is_unrefused : TableIsUnrefused
  pub longest_of_32_bits : LongestOf32Bits
  pub lengths_of_32_bits : LengthsOf32Bits
  -- LINKS THAT ARE DOWN: they are nowhere, and a plan is that of the table without them, step by step and in all that is handed over
  pub down_is_all_ones : DownIsAllOnes
  pub absent_nowhere : AbsentNowhere
  pub absent_closed_up : AbsentClosedUp
  pub walks_without_absent : WalksWithoutAbsent
  pub steps_without_absent : StepsWithoutAbsent
  pub auction_without_absent : AuctionWithoutAbsent
  pub limited_without_absent : LimitedWithoutAbsent
  pub scans_without_absent : ScansWithoutAbsent
  pub plan_without_absent : PlanWithoutAbsent
  pub collected_without_absent : CollectedWithoutAbsent
  pub totals_without_absent : TotalsWithoutAbsent
  pub kept_without_absent : KeptWithoutAbsent
  -- WHAT STAYS: a spare chooses as the old unit did; a route stays while nothing shorter exists, also when a link goes down elsewhere or is added at
  -- the end
  pub same_choice : SameChoice
  pub route_stays : RouteStays
  pub wanted_route_stays : WantedRouteStays
  pub link_added : LinkAdded
  -- and the same on the way to a collector
  pub same_choice_in : SameChoiceIn
  pub route_stays_in : RouteStaysIn
  pub sender_route_stays : SenderRouteStays
  pub link_added_in : LinkAddedIn
  -- LISTING: a path lists the nodes of the walk returned, or from a sender those of its walk to the collector
  pub routes_listed : RoutesListed
  pub plans_listed : PlansListed
  pub senders_listed : SendersListed
  -- KEEPING THE STANDING PATH: beside the path of a finished plan it is kept exactly when it is still a walk between the same nodes and none is shorter;
  -- whatever the lists are, what is given is a walk no longer than the fresh one
  pub standing_kept : StandingKept
  pub standing_kept_in : StandingKeptIn
  pub kept_is_short : KeptIsShort
  pub keep_refusals : KeepRefusals
  pub total_is_least : TotalIsLeast
  pub no_total_no_walk : NoTotalNoWalk
  -- A TEST LOAD: what is left in the columns is made of four numbers alone; it has no loop, no pair twice and lengths from 1 to the largest, and planning does
  -- not turn it down
  pub loads_planned : LoadsPlanned
  pub load_listed : LoadListed
  pub load_refusals : LoadRefusals
  pub no_chance_no_arc : NoChanceNoArc
  pub every_pair_certain : EveryPairCertain
  -- THE LINK FILE: every accepted file writes back unchanged, every written table reads back as it was
  pub accepted_files_write_back : AcceptedFilesWriteBack
  pub written_tables_read_back : WrittenTablesReadBack
  pub read_then_write : ReadThenWrite
  pub write_then_read : WriteThenRead
  pub long_files_are_refused : LongFilesAreRefused
  pub files_refused_by_number : FilesRefusedByNumber
  pub needless_is_not_canonical : NeedlessIsNotCanonical
  pub needless_header_is_not_canonical : NeedlessHeaderIsNotCanonical
  pub answers_fit : AnswersFit
  -- THE LOAD'S FILE: what is written for the words of a load reads back as that load, from the origin that was asked for, with every node wanted
  pub load_files_read_back : LoadFilesReadBack
  pub load_files_in_range : LoadFilesInRange
  pub load_file_refusals : LoadFileRefusals
  pub enough_room : EnoughRoom
  -- THE SHEET AND THE PROGRAM: a plan is shown whole, each path once, the nearest first, and the pieces that are written are what is printed of the input
  pub plans_printed : PlansPrinted
  pub refusals_printed : RefusalsPrinted
  pub each_once : EachOnce
  pub in_order : InOrder
  pub order_unseen : OrderUnseen
  pub pieces_printed : PiecesPrinted
  -- THE ROWS: tables, limits, plans to a collector, listings, keepings, loads, files, words and sheets, computed
  pub rack : RackHolds
  pub limits : Limits.Rows
  pub collectors : Collector.RowsHold
  pub listings : Paths.Examples
  pub keepings : Keeping.Rows
  pub loads : Loads.Rows
  pub files : Files.Rows
  pub load_files : LoadFiles.Rows
  pub sheets : Sheets.Examples
