-- The auction of a table is that of the table without its absent arcs, after every iteration and where it ends. Assumes nothing.
use mathlib.Core.Path.{◌≡◌, refl, sym, ap, ◌∙◌}
use mathlib.Core.Bool.{Bool, true, false, ◌&&◌}
use mathlib.Core.List.{List, [], ◌∷◌, map}
use mathlib.Core.Logic.{⊎_elim}
use mathlib.Core.Option.{Option, none, some}
use Prim.Native.Nat.{ℕ, zero, suc, ◌<◌}
use native.Mathlib.Omega.{arith}
use lib.ListN.{get_or}
use Rattle.std.proofs.lemmas.Bool.{cases_Bool}
use Rattle.table.specs.Table.{Table, table, no_node}
use Rattle.auction.specs.Auction.{State, state, ended, price_at, terminal, kept_at, status_at, was_reached, start, next, go_on, run, all_reached, most_iterations, auction, after, then_next}
use Rattle.auction.specs.Limit.{above, decided, limited}
use Rattle.auction.specs.Absent.{without_absent, place_of, told, told_state, told_step, told_end, StepsWithoutAbsent, AuctionWithoutAbsent, LimitedWithoutAbsent}
use Rattle.table.proofs.Basics.{option_or}
use Rattle.auction.proofs.Good.{Good, good}
use Rattle.auction.proofs.Invariant.Counting.{Invariant}
use Rattle.auction.proofs.Invariant.Starting.{started}
use Rattle.auction.proofs.Run.{until, stepped, passed, within, finish}
use Rattle.auction.proofs.Without.Places.{spread, place_there, closed_good}
use Rattle.auction.proofs.Without.Told.{told_start, told_next}

-- the wanted nodes that were reached are the same, however kept arcs are told
told_reached : (f : ℕ → ℕ) (ws : List ℕ) (x : State) → all_reached ws (told_state f x) ≡ all_reached ws x
unfolding all_reached was_reached status_at told_state state
told_reached f [] x = refl
told_reached f (w ∷ ws) x = ap (λ (b : Bool). was_reached x w && b) (told_reached f ws x)

-- and so is whether that decides a run within a limit
told_decided : (t : Table) (f : ℕ → ℕ) (ws : List ℕ) (b : ℕ) (x : State) → decided t ws b (told_state f x) ≡ decided (without_absent t) ws b x
unfolding decided above price_at told_state state without_absent table
told_decided t f ws b x = rw (told_reached f ws x)

-- two ways to tell kept arcs are one where they agree on all of them
same_told : (f h : ℕ → ℕ) (l : List (Option ℕ)) → ((v k : ℕ) → get_or l v none ≡ some k → f k ≡ h k) → map (told f) l ≡ map (told h) l
unfolding told
same_told f h [] e = refl
same_told f h (none ∷ l) e = ap (λ m. none ∷ m) (same_told f h l (λ v. e (suc v)))
same_told f h (some k ∷ l) e = rw (e 0 k refl, same_told f h l (λ v. e (suc v)))

module _ (t : Table) (g : Good (without_absent t)) where
  abbrev s : Table
  s = without_absent t

  abbrev place : ℕ → ℕ
  place = spread t.arcs

  -- the terminal node is one of the nodes
  terminal_in : (x : State) → Invariant s x → terminal x < no_node
  unfolding terminal
  terminal_in x i = let w = within s g x i in omega (arith, w.path_in 0 w.path_some, g.few_nodes)

  pub terminal_after : (k : ℕ) (x : State) → after k s ≡ some x → terminal x < no_node
  terminal_after k x e = terminal_in x (passed s g k x e).0

  origin_in : t.origin < no_node
  unfolding without_absent table
  origin_in = omega (arith, g.origin_in, g.few_nodes)

  -- AFTER EVERY ITERATION
  pub told_after : (k : ℕ) → after k t ≡ told_step place (after k s)
  unfolding after then_next told_step
  told_after zero = ap some (told_start t origin_in)
  told_after (suc k) =
      ⊎_elim
      (λ (n : after k s ≡ none).
      ap (then_next t) (told_after k ∙ ap (told_step place) n) ∙ sym (ap (λ (o : Option State). told_step place (then_next s o)) n))
      (λ (w : (x : State) × (after k s ≡ some x)).
      ap (then_next t) (told_after k ∙ ap (told_step place) w.1)
      ∙ told_next t g w.0 (terminal_after k w.0 w.1)
      ∙ sym (ap (λ (o : Option State). told_step place (then_next s o)) w.1))
      (option_or (after k s))

  -- AND WHERE IT ENDS, where a stop is the same however kept arcs are told
  module _ (stop other : State → Bool) (agree : (x : State) → stop (told_state place x) ≡ other x) where
    told_run : (k : ℕ) (x : State) → Invariant s x → run k stop t (told_state place x) ≡ told_end place (run k other s x)
    unfolding run go_on told_step told_end ended
    told_run zero x i = ap (λ (b : Bool). ended b (told_state place x)) (agree x)
    told_run (suc k) x i =
        ⊎_elim (λ (q : other x ≡ true). rw (agree x, q))
        (λ (q : other x ≡ false).
        rw (agree x, q, told_next t g x (terminal_in x i))
        (⊎_elim (λ (n : next s x ≡ none). rw n)
        (λ (y : (y : State) × (next s x ≡ some y)). rw y.1 (told_run k y.0 (stepped s g x i y.0 y.1).invariant))
        (option_or (next s x))))
        (cases_Bool (other x))

  -- a kept arc stands in the table without the absent arcs, so that its place is in the list of places
  pub placed : (x : State) → Invariant s x → told_state place x ≡ told_state (place_of t) x
  unfolding told_state kept_at
  placed x i =
      let kept_in = (within s g x i).kept_in in
      rw (same_told place (place_of t) x.kept (λ v k e. sym (place_there t k (kept_in v k e))))

  placed_after : (k : ℕ) → told_step place (after k s) ≡ told_step (place_of t) (after k s)
  unfolding told_step
  placed_after k =
      ⊎_elim (λ (n : after k s ≡ none). rw n)
      (λ (w : (x : State) × (after k s ≡ some x)). rw w.1 (ap some (placed w.0 (passed s g k w.0 w.1).0)))
      (option_or (after k s))

  told_until : (stop other : State → Bool) → ((x : State) → stop (told_state place x) ≡ other x) → until stop t ≡ told_end (place_of t) (until other s)
  unfolding told_end without_absent table
  told_until stop other agree =
      let left = suc (most_iterations t.n) in
      ap (run left stop t) (told_start t origin_in)
      ∙ told_run stop other agree left (start s) (started s g)
      ∙ ap (ended (until other s).routed) (placed (until other s).last (finish g).running.invariant)

pub steps_without_absent : StepsWithoutAbsent
unfolding StepsWithoutAbsent
steps_without_absent t k e =
    let g = good (without_absent t) [] (closed_good t [] e) in
    told_after t g k ∙ placed_after t g k

pub auction_without_absent : AuctionWithoutAbsent
unfolding AuctionWithoutAbsent auction
auction_without_absent t ws e =
    let g = good (without_absent t) ws (closed_good t ws e) in
    told_until t g (all_reached ws) (all_reached ws) (told_reached (place t g) ws)

pub limited_without_absent : LimitedWithoutAbsent
unfolding LimitedWithoutAbsent limited
limited_without_absent t ws b e =
    let g = good (without_absent t) ws (closed_good t ws e) in
    told_until t g (decided t ws b) (decided (without_absent t) ws b) (told_decided t (place t g) ws b)
