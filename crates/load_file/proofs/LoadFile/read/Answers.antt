-- Four words and five are taken apart. Assumes nothing.
use native.Mathlib.Omega.{arith}
use Rattle.load_file.specs.LoadFile.{load_file_in}
use Rattle.load_file.proofs.Words.{word_at, no_more}
use Rattle.load_file.proofs.LoadFile.read.Goals as goal

pub returns-in-len4 : goal.returns-in-len4
unfolding load_file_in
returns-in-len4 c =
    let ws = c.args.words.now in
    rw (
      word_at _ ws 0 _ (omega arith) c.seed-item.is c.deref.ensures,
      word_at _ ws 1 _ (omega arith) c.n-item.is c.deref-in-len4.ensures,
      word_at _ ws 2 _ (omega arith) c.chance-item.is c.deref-in-len4-2.ensures,
      word_at _ ws 3 _ (omega arith) c.largest-item.is c.deref-in-len4-3.ensures,
      no_more _ ws 4 (omega arith),
    )
    c.of.ensures

pub returns-in-len5 : goal.returns-in-len5
unfolding load_file_in
returns-in-len5 c =
    let ws = c.args.words.now in
    rw (
      word_at _ ws 0 _ (omega arith) c.seed-item-then-words-lt6.is c.deref-in-len5.ensures,
      word_at _ ws 1 _ (omega arith) c.n-item-then-words-lt6.is c.deref-in-len5-2.ensures,
      word_at _ ws 2 _ (omega arith) c.chance-item-then-words-lt6.is c.deref-in-len5-3.ensures,
      word_at _ ws 3 _ (omega arith) c.largest-item-then-words-lt6.is c.deref-in-len5-4.ensures,
      word_at _ ws 4 _ (omega arith) c.origin-item.is c.deref-in-len5-5.ensures,
      no_more _ ws 5 (omega arith),
    )
    c.of-in-len5.ensures
