use borrow.Author.Rules.{rules}
use Rattle.reads_slots.proofs.AnyOpenLaws.{stands-start, looked-start, found-lowest, tag-fits, rest-less, rest-fits, stands-turn, looked-turn, passed-word, passed-all}
use Rattle.reads_slots.proofs.open_tags.any_open.Goals as goal

pub loop-rest-init : goal.loop-rest-init
loop-rest-init g c = (
  search rules,
  (
    stands-start (goal.F-post g c.args.test) _ _ _ _ _ (search rules) c.word_below-rest.ensures,
    looked-start (goal.F-post g c.args.test) _ _ _ _ _ (search rules) c.word_below-rest.ensures c.loop-j.invariant,
  ),
)

pub overflow_add-j : goal.overflow_add-j
overflow_add-j g c = record { fits = tag-fits (goal.F-post g c.args.test) _ _ _ _ _ c.loop-rest-test.true c.loop-rest.invariant.0 c.loop-rest.invariant.1.0 _ c.lowest_bit.ensures (search rules) }

pub returns-then-test : goal.returns-then-test
returns-then-test g c =
    found-lowest (goal.F-post g c.args.test) _ _ _ _ _ c.loop-rest-test.true c.loop-rest.invariant.0 c.loop-rest.invariant.1.0 _ _ c.lowest_bit.ensures c.read_at.ensures (search rules)

pub loop-rest-smaller : goal.loop-rest-smaller
loop-rest-smaller g c = rest-less (goal.F-post g c.args.test) _ _ _ _ _ c.loop-rest-test.true c.loop-rest.invariant.0 c.loop-rest.invariant.1.0 _ (search rules)

pub loop-rest-preserved : goal.loop-rest-preserved
loop-rest-preserved g c = (
  rest-fits (goal.F-post g c.args.test) _ _ _ _ _ c.loop-rest-test.true c.loop-rest.invariant.0 c.loop-rest.invariant.1.0 _ (search rules),
  (
    stands-turn (goal.F-post g c.args.test) _ _ _ _ _ c.loop-rest-test.true c.loop-rest.invariant.0 c.loop-rest.invariant.1.0 _ (search rules),
    looked-turn (goal.F-post g c.args.test) _ _ _ _ _ c.loop-rest-test.true c.loop-rest.invariant.0 c.loop-rest.invariant.1.0 _ _ _ (search rules) c.lowest_bit.ensures c.read_at.ensures (search rules)
        c.loop-rest.invariant.1.1,
  ),
)

pub loop-j-preserved : goal.loop-j-preserved
loop-j-preserved g c = passed-word (goal.F-post g c.args.test) _ _ _ _ _ c.loop-rest-test.false c.loop-rest.invariant.1.1

pub returns : goal.returns
returns g c = passed-all (goal.F-post g c.args.test) _ _ _ _ (search rules) c.loop-j.invariant
