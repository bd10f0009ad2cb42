-- `slice::edge::next`: each register's load is what its call gives. The check finds it too, but gives up at a limit
-- where an edit is tried (docs/DECISIONS.md, 121).
use Rattle.slice.specs.Slice.{next_of}
use Rattle.slice.proofs.edge.next.Goals as goal

pub returns : goal.returns
unfolding next_of
returns g c =
    rw (
      c.load.ensures,
      c.load-2.ensures,
      c.load-3.ensures,
      c.load-4.ensures,
      c.load-5.ensures,
      c.load-6.ensures,
      c.load-7.ensures,
      c.load-8.ensures,
      c.load-9.ensures,
      c.load-10.ensures,
      c.load-11.ensures,
      c.load-12.ensures,
      c.load-13.ensures,
      c.load-14.ensures,
      c.load-15.ensures,
      c.load-16.ensures,
      c.load-17.ensures,
      c.load-18.ensures,
      c.load-19.ensures,
      c.pick-a2.ensures,
      c.pick-b2.ensures,
    )
