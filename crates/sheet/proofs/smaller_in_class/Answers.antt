-- The cells of a class in the plans of A, B and C.
use Rattle.sheet.proofs.Grounds.{smaller_at}
use Rattle.sheet.proofs.smaller_in_class.Goals as goal

pub returns : goal.returns
returns c = rw (c.is_smaller.ensures, c.is_smaller-2.ensures) (smaller_at c.args.plan c.args.class c.requires)
