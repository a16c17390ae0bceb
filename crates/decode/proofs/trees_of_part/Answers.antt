use Rattle.decode.specs.Decode.{part_trees}
use Rattle.decode.proofs.Trees.{said_at}
use native.Mathlib.Omega.{arith}
use mathlib.Core.Path.{refl}
use Rattle.decode.proofs.trees_of_part.Goals as goal

pub returns-in-40 : goal.returns-in-40
returns-in-40 c = said_at 40 (part_trees c.args.a) 40 c.args.tag (omega arith) refl

pub returns-in-41 : goal.returns-in-41
returns-in-41 c = said_at 41 (part_trees c.args.a) 40 c.args.tag (omega arith) refl

pub returns-in-42 : goal.returns-in-42
returns-in-42 c = said_at 42 (part_trees c.args.a) 40 c.args.tag (omega arith) refl

pub returns-in-43 : goal.returns-in-43
returns-in-43 c = said_at 43 (part_trees c.args.a) 40 c.args.tag (omega arith) refl

pub returns-in-44 : goal.returns-in-44
returns-in-44 c = said_at 44 (part_trees c.args.a) 40 c.args.tag (omega arith) refl

pub returns-in_default : goal.returns-in_default
returns-in_default c = said_at 45 (part_trees c.args.a) 40 c.args.tag (omega arith) refl
