use Rattle.encode.proofs.Written.{cell_put}
use Rattle.encode.proofs.put_cell.Goals as goal

pub returns : goal.returns
returns c = cell_put c.args.out.now c.args.at c.args.k c.requires.0 c.requires.1 c.put_word-a.ensures c.put_word-b.ensures c.put_word-c.ensures c.put_word.ensures
