use Rattle.encode.proofs.Written.{trailer_put}
use Rattle.encode.proofs.put_trailer.Goals as goal

pub returns : goal.returns
returns c = trailer_put c.args.out.now c.args.at c.args.tables c.args.columns c.args.cells c.args.edition c.requires c.put_word-a.ensures c.put_word-b.ensures c.put_word-c.ensures c.put_word-d.ensures c.put_word.ensures
