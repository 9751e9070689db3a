use Rattle.image.proofs.Standing.{stores_put}
use borrow.Author.Rules.{rules}
use Rattle.image.proofs.put_stores.Goals as goal

pub returns : goal.returns
returns c = stores_put c.args.d.now _ _ _ _ _ _ c.copy.ensures c.copy-2.ensures c.copy-3.ensures c.requires (search rules) (search rules) (search rules)
